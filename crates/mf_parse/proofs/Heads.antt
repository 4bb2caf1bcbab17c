-- Characters, words and spaces that begin.
use Rattle.std.proofs.Common.{◌≡◌, ℕ, Bool, true, Option, Some, None, List, [], ◌∷◌, ◌++◌, refl, ap, sym, ◌∙◌, subst}
use Rattle.std.proofs.lemmas.Bool.{and_parts}
use Rattle.std.specs.Option.{option_and_then}
use Rattle.std.specs.Prelude.{codes}
use Rattle.mf_text.specs.Languages.{Language, Word, ◌⋅◌, Begins}
use Rattle.mf_text.specs.Grammar.{O, S}
use Rattle.mf_lex.specs.Computed.{one_at, after_space, has_space}
use Rattle.mf_lex.proofs.Begins.{joined}
use Rattle.mf_lex.proofs.Gathering.{one_parts}
use Rattle.mf_lex.proofs.Names.{mapped_parts}
use Rattle.mf_lex.proofs.Spaces.{o_found, s_found}
use Rattle.mf_parse.specs.Computed.{word_at, is_spaced, behind_equals, behind_brace, inside}

-- a text that begins with a character begins so
pub with_character : (c : ℕ) (Rule : Language) (cs middle left : List ℕ) → one_at c cs ≡ Some middle → Begins Rule middle left → Begins (Word (c ∷ []) ⋅ Rule) cs left
with_character c Rule cs middle left is begins = joined (Word (c ∷ [])) Rule cs middle left (record { taken = c ∷ []; whole = one_parts c cs middle is; is = refl }) begins

pub character_alone : (c : ℕ) (cs left : List ℕ) → one_at c cs ≡ Some left → Begins (Word (c ∷ [])) cs left
character_alone c cs left is = record { taken = c ∷ []; whole = one_parts c cs left is; is = refl }

pub with_space : (Rule : Language) (cs left : List ℕ) → Begins Rule (after_space cs) left → Begins (O ⋅ Rule) cs left
with_space Rule cs left begins = joined O Rule cs (after_space cs) left (o_found cs).begins begins

pub with_some_space : (Rule : Language) (cs left : List ℕ) → has_space cs ≡ true → Begins Rule (after_space cs) left → Begins (S ⋅ Rule) cs left
with_some_space Rule cs left some begins = joined S Rule cs (after_space cs) left (s_found cs some).begins begins

pub spaced : (is_member : ℕ → Bool) (Rule : Language) (cs left : List ℕ) → is_spaced is_member cs ≡ true → Begins Rule (after_space cs) left → Begins (S ⋅ Rule) cs left
spaced is_member Rule cs left some begins = with_some_space Rule cs left ((and_parts (has_space cs) _ some).0) begins

pub space_alone : (cs : List ℕ) → Begins O cs (after_space cs)
space_alone cs = (o_found cs).begins

-- o "=" o
pub with_equals : (Rule : Language) (cs middle left : List ℕ) → behind_equals cs ≡ Some middle → Begins Rule middle left → Begins (O ⋅ Word (codes "=") ⋅ O ⋅ Rule) cs left
unfolding after_space behind_equals
with_equals Rule cs middle left is begins =
    let sign = mapped_parts after_space (one_at 0x3D (after_space cs)) middle is in
    with_space (Word (codes "=") ⋅ O ⋅ Rule) cs left
    (with_character 0x3D (O ⋅ Rule) (after_space cs) sign.0 left sign.1
    (with_space Rule sign.0 left (subst (λ (middle : List ℕ). Begins Rule middle left) (sym sign.2) begins)))

-- "{" o
pub with_brace : (Rule : Language) (cs middle left : List ℕ) → inside cs ≡ Some middle → Begins Rule middle left → Begins (Word (codes "{") ⋅ O ⋅ Rule) cs left
unfolding inside
with_brace Rule cs middle left is begins =
    let brace = mapped_parts after_space (one_at 0x7B cs) middle is in
    with_character 0x7B (O ⋅ Rule) cs brace.0 left brace.1
    (with_space Rule brace.0 left (subst (λ (middle : List ℕ). Begins Rule middle left) (sym brace.2) begins))

-- o "}"
pub last_brace : (cs left : List ℕ) → behind_brace cs ≡ Some left → Begins (O ⋅ Word (codes "}")) cs left
unfolding after_space behind_brace
last_brace cs left is = with_space (Word (codes "}")) cs left (character_alone 0x7D (after_space cs) left is)

next_parts : (c : ℕ) (word cs left : List ℕ) → option_and_then (word_at word) (one_at c cs) ≡ Some left → (middle : List ℕ) × (one_at c cs ≡ Some middle) × (word_at word middle ≡ Some left)
next_parts c word cs left is = parts (one_at c cs) is where
  parts : (place : Option (List ℕ)) → option_and_then (word_at word) place ≡ Some left → (middle : List ℕ) × (place ≡ Some middle) × (word_at word middle ≡ Some left)
  parts None is = absurd (cc)
  parts (Some middle) is = (middle, refl, is)

pub word_is : (word cs left : List ℕ) → word_at word cs ≡ Some left → cs ≡ word ++ left
word_is [] cs left is = cc
word_is (c ∷ word) cs left is =
    let next = next_parts c word cs left is in
    one_parts c cs next.0 next.1 ∙ ap (λ cs. c ∷ cs) (word_is word next.0 left next.2)

pub word_alone : (word cs left : List ℕ) → word_at word cs ≡ Some left → Begins (Word word) cs left
word_alone word cs left is = record { taken = word; whole = word_is word cs left is; is = refl }

pub with_word : (word : List ℕ) (Rule : Language) (cs middle left : List ℕ) → word_at word cs ≡ Some middle → Begins Rule middle left → Begins (Word word ⋅ Rule) cs left
with_word word Rule cs middle left is begins = joined (Word word) Rule cs middle left (word_alone word cs middle is) begins
