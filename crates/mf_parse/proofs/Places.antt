-- Where readers stand: a name takes a mark that might as well belong to the space behind it, and it makes no difference.
use Rattle.std.proofs.Common.{◌≡◌, ◌<◌, ℕ, Bool, true, false, ◌==◌, ◌&&◌, Some, None, List, [], ◌∷◌, ◌++◌, refl, ap, sym, ◌∙◌, subst, inl, inr, ◌⊎◌, length, arith}
use Rattle.std.proofs.lemmas.Bool.{cases_Bool, cond-true, cond-false, eqb-true, false≢true}
use Rattle.std.proofs.lemmas.List.{length-append}
use Rattle.mf_text.specs.Characters.{is_ws, is_bidi, is_space, is_name_char}
use Rattle.mf_text.specs.Languages.{Language, Word, ◌⋅◌, Begins}
use Rattle.mf_text.specs.Grammar.{O, S}
use Rattle.mf_text.proofs.Classes.{space_is_no_name_char, mark_is_space, ws_is_space}
use Rattle.mf_lex.specs.Computed.{is_next, one_at, after_space, has_space, after_mark}
use Rattle.mf_lex.proofs.Begins.{parted}
use Rattle.mf_lex.proofs.Runs.{behind_more, behind_ends}
use Rattle.mf_lex.proofs.Spaces.{o_passes, s_passes}
use Rattle.mf_parse.specs.Computed.{Found, is_spaced}

-- the place, or the one behind the mark that is next
abbrev pub IsPast : List ℕ → List ℕ → Type 0
IsPast left place = (place ≡ left) ⊎ (place ≡ after_mark left)

mark_space : (cs : List ℕ) → after_space (after_mark cs) ≡ after_space cs
unfolding after_space
mark_space [] = refl
mark_space (c ∷ cs) =
    elim (cases_Bool (is_bidi c)) [
      | inl mark ↦ ap after_space (cond-true (is_bidi c) _ _ mark) ∙ sym (behind_more is_space c cs (mark_is_space c mark))
      | inr other ↦ ap after_space (cond-false (is_bidi c) _ _ other)
    ]

mark_some : (cs : List ℕ) → has_space (after_mark cs) ≡ has_space cs
unfolding has_space
mark_some [] = refl
mark_some (c ∷ cs) =
    elim (cases_Bool (is_bidi c)) [
      | inl mark ↦ ap has_space (cond-true (is_bidi c) _ _ mark) ∙ sym (ap (is_next is_ws) (behind_more is_bidi c cs mark))
      | inr other ↦ ap has_space (cond-false (is_bidi c) _ _ other)
    ]

pub past_space : (left place : List ℕ) → IsPast left place → after_space place ≡ after_space left
unfolding after_space
past_space left place (inl same) = ap after_space same
past_space left place (inr past) = ap after_space past ∙ mark_space left

pub past_some : (left place : List ℕ) → IsPast left place → has_space place ≡ has_space left
past_some left place (inl same) = ap has_space same
past_some left place (inr past) = ap has_space past ∙ mark_some left

pub past_spaced : (is_member : ℕ → Bool) (left place : List ℕ) → IsPast left place → is_spaced is_member place ≡ is_spaced is_member left
past_spaced is_member left place past = ap (λ b. b && is_next is_member (after_space place)) (past_some left place past) ∙ ap (λ cs. has_space left && is_next is_member cs) (past_space left place past)

-- what is found leaves the place, or the one behind the mark
pub record Reaches {X : Type 0} (found : Found X) (x : X) (left : List ℕ) : Type 0 where
  pub place : List ℕ
  pub past : IsPast left place
  pub is : found ≡ Some (x, place)

pub exactly : {X : Type 0} (found : Found X) (x : X) (left : List ℕ) → found ≡ Some (x, left) → Reaches found x left
exactly found x left is = record { place = left; past = inl refl; is = is }

pub reaches_either : {X : Type 0} (found : Found X) (x : X) (left : List ℕ) → (found ≡ Some (x, left)) ⊎ (found ≡ Some (x, after_mark left)) → Reaches found x left
reaches_either found x left (inl is) = record { place = left; past = inl refl; is = is }
reaches_either found x left (inr is) = record { place = after_mark left; past = inr refl; is = is }

-- nothing that could belong to a name or make it a namespace is next
pub record Stops (left : List ℕ) : Type 0 where
  pub no_name : is_next is_name_char left ≡ false
  pub no_colon : one_at 0x3A (after_mark left) ≡ None

-- a character other than a colon
other_character : (c : ℕ) (cs : List ℕ) → (c == 0x3A) ≡ false → one_at 0x3A (c ∷ cs) ≡ None
other_character c cs other = cond-false (c == 0x3A) _ _ other

space_is_no_colon : (c : ℕ) → is_space c ≡ true → (c == 0x3A) ≡ false
space_is_no_colon c space =
    elim (cases_Bool (c == 0x3A)) [
      | inl colon ↦ absurd (false≢true (subst (λ (c : ℕ). is_space c ≡ true) (eqb-true c 0x3A colon) space))
      | inr other ↦ other
    ]

-- a space, or else this character, is next
first_of_space : (cs : List ℕ) (c : ℕ) (rest : List ℕ) → after_space cs ≡ c ∷ rest → (d : ℕ) × (ds : List ℕ) × (cs ≡ d ∷ ds) × ((is_space d ≡ true) ⊎ (d ≡ c))
unfolding after_space
first_of_space [] c rest h = absurd (cc)
first_of_space (d ∷ ds) c rest h =
    elim (cases_Bool (is_space d)) [
      | inl space ↦ (d, ds, refl, inl space)
      | inr other ↦ let same : d ∷ ds ≡ c ∷ rest = sym (behind_ends is_space (d ∷ ds) other) ∙ h in (d, ds, refl, inr (cc))
    ]

no_colon_first : (cs : List ℕ) (c : ℕ) (rest : List ℕ) → after_space cs ≡ c ∷ rest → (c == 0x3A) ≡ false → one_at 0x3A cs ≡ None
no_colon_first cs c rest h other =
    let first = first_of_space cs c rest h in
    ap (one_at 0x3A) first.2
    ∙ (elim first.3 [
      | inl space ↦ other_character first.0 first.1 (space_is_no_colon first.0 space)
      | inr same ↦ other_character first.0 first.1 (ap (λ c. c == 0x3A) same ∙ other)
    ])

pub stops_before : (left : List ℕ) (c : ℕ) (rest : List ℕ) → after_space left ≡ c ∷ rest → is_name_char c ≡ false → (c == 0x3A) ≡ false → Stops left
stops_before left c rest h no_name other =
    let first = first_of_space left c rest h in record {
      no_name =
          ap (is_next is_name_char) first.2
          ∙ (elim first.3 [
            | inl space ↦ space_is_no_name_char first.0 space
            | inr same ↦ ap is_name_char same ∙ no_name
          ]);
      no_colon = no_colon_first (after_mark left) c rest (mark_space left ∙ h) other;
    }

-- where a white space is next behind the marks
some_parts : (cs : List ℕ) → has_space cs ≡ true → (d : ℕ) × (ds : List ℕ) × (cs ≡ d ∷ ds) × (is_space d ≡ true)
unfolding has_space
some_parts [] some = absurd (false≢true some)
some_parts (d ∷ ds) some =
    elim (cases_Bool (is_bidi d)) [
      | inl mark ↦ (d, ds, refl, mark_is_space d mark)
      | inr other ↦ (d, ds, refl, ws_is_space d (sym (ap (is_next is_ws) (behind_ends is_bidi (d ∷ ds) other)) ∙ some))
    ]

pub stops_spaced : (left : List ℕ) → has_space left ≡ true → Stops left
stops_spaced left some =
    let first = some_parts left some in
    let second = some_parts (after_mark left) (mark_some left ∙ some) in record {
      no_name = ap (is_next is_name_char) first.2 ∙ space_is_no_name_char first.0 first.3;
      no_colon = ap (one_at 0x3A) second.2 ∙ other_character second.0 second.1 (space_is_no_colon second.0 second.3);
    }

-- a character that is no space is next
pub at_itself : (c : ℕ) (cs : List ℕ) → is_space c ≡ false → after_space (c ∷ cs) ≡ c ∷ cs
unfolding after_space
at_itself c cs other = behind_ends is_space (c ∷ cs) other

-- word, and then a rule
pub record Behind (c : ℕ) (Rule : Language) (cs left : List ℕ) : Type 0 where
  pub middle : List ℕ
  pub is : cs ≡ c ∷ middle
  pub begins : Begins Rule middle left

pub word_first : (c : ℕ) (Rule : Language) (cs left : List ℕ) → Begins (Word (c ∷ []) ⋅ Rule) cs left → Behind c Rule cs left
word_first c Rule cs left begins =
    let parts = parted (Word (c ∷ [])) Rule cs left begins in
    record { middle = parts.between; is = parts.first.whole ∙ ap (λ cs. cs ++ parts.between) parts.first.is; begins = parts.second }

pub word_only : (c : ℕ) (cs left : List ℕ) → Begins (Word (c ∷ [])) cs left → cs ≡ c ∷ left
word_only c cs left begins = begins.whole ∙ ap (λ cs. cs ++ left) begins.is

-- space, and then a rule
pub record BehindSpace (Rule : Language) (cs left : List ℕ) : Type 0 where
  pub middle : List ℕ
  pub same : after_space cs ≡ after_space middle
  pub begins : Begins Rule middle left

pub space_first : (Rule : Language) (cs left : List ℕ) → Begins (O ⋅ Rule) cs left → BehindSpace Rule cs left
space_first Rule cs left begins =
    let parts = parted O Rule cs left begins in
    record { middle = parts.between; same = o_passes cs parts.between parts.first; begins = parts.second }

pub some_space_first : (Rule : Language) (cs left : List ℕ) → Begins (S ⋅ Rule) cs left → (has_space cs ≡ true) × BehindSpace Rule cs left
some_space_first Rule cs left begins =
    let parts = parted S Rule cs left begins in
    let passes = s_passes cs parts.between parts.first in
    (passes.0, record { middle = parts.between; same = passes.1; begins = parts.second })

-- space, a character that is none, and then a rule
pub record BehindSign (c : ℕ) (Rule : Language) (cs left : List ℕ) : Type 0 where
  pub middle : List ℕ
  pub is : after_space cs ≡ c ∷ middle
  pub begins : Begins Rule middle left

pub sign_behind : (c : ℕ) (Rule : Language) (cs left : List ℕ) → is_space c ≡ false → BehindSpace (Word (c ∷ []) ⋅ Rule) cs left → BehindSign c Rule cs left
sign_behind c Rule cs left other space =
    let word = word_first c Rule space.middle left space.begins in
    record { middle = word.middle; is = space.same ∙ ap after_space word.is ∙ at_itself c word.middle other; begins = word.begins }

pub sign_first : (c : ℕ) (Rule : Language) (cs left : List ℕ) → is_space c ≡ false → Begins (O ⋅ Word (c ∷ []) ⋅ Rule) cs left → BehindSign c Rule cs left
sign_first c Rule cs left other begins = sign_behind c Rule cs left other (space_first (Word (c ∷ []) ⋅ Rule) cs left begins)

pub sign_only : (c : ℕ) (cs left : List ℕ) → is_space c ≡ false → Begins (O ⋅ Word (c ∷ [])) cs left → after_space cs ≡ c ∷ left
sign_only c cs left other begins =
    let space = space_first (Word (c ∷ [])) cs left begins in
    space.same ∙ ap after_space (word_only c space.middle left space.begins) ∙ at_itself c left other

-- a text that begins with a white space has one character at least
pub some_space_is_longer : (Rule : Language) (text : List ℕ) → (S ⋅ Rule) text → 0 < length text
some_space_is_longer Rule text spelled =
    let space = spelled.first in
    let white = space.second.first in
    omega (
      arith,
      ap length spelled.whole,
      ap length space.whole,
      ap length space.second.whole,
      ap length white.1,
      length-append spelled.front spelled.back,
      length-append space.front space.back,
      length-append space.second.front space.second.back,
    )

pub shorter : (Rule : Language) (cs left : List ℕ) → ((text : List ℕ) → Rule text → 0 < length text) → Begins Rule cs left → length left < length cs
shorter Rule cs left longer begins =
    let some = longer begins.taken begins.is in
    omega (arith, some, ap length begins.whole, length-append begins.taken left)
