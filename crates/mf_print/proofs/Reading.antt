-- What is found in a text before it is printed.
use Rattle.std.proofs.Common.{◌≡◌, ℕ, Bool, true, false, ◌&&◌, ◌||◌, ◌==◌, not, List, [], ◌∷◌, Option, Some, None, refl, ap, sym, ◌∙◌, inl, inr, chars}
use Rattle.std.proofs.lemmas.Bool.{cases_Bool, cond-true, cond-false}
use Rattle.std.proofs.lemmas.Str.{chars-nil, encodes-chars}
use Rattle.std.specs.List.{find, list_all}
use Rattle.std.specs.Prelude.{encode_utf8_all}
use Rattle.std.specs.Str.{IsUtf8}
use Rattle.mf_text.specs.Characters.{is_ws, is_bidi, is_space, is_name_char}
use Rattle.mf_text.specs.Grammar.{is_unquoted}
use Rattle.mf_tree.specs.Canonical.{begins_with_full_stop}

-- neither white space nor a mark
abbrev pub is_other : ℕ → Bool
is_other c = not (is_ws c) && not (is_bidi c)

abbrev is_full_stop : Option ℕ → Bool
is_full_stop None = false
is_full_stop (Some c) = c == 0x2E

neither : (w b : Bool) → (not w && not b) ≡ not (w || b)
neither true b = refl
neither false b = refl

-- the first character that is neither decides
first_other : (cs : List ℕ) → begins_with_full_stop cs ≡ is_full_stop (find is_other cs)
first_other [] = refl
first_other (c ∷ cs) =
    let other = neither (is_ws c) (is_bidi c) in
    elim (cases_Bool (is_space c)) [
      | inl space ↦
          cond-true (is_space c) _ _ space
          ∙ first_other cs
          ∙ ap is_full_stop (sym (cond-false (is_other c) (Some c) (find is_other cs) (other ∙ ap not space)))
      | inr none_there ↦
          cond-false (is_space c) _ _ none_there
          ∙ ap is_full_stop (sym (cond-true (is_other c) (Some c) (find is_other cs) (other ∙ ap not none_there)))
    ]

pub found_first : (cs : List ℕ) (c : ℕ) → find is_other cs ≡ Some c → (c == 0x2E) ≡ begins_with_full_stop cs
found_first cs c finds = sym (first_other cs ∙ ap is_full_stop finds)

pub found_nothing : (cs : List ℕ) → find is_other cs ≡ None → false ≡ begins_with_full_stop cs
found_nothing cs finds = sym (first_other cs ∙ ap is_full_stop finds)

unquoted_some : (cs : List ℕ) → (cs ≡ [] → ⊥) → list_all is_name_char cs ≡ is_unquoted cs
unquoted_some [] some = absurd (some refl)
unquoted_some (c ∷ cs) some = refl

-- a text that isn't empty is unquoted where all its characters are name-chars
pub unquoted_all : (bytes : List ℕ) → IsUtf8 bytes → (bytes ≡ [] → ⊥) → list_all is_name_char (chars bytes) ≡ is_unquoted (chars bytes)
unquoted_all bytes is_text some =
    unquoted_some (chars bytes) (λ (no_characters : chars bytes ≡ []). some (sym (encodes-chars bytes is_text) ∙ ap encode_utf8_all no_characters))

pub unquoted_nothing : (bytes : List ℕ) → bytes ≡ [] → false ≡ is_unquoted (chars bytes)
unquoted_nothing bytes nothing = sym (ap (λ (bytes : List ℕ). is_unquoted (chars bytes)) nothing ∙ ap is_unquoted chars-nil)
