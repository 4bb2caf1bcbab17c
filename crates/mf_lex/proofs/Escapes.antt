-- One character, and escapes, are passed by their rules.
use Rattle.std.proofs.Common.{◌≡◌, ℕ, true, Some, None, List, [], ◌∷◌, ◌++◌, refl, ap, sym, ◌∙◌, eqb}
use Rattle.std.proofs.lemmas.Bool.{cond-true, eq-eqb}
use Rattle.mf_text.specs.Characters.{is_escapable}
use Rattle.mf_text.specs.Languages.{Word, Begins, BeginsNone, BeginsLongest}
use Rattle.mf_text.specs.Grammar.{SpellsEscapedChar}
use Rattle.mf_lex.specs.Computed.{one_at, escape_at}
use Rattle.mf_lex.proofs.Begins.{same_left, same_length}
use Rattle.mf_lex.proofs.Gathering.{one_parts, escape_parts, nothing_found}

-- this one character
pub one_next : (c : ℕ) (left : List ℕ) → one_at c (c ∷ left) ≡ Some left
one_next c left = cond-true (eqb c c) _ _ (eq-eqb c c refl)

pub one_complete : (c : ℕ) (cs left : List ℕ) → Begins (Word (c ∷ [])) cs left → one_at c cs ≡ Some left
one_complete c cs left begins = ap (one_at c) (begins.whole ∙ ap (λ ds. ds ++ left) begins.is) ∙ one_next c left

pub one_found : (c : ℕ) (cs left : List ℕ) → one_at c cs ≡ Some left → BeginsLongest {X = Unit {0}} (λ u. Word (c ∷ [])) tt cs left
one_found c cs left finds = record {
  begins = record { taken = c ∷ []; whole = one_parts c cs left finds; is = refl };
  longest = λ u others begins.
      let same : Some left ≡ Some others = sym finds ∙ one_complete c cs others begins in
      let lefts : left ≡ others = cc in
      same_length left others lefts;
}

pub one_none : (c : ℕ) (cs : List ℕ) → one_at c cs ≡ None → BeginsNone {X = Unit {0}} (λ u. Word (c ∷ [])) cs
one_none c cs none u left begins = nothing_found (one_at c cs) left none (one_complete c cs left begins)

-- an escape
pub escape_next : (c : ℕ) (left : List ℕ) → is_escapable c ≡ true → escape_at (0x5C ∷ c ∷ left) ≡ Some (c, left)
unfolding escape_at
escape_next c left may = cond-true (is_escapable c) _ _ may

pub escape_complete : (c : ℕ) (cs left : List ℕ) → Begins (SpellsEscapedChar c) cs left → escape_at cs ≡ Some (c, left)
escape_complete c cs left begins =
    ap escape_at (begins.whole ∙ ap (λ ds. ds ++ left) begins.is.0) ∙ escape_next c left begins.is.1

pub escape_found : (c : ℕ) (cs left : List ℕ) → escape_at cs ≡ Some (c, left) → BeginsLongest SpellsEscapedChar c cs left
escape_found c cs left finds =
    let escape = escape_parts c cs left finds in
    record {
      begins = record { taken = 0x5C ∷ c ∷ []; whole = escape.split; is = (refl, escape.may) };
      longest = λ other others begins.
          same_length left others (same_left (escape_at cs) c other left others finds (escape_complete other cs others begins));
    }

pub escape_none : (cs : List ℕ) → escape_at cs ≡ None → BeginsNone SpellsEscapedChar cs
escape_none cs none c left begins = nothing_found (escape_at cs) (c, left) none (escape_complete c cs left begins)
