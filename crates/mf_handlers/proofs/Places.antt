-- A place that is named is one of the list.
use Rattle.std.proofs.Common.{◌≡◌, ℕ, suc, ◌+◌, ◌<◌, Bool, true, false, List, [], ◌∷◌, ◌++◌, ◌^◌, length, Fits, w32, Option, Some, None, subst, arith}
use Rattle.std.proofs.Math.Facts.{Fits-below}
use Rattle.std.specs.Prelude.{if◌then◌else◌}
use Rattle.std.specs.List.{position_from, list_any}
use Rattle.unicode_normalization.specs.Forms.{nfc}
use Rattle.mf_text.specs.declared.pair.Pair.{Pair}
use Rattle.mf_value.specs.Entries.{has_form, repeated_from, repeated_key}

no_place : {A : Type 0} (place : ℕ) → (let o : Option ℕ = None in o) ≡ Some place → A
no_place place is = absurd (clash place is)
  where
    clash : (place : ℕ) → (let o : Option ℕ = None in o) ≡ Some place → ⊥
    clash place is = cc

first : (at place : ℕ) → (let o : Option ℕ = Some at in o) ≡ Some place → at ≡ place
first at place is = cc

further : (at n place : ℕ) → place < at + 1 + n → place < at + suc n
further at n place is = omega arith

here : (at n : ℕ) → at < at + suc n
here at n = omega arith

found : (at n place : ℕ) (test : Bool) (o : Option ℕ) → (o ≡ Some place → place < at + 1 + n) → (if test then Some at else o) ≡ Some place → place < at + suc n
found at n place true o more is = subst (λ p. p < at + suc n) (first at place is) (here at n)
found at n place false o more is = further at n place (more is)

position_within : {A : Type 0} (test : A → Bool) (at place : ℕ) (xs : List A) → position_from test at xs ≡ Some place → place < at + length xs
position_within test at place [] is = no_place place is
position_within test at place (x ∷ xs) is = found at (length xs) place (test x) _ (position_within test (at + 1) place xs) is

repeated_within : (earlier : List Pair) (at place : ℕ) (entries : List Pair) → repeated_from earlier at entries ≡ Some place → place < at + length entries
repeated_within earlier at place [] is = no_place place is
repeated_within earlier at place (entry ∷ others) is =
    found at (length others) place (list_any (has_form (nfc entry.name)) earlier) _ (repeated_within (earlier ++ entry ∷ []) (at + 1) place others) is

below : (place n : ℕ) → place < 0 + n → n < 2 ^ 32 → Fits w32 place
below place n is few = Fits-below {w = w32} {m = place} {n = 4294967295} tt (omega arith)

pub position_fits : {A : Type 0} (test : A → Bool) (place : ℕ) (xs : List A) → length xs < 2 ^ 32 → position_from test 0 xs ≡ Some place → Fits w32 place
position_fits test place xs few is = below place (length xs) (position_within test 0 place xs is) few

pub repeated_fits : (place : ℕ) (entries : List Pair) → length entries < 2 ^ 32 → repeated_key entries ≡ Some place → Fits w32 place
repeated_fits place entries few is = below place (length entries) (repeated_within [] 0 place entries is) few
