-- What reads, rounds and cuts gives the value of the definitions.
use Rattle.std.proofs.Common.{◌≡◌, ℕ, ◌+◌, ◌*◌, ◌^◌, ◌<◌, ◌≤◌, ◌⊎◌, inl, inr, List, refl, sym, ap, subst, ◌∙◌, ⊎_elim, arith}
use Rattle.std.specs.Prelude.{Result, Ok, Err, IfOk, ◌↔◌}
use Rattle.std.proofs.lemmas.Bool.{cases_lt}
use Rattle.std.proofs.Math.Nat.{mul-le-mul_right}
use Rattle.mf_decimal.specs.declared.decimal.Decimal.{Decimal}
use Rattle.mf_decimal.specs.declared.reading.NumberError.{NumberError}
use Rattle.mf_decimal.specs.declared.reading.NumberError.TheVariants.{NotANumber, TooWide}
use Rattle.mf_decimal.specs.declared.shown.Digits.{Digits}
use Rattle.mf_decimal.specs.declared.shown.Shown.{Shown}
use Rattle.mf_decimal.specs.Grammar.{DecimalOf, IsNumber, IsTooWide}
use Rattle.mf_decimal.specs.Rounding.{IsInRange, Rounds}
use Rattle.mf_decimal.specs.Whole.{Cuts}
use Rattle.mf_decimal.proofs.ReadingExists.{Found, reading}
use Rattle.mf_decimal.proofs.RoundingExists.{rounding, cutting, range_or_not}
use Rattle.mf_decimal.proofs.Unique.{rounds_to_one, has_one_decimal, is_not_both, decimal_same, bool_same}
use Rattle.mf_meaning.specs.Numbers.{read_by, read, round_by, round, cut}

round_by_is : (x : Decimal) (digits : Digits) (r : IsInRange digits ⊎ (IsInRange digits → ⊥)) → IsInRange digits → Rounds x digits (round_by x digits r)
round_by_is x digits (inl range) h = (rounding x digits range).rounds
round_by_is x digits (inr none) h = absurd (none h)

pub round_is : (x : Decimal) (digits : Digits) → IsInRange digits → Rounds x digits (round x digits)
unfolding round
round_is x digits h = round_by_is x digits (range_or_not digits) h

pub rounded : (x : Decimal) (digits : Digits) (y : Shown) → IsInRange digits → Rounds x digits y → y ≡ round x digits
rounded x digits y range h = rounds_to_one x digits y (round x digits) h (round_is x digits range)

pub cut_is : (x : Decimal) → Cuts x (cut x)
unfolding cut
cut_is x = (cutting x).cuts

-- the whole part is one
not_below : (x : Decimal) (y z : Decimal) → Cuts x y → Cuts x z → y.coefficient < z.coefficient → ⊥
not_below x y z h g less =
    let near = h.near in
    let at_most = g.at_most in
    let one = h.scale in
    let other = g.scale in
    let more = mul-le-mul_right {m = y.coefficient + 1} {n = z.coefficient} (10 ^ x.scale) (omega arith) in
    let least : z.coefficient * 10 ^ x.scale ≤ x.coefficient * 10 ^ 0 = subst (let P : ℕ → Type 0 = λ s. z.coefficient * 10 ^ x.scale ≤ x.coefficient * 10 ^ s in P) other at_most in
    omega arith

pub cuts_to_one : (x y z : Decimal) → Cuts x y → Cuts x z → y ≡ z
cuts_to_one x y z h g =
    let same : y.coefficient ≡ z.coefficient =
    ⊎_elim (λ (less : y.coefficient < z.coefficient). absurd (not_below x y z h g less))
    (λ (le : z.coefficient ≤ y.coefficient). ⊎_elim (λ (less : z.coefficient < y.coefficient). absurd (not_below x z y g h less)) (λ (ge : y.coefficient ≤ z.coefficient). omega arith) (cases_lt z.coefficient y.coefficient))
    (cases_lt y.coefficient z.coefficient) in
    let P : ℕ → Type 0 = λ c. 0 < c in
    let sign = bool_same y.negative z.negative
    (λ t. let s = h.sign.0 t in g.sign.1 (s.0, subst P same s.1))
    (λ t. let s = g.sign.0 t in h.sign.1 (s.0, subst P (sym same) s.1)) in
    decimal_same y z sign same (h.scale ∙ sym g.scale)

pub cut_to : (x y : Decimal) → Cuts x y → y ≡ cut x
cut_to x y h = cuts_to_one x y (cut x) h (cut_is x)

-- reading
decimal_by : (text : List ℕ) (x : Decimal) (r : Found text ⊎ (IsTooWide text ⊎ (IsNumber text → ⊥))) → DecimalOf text x → read_by r ≡ Ok x
decimal_by text x (inl found) h = ap (λ (y : Decimal). Ok y) (has_one_decimal text found.decimal x found.is h)
decimal_by text x (inr (inl wide)) h = absurd (is_not_both text x h wide)
decimal_by text x (inr (inr none)) h = absurd (none (record { number = h.number; spelled = h.spelled }))

pub read_decimal : (text : List ℕ) (x : Decimal) → DecimalOf text x → read text ≡ Ok x
unfolding read
read_decimal text x h = decimal_by text x (reading text) h

none_by : (text : List ℕ) (r : Found text ⊎ (IsTooWide text ⊎ (IsNumber text → ⊥))) → (IsNumber text → ⊥) → read_by r ≡ Err NotANumber
none_by text (inl found) h = absurd (h (record { number = found.is.number; spelled = found.is.spelled }))
none_by text (inr (inl wide)) h = absurd (h (record { number = wide.number; spelled = wide.spelled }))
none_by text (inr (inr none)) h = refl

pub read_none : (text : List ℕ) → (IsNumber text → ⊥) → read text ≡ Err NotANumber
unfolding read
read_none text h = none_by text (reading text) h

wide_by : (text : List ℕ) (r : Found text ⊎ (IsTooWide text ⊎ (IsNumber text → ⊥))) → IsTooWide text → read_by r ≡ Err TooWide
wide_by text (inl found) h = absurd (is_not_both text found.decimal found.is h)
wide_by text (inr (inl wide)) h = refl
wide_by text (inr (inr none)) h = absurd (none (record { number = h.number; spelled = h.spelled }))

pub read_wide : (text : List ℕ) → IsTooWide text → read text ≡ Err TooWide
unfolding read
read_wide text h = wide_by text (reading text) h

is_by : (text : List ℕ) (x : Decimal) (r : Found text ⊎ (IsTooWide text ⊎ (IsNumber text → ⊥))) → read_by r ≡ Ok x → DecimalOf text x
is_by text x (inl found) e = let P : Decimal → Type 0 = λ y. DecimalOf text y in subst P (same found.decimal x e) found.is
  where
    same : (a b : Decimal) → (let r : Result Decimal NumberError = Ok a in r) ≡ Ok b → a ≡ b
    same a b e = cc
is_by text x (inr (inl wide)) e = absurd (clash x e)
  where
    clash : (x : Decimal) → (let r : Result Decimal NumberError = Err TooWide in r) ≡ Ok x → ⊥
    clash x e = cc
is_by text x (inr (inr none)) e = absurd (clash x e)
  where
    clash : (x : Decimal) → (let r : Result Decimal NumberError = Err NotANumber in r) ≡ Ok x → ⊥
    clash x e = cc

pub decimal_read : (text : List ℕ) (x : Decimal) → read text ≡ Ok x → DecimalOf text x
unfolding read
decimal_read text x e = is_by text x (reading text) e

-- what a reader of number literals answers
pub read_of : (text : List ℕ) (r : Result Decimal NumberError) → IfOk r (λ x. DecimalOf text x) → ((r ≡ Err NotANumber) ↔ (¬ IsNumber text)) → ((r ≡ Err TooWide) ↔ IsTooWide text) → r ≡ read text
read_of text (Ok x) value none wide = sym (read_decimal text x value)
read_of text (Err NotANumber) value none wide = sym (read_none text (none.0 refl))
read_of text (Err TooWide) value none wide = sym (read_wide text (wide.0 refl))
