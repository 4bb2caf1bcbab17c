-- Each text either has a decimal, or is no number literal, or is one that is too wide.
use Rattle.std.proofs.Common.{◌≡◌, ℕ, ◌+◌, ◌-◌, ◌*◌, ◌^◌, ◌<◌, ◌≤◌, Bool, false, ◌&&◌, ◌==◌, not, ◌⊎◌, inl, inr, List, [], ◌∷◌, ◌++◌, length, refl, sym, ap, ◌∙◌, ⊎_elim, arith}
use Rattle.std.specs.Char.{digit_value}
use Rattle.std.specs.Str.Parse.{AllDigits}
use Rattle.std.proofs.lemmas.Bool.{cases_lt}
use Rattle.mf_decimal.specs.declared.decimal.Decimal.{Decimal}
use Rattle.mf_decimal.specs.Grammar.{Literal, SpellsWhole, SpellsExponent, IsNumber, IsValue, IsWide, DecimalOf, IsTooWide, literal_amount, lowered_by}
use Rattle.mf_decimal.specs.Parts.{BeginsNoDigit, IsDigits, is_minus, after_minus, after_exponent_sign, IsBarePoint, LeavesFraction, IsExponent}
use Rattle.mf_decimal.proofs.Tens.{ten_sum}
use Rattle.mf_decimal.proofs.RoundingExists.{trimmed, both}
use Rattle.mf_decimal.proofs.Spelling.{no_cons, head_of, spelled_by_parts, no_whole, no_fraction, no_exponent_left, exponent_spelled, exponent_of}

same_or_not : (a b : ℕ) → (a ≡ b) ⊎ (a ≡ b → ⊥)
same_or_not a b =
    ⊎_elim (λ (l : a < b). inr (λ e. absurd (omega arith)))
    (λ (g : b ≤ a). ⊎_elim (λ (l : b < a). inr (λ e. absurd (omega arith))) (λ (h : a ≤ b). inl (omega arith)) (cases_lt b a))
    (cases_lt a b)

-- the digits at the front of a text, as many as there are, and what follows them
record Span (text : List ℕ) : Type 0 where
  digits : List ℕ
  rest : List ℕ
  parts : text ≡ digits ++ rest
  all : AllDigits 10 digits
  longest : BeginsNoDigit rest

one_more : (c : ℕ) (cs : List ℕ) → digit_value c < 10 → Span cs → Span (c ∷ cs)
one_more c cs digit s = record { digits = c ∷ s.digits; rest = s.rest; parts = ap (λ (t : List ℕ). c ∷ t) s.parts; all = (digit, s.all); longest = s.longest }

none_here : (c : ℕ) (cs : List ℕ) → 10 ≤ digit_value c → Span (c ∷ cs)
none_here c cs other = record { digits = []; rest = c ∷ cs; parts = refl; all = tt; longest = λ digit. absurd (omega arith) }

span : (text : List ℕ) → Span text
span [] = record { digits = []; rest = []; parts = refl; all = tt; longest = tt }
span (c ∷ cs) = ⊎_elim (λ (digit : digit_value c < 10). one_more c cs digit (span cs)) (λ (other : 10 ≤ digit_value c). none_here c cs other) (cases_lt (digit_value c) 10)

-- digits are a whole part or not
whole_or_not : (digits : List ℕ) → AllDigits 10 digits → SpellsWhole digits ⊎ (SpellsWhole digits → ⊥)
whole_or_not [] all = inr (λ h. h)
whole_or_not (d ∷ []) all = inl (all, λ e. refl)
whole_or_not (d ∷ e ∷ ds) all =
    ⊎_elim (λ (is_zero : d ≡ 48). inr (λ h. no_cons e ds (sym (h.1 is_zero)))) (λ (other : d ≡ 48 → ⊥). inl (all, λ is_zero. absurd (other is_zero))) (same_or_not d 48)

-- what follows the whole part begins with a fraction, or with none, or with a point alone
record Fraction (tail : List ℕ) : Type 0 where
  digits : List ℕ
  rest : List ℕ
  leaves : LeavesFraction tail digits rest

no_point : (c : ℕ) (cs : List ℕ) → (c ≡ 46 → ⊥) → Fraction (c ∷ cs)
no_point c cs other = record {
  digits = [];
  rest = c ∷ cs;
  leaves = record { fraction = []; parts = refl; spelled = refl; whole = λ e. other; longest = λ some. absurd (some refl) };
}

point : (c : ℕ) (cs digits rest : List ℕ) → c ≡ 46 → cs ≡ digits ++ rest → AllDigits 10 digits → BeginsNoDigit rest → Fraction (c ∷ cs) ⊎ IsBarePoint (c ∷ cs)
point c cs [] rest is e all longest = inr (is, rw e longest)
point c cs (d ∷ ds) rest is e all longest =
    inl (record {
      digits = d ∷ ds;
      rest = rest;
      leaves = record {
        fraction = 46 ∷ d ∷ ds;
        parts = ap (λ (b : ℕ). b ∷ cs) is ∙ ap (λ (t : List ℕ). 46 ∷ t) e;
        spelled = (all, refl);
        whole = λ none. absurd (no_cons d ds (sym none));
        longest = λ some. longest;
      };
    })

fraction_or_not : (tail : List ℕ) → Fraction tail ⊎ IsBarePoint tail
fraction_or_not [] =
    inl (record { digits = []; rest = []; leaves = record { fraction = []; parts = refl; spelled = refl; whole = λ e. tt; longest = λ some. absurd (some refl) } })
fraction_or_not (c ∷ cs) =
    let d = span cs in
    ⊎_elim (λ (is : c ≡ 46). point c cs d.digits d.rest is d.parts d.all d.longest) (λ (other : c ≡ 46 → ⊥). inl (no_point c cs other)) (same_or_not c 46)

-- what is left is an exponent or not
all_or_not : (bytes : List ℕ) → AllDigits 10 bytes ⊎ (AllDigits 10 bytes → ⊥)
all_or_not [] = inl tt
all_or_not (c ∷ cs) =
    ⊎_elim
    (λ (digit : digit_value c < 10). ⊎_elim (λ (all : AllDigits 10 cs). inl (digit, all)) (λ (other : AllDigits 10 cs → ⊥). inr (λ h. other h.1)) (all_or_not cs))
    (λ (other : 10 ≤ digit_value c). inr (λ h. absurd (omega (arith, h.0))))
    (cases_lt (digit_value c) 10)

digits_or_not : (bytes : List ℕ) → IsDigits bytes ⊎ (IsDigits bytes → ⊥)
digits_or_not [] = inr (λ h. h)
digits_or_not (c ∷ cs) = all_or_not (c ∷ cs)

mark_of : (c : ℕ) (cs digits : List ℕ) (minus : Bool) → SpellsExponent (c ∷ cs) digits minus → (c ≡ 101) ⊎ (c ≡ 69)
mark_of c cs [] minus s = absurd (no_cons c cs (sym s.0))
mark_of c cs (d ∷ ds) minus s =
    let same = head_of c s.mark cs (s.sign ++ (d ∷ ds)) s.parts in
    ⊎_elim (λ (small : s.mark ≡ 101). inl (same ∙ small)) (λ (capital : s.mark ≡ 69). inr (same ∙ capital)) s.is_mark

marked : (c : ℕ) (cs : List ℕ) → (c ≡ 101) ⊎ (c ≡ 69) → IsExponent (c ∷ cs) ⊎ (IsExponent (c ∷ cs) → ⊥)
marked c cs mark =
    ⊎_elim
    (λ (is : IsDigits (after_exponent_sign cs)).
    inl (record { digits = after_exponent_sign cs; minus = is_minus cs; spelled = exponent_spelled (c ∷ cs) c cs (after_exponent_sign cs) (is_minus cs) refl mark refl refl is }))
    (λ (other : IsDigits (after_exponent_sign cs) → ⊥). inr (λ x. other (exponent_of (c ∷ cs) c cs x.digits x.minus refl x.spelled).0))
    (digits_or_not (after_exponent_sign cs))

exponent_or_not : (rest : List ℕ) → IsExponent rest ⊎ (IsExponent rest → ⊥)
exponent_or_not [] = inl (record { digits = []; minus = false; spelled = (refl, refl) })
exponent_or_not (c ∷ cs) =
    ⊎_elim (λ (small : c ≡ 101). marked c cs (inl small))
    (λ (no_small : c ≡ 101 → ⊥). ⊎_elim (λ (capital : c ≡ 69). marked c cs (inr capital))
    (λ (no_capital : c ≡ 69 → ⊥). inr (λ x. ⊎_elim (λ (e : c ≡ 101). no_small e) (λ (e : c ≡ 69). no_capital e) (mark_of c cs x.digits x.minus x.spelled)))
    (same_or_not c 69))
    (same_or_not c 101)

-- a text is a number literal or not
number_or_not : (text : List ℕ) → IsNumber text ⊎ (IsNumber text → ⊥)
number_or_not text =
    let w = span (after_minus text) in
    ⊎_elim
    (λ (whole : SpellsWhole w.digits). ⊎_elim
    (λ (f : Fraction w.rest). ⊎_elim
    (λ (e : IsExponent f.rest).
    let number : Literal = record { minus = is_minus text; whole = w.digits; fraction = f.digits; exponent_minus = e.minus; exponent = e.digits } in
    inl (record { number = number; spelled = spelled_by_parts text w.rest f.rest number refl w.parts whole f.leaves e.spelled }))
    (λ (no_exponent : IsExponent f.rest → ⊥). inr (λ n. no_exponent (no_exponent_left text (after_minus text) w.digits w.rest f.digits f.rest n refl w.parts w.all w.longest f.leaves)))
    (exponent_or_not f.rest))
    (λ (bare : IsBarePoint w.rest). inr (λ n. no_fraction text (after_minus text) w.digits w.rest n refl w.parts w.all w.longest bare))
    (fraction_or_not w.rest))
    (λ (other : SpellsWhole w.digits → ⊥). inr (λ n. other (no_whole text (after_minus text) w.digits w.rest n refl w.parts w.all w.longest)))
    (whole_or_not w.digits w.all)

-- a literal has a decimal, or is too wide
record Valued (number : Literal) : Type 0 where
  decimal : Decimal
  is : IsValue number decimal

value_or_wide : (number : Literal) → Valued number ⊎ IsWide (literal_amount number)
value_or_wide number =
    let all = (literal_amount number).over in
    let places = length number.fraction + lowered_by number in
    let t = trimmed all places 0 in
    let power = ten_sum (places - t.scale) t.scale places (let fewer = t.is.fewer in omega arith) in
    let same : t.number * 10 ^ places ≡ all * 10 ^ t.scale = joined t.number (10 ^ (places - t.scale)) (10 ^ t.scale) (10 ^ places) all power t.is.same in
    let sign = both number.minus t.number in
    ⊎_elim
    (λ (short : t.number < 10 ^ 36). ⊎_elim
    (λ (far : 36 < t.scale). inr (record { coefficient = t.number; scale = t.scale; plain = record { same = same; short = t.is.last }; wide = inr far }))
    (λ (near : t.scale ≤ 36).
    inl (record {
      decimal = record { negative = number.minus && not (t.number == 0); coefficient = t.number; scale = t.scale; short = short; near = near; plain = t.is.last; unsigned_zero = λ below. (sign.0 below).1 };
      is = record { same = same; sign = sign };
    }))
    (cases_lt 36 t.scale))
    (λ (long : 10 ^ 36 ≤ t.number). inr (record { coefficient = t.number; scale = t.scale; plain = record { same = same; short = t.is.last }; wide = inl long }))
    (cases_lt t.number (10 ^ 36))
  where
    joined : (n p q r all : ℕ) → p * q ≡ r → n * p ≡ all → n * r ≡ all * q
    joined n p q r all e f = omega (arith, ap (λ (x : ℕ). n * x) e, ap (λ (x : ℕ). x * q) f)

-- what reading a text finds
pub record Found (text : List ℕ) : Type 0 where
  pub decimal : Decimal
  pub is : DecimalOf text decimal

pub reading : (text : List ℕ) → Found text ⊎ (IsTooWide text ⊎ (IsNumber text → ⊥))
reading text =
    ⊎_elim
    (λ (n : IsNumber text). ⊎_elim
    (λ (v : Valued n.number). let f : Found text = record { decimal = v.decimal; is = record { number = n.number; spelled = n.spelled; value = v.is } } in inl f)
    (λ (wide : IsWide (literal_amount n.number)). inr (inl (record { number = n.number; spelled = n.spelled; wide = wide })))
    (value_or_wide n.number))
    (λ (none : IsNumber text → ⊥). inr (inr none))
    (number_or_not text)
