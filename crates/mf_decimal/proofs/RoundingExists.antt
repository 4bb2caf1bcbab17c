-- Each decimal is rounded to a shown number, and is cut to a whole one.
use Rattle.std.proofs.Common.{◌≡◌, ℕ, zero, suc, ◌+◌, ◌-◌, ◌*◌, ◌/◌, ◌%◌, ◌^◌, ◌<◌, ◌≤◌, ◌↔◌, Bool, true, false, IsTrue, ◌&&◌, ◌==◌, not, ◌⊎◌, inl, inr, refl, sym, ap, subst, ◌∙◌, ⊎_elim, arith}
use Rattle.std.proofs.Math.Nat.{div-le_self}
use Rattle.std.proofs.lemmas.Bool.{cases_lt, false≢true}
use Rattle.std.proofs.lemmas.Nat.{div-add-mod', mod_below}
use Rattle.mf_decimal.specs.declared.decimal.Decimal.{Decimal}
use Rattle.mf_decimal.specs.declared.shown.Shown.{Shown}
use Rattle.mf_decimal.specs.declared.shown.Digits.{Digits}
use Rattle.mf_decimal.specs.declared.shown.Digits.TheVariants.{Fraction, Significant}
use Rattle.mf_decimal.specs.Amount.{IsSame, shifted, amount, shown_amount}
use Rattle.mf_decimal.specs.Rounding.{IsInRange, IsNearest, IsLeast, IsShortest, RoundsTo, Rounds}
use Rattle.mf_decimal.specs.Dropping.{IsDrop, IsDigitCount, IsTrimmed}
use Rattle.mf_decimal.specs.Whole.{Cuts}
use Rattle.mf_decimal.proofs.Tens.{ten_pos, ten_more, power_product}
use Rattle.mf_decimal.proofs.Cutting.{cut_at_most, cut_near, sign_kept, sign_none}
use Rattle.mf_decimal.proofs.Nearest.{nearest_below, nearest_above, nearest_tie}
use Rattle.mf_decimal.proofs.Dropped.{fraction_drop, significant_drop, rounded_to, least_some, least_none, digits_short, kept_short, kept_fraction, kept_whole, room_digits, room_fraction}
use Rattle.mf_decimal.proofs.Showing.{over_shown, within_shown, same_shown, shortest_shown, some_shown, sign_shown, rounds_same, least_same}

-- how many digits write a number
record DigitCount (n : ℕ) : Type 0 where
  count : ℕ
  is : IsDigitCount n count

more_digits : (n k : ℕ) → 10 ≤ n → IsDigitCount (n / 10) k → IsDigitCount n (k + 1)
more_digits n k some c =
    let power = ten_more k in
    let low = c.at_least (omega arith) in
    let few = c.some in
    let front : 10 ^ k ≡ 10 ^ (k - 1) * 10 = ap (λ (i : ℕ). 10 ^ i) (let e : k ≡ k - 1 + 1 = omega arith in e) ∙ ten_more (k - 1) in
    let back : k + 1 - 1 ≡ k = omega arith in
    let high = c.below in
    record {
      some = omega arith;
      at_least = λ h. rw (back, front) (omega arith);
      below = rw power (omega arith);
      zero = λ e. absurd (omega arith);
    }

digit_count_from : (fuel n : ℕ) → n ≤ fuel → DigitCount n
digit_count_from zero n le = record { count = 1; is = record { some = omega arith; at_least = λ h. omega arith; below = omega arith; zero = λ e. refl } }
digit_count_from (suc fuel) n le =
    ⊎_elim
    (λ (few : n < 10). let c : DigitCount n = record { count = 1; is = record { some = omega arith; at_least = λ h. omega arith; below = omega arith; zero = λ e. refl } } in c)
    (λ (many : 10 ≤ n). let front = digit_count_from fuel (n / 10) (omega arith) in let c : DigitCount n = record { count = front.count + 1; is = more_digits n front.count many front.is } in c)
    (cases_lt n 10)

digit_count : (n : ℕ) → DigitCount n
digit_count n = digit_count_from n n (omega arith)

-- the nearest multiple
record Nearest (x unit : ℕ) : Type 0 where
  count : ℕ
  is : IsNearest x unit count
  at_most : count ≤ x / unit + 1

nearest : (x unit : ℕ) → 0 < unit → Nearest x unit
nearest x unit some =
    let parts : x ≡ x / unit * unit + x % unit = sym (div-add-mod' x unit) in
    let rest = mod_below x unit some in
    ⊎_elim
    (λ (less : x % unit < unit - x % unit). let n : Nearest x unit = record { count = x / unit; is = nearest_below x (x / unit) unit (x % unit) parts less; at_most = omega arith } in n)
    (λ (least : unit - x % unit ≤ x % unit). ⊎_elim
    (λ (more : unit - x % unit < x % unit). let n : Nearest x unit = record { count = x / unit + 1; is = nearest_above x (x / unit) unit (x % unit) parts rest more; at_most = omega arith } in n)
    (λ (most : x % unit ≤ unit - x % unit). let n : Nearest x unit = record { count = x / unit + x / unit % 2; is = nearest_tie x (x / unit) unit (x % unit) parts rest (omega arith); at_most = omega arith } in n)
    (cases_lt (unit - x % unit) (x % unit)))
    (cases_lt (x % unit) (unit - x % unit))

-- the trailing fraction zeros dropped
pub record Trimmed (c s least : ℕ) : Type 0 where
  pub number : ℕ
  pub scale : ℕ
  pub is : IsTrimmed c s least number scale

as_it_is : (c s least : ℕ) → (least < s → 0 < c % 10) → Trimmed c s least
as_it_is c s least last = record {
  number = c;
  scale = s;
  is = record { fewer = omega arith; same = let none : s - s ≡ 0 = omega arith in rw none (omega arith); enough = λ h. h; kept = λ h. refl; last = last };
}

one_zero_less : (c s least : ℕ) → least ≤ s → c % 10 ≡ 0 → Trimmed (c / 10) s least → Trimmed c (s + 1) least
one_zero_less c s least le last t =
    let power : 10 ^ (s + 1 - t.scale) ≡ 10 ^ (s - t.scale) * 10 = ap (λ (i : ℕ). 10 ^ i) (let e : s + 1 - t.scale ≡ s - t.scale + 1 = omega (arith, t.is.fewer) in e) ∙ ten_more (s - t.scale) in
    let same = t.is.same in
    let fewer = t.is.fewer in
    record {
      number = t.number;
      scale = t.scale;
      is = record {
        fewer = omega arith;
        same = rw power (joined t.number (10 ^ (s - t.scale)) (c / 10) c same (omega arith));
        enough = λ h. t.is.enough le;
        kept = λ h. absurd (omega arith);
        last = t.is.last;
      };
    }
  where
    joined : (n p a c : ℕ) → n * p ≡ a → a * 10 ≡ c → n * (p * 10) ≡ c
    joined n p a c e f = omega (arith, e, f)

pub trimmed : (c s least : ℕ) → Trimmed c s least
trimmed c zero least = as_it_is c 0 least (λ h. absurd (omega arith))
trimmed c (suc s) least =
    let more : s + 1 ≡ suc s = omega arith in
    let P : ℕ → Type 0 = λ k. Trimmed c k least in
    ⊎_elim
    (λ (all : s < least). as_it_is c (suc s) least (λ h. absurd (omega arith)))
    (λ (le : least ≤ s). ⊎_elim
    (λ (none : c % 10 < 1). subst P more (one_zero_less c s least le (omega arith) (trimmed (c / 10) s least)))
    (λ (some : 1 ≤ c % 10). as_it_is c (suc s) least (λ h. some))
    (cases_lt (c % 10) 1))
    (cases_lt s least)

-- how many digits are dropped
record Drop (x : Decimal) (digits : Digits) : Type 0 where
  count : ℕ
  is : IsDrop x digits count
  within : count ≤ 36

drop : (x : Decimal) (digits : Digits) → Drop x digits
drop x (Fraction min max) =
    let near = x.near in
    record { count = x.scale - max; is = fraction_drop x min max (x.scale - max) refl; within = omega arith }
drop x (Significant min max) =
    let n = digit_count x.coefficient in
    let few = digits_short x.coefficient n.count n.is x.short in
    record { count = n.count - max; is = significant_drop x min max n.count (n.count - max) n.is refl; within = omega arith }

-- the number without its sign, rounded
record Unsigned (x : Decimal) (digits : Digits) : Type 0 where
  coefficient : ℕ
  scale : ℕ
  rounded : RoundsTo (amount x) digits (shifted coefficient scale)
  short : coefficient ≤ 10 ^ 36
  near : scale ≤ 36

unsigned : (x : Decimal) (digits : Digits) → Unsigned x digits
unsigned x digits =
    let d = drop x digits in
    let k = nearest x.coefficient (10 ^ d.count) (ten_pos d.count) in
    let within = d.within in
    let near = x.near in
    ⊎_elim
    (λ (past : x.scale < d.count).
    let short = kept_short x.coefficient d.count x.scale k.count (10 ^ (d.count - x.scale)) x.short d.within (omega arith) k.at_most refl in
    let u : Unsigned x digits = record {
      coefficient = k.count * 10 ^ (d.count - x.scale);
      scale = 0;
      rounded = rounded_to x digits d.count k.count (k.count * 10 ^ (d.count - x.scale)) 0 d.is k.is (kept_whole k.count d.count x.scale (10 ^ (d.count - x.scale)) (omega arith) refl);
      short = short;
      near = omega arith;
    } in u)
    (λ (le : d.count ≤ x.scale).
    let x_short = x.short in
    let at_most = k.at_most in
    let u : Unsigned x digits = record {
      coefficient = k.count;
      scale = x.scale - d.count;
      rounded = rounded_to x digits d.count k.count k.count (x.scale - d.count) d.is k.is (kept_fraction k.count d.count x.scale le);
      short = kept_alone x.coefficient d.count k.count x.short d.within k.at_most;
      near = omega arith;
    } in u)
    (cases_lt x.scale d.count)
  where
    kept_alone : (c d kept : ℕ) → c < 10 ^ 36 → d ≤ 36 → kept ≤ c / 10 ^ d + 1 → kept ≤ 10 ^ 36
    kept_alone c d kept short near most =
        let power : 1 ≡ 10 ^ (d - d) = let none : d - d ≡ 0 = omega arith in rw none refl in
        let all = kept_short c d d kept 1 short near (omega arith) most power in
        omega arith

-- at least so many fraction digits are shown
record Least (digits : Digits) (c s : ℕ) : Type 0 where
  count : ℕ
  is : IsLeast digits (shifted c s) count
  near : count ≤ s + 20
  room : c % 10 ^ s * 10 ^ (count - s) < 10 ^ 36

least : (digits : Digits) (c s : ℕ) → IsInRange digits → s ≤ 36 → Least digits c s
least (Fraction min max) c s range near =
    record { count = min; is = refl; near = omega (arith, range.0, range.1); room = room_fraction c s min (omega (arith, range.0, range.1)) near }
least (Significant min max) c s range near =
    ⊎_elim
    (λ (none : c < 1).
    let zero_is : c ≡ 0 = omega arith in
    let l : Least (Significant min max) c s = record {
      count = min - 1;
      is = least_none c s min max (min - 1) zero_is refl;
      near = omega (arith, range.0, range.1, range.2);
      room = rw zero_is (no_digits s (10 ^ (min - 1 - s)));
    } in l)
    (λ (some : 1 ≤ c).
    let m = digit_count c in
    let l : Least (Significant min max) c s = record {
      count = min + s - m.count;
      is = least_some c s m.count min max (min + s - m.count) m.is (λ e. absurd (omega arith)) refl;
      near = omega (arith, range.0, range.1, range.2, m.is.some);
      room = room_digits c s m.count min (min + s - m.count) m.is (omega (arith, range.1, range.2)) near refl;
    } in l)
    (cases_lt c 1)
  where
    no_digits : (s p : ℕ) → 0 % 10 ^ s * p < 10 ^ 36
    no_digits s p = let none : 0 % 10 ^ s ≡ 0 = omega (arith, mod_below 0 (10 ^ s) (ten_pos s), div-add-mod' 0 (10 ^ s)) in rw none (omega arith)

-- the shown number of a rounded amount
record Showing (negative : Bool) (c s least : ℕ) : Type 0 where
  shown : Shown
  same : IsSame (shown_amount shown) (shifted c s)
  shortest : IsShortest shown least
  sign : IsTrue shown.negative ↔ (IsTrue negative × (0 < (shown_amount shown).over))

pub both : (negative : Bool) (c : ℕ) → IsTrue (negative && not (c == 0)) ↔ (IsTrue negative × (0 < c))
both true c = sign_kept (not (c == 0)) true c refl refl
both false c = sign_none false false c refl refl

showing : (negative : Bool) (c s least : ℕ) → s ≤ 36 → least ≤ s + 20 → c % 10 ^ s * 10 ^ (least - s) < 10 ^ 36 → Showing negative c s least
showing negative c s least near padded room =
    let t = trimmed c s least in
    let pad = least - t.scale in
    let unit = 10 ^ t.scale in
    let power = power_product t.scale pad (10 ^ t.scale) (10 ^ pad) refl refl in
    let sign = both negative t.number in
    let fewer = t.is.fewer in
    let y : Shown = record {
      negative = negative && not (t.number == 0);
      whole = t.number / 10 ^ t.scale;
      fraction = t.number % 10 ^ t.scale * 10 ^ pad;
      fraction_len = t.scale + pad;
      within = within_shown t.number (10 ^ t.scale) (10 ^ pad) (10 ^ (t.scale + pad)) (ten_pos t.scale) (ten_pos pad) power;
      near = omega arith;
      unsigned_zero = λ below. some_shown t.number (10 ^ t.scale) (10 ^ pad) (sign.0 below).1 (ten_pos pad);
    } in
    let over = over_shown t.number (10 ^ t.scale) (10 ^ pad) (10 ^ (t.scale + pad)) power in
    record {
      shown = y;
      same = same_shown (shown_amount y).over c s t.number t.scale pad fewer t.is.same over;
      shortest = shortest_shown y c s least t.number t.scale pad t.is refl refl over;
      sign = sign_shown y.negative negative (shown_amount y).over t.number (10 ^ pad) over (ten_pos pad) sign;
    }

-- the number that x is rounded to
pub record Rounding (x : Decimal) (digits : Digits) : Type 0 where
  pub shown : Shown
  pub rounds : Rounds x digits shown

pub rounding : (x : Decimal) (digits : Digits) → IsInRange digits → Rounding x digits
rounding x digits range =
    let u = unsigned x digits in
    let l = least digits u.coefficient u.scale range u.near in
    let s = showing x.negative u.coefficient u.scale l.count u.near l.near l.room in
    let y = shown_amount s.shown in
    let v = shifted u.coefficient u.scale in
    record {
      shown = s.shown;
      rounds = record {
        rounded = rounds_same (amount x) y v digits (ten_pos u.scale) s.same u.rounded;
        least = l.count;
        is_least = least_same y v digits l.count (ten_pos u.scale) (ten_pos s.shown.fraction_len) s.same l.is;
        shortest = s.shortest;
        sign = s.sign;
      };
    }

-- the whole number that x is cut to
pub record Cutting (x : Decimal) : Type 0 where
  pub whole : Decimal
  pub cuts : Cuts x whole

pub cutting : (x : Decimal) → Cutting x
cutting x =
    let c = x.coefficient / 10 ^ x.scale in
    let sign = both x.negative c in
    let short = x.short in
    let y : Decimal = record {
      negative = x.negative && not (c == 0);
      coefficient = c;
      scale = 0;
      short = let few = div-le_self x.coefficient (10 ^ x.scale) in omega arith;
      near = omega arith;
      plain = λ h. absurd (omega arith);
      unsigned_zero = λ below. (sign.0 below).1;
    } in
    record {
      whole = y;
      cuts = record {
        scale = refl;
        at_most = cut_at_most x.coefficient (10 ^ x.scale) _ refl;
        near = cut_near x.coefficient (10 ^ x.scale) _ refl (ten_pos x.scale);
        sign = sign;
      };
    }

-- digits are in their ranges or not
two_or_not : {A B : Type 0} → A ⊎ (A → ⊥) → B ⊎ (B → ⊥) → (A × B) ⊎ (A × B → ⊥)
two_or_not {A} {B} p q = ⊎_elim (λ (a : A). ⊎_elim (λ (b : B). inl (a, b)) (λ (n : B → ⊥). inr (λ h. n h.1)) q) (λ (n : A → ⊥). inr (λ h. n h.0)) p

le_or_not : (a b : ℕ) → (a ≤ b) ⊎ (a ≤ b → ⊥)
le_or_not a b = ⊎_elim (λ (more : b < a). inr (λ le. absurd (omega arith))) (λ (le : a ≤ b). inl le) (cases_lt b a)

pub range_or_not : (digits : Digits) → IsInRange digits ⊎ (IsInRange digits → ⊥)
range_or_not (Fraction min max) = two_or_not (le_or_not min max) (le_or_not max 20)
range_or_not (Significant min max) =
    ⊎_elim
    (λ (some : 1 ≤ min). ⊎_elim (λ (b : (min ≤ max) × (max ≤ 21)). inl (some, b.0, b.1)) (λ (n : (min ≤ max) × (max ≤ 21) → ⊥). inr (λ h. n (h.1, h.2))) (two_or_not (le_or_not min max) (le_or_not max 21)))
    (λ (none : 1 ≤ min → ⊥). inr (λ h. none h.0))
    (le_or_not 1 min)

-- what stands for a rounding to digits that can't be asked for
pub no_digits_shown : Shown
no_digits_shown = record { negative = false; whole = 0; fraction = 0; fraction_len = 0; within = omega arith; near = omega arith; unsigned_zero = λ t. absurd (false≢true t) }
