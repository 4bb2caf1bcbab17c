-- There is one shown number, and one decimal at most.
use Rattle.std.proofs.Common.{◌≡◌, ℕ, ◌+◌, ◌*◌, ◌%◌, ◌^◌, ◌<◌, ◌≤◌, Bool, true, false, IsTrue, List, ℤ, pos, negsuc, ◌+ℤ◌, ◌-ℤ◌, ◌≤ℤ◌, ◌<ℤ◌, refl, sym, ap, subst, ◌∙◌, ⊎_elim, arith}
use Rattle.std.proofs.Math.Nat.{mul-le-mul_right, mul-lt-mul_of_pos_right, mul-pos, eq_of_mul-eq-mul_right}
use Rattle.std.proofs.lemmas.Bool.{cases_lt, false≢true}
use Rattle.std.proofs.lemmas.Int.{ints, by_lt_z}
use Rattle.std.proofs.lemmas.Nat.{same_from_place}
use Rattle.std.specs.Coded.{le_prop}
use Rattle.mf_decimal.specs.declared.decimal.Decimal.{Decimal}
use Rattle.mf_decimal.specs.declared.shown.Shown.{Shown}
use Rattle.mf_decimal.specs.declared.shown.Digits.{Digits}
use Rattle.mf_decimal.specs.declared.shown.Digits.TheVariants.{Fraction, Significant}
use Rattle.mf_decimal.specs.Amount.{Amount, IsSame, IsAtMost, ten_to, times, amount, shown_amount}
use Rattle.mf_decimal.specs.Grammar.{Literal, DecimalOf, IsTooWide, literal_amount}
use Rattle.mf_decimal.specs.Rounding.{IsFirstPlace, IsUnit, IsNearest, IsLeast, IsShortest, RoundsTo, Rounds, or_zero}
use Rattle.mf_decimal.proofs.Tens.{ten_pos, ten_le}
use Rattle.mf_decimal.proofs.Nearest.{one_nearest}
use Rattle.mf_decimal.proofs.Units.{some_power, some_tenth, place_same}
use Rattle.mf_decimal.proofs.Values.{same_as_both, same_plain, some_under}
use Rattle.mf_decimal.proofs.Texts.{same_literal, not_both}

-- powers of ten in their order
at_most_power : (y z : ℤ) → y ≤ℤ z → IsAtMost (ten_to y) (ten_to z)
at_most_power (pos a) (pos b) le = omega (arith, ten_le a b (omega (arith, ints)))
at_most_power (pos a) (negsuc b) le = absurd (omega (arith, ints))
at_most_power (negsuc a) (pos b) le = mul-pos {m = 10 ^ b} {n = 10 ^ (a + 1)} (ten_pos b) (ten_pos (a + 1))
at_most_power (negsuc a) (negsuc b) le = omega (arith, ten_le (b + 1) (a + 1) (omega (arith, ints)))

-- no amount has its first digit at two places
two_places : (c d o u p q : ℕ) → 0 < d → 0 < u → 0 < q → c * u < o * d → o * q ≤ p * u → p * d ≤ c * q → ⊥
two_places c d o u p q some_d some_u some_q below between least =
    let first = mul-lt-mul_of_pos_right {m = c * u} {n = o * d} {k = q} below some_q in
    let second = mul-le-mul_right {m = o * q} {n = p * u} d between in
    let third = mul-le-mul_right {m = p * d} {n = c * q} u least in
    omega arith

lower_place : (x : Amount) (p q : ℤ) → 0 < x.under → 0 < x.over → IsFirstPlace x p → IsFirstPlace x q → p <ℤ q → ⊥
lower_place x p q some over h g less =
    let between = at_most_power (p +ℤ pos 1) q (omega (arith, ints)) in
    two_places x.over x.under (ten_to (p +ℤ pos 1)).over (ten_to (p +ℤ pos 1)).under (ten_to q).over (ten_to q).under some
    (some_power (p +ℤ pos 1)) (some_power q) (h.below over) between (g.at_least over)

one_place : (x : Amount) (p q : ℤ) → 0 < x.under → IsFirstPlace x p → IsFirstPlace x q → p ≡ q
one_place x p q some h g =
    ⊎_elim
    (λ (over : 0 < x.over).
    by_lt_z p q (λ less. absurd (lower_place x p q some over h g less))
    (λ le. by_lt_z q p (λ less. absurd (lower_place x q p some over g h less)) (λ ge. omega (arith, ints))))
    (λ (none : x.over ≤ 0). h.none (omega arith) ∙ sym (g.none (omega arith)))
    (cases_lt 0 x.over)

one_unit : (x : Amount) (digits : Digits) (u v : ℤ) → 0 < x.under → IsUnit digits x u → IsUnit digits x v → u ≡ v
one_unit x (Fraction min max) u v some h g = h ∙ sym g
one_unit x (Significant min max) u v some h g =
    h.2 ∙ ap (λ (p : ℤ). p -ℤ pos max +ℤ pos 1) (one_place x h.0 g.0 some h.1 g.1) ∙ sym g.2

one_least : (y z : Amount) (digits : Digits) (m n : ℕ) → 0 < y.under → 0 < z.under → IsSame y z → IsLeast digits y m → IsLeast digits z n → m ≡ n
one_least y z (Fraction min max) m n some other same h g = h ∙ sym g
one_least y z (Significant min max) m n some other same h g =
    h.2 ∙ ap (λ (p : ℤ). or_zero (pos min -ℤ p -ℤ pos 1)) (one_place z h.0 g.0 other (place_same y z h.0 some other same h.1) g.1) ∙ sym g.2

-- a decimal is rounded to one amount
one_amount : (x y z : Amount) (digits : Digits) → 0 < x.under → RoundsTo x digits y → RoundsTo x digits z → IsSame y z
one_amount x y z digits some h g =
    let unit = one_unit x digits g.unit h.unit some g.is_unit h.is_unit in
    let N : ℤ → Type 0 = λ u. IsNearest (x.over * (ten_to u).under) ((ten_to u).over * x.under) g.count in
    let room = mul-pos {m = (ten_to h.unit).over} {n = x.under} (some_tenth h.unit) some in
    let count = one_nearest (x.over * (ten_to h.unit).under) ((ten_to h.unit).over * x.under) g.count h.count room (subst N unit g.nearest) h.nearest in
    let P : ℤ → Type 0 = λ u. IsSame z (times g.count (ten_to u)) in
    let C : ℕ → Type 0 = λ n. IsSame z (times n (ten_to h.unit)) in
    same_as_both y z (times h.count (ten_to h.unit)) (some_power h.unit) h.multiple (subst C count (subst P unit g.multiple))

-- one amount has one shortest form that shows it
no_longer : (y z : Shown) (m n : ℕ) → m ≡ n → IsSame (shown_amount y) (shown_amount z) → IsShortest y m → IsShortest z n → y.fraction_len ≤ z.fraction_len
no_longer y z m n least same h g =
    let enough = g.enough in
    h.fewest z.fraction_len (omega arith) (record { digits = (shown_amount z).over; same = sym same })

one_form : (y z : Shown) → IsSame (shown_amount y) (shown_amount z) → y.fraction_len ≡ z.fraction_len → (y.whole ≡ z.whole) × (y.fraction ≡ z.fraction)
one_form y z same len =
    let P : ℕ → Type 0 = λ k. y.whole * 10 ^ k + y.fraction ≡ z.whole * 10 ^ z.fraction_len + z.fraction in
    let Q : ℕ → Type 0 = λ k. y.fraction < 10 ^ k in
    let R : ℕ → Type 0 = λ k. (shown_amount y).over * 10 ^ z.fraction_len ≡ (shown_amount z).over * 10 ^ k in
    let over = eq_of_mul-eq-mul_right (10 ^ z.fraction_len) (ten_pos z.fraction_len) (shown_amount y).over (shown_amount z).over (subst R len same) in
    same_from_place y.whole y.fraction z.whole z.fraction (10 ^ z.fraction_len) (subst Q len y.within) z.within (subst P len over)

-- equal facts on equal fields
pub bool_same : (a b : Bool) → (IsTrue a → IsTrue b) → (IsTrue b → IsTrue a) → a ≡ b
bool_same true true f g = refl
bool_same true false f g = absurd (false≢true (f refl))
bool_same false true f g = absurd (false≢true (g refl))
bool_same false false f g = refl

-- a value is its fields
shown_of : (n : Bool) (w f l : ℕ) → f < 10 ^ l → l ≤ 56 → (IsTrue n → 0 < w + f) → Shown
shown_of n w f l within near unsigned = record { negative = n; whole = w; fraction = f; fraction_len = l; within = within; near = near; unsigned_zero = unsigned }

same_facts : (n : Bool) (w f l : ℕ) (a a' : f < 10 ^ l) (b b' : l ≤ 56) (c c' : IsTrue n → 0 < w + f) → shown_of n w f l a b c ≡ shown_of n w f l a' b' c'
unfolding shown_of
same_facts n w f l a a' b b' c c' =
    let first : a ≡ a' = le_prop a a' in
    let second : b ≡ b' = le_prop b b' in
    let third : c ≡ c' = λ i t. le_prop (c t) (c' t) i in
    ap (λ (x : f < 10 ^ l). shown_of n w f l x b c) first ∙ ap (λ (x : l ≤ 56). shown_of n w f l a' x c) second ∙ ap (λ (x : IsTrue n → 0 < w + f). shown_of n w f l a' b' x) third

same_shown_fields : (n : Bool) (w f l : ℕ) (a : f < 10 ^ l) (b : l ≤ 56) (c : IsTrue n → 0 < w + f) (n' : Bool) (w' f' l' : ℕ) → n ≡ n' → w ≡ w' → f ≡ f' → l ≡ l' → (a' : f' < 10 ^ l') (b' : l' ≤ 56) (c' : IsTrue n' → 0 < w' + f') → shown_of n w f l a b c ≡ shown_of n' w' f' l' a' b' c'
same_shown_fields n w f l a b c n' w' f' l' p q r s =
    let N : Bool → Type 0 = λ m. (a' : f' < 10 ^ l') (b' : l' ≤ 56) (c' : IsTrue m → 0 < w' + f') → shown_of n w f l a b c ≡ shown_of m w' f' l' a' b' c' in
    let W : ℕ → Type 0 = λ v. (a' : f' < 10 ^ l') (b' : l' ≤ 56) (c' : IsTrue n → 0 < v + f') → shown_of n w f l a b c ≡ shown_of n v f' l' a' b' c' in
    let F : ℕ → Type 0 = λ g. (a' : g < 10 ^ l') (b' : l' ≤ 56) (c' : IsTrue n → 0 < w + g) → shown_of n w f l a b c ≡ shown_of n w g l' a' b' c' in
    let L : ℕ → Type 0 = λ k. (a' : f < 10 ^ k) (b' : k ≤ 56) (c' : IsTrue n → 0 < w + f) → shown_of n w f l a b c ≡ shown_of n w f k a' b' c' in
    subst N p (subst W q (subst F r (subst L s (λ a' b' c'. same_facts n w f l a a' b b' c c'))))

shown_same : (y z : Shown) → y.negative ≡ z.negative → y.whole ≡ z.whole → y.fraction ≡ z.fraction → y.fraction_len ≡ z.fraction_len → y ≡ z
unfolding shown_of
shown_same y z p q r s =
    same_shown_fields y.negative y.whole y.fraction y.fraction_len y.within y.near y.unsigned_zero z.negative z.whole z.fraction z.fraction_len p q r s z.within z.near z.unsigned_zero

over_same : (y z : Shown) → y.whole ≡ z.whole → y.fraction ≡ z.fraction → y.fraction_len ≡ z.fraction_len → (shown_amount y).over ≡ (shown_amount z).over
over_same y z q r s =
    ap (λ (w : ℕ). w * 10 ^ y.fraction_len + y.fraction) q ∙ ap (λ (f : ℕ). z.whole * 10 ^ y.fraction_len + f) r ∙ ap (λ (l : ℕ). z.whole * 10 ^ l + z.fraction) s

pub rounds_to_one : (x : Decimal) (digits : Digits) (y z : Shown) → Rounds x digits y → Rounds x digits z → y ≡ z
rounds_to_one x digits y z h g =
    let some = ten_pos x.scale in
    let some_y = ten_pos y.fraction_len in
    let some_z = ten_pos z.fraction_len in
    let same = one_amount (amount x) (shown_amount y) (shown_amount z) digits some h.rounded g.rounded in
    let least = one_least (shown_amount y) (shown_amount z) digits h.least g.least some_y some_z same h.is_least g.is_least in
    let longer = no_longer y z h.least g.least least same h.shortest g.shortest in
    let shorter = no_longer z y g.least h.least (sym least) (sym same) g.shortest h.shortest in
    let len : y.fraction_len ≡ z.fraction_len = omega arith in
    let form = one_form y z same len in
    let over = over_same y z form.0 form.1 len in
    let P : ℕ → Type 0 = λ o. 0 < o in
    let sign = bool_same y.negative z.negative
    (λ t. let s = h.sign.0 t in g.sign.1 (s.0, subst P over s.1))
    (λ t. let s = g.sign.0 t in h.sign.1 (s.0, subst P (sym over) s.1)) in
    shown_same y z sign form.0 form.1 len

decimal_of : (n : Bool) (c s : ℕ) → c < 10 ^ 36 → s ≤ 36 → (0 < s → 0 < c % 10) → (IsTrue n → 0 < c) → Decimal
decimal_of n c s short near plain unsigned = record { negative = n; coefficient = c; scale = s; short = short; near = near; plain = plain; unsigned_zero = unsigned }

decimal_facts : (n : Bool) (c s : ℕ) (a a' : c < 10 ^ 36) (b b' : s ≤ 36) (p p' : 0 < s → 0 < c % 10) (u u' : IsTrue n → 0 < c) → decimal_of n c s a b p u ≡ decimal_of n c s a' b' p' u'
unfolding decimal_of
decimal_facts n c s a a' b b' p p' u u' =
    let first : a ≡ a' = le_prop a a' in
    let second : b ≡ b' = le_prop b b' in
    let third : p ≡ p' = λ i t. le_prop (p t) (p' t) i in
    let fourth : u ≡ u' = λ i t. le_prop (u t) (u' t) i in
    ap (λ (x : c < 10 ^ 36). decimal_of n c s x b p u) first ∙ ap (λ (x : s ≤ 36). decimal_of n c s a' x p u) second
    ∙ ap (λ (x : 0 < s → 0 < c % 10). decimal_of n c s a' b' x u) third ∙ ap (λ (x : IsTrue n → 0 < c). decimal_of n c s a' b' p' x) fourth

decimal_fields : (n : Bool) (c s : ℕ) (a : c < 10 ^ 36) (b : s ≤ 36) (p : 0 < s → 0 < c % 10) (u : IsTrue n → 0 < c) (n' : Bool) (c' s' : ℕ) → n ≡ n' → c ≡ c' → s ≡ s' → (a' : c' < 10 ^ 36) (b' : s' ≤ 36) (p' : 0 < s' → 0 < c' % 10) (u' : IsTrue n' → 0 < c') → decimal_of n c s a b p u ≡ decimal_of n' c' s' a' b' p' u'
decimal_fields n c s a b p u n' c' s' e f g =
    let N : Bool → Type 0 = λ m. (a' : c' < 10 ^ 36) (b' : s' ≤ 36) (p' : 0 < s' → 0 < c' % 10) (u' : IsTrue m → 0 < c') → decimal_of n c s a b p u ≡ decimal_of m c' s' a' b' p' u' in
    let C : ℕ → Type 0 = λ d. (a' : d < 10 ^ 36) (b' : s' ≤ 36) (p' : 0 < s' → 0 < d % 10) (u' : IsTrue n → 0 < d) → decimal_of n c s a b p u ≡ decimal_of n d s' a' b' p' u' in
    let S : ℕ → Type 0 = λ t. (a' : c < 10 ^ 36) (b' : t ≤ 36) (p' : 0 < t → 0 < c % 10) (u' : IsTrue n → 0 < c) → decimal_of n c s a b p u ≡ decimal_of n c t a' b' p' u' in
    subst N e (subst C f (subst S g (λ a' b' p' u'. decimal_facts n c s a a' b b' p p' u u')))

pub decimal_same : (x y : Decimal) → x.negative ≡ y.negative → x.coefficient ≡ y.coefficient → x.scale ≡ y.scale → x ≡ y
unfolding decimal_of
decimal_same x y e f g =
    decimal_fields x.negative x.coefficient x.scale x.short x.near x.plain x.unsigned_zero y.negative y.coefficient y.scale e f g y.short y.near y.plain y.unsigned_zero

pub has_one_decimal : (text : List ℕ) (x y : Decimal) → DecimalOf text x → DecimalOf text y → x ≡ y
has_one_decimal text x y h g =
    let literal = same_literal text g.number h.number g.spelled h.spelled in
    let P : Literal → Type 0 = λ n. IsSame (amount y) (literal_amount n) in
    let same = same_as_both (amount x) (amount y) (literal_amount h.number) (some_under h.number) h.value.same (subst P literal g.value.same) in
    let plain = same_plain x.coefficient x.scale y.coefficient y.scale same x.plain y.plain in
    let C : ℕ → Type 0 = λ c. 0 < c in
    let M : Literal → Type 0 = λ n. IsTrue n.minus in
    let sign = bool_same x.negative y.negative
    (λ t. let s = h.value.sign.0 t in g.value.sign.1 (subst M (sym literal) s.0, subst C plain.0 s.1))
    (λ t. let s = g.value.sign.0 t in h.value.sign.1 (subst M literal s.0, subst C (sym plain.0) s.1)) in
    decimal_same x y sign plain.0 plain.1

pub is_not_both : (text : List ℕ) (x : Decimal) → DecimalOf text x → ¬ IsTooWide text
is_not_both text x h = not_both text h.number x h.spelled h.value
