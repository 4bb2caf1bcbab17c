-- Whole digits, group by group.
use Rattle.std.proofs.Common.{◌≡◌, ◌≢◌, ℕ, zero, suc, ◌+◌, ◌-◌, ◌*◌, ◌/◌, ◌%◌, ◌<◌, ◌≤◌, Bool, true, false, List, [], ◌∷◌, ◌++◌, encode_utf8_all, append_assoc, add-zero, refl, sym, ap, ◌∙◌, arith}
use Rattle.std.specs.Prelude.{◌==◌, ◌&&◌, nat_le, if◌then◌else◌}
use Rattle.std.proofs.Math.Nat.{mul-mod_left, div-add-mod', lt-div-mul-add, div-eq_of_lt-le, add-mul}
use Rattle.std.proofs.lemmas.Bool.{le-leb, lt-leb}
use Rattle.std.proofs.lemmas.Bool.Decides.{nat_tests}
use Rattle.std.proofs.lemmas.Str.{encodes-append}
use Rattle.mf_numfmt.specs.declared.layout.Layout.{Layout}
use Rattle.mf_numfmt.specs.NumberText.{digit_at, digit_character, separator, places_text, fraction_text}
use Rattle.mf_numfmt.specs.Spans.{span_text, group_text}
use Rattle.mf_numfmt.proofs.Sizes.{size_some}

-- what is written, with what is left to write, stays the same when the front of what is left is written
pub written_more : (now after front back left all : List ℕ) → after ≡ now ++ encode_utf8_all front → left ≡ front ++ back
    → now ++ encode_utf8_all left ≡ all → after ++ encode_utf8_all back ≡ all
written_more now after front back left all e split so_far =
    ap (λ (bytes : List ℕ). bytes ++ encode_utf8_all back) e
    ∙ append_assoc now (encode_utf8_all front) (encode_utf8_all back)
    ∙ ap (λ (bytes : List ℕ). now ++ bytes) (sym (encodes-append front back) ∙ ap encode_utf8_all (sym split))
    ∙ so_far

-- two pieces, one after the other
pub written_both : (b0 b1 b2 front back piece all : List ℕ) → b1 ≡ b0 ++ encode_utf8_all front → b2 ≡ b1 ++ piece
    → piece ≡ encode_utf8_all back → all ≡ front ++ back → b2 ≡ b0 ++ encode_utf8_all all
written_both b0 b1 b2 front back piece all first second bytes split =
    second
    ∙ ap (λ (b : List ℕ). b ++ piece) first
    ∙ append_assoc b0 (encode_utf8_all front) piece
    ∙ ap (λ (b : List ℕ). b0 ++ b) (ap (λ (b : List ℕ). encode_utf8_all front ++ b) bytes ∙ sym (encodes-append front back) ∙ ap encode_utf8_all (sym split))

-- one digit of a span
pub span_more : (n from at next d : ℕ) → from < at → next ≡ at - 1 → d ≡ digit_at n next
    → span_text n from (at - from) ≡ (digit_character d ∷ []) ++ span_text n from (next - from)
span_more n from at next d some e digit =
    let k : ℕ = next - from in
    let left : at - from ≡ suc k = omega arith in
    let place : next ≡ from + k = omega arith in
    ap (span_text n from) left
    ∙ ap (λ (p : ℕ). digit_character (digit_at n p) ∷ span_text n from k) (sym place)
    ∙ ap (λ (x : ℕ). digit_character x ∷ span_text n from k) (sym digit)

-- no separator stands to the right of the last digit
none_at_point : (layout : Layout) (grouped : Bool) → separator layout grouped 0 ≡ []
none_at_point layout true = rw (lt-leb layout.primary 0 (size_some layout.primary layout.primary_fits)) refl
none_at_point layout false = refl

-- a span in which no separator stands but to the right of its last digit
spans : (layout : Layout) (grouped : Bool) (n end k : ℕ) → ((j : ℕ) → end < j → j ≤ end + k → separator layout grouped j ≡ [])
    → places_text layout grouped n (suc (end + k)) ≡ span_text n end (suc k) ++ (separator layout grouped end ++ places_text layout grouped n end)
spans layout grouped n end zero none =
    ap (λ (e : ℕ). digit_character (digit_at n (end + 0)) ∷ (separator layout grouped e ++ places_text layout grouped n e)) (add-zero end)
spans layout grouped n end (suc k) none =
    let next : end + suc k ≡ suc (end + k) = omega arith in
    ap (λ (rest : List ℕ). digit_character (digit_at n (end + suc k)) ∷ rest)
    (ap (λ (s : List ℕ). s ++ places_text layout grouped n (end + suc k)) (none (end + suc k) (omega arith) (omega arith))
    ∙ ap (places_text layout grouped n) next
    ∙ spans layout grouped n end k (λ j above below. none j above (omega arith)))

pub some_test : (k : ℕ) → 0 < k → (k == 0) ≡ false
some_test k some = grind (arith, nat_tests)

pub some_end : (group : List ℕ) (end : ℕ) → 0 < end → group ≡ (if end == 0 then [] else group)
some_end group end some = rw (some_test end some) refl

-- what stands to the right of the last digit of a group
at_end : (layout : Layout) (grouped : Bool) (end : ℕ) → (0 < end → separator layout grouped end ≡ layout.group)
    → separator layout grouped end ≡ (if end == 0 then [] else layout.group)
at_end layout grouped zero ends = none_at_point layout grouped
at_end layout grouped (suc k) ends = ends (omega arith) ∙ some_end layout.group (suc k) (omega arith)

pub places_by_group : (layout : Layout) (grouped : Bool) (n place end : ℕ) → end < place
    → (0 < end → separator layout grouped end ≡ layout.group)
    → ((j : ℕ) → end < j → j < place → separator layout grouped j ≡ [])
    → places_text layout grouped n place ≡ group_text layout n place end ++ places_text layout grouped n end
places_by_group layout grouped n place end below ends none =
    let k : ℕ = place - end - 1 in
    let left : place - end ≡ suc k = omega arith in
    let above : place ≡ suc (end + k) = omega arith in
    ap (places_text layout grouped n) above
    ∙ spans layout grouped n end k (λ j from to. none j from (omega arith))
    ∙ ap (λ (s : List ℕ). span_text n end (suc k) ++ (s ++ places_text layout grouped n end)) (at_end layout grouped end ends)
    ∙ sym (append_assoc (span_text n end (suc k)) (if end == 0 then [] else layout.group) (places_text layout grouped n end))
    ∙ ap (λ (len : ℕ). (span_text n end len ++ (if end == 0 then [] else layout.group)) ++ places_text layout grouped n end) (sym left)

-- the fraction is one span
pub fraction_span : (layout : Layout) (n count : ℕ) → places_text layout false n count ≡ span_text n 0 count
fraction_span layout n zero = refl
fraction_span layout n (suc k) =
    let place : 0 + k ≡ k = omega arith in
    ap (λ (rest : List ℕ). digit_character (digit_at n k) ∷ rest) (fraction_span layout n k)
    ∙ ap (λ (p : ℕ). digit_character (digit_at n p) ∷ span_text n 0 k) (sym place)

-- the decimal symbol and the fraction, where it has digits
pub fraction_parts : (layout : Layout) (n number len : ℕ) → 0 < len → number ≡ n
    → fraction_text layout len n ≡ layout.decimal ++ span_text number 0 (len - 0)
fraction_parts layout n number len some same =
    let all : len - 0 ≡ len = omega arith in
    sym (some_end (layout.decimal ++ places_text layout false n len) len some)
    ∙ ap (λ (s : List ℕ). layout.decimal ++ s) (fraction_span layout n len ∙ ap (span_text n 0) (sym all) ∙ ap (λ (m : ℕ). span_text m 0 (len - 0)) (sym same))

-- the end of a group of the secondary size
pub ends_group : (layout : Layout) (grouped : Bool) (q : ℕ) → grouped ≡ true
    → separator layout grouped (layout.primary + q * layout.secondary) ≡ layout.group
ends_group layout grouped q on =
    let p = layout.primary in
    let s = layout.secondary in
    let past : p + q * s - p ≡ q * s = omega arith in
    rw (on, le-leb p (p + q * s) (omega arith), past, mul-mod_left q s) refl

-- no multiple of s is above the one that is nearest below q, and at most q
between : (q s m : ℕ) → 1 ≤ s → q / s * s < m → m ≤ q → m % s ≢ 0
between q s m some above below even =
    let k : ℕ = q / s in
    let next : q < (k + 1) * s = omega (arith, lt-div-mul-add {a = q} {b = s} some, add-mul k 1 s) in
    let same : m / s ≡ k = div-eq_of_lt-le {k = k} s (omega arith) (omega arith) in
    let split : m / s * s + m % s ≡ m = div-add-mod' m s in
    let at : k * s + m % s ≡ m = rw same at split in
    omega arith

not_separated : (p s k : ℕ) → p ≤ k → (k - p) % s ≢ 0 → (nat_le p k && ((k - p) % s == 0)) ≡ false
not_separated p s k le rest = grind (arith, nat_tests)

pub within_group : (layout : Layout) (grouped : Bool) (place k : ℕ) → layout.primary < place
    → layout.primary + (place - 1 - layout.primary) / layout.secondary * layout.secondary < k → k < place
    → separator layout grouped k ≡ []
within_group layout false place k more above below = refl
within_group layout true place k more above below =
    let p = layout.primary in
    let s = layout.secondary in
    let rest : (k - p) % s ≢ 0 = between (place - 1 - p) s (k - p) (size_some s layout.secondary_fits) (omega arith) (omega arith) in
    rw (not_separated p s k (omega arith) rest) refl
