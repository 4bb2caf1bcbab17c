-- The length of the text.
use Rattle.std.proofs.Common.{◌≡◌, ℕ, zero, suc, ◌+◌, ◌-◌, ◌*◌, ◌/◌, ◌%◌, ◌^◌, ◌<◌, ◌≤◌, Bool, true, false, ◌⊎◌, inl, inr, List, [], ◌∷◌, ◌++◌, length, encode_utf8_all, refl, sym, ap, ◌∙◌, ⊎_elim, arith, length-append}
use Rattle.std.specs.Prelude.{◌==◌, ◌&&◌, if◌then◌else◌}
use Rattle.std.specs.Int.{div_ceil}
use Rattle.std.proofs.Math.Nat.{div-add-mod', add-mul, div-eq_of_lt, mod-eq_of_lt}
use Rattle.std.proofs.lemmas.Bool.{le-leb, lt-leb, cases_lt}
use Rattle.std.proofs.lemmas.Nat.{mod_below, div-mul-add, mod-mul-add}
use Rattle.std.proofs.lemmas.Str.{encodes-append, encode_ascii}
use Rattle.mf_numfmt.specs.declared.layout.Layout.{Layout}
use Rattle.mf_numfmt.specs.Groups.{separates}
use Rattle.mf_numfmt.specs.NumberText.{digit_at, digit_character, separator, places_text, fraction_text}
use Rattle.mf_numfmt.proofs.Grouped.{some_test, some_end}
use Rattle.mf_numfmt.proofs.Sizes.{size_some}

-- one where the test holds
abbrev one : Bool → ℕ
one test = if test then 1 else 0

-- the separators that stand between so many digits
abbrev separators : Layout → Bool → ℕ → ℕ
separators layout grouped zero = 0
separators layout grouped (suc place) = one (grouped && separates layout place) + separators layout grouped place

-- one digit is one byte
digit_length : (d : ℕ) (rest : List ℕ) → d < 10 → length (encode_utf8_all (digit_character d ∷ rest)) ≡ 1 + length (encode_utf8_all rest)
digit_length d rest small = ap (λ (bytes : List ℕ). length (bytes ++ encode_utf8_all rest)) (encode_ascii (48 + d) (omega arith)) ∙ omega arith

some_length : (test : Bool) (group rest : List ℕ)
    → length (encode_utf8_all ((if test then group else []) ++ rest)) ≡ one test * length (encode_utf8_all group) + length (encode_utf8_all rest)
some_length true group rest = omega (arith, ap length (encodes-append group rest), length-append (encode_utf8_all group) (encode_utf8_all rest))
some_length false group rest = omega arith

places_length : (layout : Layout) (grouped : Bool) (n count : ℕ)
    → length (encode_utf8_all (places_text layout grouped n count)) ≡ separators layout grouped count * length (encode_utf8_all layout.group) + count
places_length layout grouped n zero = omega arith
places_length layout grouped n (suc place) =
    let test : Bool = grouped && separates layout place in
    let group = length (encode_utf8_all layout.group) in
    let more = separators layout grouped place in
    digit_length (digit_at n place) (separator layout grouped place ++ places_text layout grouped n place) (mod_below (n / 10 ^ place) 10 (omega arith))
    ∙ omega (arith, some_length test layout.group (places_text layout grouped n place), places_length layout grouped n place, add-mul (one test) more group)

-- one more place, in whole groups of s
next_within : (m s : ℕ) → m % s + 1 < s → ((m + 1) / s ≡ m / s) × ((m + 1) % s ≡ m % s + 1)
next_within m s within =
    let e : m + 1 ≡ m / s * s + (m % s + 1) = omega (arith, div-add-mod' m s) in
    (ap (λ (x : ℕ). x / s) e ∙ div-mul-add (m / s) s (m % s + 1) within, ap (λ (x : ℕ). x % s) e ∙ mod-mul-add (m / s) s (m % s + 1) within)

next_full : (m s : ℕ) → 0 < s → m % s + 1 ≡ s → ((m + 1) / s ≡ m / s + 1) × ((m + 1) % s ≡ 0)
next_full m s some full =
    let e : m + 1 ≡ (m / s + 1) * s + 0 = omega (arith, div-add-mod' m s, add-mul (m / s) 1 s) in
    (ap (λ (x : ℕ). x / s) e ∙ div-mul-add (m / s + 1) s 0 some, ap (λ (x : ℕ). x % s) e ∙ mod-mul-add (m / s + 1) s 0 some)

one_of : (x : ℕ) → ((x ≡ 0) × (one (x == 0) ≡ 1)) ⊎ ((0 < x) × (one (x == 0) ≡ 0))
one_of zero = inl (refl, refl)
one_of (suc k) = inr (omega arith, ap one (some_test (suc k) (omega arith)))

ceil_more : (m s : ℕ) → 0 < s → one (m % s == 0) + div_ceil m s ≡ div_ceil (m + 1) s
ceil_more m s some =
    let short : m % s < s = mod_below m s some in
    let test = one_of (m % s) in
    ⊎_elim
    (λ (within : m % s + 1 < s). omega (arith, next_within m s within, test))
    (λ (full : s ≤ m % s + 1). omega (arith, next_full m s some (omega arith), test))
    (cases_lt (m % s + 1) s)

ceil_none : (m s : ℕ) → m ≡ 0 → 0 < s → div_ceil m s ≡ 0
ceil_none m s none some = omega (arith, div-eq_of_lt {n = m} {m = s} (omega arith), mod-eq_of_lt {n = m} {m = s} (omega arith))

count_grouped : (layout : Layout) (count : ℕ) → separators layout true count ≡ div_ceil (count - layout.primary) layout.secondary
count_grouped layout zero = sym (ceil_none (0 - layout.primary) layout.secondary (omega arith) (size_some layout.secondary layout.secondary_fits))
count_grouped layout (suc place) = ⊎_elim
    (λ (few : place < layout.primary). rw (lt-leb layout.primary place few)
    (omega (
      arith,
      count_grouped layout place,
      ceil_none (place - layout.primary) layout.secondary (omega arith) (size_some layout.secondary layout.secondary_fits),
      ceil_none (suc place - layout.primary) layout.secondary (omega arith) (size_some layout.secondary layout.secondary_fits),
    )))
    (λ (some : layout.primary ≤ place). let before : ℕ = place - layout.primary in rw (le-leb layout.primary place some)
    (ap (λ (k : ℕ). one (before % layout.secondary == 0) + k) (count_grouped layout place)
    ∙ ceil_more before layout.secondary (size_some layout.secondary layout.secondary_fits)
    ∙ ap (λ (m : ℕ). div_ceil m layout.secondary) (omega arith)))
    (cases_lt place layout.primary)

count_none : (layout : Layout) (count : ℕ) → separators layout false count ≡ 0
count_none layout zero = refl
count_none layout (suc place) = omega (arith, count_none layout place)

pub grouped_length : (layout : Layout) (grouped : Bool) (n count k : ℕ) → grouped ≡ true
    → k ≡ div_ceil (count - layout.primary) layout.secondary
    → length (encode_utf8_all (places_text layout grouped n count)) ≡ k * length (encode_utf8_all layout.group) + count
grouped_length layout grouped n count k on is =
    rw on (places_length layout true n count ∙ ap (λ (s : ℕ). s * length (encode_utf8_all layout.group) + count) (count_grouped layout count ∙ sym is))

pub plain_length : (layout : Layout) (grouped : Bool) (n count : ℕ) → grouped ≡ false
    → length (encode_utf8_all (places_text layout grouped n count)) ≡ count
plain_length layout grouped n count off =
    rw off (places_length layout false n count ∙ ap (λ (s : ℕ). s * length (encode_utf8_all layout.group) + count) (count_none layout count) ∙ omega arith)

pub fraction_length : (layout : Layout) (len n : ℕ) → 0 < len
    → length (encode_utf8_all (fraction_text layout len n)) ≡ length (encode_utf8_all layout.decimal) + len
fraction_length layout len n some =
    let places = places_text layout false n len in
    ap (λ (t : List ℕ). length (encode_utf8_all t)) (sym (some_end (layout.decimal ++ places) len some))
    ∙ ap length (encodes-append layout.decimal places)
    ∙ length-append (encode_utf8_all layout.decimal) (encode_utf8_all places)
    ∙ ap (λ (k : ℕ). length (encode_utf8_all layout.decimal) + k) (plain_length layout false n len refl)
