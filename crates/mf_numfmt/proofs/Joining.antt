-- The parts of the text, one after the other.
use Rattle.std.proofs.Common.{◌≡◌, ℕ, max, Bool, List, [], ◌++◌, encode_utf8_all, append_assoc, refl, sym, ap, ◌∙◌}
use Rattle.std.proofs.lemmas.Str.{encodes-append}
use Rattle.mf_numfmt.specs.declared.layout.Layout.{Layout}
use Rattle.mf_numfmt.specs.declared.options.Grouping.{Grouping}
use Rattle.mf_numfmt.specs.Groups.{is_grouped}
use Rattle.mf_numfmt.specs.NumberText.{digit_count, places_text, whole_text}

pub joined : (b0 b1 b2 b3 s x y z places : List ℕ) → b0 ≡ [] → b1 ≡ b0 ++ s → s ≡ encode_utf8_all x
    → b2 ≡ b1 ++ encode_utf8_all places → places ≡ y → b3 ≡ b2 ++ encode_utf8_all z → b3 ≡ encode_utf8_all (x ++ (y ++ z))
joined b0 b1 b2 b3 s x y z places none first sign second is third =
    third
    ∙ ap (λ (b : List ℕ). b ++ encode_utf8_all z)
    (second
    ∙ ap (λ (b : List ℕ). b ++ encode_utf8_all places) (first ∙ ap (λ (b : List ℕ). b ++ s) none ∙ sign)
    ∙ ap (λ (b : List ℕ). encode_utf8_all x ++ encode_utf8_all b) is)
    ∙ append_assoc (encode_utf8_all x) (encode_utf8_all y) (encode_utf8_all z)
    ∙ ap (λ (b : List ℕ). encode_utf8_all x ++ b) (sym (encodes-append y z))
    ∙ sym (encodes-append x (y ++ z))

pub whole_is : (layout : Layout) (grouping : Grouping) (n count min_whole digits : ℕ) (grouped : Bool) (whole : ℕ) → n ≡ whole
    → count ≡ digit_count n → digits ≡ max count min_whole → grouped ≡ is_grouped layout grouping digits
    → places_text layout grouped n digits ≡ whole_text layout grouping min_whole whole
whole_is layout grouping n count min_whole digits grouped whole same counted filled is =
    let all : digits ≡ max (digit_count whole) min_whole =
    filled ∙ ap (λ (k : ℕ). max k min_whole) (counted ∙ ap digit_count same) in
    rw (is, all, same) refl
