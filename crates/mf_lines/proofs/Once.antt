-- An input is cut in one way.
use Rattle.std.proofs.Common.{◌≡◌, ℕ, zero, suc, ◌+◌, ◌≤◌, ◌⊎◌, inl, inr, true, false, List, [], ◌∷◌, ◌++◌, length, take, refl, ap, sym, subst, ◌∙◌, arith, add-one}
use Rattle.mf_wire.specs.Lines.{line_feed}
use Rattle.mf_lines.specs.Cut.{IsCut, IsLine, IsOneLine, IsTooLong}
use Rattle.mf_lines.specs.Fronts.{HasNoShortLine}
use Rattle.mf_lines.specs.Served.{written}
use Rattle.mf_lines.proofs.Cuts.{written-front}
use Rattle.mf_lines.proofs.Feeds.{is_feed, one_line-first, one_line-others, one_line-take}

first_same : {one other : ℕ} {some more : List ℕ} → one ∷ some ≡ other ∷ more → one ≡ other
first_same same = cc

others_same : {one other : ℕ} {some more : List ℕ} → one ∷ some ≡ other ∷ more → some ≡ more
others_same same = cc

is_no_feed : (byte : ℕ) → byte ≡ line_feed → is_feed byte ≡ false → ⊥
is_no_feed byte feed none = let same : is_feed byte ≡ true = ap is_feed feed in cc

-- two lines with their line feeds at the front of the same bytes are the same
line_once : (line other rest more : List ℕ) → IsOneLine line → IsOneLine other → line ++ line_feed ∷ rest ≡ other ++ line_feed ∷ more
    → (line ≡ other) × (rest ≡ more)
line_once [] [] rest more one two same = (refl, others_same same)
line_once [] (byte ∷ other) rest more one two same = absurd (is_no_feed byte (sym (first_same same)) (one_line-first byte other two))
line_once (byte ∷ line) [] rest more one two same = absurd (is_no_feed byte (first_same same) (one_line-first byte line one))
line_once (byte ∷ line) (next ∷ other) rest more one two same =
    let further = line_once line other rest more (one_line-others byte line one) (one_line-others next other two) (others_same same) in
    (ap (λ b. b ∷ line) (first_same same) ∙ ap (λ bytes. next ∷ bytes) further.0, further.1)

-- the first bytes hold the line feed of a line that is short enough
feed_seen : (line rest : List ℕ) (most : ℕ) → length line ≤ most → IsOneLine (take (suc most) (line ++ line_feed ∷ rest)) → ⊥
feed_seen [] rest most short one = let so : true ≡ false = one in cc
feed_seen (byte ∷ line) rest zero short one = absurd (omega arith)
feed_seen (byte ∷ line) rest (suc most) short one =
    feed_seen line rest most (omega arith) (one_line-others byte (take (suc most) (line ++ line_feed ∷ rest)) one)

no_line_more : (most : ℕ) (input rest line : List ℕ) (lines : List (List ℕ)) → HasNoShortLine most input → IsCut most input (line ∷ lines) rest → ⊥
no_line_more most input rest line lines none cut =
    feed_seen line (written lines ++ rest) most cut.each.0.short
    (subst (λ n. IsOneLine (take n (line ++ line_feed ∷ (written lines ++ rest)))) (add-one most)
    (subst (HasNoShortLine most) (cut.whole ∙ written-front line lines rest) none))

-- what follows the lines of a cut holds no further line that is short enough
pub none_follows : (most : ℕ) (rest : List ℕ) → IsLine most rest ⊎ IsTooLong most rest → HasNoShortLine most rest
none_follows most rest (inl line) = one_line-take (most + 1) rest line.one
none_follows most rest (inr long) = long.one

cut_once : (most : ℕ) (input rest other : List ℕ) (lines others : List (List ℕ)) → IsCut most input lines rest → HasNoShortLine most rest
    → IsCut most input others other → HasNoShortLine most other → (lines ≡ others) × (rest ≡ other)
cut_once most input rest other [] [] one none two last = (refl, sym one.whole ∙ two.whole)
cut_once most input rest other [] (line ∷ others) one none two last =
    absurd (no_line_more most input other line others (subst (HasNoShortLine most) (sym one.whole) none) two)
cut_once most input rest other (line ∷ lines) [] one none two last =
    absurd (no_line_more most input rest line lines (subst (HasNoShortLine most) (sym two.whole) last) one)
cut_once most input rest other (line ∷ lines) (next ∷ others) one none two last =
    let first = line_once line next (written lines ++ rest) (written others ++ other) one.each.0.one two.each.0.one
    (sym (written-front line lines rest) ∙ sym one.whole ∙ two.whole ∙ written-front next others other) in
    let further = cut_once most (written lines ++ rest) rest other lines others (record { whole = refl; each = one.each.1 }) none
    (record { whole = first.1; each = two.each.1 }) last in
    (ap (λ l. l ∷ lines) first.0 ∙ ap (λ ls. next ∷ ls) further.0, further.1)

pub cuts_once : (most : ℕ) (input rest other : List ℕ) (lines others : List (List ℕ)) → IsCut most input lines rest → IsLine most rest ⊎ IsTooLong most rest
    → IsCut most input others other → IsLine most other ⊎ IsTooLong most other → (lines ≡ others) × (rest ≡ other)
cuts_once most input rest other lines others one ends two stops =
    cut_once most input rest other lines others one (none_follows most rest ends) two (none_follows most other stops)
