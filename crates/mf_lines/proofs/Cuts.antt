-- Whole lines at the front of some bytes, and what follows them.
use Rattle.std.proofs.Common.{◌≡◌, ◌≢◌, ℕ, ◌+◌, ◌<◌, ◌≤◌, cond, List, [], ◌∷◌, ◌++◌, length, refl, ap, sym, subst, ◌∙◌, arith, append_assoc}
use Rattle.std.proofs.lemmas.List.{take_all}
use Rattle.std.proofs.lemmas.List.Concat.{flat_map-append}
use Rattle.std.specs.List.{AllByRecursion}
use Rattle.mf_wire.specs.Lines.{line_feed, lines_of, onto_first}
use Rattle.mf_lines.specs.Cut.{IsCut, IsLine, IsOneLine, IsTooLong}
use Rattle.mf_lines.specs.Fronts.{HasNoShortLine}
use Rattle.mf_lines.specs.Served.{ended, written}
use Rattle.mf_lines.proofs.Feeds.{one_line-first, one_line-others}

pub written-append : (lines more : List (List ℕ)) → written (lines ++ more) ≡ written lines ++ written more
written-append lines more = flat_map-append ended lines more

-- a line with its line feed, in front of more
pub ended-front : (line rest : List ℕ) → ended line ++ rest ≡ line ++ line_feed ∷ rest
ended-front line rest = append_assoc line (line_feed ∷ []) rest

pub written-front : (line : List ℕ) (lines : List (List ℕ)) (rest : List ℕ) → written (line ∷ lines) ++ rest ≡ line ++ line_feed ∷ (written lines ++ rest)
written-front line lines rest = append_assoc (ended line) (written lines) rest ∙ ended-front line (written lines ++ rest)

pub all-append : {A : Type 0} (P : A → Type 0) (some more : List A) → AllByRecursion P some → AllByRecursion P more → AllByRecursion P (some ++ more)
all-append P [] more these those = those
all-append P (one ∷ some) more these those = (these.0, all-append P some more these.1 those)

-- ---- a cut as it grows

pub cut-none : (most : ℕ) (bytes : List ℕ) → IsCut most bytes [] bytes
cut-none most bytes = record { whole = refl; each = tt }

pub cut-grown : (most : ℕ) (input rest part : List ℕ) (lines : List (List ℕ)) → IsCut most input lines rest → IsCut most (input ++ part) lines (rest ++ part)
cut-grown most input rest part lines cut = record {
  whole = ap (λ bytes. bytes ++ part) cut.whole ∙ append_assoc (written lines) rest part;
  each = cut.each;
}

pub cut-more : (most : ℕ) (input between rest : List ℕ) (lines more : List (List ℕ)) → IsCut most input lines between → IsCut most between more rest
    → IsCut most input (lines ++ more) rest
cut-more most input between rest lines more one two = record {
  whole = one.whole ∙ ap (λ bytes. written lines ++ bytes) two.whole ∙ sym (append_assoc (written lines) (written more) rest)
      ∙ ap (λ bytes. bytes ++ rest) (sym (written-append lines more));
  each = all-append (IsLine most) lines more one.each two.each;
}

-- ---- what follows the lines

pub rest_line : (most : ℕ) (rest : List ℕ) → HasNoShortLine most rest → length rest ≤ most → IsLine most rest
rest_line most rest none short = record { short = short; one = subst IsOneLine (take_all (most + 1) rest (omega arith)) none }

pub rest_too_long : (most : ℕ) (rest : List ℕ) → HasNoShortLine most rest → most < length rest → IsTooLong most rest
rest_too_long most rest none long = record { long = long; one = none }

-- ---- the lines of an input that is cut

lines_of-ended : (line rest : List ℕ) → IsOneLine line → lines_of (line ++ line_feed ∷ rest) ≡ line ∷ lines_of rest
lines_of-ended [] rest one = refl
lines_of-ended (byte ∷ line) rest one =
    let more = line ++ line_feed ∷ rest in
    ap (λ b. cond b ([] ∷ lines_of more) (onto_first byte (lines_of more))) (one_line-first byte line one)
    ∙ ap (onto_first byte) (lines_of-ended line rest (one_line-others byte line one))

lines_of-written : (most : ℕ) (lines : List (List ℕ)) (rest : List ℕ) → AllByRecursion (IsLine most) lines → lines_of (written lines ++ rest) ≡ lines ++ lines_of rest
lines_of-written most [] rest each = refl
lines_of-written most (line ∷ lines) rest each =
    ap lines_of (written-front line lines rest) ∙ lines_of-ended line (written lines ++ rest) each.0.one
    ∙ ap (λ more. line ∷ more) (lines_of-written most lines rest each.1)

pub lines_of-cut : (most : ℕ) (input rest : List ℕ) (lines : List (List ℕ)) → IsCut most input lines rest → lines_of input ≡ lines ++ lines_of rest
lines_of-cut most input rest lines cut = ap lines_of cut.whole ∙ lines_of-written most lines rest cut.each

pub lines_of-one : (bytes : List ℕ) → IsOneLine bytes → bytes ≢ [] → lines_of bytes ≡ bytes ∷ []
lines_of-one [] one some = absurd (some refl)
lines_of-one (byte ∷ []) one some = ap (λ b. cond b ([] ∷ []) (onto_first byte [])) (one_line-first byte [] one)
lines_of-one (byte ∷ next ∷ bytes) one some =
    ap (λ b. cond b ([] ∷ lines_of (next ∷ bytes)) (onto_first byte (lines_of (next ∷ bytes)))) (one_line-first byte (next ∷ bytes) one)
    ∙ ap (onto_first byte) (lines_of-one (next ∷ bytes) (one_line-others byte (next ∷ bytes) one) (λ e. cc))

-- each line of the rest is one of at most so many bytes
pub rest_each : (most : ℕ) (rest : List ℕ) → IsLine most rest → AllByRecursion (IsLine most) (lines_of rest)
rest_each most [] line = tt
rest_each most (byte ∷ bytes) line =
    subst (AllByRecursion (IsLine most)) (sym (lines_of-one (byte ∷ bytes) line.one (λ e. cc))) (line, tt)
