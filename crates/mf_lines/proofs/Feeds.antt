-- Bytes without a line feed, and the place of the first line feed.
use Rattle.std.proofs.Common.{◌≡◌, ℕ, zero, suc, ◌+◌, ◌<◌, ◌≤◌, Bool, true, false, ◌||◌, List, [], ◌∷◌, ◌++◌, length, take, drop, get_or, nat_eq, refl, ap, sym, subst, ◌∙◌, arith, append-nil, append_assoc, take-append-drop, length-drop}
use Rattle.std.proofs.Math.Seq.{take-add}
use Rattle.std.proofs.lemmas.Bool.{eqb-true}
use Rattle.std.proofs.lemmas.List.{drop_more, get_or-drop, length-take-le, take_all, take-take}
use Rattle.std.proofs.lemmas.List.Folds.{list_any-append}
use Rattle.std.specs.List.{list_any}
use Rattle.mf_wire.specs.Lines.{line_feed}
use Rattle.mf_lines.specs.Cut.{IsOneLine}
use Rattle.mf_lines.specs.Fronts.{HasNoShortLine, IsLineEnd}

abbrev pub is_feed : ℕ → Bool
is_feed byte = nat_eq byte line_feed

or_left : (a b : Bool) → (a || b) ≡ false → a ≡ false
or_left true b none = none
or_left false b none = refl

or_right : (a b : Bool) → (a || b) ≡ false → b ≡ false
or_right true b none = absurd (cc)
or_right false b none = none

or_none : (a b : Bool) → a ≡ false → b ≡ false → (a || b) ≡ false
or_none a b left right = ap (λ x. x || b) left ∙ right

not_true : (b : Bool) → (b ≡ true → ⊥) → b ≡ false
not_true true not_so = absurd (not_so refl)
not_true false not_so = refl

-- ---- bytes without a line feed

pub one_line-first : (byte : ℕ) (bytes : List ℕ) → IsOneLine (byte ∷ bytes) → is_feed byte ≡ false
one_line-first byte bytes one = or_left (is_feed byte) (list_any is_feed bytes) one

pub one_line-others : (byte : ℕ) (bytes : List ℕ) → IsOneLine (byte ∷ bytes) → IsOneLine bytes
one_line-others byte bytes one = or_right (is_feed byte) (list_any is_feed bytes) one

pub one_line-cons : (byte : ℕ) (bytes : List ℕ) → is_feed byte ≡ false → IsOneLine bytes → IsOneLine (byte ∷ bytes)
one_line-cons byte bytes first others = or_none (is_feed byte) (list_any is_feed bytes) first others

pub one_line-append : (one other : List ℕ) → IsOneLine one → IsOneLine other → IsOneLine (one ++ other)
one_line-append one other left right = list_any-append is_feed one other ∙ or_none (list_any is_feed one) (list_any is_feed other) left right

pub one_line-take : (n : ℕ) (bytes : List ℕ) → IsOneLine bytes → IsOneLine (take n bytes)
one_line-take n bytes one =
    or_left (list_any is_feed (take n bytes)) (list_any is_feed (drop n bytes))
    (sym (list_any-append is_feed (take n bytes) (drop n bytes)) ∙ ap (list_any is_feed) (take-append-drop n bytes) ∙ one)

-- no line feed stands below a place
one_line_to : (bytes : List ℕ) (end : ℕ) → end ≤ length bytes → ((k : ℕ) → k < end → is_feed (get_or bytes k 0) ≡ false) → IsOneLine (take end bytes)
one_line_to bytes zero inside before = refl
one_line_to [] (suc end) inside before = refl
one_line_to (byte ∷ bytes) (suc end) inside before =
    one_line-cons byte (take end bytes) (before 0 (omega arith)) (one_line_to bytes end (omega arith) (λ k h. before (suc k) (omega (arith, h))))

-- what a search for a line feed tells, where it finds none below a place
one_line_below : (bytes : List ℕ) (end : ℕ) → end ≤ length bytes → ((k : ℕ) → 0 ≤ k → k < end → is_feed (get_or bytes k 0) ≡ true → ⊥) → IsOneLine (take end bytes)
one_line_below bytes end inside before = one_line_to bytes end inside (λ k h. not_true (is_feed (get_or bytes k 0)) (before k (omega arith) h))

-- ---- the first line of some bytes, of which the first are known to hold no line feed

module _ (most known : ℕ) (bytes behind : List ℕ) (same : behind ≡ drop known bytes) (one : IsOneLine (take known bytes)) where
  -- none of the bytes behind those is a line feed
  pub none_ends : ((k : ℕ) → 0 ≤ k → k < length behind → is_feed (get_or behind k 0) ≡ true → ⊥) → HasNoShortLine most bytes
  none_ends nowhere =
      let further : IsOneLine behind = subst IsOneLine (take_all (length behind) behind (omega arith)) (one_line_below behind (length behind) (omega arith) nowhere) in
      one_line-take (most + 1) bytes
      (subst IsOneLine (ap (λ b. take known bytes ++ b) same ∙ take-append-drop known bytes) (one_line-append (take known bytes) behind one further))

  module _ (place : ℕ) (inside : place < length behind) (before : (k : ℕ) → 0 ≤ k → k < place → is_feed (get_or behind k 0) ≡ true → ⊥) where
    one_until : IsOneLine (take (known + place) bytes)
    one_until =
        subst IsOneLine (ap (λ b. take known bytes ++ take place b) same ∙ sym (take-add known place bytes))
        (one_line-append (take known bytes) (take place behind) one (one_line_below behind place (omega arith) before))

    -- the first line is too long
    pub too_long : most < known + place → HasNoShortLine most bytes
    too_long long =
        subst IsOneLine (take-take (most + 1) (known + place) bytes (omega arith)) (one_line-take (most + 1) (take (known + place) bytes) one_until)

    within_bytes : known ≤ length bytes → known + place < length bytes
    within_bytes within = omega (arith, length-drop known bytes, ap length same)

    -- the first line is found
    pub line_found : known ≤ length bytes → is_feed (get_or behind place 0) ≡ true → known + place ≤ most → IsLineEnd most bytes (known + place)
    line_found within at short =
        let end = known + place in
        let below : end < length bytes = within_bytes within in
        let feed : get_or bytes end 0 ≡ line_feed =
        sym (get_or-drop known bytes place 0) ∙ ap (λ b. get_or b place 0) (sym same) ∙ eqb-true (get_or behind place 0) line_feed at in
        let rest : drop end bytes ≡ line_feed ∷ drop (end + 1) bytes = drop_more bytes end 0 below ∙ ap (λ byte. byte ∷ drop (end + 1) bytes) feed in
        record {
          inside = below;
          cut = record {
            whole = sym (take-append-drop end bytes) ∙ ap (λ more. take end bytes ++ more) rest
                ∙ sym (append_assoc (take end bytes) (line_feed ∷ []) (drop (end + 1) bytes))
                ∙ ap (λ line. line ++ drop (end + 1) bytes) (sym (append-nil (take end bytes ++ line_feed ∷ [])));
            each = (record { short = omega (arith, length-take-le end bytes (omega arith)); one = one_until }, tt);
          };
        }
