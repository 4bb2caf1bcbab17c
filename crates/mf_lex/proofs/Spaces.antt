-- White space and marks are passed by their rules.
use Rattle.std.proofs.Common.{◌≡◌, ℕ, true, false, List, [], ◌∷◌, ◌++◌, refl, ap, sym, ◌∙◌, subst, length, arith}
use Rattle.std.proofs.lemmas.Bool.{false≢true}
use Rattle.mf_text.specs.Characters.{is_ws, is_bidi, is_space}
use Rattle.mf_text.specs.Languages.{One, Any, Begins, BeginsNone, BeginsLongest, ◌⋅◌}
use Rattle.mf_text.specs.Grammar.{O, S}
use Rattle.mf_lex.specs.Computed.{is_next, behind_run, after_space, has_space}
use Rattle.mf_lex.proofs.Begins.{parted, joined, run_begins, behind_passes, wider_passes}
use Rattle.mf_lex.proofs.Gathering.{run_shortens}
use Rattle.mf_text.proofs.Classes.{ws_is_no_mark, ws_is_space, mark_is_space}
use Rattle.mf_lex.proofs.Runs.{behind_more, behind_ends}

-- the longest text of `o`
pub o_passes : (cs others : List ℕ) → Begins O cs others → after_space cs ≡ after_space others
unfolding after_space
o_passes cs others begins = ap after_space begins.whole ∙ behind_passes is_space begins.taken others begins.is

pub o_found : (cs : List ℕ) → BeginsLongest {X = Unit {0}} (λ u. O) tt cs (after_space cs)
unfolding after_space
o_found cs = record {
  begins = run_begins is_space cs;
  longest = λ u others begins. omega (arith, ap length (o_passes cs others begins), run_shortens is_space others);
}

-- a text of `s` is one of `o`, and has a white space
pub s_passes : (cs others : List ℕ) → Begins S cs others → (has_space cs ≡ true) × (after_space cs ≡ after_space others)
unfolding after_space has_space
s_passes cs others begins =
    let marks = parted (Any is_bidi) (One is_ws ⋅ O) cs others begins in
    let white = parted (One is_ws) O marks.between others marks.second in
    let w = white.first.is.0 in
    let is = white.first.is.2 in
    let next : marks.between ≡ w ∷ white.between = white.first.whole ∙ ap (λ ds. ds ++ white.between) white.first.is.1 in
    let behind : behind_run is_bidi cs ≡ w ∷ white.between =
    ap (behind_run is_bidi) marks.first.whole
    ∙ behind_passes is_bidi marks.first.taken marks.between marks.first.is
    ∙ ap (behind_run is_bidi) next
    ∙ behind_ends is_bidi (w ∷ white.between) (ws_is_no_mark w is) in (
      ap (is_next is_ws) behind ∙ is,
      ap after_space marks.first.whole
          ∙ behind_passes is_space marks.first.taken marks.between (wider_passes is_bidi is_space marks.first.taken mark_is_space marks.first.is)
          ∙ ap after_space next
          ∙ behind_more is_space w white.between (ws_is_space w is)
          ∙ o_passes white.between others white.second,
    )

s_begins : (cs behind : List ℕ) → behind_run is_bidi cs ≡ behind → is_next is_ws behind ≡ true → Begins S cs (after_space cs)
unfolding after_space has_space
s_begins cs [] same is = absurd (false≢true is)
s_begins cs (w ∷ rest) same is =
    let marks : Begins (Any is_bidi) cs (w ∷ rest) = subst (Begins (Any is_bidi) cs) same (run_begins is_bidi cs) in
    let begins : Begins S cs (after_space rest) =
    joined (Any is_bidi) (One is_ws ⋅ O) cs (w ∷ rest) (after_space rest) marks
    (joined (One is_ws) O (w ∷ rest) rest (after_space rest) (record { taken = w ∷ []; whole = refl; is = (w, refl, is) }) (run_begins is_space rest)) in
    let left : after_space cs ≡ after_space rest =
    ap after_space marks.whole
    ∙ behind_passes is_space marks.taken (w ∷ rest) (wider_passes is_bidi is_space marks.taken mark_is_space marks.is)
    ∙ behind_more is_space w rest (ws_is_space w is) in
    subst (Begins S cs) (sym left) begins

pub s_found : (cs : List ℕ) → has_space cs ≡ true → BeginsLongest {X = Unit {0}} (λ u. S) tt cs (after_space cs)
unfolding after_space has_space
s_found cs has = record {
  begins = s_begins cs (behind_run is_bidi cs) refl has;
  longest = λ u others begins. omega (arith, ap length (s_passes cs others begins).1, run_shortens is_space others);
}

pub s_none : (cs : List ℕ) → has_space cs ≡ false → BeginsNone {X = Unit {0}} (λ u. S) cs
unfolding after_space has_space
s_none cs none u left begins = false≢true (sym none ∙ (s_passes cs left begins).0)
