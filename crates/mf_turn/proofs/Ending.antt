-- The turn of a seat ends.
use Rattle.std.proofs.Common.{◌≡◌, ◌≢◌, ℕ, ◌+◌, ◌<◌, ◌≤◌, List, length, set, sym, refl, ap, ◌∙◌, subst, arith, true, Some, None}
use mathlib.Core.Option.{some}
use lib.ListN.{get_elem?}
use Rattle.mf_turn.specs.declared.view.View.{View}
use Rattle.mf_turn.specs.Account.{Account, StaysReady}
use Rattle.mf_turn.specs.Rule.{numbers, given_by, IsServed, SeatRule, TurnRule}
use Rattle.mf_turn.specs.Sums.{times, once_below, total, Each}
use Rattle.mf_turn.proofs.Lists.{none_some, append_nil, each_set, starts_itself, Each-map}
use Rattle.mf_turn.proofs.Numbers.{given-set}
use Rattle.mf_turn.proofs.Keeping.{Untouched, other_holder, stays, log_whole}

module _ {E : Type 0} (caller nth : E → ℕ) (count : ℕ) (x : Account E) (views : List (View E)) (id : ℕ) (v : View E) (r : TurnRule caller nth count x (Some id) views) (at : get_elem? views id ≡ some v) where
  -- where the holder has fixed no place, the log is the history
  pub log_all : v.raised ≡ None → x.log ≡ r.history
  log_all quiet = log_whole caller nth count x (Some id) views r (sym ((r.each id v at).fixed refl) ∙ quiet)

  -- what was served stays so, where what is compiled of the newest edition does
  pub serving : (y : Account E) → x.log ≡ r.history → StaysReady x y → (pair : ℕ × ℕ) → IsServed (length r.history) x pair → IsServed (length r.history) y pair
  serving y all ready pair s = (
    s.0,
    λ e. let here : pair.0 ≡ length x.log = e ∙ ap length (sym all) in
        subst (λ (k : ℕ). y.ready k pair.1 ≡ true) (sym here) (ready pair.1 (subst (λ (k : ℕ). x.ready k pair.1 ≡ true) here (s.1 e))),
  )

  pub still_served : (y : Account E) → x.log ≡ r.history → StaysReady x y → Each (IsServed (length r.history) y) v.served
  still_served y all ready = Each-map (IsServed (length r.history) x) (IsServed (length r.history) y) v.served (serving y all ready) (r.each id v at).served

  -- the turn ends with the account y and the view w
  pub ends : (y : Account E) (w : View E) → y.log ≡ r.history → x.joined ≤ y.joined → given_by v ≤ given_by w → y.quits + given_by v ≤ x.quits + given_by w
      → ((pair : ℕ × ℕ) → IsServed (length r.history) x pair → IsServed (length r.history) y pair)
      → ((n : ℕ) → total (λ z. times n (numbers z)) (set views id w) ≡ once_below n y.joined)
      → ((j : ℕ) (u : View E) → j ≢ id → get_elem? views j ≡ some u → (n : ℕ) → 0 < times n (numbers u) → Untouched x y n)
      → (total given_by views ≤ total given_by (set views id w) → SeatRule caller r.history None None (total given_by (set views id w)) y id w)
      → TurnRule caller nth count y None (set views id w)
  ends y w all joined more quits serves owned others mine = let t = given-set views id v w at in let rich : total given_by views ≤ total given_by (set views id w) = omega arith in record {
    history = r.history;
    pending = None;
    counted = r.counted;
    logged = append_nil y.log ∙ all;
    settled = λ _. refl;
    numbered = r.numbered;
    owned = owned;
    fresh = λ n h. r.fresh n (let a : x.joined ≤ y.joined = joined in omega arith);
    quits = let q = r.quits in omega arith;
    each = each_set (SeatRule caller r.history None None (total given_by (set views id w)) y) views id w (mine rich)
        (λ j u other e. let f = r.each j u e in
        stays caller r.history r.history (Some id) None r.pending None (total given_by views) (total given_by (set views id w)) x y j u
        record { longer = starts_itself r.history; joined = joined; given = rich; serves = serves }
        (f.quiet (other_holder id j other)) (none_some j) (others j u other e) (λ n _. refl) f);
  }
