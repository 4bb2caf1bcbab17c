-- A seat is split off, and a seat takes in what another knows.
use Rattle.std.proofs.Common.{◌≡◌, ◌≢◌, ℕ, ◌+◌, ◌≤◌, List, [], ◌∷◌, ◌++◌, map, length, set, sym, refl, ap, ◌∙◌, subst, ⊎_elim, arith, Option, Some, None}
use mathlib.Core.Option.{some}
use mathlib.Core.List.{map-append}
use lib.ListN.{get_elem?}
use Rattle.atomic_table.proofs.Lists.{set_again, set_else}
use Rattle.mf_turn.specs.declared.view.Ended.{Ended}
use Rattle.mf_turn.specs.declared.view.View.{View}
use Rattle.mf_turn.specs.Account.{Account, entries_by}
use Rattle.mf_turn.specs.Acts.{joined_with, left_behind, shadow_of, spent_view}
use Rattle.mf_turn.specs.Rule.{ended_caller, ended_given, numbers, given_by, IsServed, HasEnded, SeatRule, TurnRule}
use Rattle.mf_turn.specs.Sums.{times, total, Each, listed}
use Rattle.mf_turn.proofs.Lists.{none_some, times-append, total-set, total-append, at_end, each_set, Each-map, Each-append}
use Rattle.mf_turn.proofs.Numbers.{owns_number}
use Rattle.mf_turn.proofs.Keeping.{no_number}

module _ {E : Type 0} where
  -- those that are left behind have the numbers of the view
  left_numbers : (n : ℕ) (o : Option ℕ) (u : View E) → times n (map ended_caller (left_behind o u)) ≡ times n (listed o ++ map ended_caller u.ended)
  left_numbers n None u = refl
  left_numbers n (Some m) u = refl

  joined_ended : (n : ℕ) (v u : View E) → times n (map ended_caller (v.ended ++ left_behind u.number u)) ≡ times n (map ended_caller v.ended) + times n (numbers u)
  joined_ended n v u = ap (times n) (map-append ended_caller v.ended (left_behind u.number u))
      ∙ times-append n (map ended_caller v.ended) (map ended_caller (left_behind u.number u))
      ∙ ap (λ (k : ℕ). times n (map ended_caller v.ended) + k) (left_numbers n u.number u)

  joined_numbers : (n : ℕ) (v u : View E) → times n (numbers (joined_with v u)) ≡ times n (numbers v) + times n (numbers u)
  joined_numbers n v u = let a = times-append n (listed v.number) (map ended_caller v.ended) in let b = times-append n (listed v.number) (map ended_caller (v.ended ++ left_behind u.number u)) in
      let d = joined_ended n v u in omega arith

  left_given : (u : View E) → (u.number ≡ None → u.given ≡ 0) → (o : Option ℕ) → u.number ≡ o → total ended_given (left_behind o u) ≡ given_by u
  left_given u poor None e = let p = poor e in omega arith
  left_given u poor (Some m) e = refl

  -- what the other's callers gave back goes with it
  joined_given : (v u : View E) → (u.number ≡ None → u.given ≡ 0) → given_by (joined_with v u) ≡ given_by v + given_by u
  joined_given v u poor = let a = total-append ended_given v.ended (left_behind u.number u) in let b = left_given u poor u.number refl in omega arith

  -- where the seat has no number, nothing is left behind
  nothing_left : (v u : View E) → (u.number ≢ None → v.number ≢ None) → v.number ≡ None → (u.number ≡ None → u.ended ≡ []) → (o : Option ℕ) → u.number ≡ o → left_behind o u ≡ []
  nothing_left v u numbered e alone None is = alone is
  nothing_left v u numbered e alone (Some n) is = absurd (numbered (λ none_is. none_some n (sym none_is ∙ is)) e)

module _ {E : Type 0} (caller nth : E → ℕ) (count : ℕ) (x : Account E) (holder : Option ℕ) (views : List (View E)) where
  -- a seat that knows what another knew
  both : (r : TurnRule caller nth count x holder views) (id : ℕ) (v : View E) (other : ℕ) (u : View E) → get_elem? views id ≡ some v → get_elem? views other ≡ some u
      → v.leaving ≡ None → u.leaving ≡ None → u.pin ≡ None → u.claim ≡ None → (u.number ≢ None → v.number ≢ None)
      → SeatRule caller r.history holder r.pending (total given_by views) x id (joined_with v u)
  both r id v other u at there free free' no_pin no_claim numbered = let f = r.each id v at in let g = r.each other u there in let h = r.history in record {
    seen = f.seen;
    told = g.seen;
    sees_all = f.sees_all;
    fixed = f.fixed;
    quiet = f.quiet;
    known = let a = f.known in let b = g.known in grind arith;
    present = f.present;
    pin = f.pin;
    claim = f.claim;
    made = f.made;
    own = f.own;
    alone = λ e. (ap (λ (l : List Ended). l ++ left_behind u.number u) (f.alone e).0 ∙ nothing_left v u numbered e (λ z. (g.alone z).0) u.number refl, (f.alone e).1);
    heard = let a = f.heard in let b = g.heard in grind arith;
    served = Each-append (IsServed (length h) x) v.served u.served f.served g.served;
    ended = Each-append (HasEnded caller h x u.number) v.ended (left_behind u.number u)
        (Each-map (HasEnded caller h x v.leaving) (HasEnded caller h x u.number) v.ended (λ z k. (k.0, λ p. absurd (none_some z.caller (sym free ∙ k.1 p)))) f.ended)
        (left_all h g.made u.number refl g.ended);
    leaving = λ n e. (g.present n e, g.pin n e ∙ no_pin, g.claim n e ∙ no_claim, let a = joined_ended n v u in let b = owns_number u n e in omega arith);
  }
    where
      left_all : (h : List E) → ((n : ℕ) → u.number ≡ Some n → entries_by caller n h ≡ u.made) → (o : Option ℕ) → u.number ≡ o → Each (HasEnded caller h x u.leaving) u.ended → Each (HasEnded caller h x o) (left_behind o u)
      left_all h made None is all = Each-map (HasEnded caller h x u.leaving) (HasEnded caller h x None) u.ended (λ z k. (k.0, λ p. sym free' ∙ k.1 p)) all
      left_all h made (Some n) is all = ((made n is, λ _. refl), Each-map (HasEnded caller h x u.leaving) (HasEnded caller h x (Some n)) u.ended (λ z k. (k.0, λ p. absurd (none_some z.caller (sym free' ∙ k.1 p)))) all)

  pub joins : (id : ℕ) (v : View E) (other : ℕ) (u : View E) → TurnRule caller nth count x holder views → holder ≢ Some other → get_elem? views id ≡ some v → ¬ (other ≡ id)
      → get_elem? (set views id (joined_with v u)) other ≡ some u → v.leaving ≡ None → u.leaving ≡ None → u.pin ≡ None → u.claim ≡ None → (u.number ≢ None → v.number ≢ None)
      → TurnRule caller nth count x holder (set (set views id (joined_with v u)) other spent_view)
  joins id v other u r away at distinct there free free' no_pin no_claim numbered = let w = joined_with v u in
      let there' : get_elem? views other ≡ some u = sym (set_else views id other w distinct) ∙ there in let f = r.each id v at in let g = r.each other u there' in
      let gives : given_by w ≡ given_by v + given_by u = joined_given v u (λ e. (g.alone e).1) in
      let s = total-set given_by views id v w at in let t = total-set given_by (set views id w) other u spent_view there in
      let given : total given_by views ≡ total given_by (set (set views id w) other spent_view) = omega arith in record {
        history = r.history;
        pending = r.pending;
        counted = r.counted;
        logged = r.logged;
        settled = r.settled;
        numbered = r.numbered;
        owned = λ n. let F : View E → ℕ = λ z. times n (numbers z) in let a = r.owned n in let s = total-set F views id v w at in let t = total-set F (set views id w) other u spent_view there in
            let z = joined_numbers n v u in omega arith;
        fresh = r.fresh;
        quits = subst (λ (k : ℕ). x.quits ≤ k) given r.quits;
        each = subst (λ (k : ℕ). (j : ℕ) (z : View E) → get_elem? (set (set views id w) other spent_view) j ≡ some z → SeatRule caller r.history holder r.pending k x j z) given
            (each_set (SeatRule caller r.history holder r.pending (total given_by views) x) (set views id w) other spent_view
            (no_number caller r.history holder r.pending (total given_by views) x other [] 0 0 (r.history, refl) (let k = f.known in omega arith) (omega arith) away)
            (λ j z _ e. each_set (SeatRule caller r.history holder r.pending (total given_by views) x) views id w
            (both r id v other u at there' free free' no_pin no_claim numbered) (λ j z _ e. r.each j z e) j z e));
      }

  pub splits : (id : ℕ) (v : View E) → TurnRule caller nth count x holder views → holder ≢ Some (length views) → get_elem? views id ≡ some v
      → TurnRule caller nth count x holder (set views id v ++ shadow_of v ∷ [])
  splits id v r new_seat at = let w = shadow_of v in let f = r.each id v at in
      let given : total given_by views ≡ total given_by (views ++ w ∷ []) = (let t = total-append given_by views (w ∷ []) in omega arith) in
      subst (λ (us : List (View E)). TurnRule caller nth count x holder (us ++ w ∷ [])) (sym (set_again views id v at)) record {
        history = r.history;
        pending = r.pending;
        counted = r.counted;
        logged = r.logged;
        settled = r.settled;
        numbered = r.numbered;
        owned = λ n. let t = total-append (λ (z : View E). times n (numbers z)) views (w ∷ []) in let a = r.owned n in omega arith;
        fresh = r.fresh;
        quits = subst (λ (k : ℕ). x.quits ≤ k) given r.quits;
        each = subst (λ (k : ℕ). (j : ℕ) (u : View E) → get_elem? (views ++ w ∷ []) j ≡ some u → SeatRule caller r.history holder r.pending k x j u) given
            (λ j u e. ⊎_elim (λ a. r.each j u a)
            (λ (b : (j ≡ length views) × (w ≡ u)). subst (SeatRule caller r.history holder r.pending (total given_by views) x j) b.1
            (no_number caller r.history holder r.pending (total given_by views) x j v.log v.known v.heard f.seen f.known f.heard (λ e. new_seat (e ∙ ap Some b.0))))
            (at_end views w j u e));
      }
