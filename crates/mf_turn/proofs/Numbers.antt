-- The numbers of the callers that views speak for, and what these callers gave back.
use Rattle.std.proofs.Common.{◌≡◌, ◌≢◌, ℕ, ◌+◌, ◌<◌, ◌≤◌, eqb, List, ◌++◌, map, set, sym, ap, ◌∙◌, subst, arith, Option, Some}
use mathlib.Core.Option.{some}
use mathlib.Core.List.{map-append}
use lib.ListN.{get_elem?}
use Rattle.mf_turn.specs.declared.view.View.{View}
use Rattle.mf_turn.specs.Account.{Account, entries_by}
use Rattle.mf_turn.specs.Rule.{ended_caller, numbers, given_by, TurnRule}
use Rattle.mf_turn.specs.Sums.{one_if, times, once_below, total, listed}
use Rattle.mf_turn.proofs.Lists.{one_if-same, times-append, once_below-le, below_once, total-set, total-le, total-two}

module _ {E : Type 0} where
  pub same_number : (v : View E) (n m : ℕ) → v.number ≡ Some n → v.number ≡ Some m → n ≡ m
  same_number v n m a b = let e : Some n ≡ Some m = sym a ∙ b in cc

  pub owns_number : (v : View E) (n : ℕ) → v.number ≡ Some n → 0 < times n (numbers v)
  owns_number v n e = subst (λ (o : Option ℕ). 0 < times n (listed o ++ map ended_caller v.ended)) (sym e) (let h = one_if-same n in omega arith)

  pub owns_ended : (v : View E) (n : ℕ) → 0 < times n (map ended_caller v.ended) → 0 < times n (numbers v)
  owns_ended v n h = let e = times-append n (listed v.number) (map ended_caller v.ended) in omega arith

  -- the entries of a caller in a longer log
  pub entries_by-append : (caller : E → ℕ) (n : ℕ) (xs ys : List E) → entries_by caller n (xs ++ ys) ≡ entries_by caller n xs + entries_by caller n ys
  entries_by-append caller n xs ys = ap (times n) (map-append caller xs ys) ∙ times-append n (map caller xs) (map caller ys)

  -- what all gave back, where one seat's callers gave back more, or as much
  pub given-set : (views : List (View E)) (id : ℕ) (v w : View E) → get_elem? views id ≡ some v → total given_by (set views id w) + given_by v ≡ total given_by views + given_by w
  given-set views id v w at = total-set given_by views id v w at

  pub given-same : (views : List (View E)) (id : ℕ) (v w : View E) → get_elem? views id ≡ some v → given_by w ≡ given_by v → total given_by (set views id w) ≡ total given_by views
  given-same views id v w at same = let t = given-set views id v w at in omega arith

module _ {E : Type 0} (caller nth : E → ℕ) (count : ℕ) (x : Account E) (holder : Option ℕ) (views : List (View E)) (r : TurnRule caller nth count x holder views) where
  -- the numbers of two seats differ
  pub apart : (id j n m : ℕ) (v u : View E) → get_elem? views id ≡ some v → get_elem? views j ≡ some u → j ≢ id → 0 < times n (numbers v) → 0 < times m (numbers u) → m ≢ n
  apart id j n m v u at at' other has has' e = let two = total-two (λ (z : View E). times n (numbers z)) views id j v u (λ i. other (sym i)) at at' in
      let all = r.owned n in let one = once_below-le n x.joined in
      let has'' : 0 < times n (numbers u) = subst (λ (k : ℕ). 0 < times k (numbers u)) e has' in absurd (omega arith)

  -- a seat has no number twice
  pub once : (id n : ℕ) (v : View E) → get_elem? views id ≡ some v → times n (numbers v) ≤ 1
  once id n v at = let all = r.owned n in let one = once_below-le n x.joined in let has = total-le (λ (z : View E). times n (numbers z)) views id v at in omega arith

  -- its numbers are below the next one
  pub below : (id n : ℕ) (v : View E) → get_elem? views id ≡ some v → 0 < times n (numbers v) → n < x.joined
  below id n v at has = let all = r.owned n in let le = total-le (λ (z : View E). times n (numbers z)) views id v at in below_once n x.joined (omega arith)

  -- its own number is none of those that left into it
  pub own_apart : (id n m : ℕ) (v : View E) → get_elem? views id ≡ some v → v.number ≡ Some n → 0 < times m (map ended_caller v.ended) → m ≢ n
  own_apart id n m v at is has e = let one = once id n v at in let two = times-append n (listed v.number) (map ended_caller v.ended) in
      let own : times n (listed v.number) ≡ one_if (eqb n n) + 0 = ap (λ (z : Option ℕ). times n (listed z)) is in let same = one_if-same n in
      let has' : 0 < times n (map ended_caller v.ended) = subst (λ (k : ℕ). 0 < times k (map ended_caller v.ended)) e has in absurd (omega arith)

  -- the numbers together, where a seat keeps its own
  pub owned_still : (id : ℕ) (v w : View E) (joined : ℕ) → get_elem? views id ≡ some v → ((n : ℕ) → times n (numbers w) ≡ times n (numbers v)) → joined ≡ x.joined
      → (n : ℕ) → total (λ z. times n (numbers z)) (set views id w) ≡ once_below n joined
  owned_still id v w joined at same j n = let t = total-set (λ (z : View E). times n (numbers z)) views id v w at in let all = r.owned n in let e = same n in
      let a : total (λ z. times n (numbers z)) (set views id w) ≡ once_below n x.joined = omega arith in a ∙ ap (once_below n) (sym j)
