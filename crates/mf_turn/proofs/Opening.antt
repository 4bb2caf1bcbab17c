-- The rule at the start.
use Rattle.std.proofs.Common.{◌≡◌, ℕ, zero, suc, List, [], ◌∷◌, ◌++◌, true, sym, refl, ap, ◌∙◌, subst, ⊎_elim, arith, Some, None}
use mathlib.Core.Option.{some, some-ne-none}
use lib.ListN.{get_elem?}
use Rattle.std.proofs.lemmas.Bool.Decides.{nat_tests}
use Rattle.mf_turn.specs.declared.view.View.{View}
use Rattle.mf_turn.specs.Account.{Account, IsNew}
use Rattle.mf_turn.specs.Rule.{first_view, numbers, SeatRule, TurnRule}
use Rattle.mf_turn.specs.Sums.{times, once_below, total}
use Rattle.mf_turn.proofs.Lists.{none_some, at_end}

-- the first view's number alone is below 1
zero_once : (E : Type 0) (n : ℕ) → total (λ (v : View E). times n (numbers v)) (first_view {E = E} ∷ []) ≡ once_below n 1
zero_once E zero = refl
zero_once E (suc n) = grind (arith, nat_tests)

module _ {E : Type 0} (caller nth : E → ℕ) (x : Account E) (new : IsNew x) where
  is_zero : (n : ℕ) → Some 0 ≡ Some n → 0 ≡ n
  is_zero n e = cc

  first : SeatRule caller [] None None 0 x 0 first_view
  first = record {
    seen = ([], refl);
    told = ([], refl);
    sees_all = λ e. refl;
    fixed = λ e. refl;
    quiet = λ e. refl;
    known = let j = new.joined in omega arith;
    present = λ n e. subst (λ (k : ℕ). x.present k ≡ true) (is_zero n e) new.present;
    pin = λ n e. subst (λ (k : ℕ). x.pin k ≡ None) (is_zero n e) new.pin;
    claim = λ n e. subst (λ (k : ℕ). x.claim k ≡ None) (is_zero n e) new.claim;
    made = λ n e. refl;
    own = λ n e. refl;
    alone = λ e. (refl, refl);
    heard = omega arith;
    served = tt;
    ended = tt;
    leaving = λ n e. absurd (none_some n e);
  }

  pub opens : TurnRule caller nth 0 x None (first_view ∷ [])
  opens = record {
    history = [];
    pending = None;
    counted = refl;
    logged = ap (λ (l : List E). l ++ []) new.log;
    settled = λ _. refl;
    numbered = tt;
    owned = λ n. zero_once E n ∙ ap (once_below n) (sym new.joined);
    fresh = λ n h. refl;
    quits = let q = new.quits in omega arith;
    each = λ j v e. ⊎_elim (λ (a : get_elem? [] j ≡ some v). absurd (some-ne-none v (sym a)))
        (λ (b : (j ≡ 0) × (first_view ≡ v)). subst (λ (z : ℕ × View E). SeatRule caller [] None None 0 x z.0 z.1) (λ i. (sym b.0 i, b.1 i)) first)
        (at_end [] first_view j v e);
  }
