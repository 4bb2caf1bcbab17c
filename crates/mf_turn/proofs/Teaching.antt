-- What a seat learns that takes the value.
use Rattle.std.proofs.Common.{◌≡◌, ◌≢◌, ℕ, ◌+◌, List, ◌++◌, map, length, true, sym, refl, ap, ◌∙◌, subst, arith, Option, Some, None}
use mathlib.Core.Option.{some}
use lib.ListN.{get_elem?}
use Rattle.mf_turn.specs.declared.view.View.{View}
use Rattle.mf_turn.specs.Account.{Account, IsNumbered, entries_by}
use Rattle.mf_turn.specs.Rule.{ended_caller, ended_given, numbers, given_by, HasEnded, IsServed, SeatRule, TurnRule}
use Rattle.mf_turn.specs.Sums.{times, total, Each, listed, StartsWith}
use Rattle.mf_turn.specs.Taught.{Settles, Teaches}
use Rattle.mf_turn.proofs.Lists.{none_some, total-only}
use Rattle.mf_turn.proofs.Numbers.{owns_number, apart, once, below}
use Rattle.mf_turn.proofs.Keeping.{log_whole}

module _ {E : Type 0} (caller nth : E → ℕ) (count : ℕ) (x : Account E) (views : List (View E)) (r : TurnRule caller nth count x None views) (id : ℕ) (v : View E) (at : get_elem? views id ≡ some v) where
  settles : ((n : ℕ) → x.present n ≡ true → v.number ≡ Some n) → Settles caller x v
  settles only = record {
    each_once = λ n. sym (total-only (λ (z : View E). times n (numbers z)) views id v at (λ j u other e. (λ i. times n (listed (unnamed j u other e i) ++ map ended_caller (((r.each j u e).alone (unnamed j u other e)).0 i))))) ∙ r.owned n;
    quits = let q = r.quits in let a = all_given in omega arith;
    heard = let h = f.heard in let a = all_given in omega arith;
  }
    where
      f : SeatRule caller r.history None r.pending (total given_by views) x id v
      f = r.each id v at

      unnamed : (j : ℕ) (u : View E) → j ≢ id → get_elem? views j ≡ some u → u.number ≡ None
      unnamed j u other e = by_number u.number refl
        where
          by_number : (o : Option ℕ) → u.number ≡ o → u.number ≡ None
          by_number None is = is
          by_number (Some m) is = let mine = only m ((r.each j u e).present m is) in
              absurd (apart caller nth count x None views r id j m m v u at e other (owns_number v m mine) (owns_number u m is) refl)

      gave_none : (j : ℕ) (u : View E) → j ≢ id → get_elem? views j ≡ some u → given_by u ≡ 0
      gave_none j u other e = let a = (r.each j u e).alone (unnamed j u other e) in (λ i. a.1 i + total ended_given (a.0 i))

      all_given : total given_by views ≡ given_by v
      all_given = total-only given_by views id v at gave_none

  pub teaches : Teaches caller nth x v
  teaches = let f = r.each id v at in let all = sym (log_whole caller nth count x None views r (r.settled refl)) in record {
    seen = subst (λ (l : List E). StartsWith l v.log) all f.seen;
    told = subst (λ (l : List E). StartsWith l v.told) all f.told;
    numbered = subst (IsNumbered caller nth) all r.numbered;
    strangers = λ n h. ap (entries_by caller n) (sym all) ∙ r.fresh n h;
    quiet = f.quiet (none_some id);
    known = f.known;
    present = f.present;
    pin = f.pin;
    claim = f.claim;
    made = λ n e. ap (entries_by caller n) (sym all) ∙ f.made n e;
    own = f.own;
    served = subst (λ (l : List E). Each (IsServed (length l) x) v.served) all f.served;
    once = λ n. once caller nth count x None views r id n v at;
    below = λ n h. below caller nth count x None views r id n v at h;
    ended = subst (λ (l : List E). Each (HasEnded caller l x v.leaving) v.ended) all f.ended;
    leaving = λ n e. let l = f.leaving n e in (l.0, l.1, l.2);
    settles = settles;
  }
