-- Each act ends a turn so that the rule holds.
use Rattle.std.proofs.Common.{◌≡◌, ◌≢◌, ℕ, ◌+◌, ◌≤◌, eqb, List, ◌∷◌, ◌++◌, map, length, set, true, true≢false, sym, refl, ap, ◌∙◌, subst, ⊎_elim, ◌⊎◌, inl, arith, max, Option, Some, None, le_refl}
use mathlib.Core.Option.{some}
use lib.ListN.{get_elem?}
use Rattle.mf_turn.specs.declared.act.Act.{Act}
use Rattle.mf_turn.specs.declared.act.Act.TheVariants.{Same, Join, Leave, Serve, Hear, Publish, Pin, Unpin, Claim, Done, Quit}
use Rattle.mf_turn.specs.declared.view.Ended.{Ended}
use Rattle.mf_turn.specs.declared.view.View.{View}
use Rattle.mf_turn.specs.Account.{Account, IsAlike, Changes, Joins, Leaves, Publishes, StaysReady, entries_by}
use Rattle.mf_turn.specs.Acts.{after, MayEnd}
use Rattle.mf_turn.specs.Rule.{ended_caller, numbers, given_by, IsServed, HasEnded, SeatRule, TurnRule}
use Rattle.mf_turn.specs.Sums.{one_if, times, once_below, total, Each, listed}
use Rattle.mf_turn.proofs.Lists.{none_some, once_below-suc, total-set, Each-map, Each-append}
use Rattle.mf_turn.proofs.Numbers.{same_number, owns_number, owns_ended, entries_by-append, apart, below, own_apart, owned_still}
use Rattle.mf_turn.proofs.Ending.{log_all, serving, still_served, ends}

module _ {E : Type 0} where
  -- nothing changes but the pin and the claim of the seat's own number
  record IsOwn (v : View E) (pinned : Option ℕ) (claimed : Option (ℕ × ℕ)) (x y : Account E) : Type 0 where
    pub log : y.log ≡ x.log
    pub joined : y.joined ≡ x.joined
    pub present : (n : ℕ) → y.present n ≡ x.present n
    pub pin_now : (n : ℕ) → v.number ≡ Some n → y.pin n ≡ pinned
    pub pin : (n : ℕ) → v.number ≢ Some n → y.pin n ≡ x.pin n
    pub claim_now : (n : ℕ) → v.number ≡ Some n → y.claim n ≡ claimed
    pub claim : (n : ℕ) → v.number ≢ Some n → y.claim n ≡ x.claim n
    pub ready : StaysReady x y

  changes_own : (v : View E) (n : ℕ) (pinned : Option ℕ) (claimed : Option (ℕ × ℕ)) (given : ℕ) (x y : Account E) → v.number ≡ Some n → Changes n pinned claimed given x y → IsOwn v pinned claimed x y
  changes_own v n pinned claimed given x y is c = record {
    log = c.log;
    joined = c.joined;
    present = c.present;
    pin_now = λ m e. ap y.pin (same_number v m n e is) ∙ c.pin_now;
    pin = λ m away. c.pin m (λ same. away (is ∙ ap Some (sym same)));
    claim_now = λ m e. ap y.claim (same_number v m n e is) ∙ c.claim_now;
    claim = λ m away. c.claim m (λ same. away (is ∙ ap Some (sym same)));
    ready = c.ready;
  }

  -- what a seat knows, with what its own act may change of it
  abbrev changed : View E → Option ℕ → Option (ℕ × ℕ) → ℕ → ℕ → List (ℕ × ℕ) → View E
  changed v pin claim given heard served = record v { pin = pin; claim = claim; given = given; heard = heard; served = served }

module _ {E : Type 0} (caller nth : E → ℕ) (count : ℕ) (x y : Account E) (views : List (View E)) (id : ℕ) (v : View E) (r : TurnRule caller nth count x (Some id) views) (at : get_elem? views id ≡ some v) where
  abbrev Rule : View E → Type 0
  Rule w = TurnRule caller nth count y None (set views id w)

  f : SeatRule caller r.history (Some id) r.pending (total given_by views) x id v
  f = r.each id v at

  alike_own : IsAlike x y → IsOwn v v.pin v.claim x y
  alike_own a = record {
    log = a.log;
    joined = a.joined;
    present = a.present;
    pin_now = λ n e. a.pin n ∙ (r.each id v at).pin n e;
    pin = λ n _. a.pin n;
    claim_now = λ n e. a.claim n ∙ (r.each id v at).claim n e;
    claim = λ n _. a.claim n;
    ready = a.ready;
  }

  own : (pinned : Option ℕ) (claimed : Option (ℕ × ℕ)) (given heard : ℕ) (served : List (ℕ × ℕ)) → v.raised ≡ None → IsOwn v pinned claimed x y
      → v.given ≤ given → (v.number ≡ None → given ≡ v.given) → y.quits + v.given ≤ x.quits + given → (heard ≤ v.heard) ⊎ (heard ≤ x.quits)
      → Each (IsServed (length r.history) y) served → Rule (changed v pinned claimed given heard served)
  own pinned claimed given heard served quiet o more poor quits hears serves = let w = changed v pinned claimed given heard served in let j = o.joined in
      let all : x.log ≡ r.history = log_all caller nth count x views id v r at quiet in
      ends caller nth count x views id v r at y w (o.log ∙ all) (omega arith) (omega arith) (omega arith) (serving caller nth count x views id v r at y all o.ready)
      (owned_still caller nth count x (Some id) views r id v w y.joined at (λ n. refl) o.joined)
      (λ i u other e n has. let away : v.number ≢ Some n = λ is. apart caller nth count x (Some id) views r id i n n v u at e other (owns_number v n is) has refl in (o.present n, o.pin n away, o.claim n away))
      (λ rich. let g = r.each id v at in record {
        seen = g.seen;
        told = g.told;
        sees_all = λ e. absurd (none_some id e);
        fixed = λ e. absurd (none_some id e);
        quiet = λ _. quiet;
        known = let k = g.known in omega arith;
        present = λ n e. o.present n ∙ g.present n e;
        pin = o.pin_now;
        claim = o.claim_now;
        made = g.made;
        own = g.own;
        alone = λ e. ((g.alone e).0, poor e ∙ (g.alone e).1);
        heard = ⊎_elim (λ (a : heard ≤ v.heard). let h = g.heard in omega arith) (λ (a : heard ≤ x.quits). let q = r.quits in omega arith) hears;
        served = serves;
        ended = Each-map (HasEnded caller r.history x v.leaving) (HasEnded caller r.history y v.leaving) v.ended (λ e k. (k.0, λ p. k.1 (sym (o.present e.caller) ∙ p))) g.ended;
        leaving = λ n e. let l = g.leaving n e in let away : v.number ≢ Some n = λ is. own_apart caller nth count x (Some id) views r id n n v at is l.3 refl in (o.present n ∙ l.0, o.pin n away ∙ l.1, o.claim n away ∙ l.2, l.3);
      })

  leave : (n : ℕ) → v.raised ≡ None → v.leaving ≡ Some n → Leaves n x y → Rule record v { leaving = None }
  leave n quiet is act = let w : View E = record v { leaving = None } in let g = r.each id v at in let j = act.joined in let left = g.leaving n is in let q = act.quits in
      let all : x.log ≡ r.history = log_all caller nth count x views id v r at quiet in
      let serves = serving caller nth count x views id v r at y all act.ready in
      let away : (m : ℕ) → v.number ≡ Some m → m ≢ n = λ m e same. own_apart caller nth count x (Some id) views r id m n v at e left.3 (sym same) in
      ends caller nth count x views id v r at y w (act.log ∙ all) (omega arith) (le_refl _) (omega arith) serves
      (owned_still caller nth count x (Some id) views r id v w y.joined at (λ n. refl) act.joined)
      (λ i u other e m has. let ne = apart caller nth count x (Some id) views r id i n m v u at e other (owns_ended v n left.3) has in (act.present m ne, act.pin m ne, act.claim m ne))
      (λ rich. record {
        seen = g.seen;
        told = g.told;
        sees_all = λ e. absurd (none_some id e);
        fixed = λ e. absurd (none_some id e);
        quiet = λ _. quiet;
        known = let k = g.known in omega arith;
        present = λ m e. act.present m (away m e) ∙ g.present m e;
        pin = λ m e. act.pin m (away m e) ∙ g.pin m e;
        claim = λ m e. act.claim m (away m e) ∙ g.claim m e;
        made = g.made;
        own = g.own;
        alone = g.alone;
        heard = let h = g.heard in omega arith;
        served = Each-map (IsServed (length r.history) x) (IsServed (length r.history) y) v.served serves g.served;
        ended = Each-map (HasEnded caller r.history x v.leaving) (HasEnded caller r.history y None) v.ended
            (λ e k. (
              k.0,
              λ p. let ne : e.caller ≢ n = λ same. true≢false (sym p ∙ ap y.present same ∙ act.gone) in
                  let leaves : Some n ≡ Some e.caller = sym is ∙ k.1 (sym (act.present e.caller ne) ∙ p) in let same : n ≡ e.caller = cc in absurd (ne (sym same)),
            )) g.ended;
        leaving = λ m e. absurd (none_some m e);
      })

  join : v.raised ≡ None → v.number ≡ None → Joins x y → Rule (after Join x v)
  join quiet is act = let n : ℕ = x.joined in let w = after Join x v in let g = r.each id v at in let j = act.joined in let q = act.quits in
      let no_ended = (g.alone is).0 in let gave_none = (g.alone is).1 in
      let all : x.log ≡ r.history = log_all caller nth count x views id v r at quiet in
      let serves = serving caller nth count x views id v r at y all act.ready in
      let fresh : entries_by caller n r.history ≡ 0 = r.fresh n (le_refl _) in
      ends caller nth count x views id v r at y w (act.log ∙ all) (omega arith) (omega arith) (omega arith) serves
      (λ m. let t = total-set (λ (z : View E). times m (numbers z)) views id v w at in
      let before : times m (numbers v) ≡ 0 = (λ i. times m (listed (is i) ++ map ended_caller (no_ended i))) in
      let now : times m (numbers w) ≡ one_if (eqb n m) + 0 = ap (λ (l : List Ended). times m (listed (Some n) ++ map ended_caller l)) no_ended in
      let sum = r.owned m in let more : once_below m (n + 1) ≡ once_below m n + one_if (eqb n m) = once_below-suc m n in
      let there : once_below m y.joined ≡ once_below m (n + 1) = ap (once_below m) j in omega arith)
      (λ i u other e m has. let b = below caller nth count x (Some id) views r i m u e has in let ne : m ≢ n = λ same. omega arith in (act.present m ne, act.pin m ne, act.claim m ne))
      (λ rich. record {
        seen = g.seen;
        told = g.told;
        sees_all = λ e. absurd (none_some id e);
        fixed = λ e. absurd (none_some id e);
        quiet = λ _. quiet;
        known = omega arith;
        present = λ m e. let same : n ≡ m = cc in subst (λ (z : ℕ). y.present z ≡ true) same act.present_now;
        pin = λ m e. let same : n ≡ m = cc in subst (λ (z : ℕ). y.pin z ≡ None) same act.pin_now;
        claim = λ m e. let same : n ≡ m = cc in subst (λ (z : ℕ). y.claim z ≡ None) same act.claim_now;
        made = λ m e. let same : n ≡ m = cc in subst (λ (z : ℕ). entries_by caller z r.history ≡ 0) same fresh;
        own = λ m e. let same : n ≡ m = cc in let s = g.seen in
            let parts : entries_by caller m v.log + entries_by caller m s.0 ≡ entries_by caller m r.history = sym (entries_by-append caller m v.log s.0) ∙ ap (entries_by caller m) s.1 in
            let none_made : entries_by caller m r.history ≡ 0 = subst (λ (z : ℕ). entries_by caller z r.history ≡ 0) same fresh in omega arith;
        alone = λ e. absurd (none_some n (sym e));
        heard = let h = g.heard in omega arith;
        served = Each-map (IsServed (length r.history) x) (IsServed (length r.history) y) v.served serves g.served;
        ended = subst (λ (l : List Ended). Each (HasEnded caller r.history y v.leaving) l) (sym no_ended) tt;
        leaving = λ m e. let l = g.leaving m e in let none_left : times m (map ended_caller v.ended) ≡ 0 = ap (λ (l : List Ended). times m (map ended_caller l)) no_ended in let some_left = l.3 in absurd (omega arith);
      })

  publish : (entry : E) → v.raised ≡ Some entry → Publishes entry x y → Rule record v { raised = None }
  publish entry is act = let w : View E = record v { raised = None } in let g = r.each id v at in let j = act.joined in let q = act.quits in
      let fixed : r.pending ≡ Some entry = sym (g.fixed refl) ∙ is in
      let all : y.log ≡ r.history = act.log ∙ ap (λ (z : Option E). x.log ++ listed z) (sym fixed) ∙ r.logged in
      let serves : (pair : ℕ × ℕ) → IsServed (length r.history) x pair → IsServed (length r.history) y pair = λ pair s. (
        s.0,
        λ e. let here : pair.0 ≡ length y.log = e ∙ ap length (sym all) in
            absurd (true≢false (sym (s.1 e) ∙ ap (λ (k : ℕ). x.ready k pair.1) here ∙ act.unready pair.1)),
      ) in
      ends caller nth count x views id v r at y w all (omega arith) (le_refl _) (omega arith) serves
      (owned_still caller nth count x (Some id) views r id v w y.joined at (λ n. refl) act.joined)
      (λ i u other e n has. (act.present n, act.pin n, act.claim n))
      (λ rich. record {
        seen = g.seen;
        told = g.told;
        sees_all = λ e. absurd (none_some id e);
        fixed = λ e. absurd (none_some id e);
        quiet = λ _. refl;
        known = let k = g.known in omega arith;
        present = λ n e. act.present n ∙ g.present n e;
        pin = λ n e. act.pin n ∙ g.pin n e;
        claim = λ n e. act.claim n ∙ g.claim n e;
        made = g.made;
        own = g.own;
        alone = g.alone;
        heard = let h = g.heard in omega arith;
        served = Each-map (IsServed (length r.history) x) (IsServed (length r.history) y) v.served serves g.served;
        ended = Each-map (HasEnded caller r.history x v.leaving) (HasEnded caller r.history y v.leaving) v.ended (λ e k. (k.0, λ p. k.1 (sym (act.present e.caller) ∙ p))) g.ended;
        leaving = λ n e. let l = g.leaving n e in (act.present n ∙ l.0, act.pin n ∙ l.1, act.claim n ∙ l.2, l.3);
      })

  -- nothing changes that the rule reads
  alike : (heard : ℕ) (served : List (ℕ × ℕ)) → v.raised ≡ None → IsAlike x y → (heard ≤ v.heard) ⊎ (heard ≤ x.quits) → Each (IsServed (length r.history) y) served
      → Rule record v { heard = heard; served = served }
  alike heard served quiet a hears serves = let q = a.quits in own v.pin v.claim v.given heard served quiet (alike_own a) (le_refl _) (λ _. refl) (omega arith) hears serves

  -- an act of the seat's own number
  by_number : (n : ℕ) (pinned : Option ℕ) (claimed : Option (ℕ × ℕ)) (more given : ℕ) (served : List (ℕ × ℕ)) → v.raised ≡ None → v.number ≡ Some n → given ≡ v.given + more → Changes n pinned claimed more x y
      → Each (IsServed (length r.history) y) served → Rule record v { pin = pinned; claim = claimed; given = given; served = served }
  by_number n pinned claimed more given served quiet is gave c serves = let q = c.quits in
      own pinned claimed given v.heard served quiet (changes_own v n pinned claimed more x y is c) (omega arith) (λ e. absurd (none_some n (sym e ∙ is))) (omega arith) (inl (le_refl _)) serves

  still : v.raised ≡ None → StaysReady x y → Each (IsServed (length r.history) y) v.served
  still quiet ready = still_served caller nth count x views id v r at y (log_all caller nth count x views id v r at quiet) ready

  hears_more : (quits : ℕ) → quits ≤ x.quits → (max v.heard quits ≤ v.heard) ⊎ (max v.heard quits ≤ x.quits)
  hears_more quits le = grind arith

  pub ends_by : (act : Act) → MayEnd act x y v → Rule (after act x v)
  ends_by Same m = alike v.heard v.served m.0 m.1 (inl (le_refl _)) (still m.0 m.1.ready)
  ends_by Join m = join m.0 m.1.0 m.1.1
  ends_by Leave m = leave m.1.0 m.0 m.1.1 m.1.2
  ends_by (Serve edition index) m = let all = log_all caller nth count x views id v r at m.0 in alike v.heard ((edition, index) ∷ v.served) m.0 m.1.0 (inl (le_refl _))
      (serving caller nth count x views id v r at y all m.1.0.ready (edition, index) (let le = m.1.1 in let same : length x.log ≡ length r.history = ap length all in omega arith, λ _. m.1.2), still m.0 m.1.0.ready)
  ends_by (Hear quits) m = alike (max v.heard quits) v.served m.0 m.1.0 (hears_more quits m.1.1) (still m.0 m.1.0.ready)
  ends_by Publish m = publish m.1.0 m.1.1 m.1.2
  ends_by Pin m = by_number m.1.0 (Some (length x.log)) v.claim 0 v.given v.served m.0 m.1.1 (omega arith) m.1.2 (still m.0 m.1.2.ready)
  ends_by Unpin m = by_number m.1.0 None v.claim 0 v.given v.served m.0 m.1.1 (omega arith) m.1.2 (still m.0 m.1.2.ready)
  ends_by (Claim edition index) m = by_number m.1.0 v.pin (Some (edition, index)) 0 v.given v.served m.0 m.1.1 (omega arith) m.1.2 (still m.0 m.1.2.ready)
  ends_by Done m = let all = log_all caller nth count x views id v r at m.0 in let own = m.1.0 in let done = m.1.1 in
      by_number own.0 v.pin None 0 v.given (listed v.claim ++ v.served) m.0 own.1 (omega arith) own.2
      (Each-append (IsServed (length r.history) y) (listed v.claim) v.served
      (subst (λ (o : Option (ℕ × ℕ)). Each (IsServed (length r.history) y) (listed o)) (sym done.1) ((let le = done.2.0 in let same : length x.log ≡ length r.history = ap length all in omega arith, λ _. done.2.1), tt))
      (still m.0 own.2.ready))
  ends_by Quit m = by_number m.1.0 v.pin None 1 (v.given + 1) v.served m.0 m.1.1 refl m.1.2 (still m.0 m.1.2.ready)
