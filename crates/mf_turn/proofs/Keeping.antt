-- What stays of seats beside the one that steps, and the steps that change no account.
use Rattle.std.proofs.Common.{◌≡◌, ◌≢◌, ℕ, ◌<◌, ◌≤◌, List, ◌++◌, length, set, sym, refl, ap, ◌∙◌, subst, arith, Option, Some, None, le_refl}
use mathlib.Core.Option.{some}
use lib.ListN.{get_elem?}
use Rattle.mf_turn.specs.declared.view.View.{View}
use Rattle.mf_turn.specs.Account.{Account, entries_by}
use Rattle.mf_turn.specs.Acts.{caught_up, with_log, unnumbered}
use Rattle.mf_turn.specs.Rule.{ended_caller, numbers, given_by, IsServed, HasEnded, SeatRule, TurnRule}
use Rattle.mf_turn.specs.Sums.{times, total, listed, StartsWith}
use Rattle.mf_turn.proofs.Lists.{none_some, append_nil, each_set, starts_itself, starts_through, Each-map, Each-within}
use Rattle.mf_turn.proofs.Numbers.{owns_number, owns_ended, given-same, owned_still}

pub other_holder : (id j : ℕ) → j ≢ id → Some id ≢ Some j
other_holder id j other e = let same : id ≡ j = cc in other (sym same)

module _ {E : Type 0} where
  -- what a step does that a seat beside it sees
  pub record Beside (h h' : List E) (gave gave' : ℕ) (x y : Account E) : Type 0 where
    pub longer : StartsWith h' h
    pub joined : x.joined ≤ y.joined
    pub given : gave ≤ gave'
    pub serves : (pair : ℕ × ℕ) → IsServed (length h) x pair → IsServed (length h') y pair

  -- nothing changes of this caller
  abbrev pub Untouched : Account E → Account E → ℕ → Type 0
  Untouched x y n = (y.present n ≡ x.present n) × (y.pin n ≡ x.pin n) × (y.claim n ≡ x.claim n)

  pub no_step : (h : List E) (given : ℕ) (x : Account E) → Beside h h given given x x
  no_step h given x = record { longer = starts_itself h; joined = le_refl _; given = le_refl _; serves = λ pair s. s }

module _ {E : Type 0} (caller : E → ℕ) where
  -- a seat that doesn't hold the turn afterwards, whose callers the step doesn't touch
  pub stays : (h h' : List E) (holder holder' : Option ℕ) (pending pending' : Option E) (given given' : ℕ) (x y : Account E) (seat : ℕ) (v : View E)
      → Beside h h' given given' x y → v.raised ≡ None → holder' ≢ Some seat
      → ((n : ℕ) → 0 < times n (numbers v) → Untouched x y n) → ((n : ℕ) → 0 < times n (numbers v) → entries_by caller n h' ≡ entries_by caller n h)
      → SeatRule caller h holder pending given x seat v → SeatRule caller h' holder' pending' given' y seat v
  stays h h' holder holder' pending pending' given given' x y seat v b quiet away same entries f = record {
    seen = starts_through h' h v.log b.longer f.seen;
    told = starts_through h' h v.told b.longer f.told;
    sees_all = λ e. absurd (away e);
    fixed = λ e. absurd (away e);
    quiet = λ _. quiet;
    known = let k = f.known in let j = b.joined in omega arith;
    present = λ n e. (same n (owns_number v n e)).0 ∙ f.present n e;
    pin = λ n e. (same n (owns_number v n e)).1 ∙ f.pin n e;
    claim = λ n e. (same n (owns_number v n e)).2 ∙ f.claim n e;
    made = λ n e. entries n (owns_number v n e) ∙ f.made n e;
    own = f.own;
    alone = f.alone;
    heard = let k = f.heard in let g = b.given in omega arith;
    served = Each-map (IsServed (length h) x) (IsServed (length h') y) v.served b.serves f.served;
    ended = Each-within ended_caller (HasEnded caller h x v.leaving) (HasEnded caller h' y v.leaving) v.ended
        (λ e has k. let o = owns_ended v e.caller has in (entries e.caller o ∙ k.0, λ p. k.1 (sym (same e.caller o).0 ∙ p))) f.ended;
    leaving = λ n e. let l = f.leaving n e in let s = same n (owns_ended v n l.3) in (s.0 ∙ l.0, s.1 ∙ l.1, s.2 ∙ l.2, l.3);
  }

  -- a seat with no number
  pub no_number : (h : List E) (holder : Option ℕ) (pending : Option E) (given : ℕ) (x : Account E) (seat : ℕ) (log : List E) (known heard : ℕ)
      → StartsWith h log → known < x.joined → heard ≤ given → holder ≢ Some seat → SeatRule caller h holder pending given x seat (unnumbered log known heard)
  no_number h holder pending given x seat log known heard seen below le away = record {
    seen = seen;
    told = (h, refl);
    sees_all = λ e. absurd (away e);
    fixed = λ e. absurd (away e);
    quiet = λ _. refl;
    known = below;
    present = λ n e. absurd (none_some n e);
    pin = λ n e. absurd (none_some n e);
    claim = λ n e. absurd (none_some n e);
    made = λ n e. absurd (none_some n e);
    own = λ n e. absurd (none_some n e);
    alone = λ _. (refl, refl);
    heard = le;
    served = tt;
    ended = tt;
    leaving = λ n e. absurd (none_some n e);
  }

  module _ (nth : E → ℕ) where
    -- where no place is fixed, the log is the history
    pub log_whole : (count : ℕ) (x : Account E) (holder : Option ℕ) (views : List (View E)) (r : TurnRule caller nth count x holder views) → r.pending ≡ None → x.log ≡ r.history
    log_whole count x holder views r none_fixed = sym (append_nil x.log) ∙ ap (λ (z : Option E). x.log ++ listed z) (sym none_fixed) ∙ r.logged

    pub takes : (count : ℕ) (x : Account E) (views : List (View E)) (id : ℕ) (v : View E) → TurnRule caller nth count x None views → get_elem? views id ≡ some v
        → TurnRule caller nth count x (Some id) (set views id (caught_up v x))
    takes count x views id v r at = let w = caught_up v x in let f = r.each id v at in let none_fixed : r.pending ≡ None = r.settled refl in
        let all : x.log ≡ r.history = log_whole count x None views r none_fixed in
        let given : total given_by views ≡ total given_by (set views id w) = sym (given-same views id v w at refl) in record {
          history = r.history;
          pending = r.pending;
          counted = r.counted;
          logged = r.logged;
          settled = λ e. absurd (none_some id (sym e));
          numbered = r.numbered;
          owned = owned_still caller nth count x None views r id v w x.joined at (λ n. refl) refl;
          fresh = r.fresh;
          quits = subst (λ (g : ℕ). x.quits ≤ g) given r.quits;
          each = subst (λ (g : ℕ). (j : ℕ) (u : View E) → get_elem? (set views id w) j ≡ some u → SeatRule caller r.history (Some id) r.pending g x j u) given
              (each_set (SeatRule caller r.history (Some id) r.pending (total given_by views) x) views id w
              record {
                seen = (listed r.pending, r.logged);
                told = (r.history, refl);
                sees_all = λ _. all;
                fixed = λ _. f.quiet (none_some id) ∙ sym none_fixed;
                quiet = λ away. absurd (away refl);
                known = let k = f.known in omega arith;
                present = f.present;
                pin = f.pin;
                claim = f.claim;
                made = f.made;
                own = λ n e. ap (entries_by caller n) all ∙ f.made n e;
                alone = f.alone;
                heard = f.heard;
                served = f.served;
                ended = f.ended;
                leaving = f.leaving;
              }
              (λ j u other e. let g = r.each j u e in stays r.history r.history None (Some id) r.pending r.pending (total given_by views) (total given_by views) x x j u
              (no_step r.history (total given_by views) x) (g.quiet (none_some j)) (other_holder id j other) (λ n _. (refl, refl, refl)) (λ n _. refl) g));
        }

    -- the seat sees the whole history
    pub counts : (count : ℕ) (x : Account E) (holder : Option ℕ) (views : List (View E)) (id : ℕ) (v : View E) (r : TurnRule caller nth count x holder views) → get_elem? views id ≡ some v
        → TurnRule caller nth count x holder (set views id (with_log v r.history))
    counts count x holder views id v r at = let w = with_log v r.history in let f = r.each id v at in
        let given : total given_by views ≡ total given_by (set views id w) = sym (given-same views id v w at refl) in record {
          history = r.history;
          pending = r.pending;
          counted = r.counted;
          logged = r.logged;
          settled = r.settled;
          numbered = r.numbered;
          owned = owned_still caller nth count x holder views r id v w x.joined at (λ n. refl) refl;
          fresh = r.fresh;
          quits = subst (λ (g : ℕ). x.quits ≤ g) given r.quits;
          each = subst (λ (g : ℕ). (j : ℕ) (u : View E) → get_elem? (set views id w) j ≡ some u → SeatRule caller r.history holder r.pending g x j u) given
              (each_set (SeatRule caller r.history holder r.pending (total given_by views) x) views id w
              record {
                seen = starts_itself r.history;
                told = (r.history, refl);
                sees_all = λ _. refl;
                fixed = f.fixed;
                quiet = f.quiet;
                known = f.known;
                present = f.present;
                pin = f.pin;
                claim = f.claim;
                made = f.made;
                own = f.made;
                alone = f.alone;
                heard = f.heard;
                served = f.served;
                ended = f.ended;
                leaving = f.leaving;
              }
              (λ j u _ e. r.each j u e));
        }
