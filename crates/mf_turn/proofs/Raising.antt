-- The holder fixes the place of an entry.
use Rattle.std.proofs.Common.{◌≡◌, ◌≢◌, ℕ, ◌+◌, ◌≤◌, eqb, List, [], ◌∷◌, ◌++◌, length, set, sym, refl, ap, ◌∙◌, subst, arith, append_assoc, length-append, Some, None, le_refl}
use mathlib.Core.Option.{some}
use lib.ListN.{get_elem?}
use Rattle.std.proofs.lemmas.Bool.Decides.{nat_tests}
use Rattle.mf_turn.specs.declared.view.View.{View}
use Rattle.mf_turn.specs.Account.{Account, entries_by, IsNumberedAfter}
use Rattle.mf_turn.specs.Acts.{with_raised}
use Rattle.mf_turn.specs.Rule.{ended_caller, given_by, IsServed, HasEnded, SeatRule, TurnRule}
use Rattle.mf_turn.specs.Sums.{one_if, total}
use Rattle.mf_turn.proofs.Lists.{one_if-same, none_some, append_nil, each_set, starts_longer, starts_through, Each-map, Each-within}
use Rattle.mf_turn.proofs.Numbers.{same_number, owns_number, entries_by-append, given-same, apart, below, own_apart, owned_still}
use Rattle.mf_turn.proofs.Keeping.{other_holder, stays}
use Rattle.mf_turn.proofs.Ending.{log_all}

module _ {E : Type 0} (caller nth : E → ℕ) where
  -- an entry with the next number of its caller
  numbered-snoc : (before es : List E) (e : E) → IsNumberedAfter caller nth before es → nth e ≡ entries_by caller (caller e) (before ++ es) + 1 → IsNumberedAfter caller nth before (es ++ e ∷ [])
  numbered-snoc before [] e all next = (next ∙ ap (λ (l : List E). entries_by caller (caller e) l + 1) (append_nil before), tt)
  numbered-snoc before (x ∷ xs) e all next = (all.0, numbered-snoc (before ++ x ∷ []) xs e all.1 (next ∙ ap (λ (l : List E). entries_by caller (caller e) l + 1) (sym (append_assoc before (x ∷ []) xs))))

  module _ (count : ℕ) (x : Account E) (views : List (View E)) (id : ℕ) (v : View E) (r : TurnRule caller nth count x (Some id) views) (at : get_elem? views id ≡ some v) where
    pub raises : (e : E) → v.raised ≡ None → v.number ≡ Some (caller e) → nth e ≡ v.made + 1 → TurnRule caller nth (count + 1) x (Some id) (set views id (with_raised v e))
    raises e quiet is next = record {
      history = (r.history ++ e ∷ []);
      pending = Some e;
      counted = let k = r.counted in omega (arith, longer);
      logged = ap (λ (l : List E). l ++ e ∷ []) (log_all caller nth count x views id v r at quiet);
      settled = λ no_holder. absurd (none_some id (sym no_holder));
      numbered = numbered-snoc [] r.history e r.numbered (next ∙ ap (λ (z : ℕ). z + 1) (sym (f.made (caller e) is)));
      owned = owned_still caller nth count x (Some id) views r id v (with_raised v e) x.joined at (λ m. refl) refl;
      fresh = λ m a. let b = below caller nth count x (Some id) views r id (caller e) v at (owns_number v (caller e) is) in others m (λ same. omega arith) ∙ r.fresh m a;
      quits = subst (λ (g : ℕ). x.quits ≤ g) given r.quits;
      each = subst (λ (g : ℕ). (j : ℕ) (u : View E) → get_elem? (set views id (with_raised v e)) j ≡ some u → SeatRule caller (r.history ++ e ∷ []) (Some id) (Some e) g x j u) given
          (each_set (SeatRule caller (r.history ++ e ∷ []) (Some id) (Some e) (total given_by views) x) views id (with_raised v e)
          record {
            seen = ([], append_nil (v.log ++ e ∷ []) ∙ ap (λ (l : List E). l ++ e ∷ []) (f.sees_all refl));
            told = starts_through (r.history ++ e ∷ []) r.history v.told (starts_longer r.history (e ∷ [])) f.told;
            sees_all = λ _. ap (λ (l : List E). l ++ e ∷ []) (f.sees_all refl);
            fixed = λ _. refl;
            quiet = λ away. absurd (away refl);
            known = f.known;
            present = f.present;
            pin = f.pin;
            claim = f.claim;
            made = λ m i. let same : (caller e) ≡ m = same_number v (caller e) m is i in let a = f.made m i in let one = mine m same in let k = counts r.history m in omega arith;
            own = λ m i. let same : (caller e) ≡ m = same_number v (caller e) m is i in let a = f.own m i in let one = mine m same in let k = counts v.log m in omega arith;
            alone = f.alone;
            heard = f.heard;
            served = Each-map (IsServed (length r.history) x) (IsServed (length (r.history ++ e ∷ [])) x) v.served serves f.served;
            ended = Each-within ended_caller (HasEnded caller r.history x v.leaving) (HasEnded caller (r.history ++ e ∷ []) x v.leaving) v.ended
                (λ z has k. (others z.caller (own_apart caller nth count x (Some id) views r id (caller e) z.caller v at is has) ∙ k.0, k.1)) f.ended;
            leaving = f.leaving;
          }
          (λ j u other i. let g = r.each j u i in stays caller r.history (r.history ++ e ∷ []) (Some id) (Some id) r.pending (Some e) (total given_by views) (total given_by views) x x j u
          record { longer = starts_longer r.history (e ∷ []); joined = le_refl _; given = le_refl _; serves = serves }
          (g.quiet (other_holder id j other)) (other_holder id j other) (λ m _. (refl, refl, refl))
          (λ m has. others m (apart caller nth count x (Some id) views r id j (caller e) m v u at i other (owns_number v (caller e) is) has)) g));
    }
      where
        f : SeatRule caller r.history (Some id) r.pending (total given_by views) x id v
        f = r.each id v at

        longer : length (r.history ++ e ∷ []) ≡ length r.history + 1
        longer = length-append r.history (e ∷ [])

        given : total given_by views ≡ total given_by (set views id (with_raised v e))
        given = sym (given-same views id v (with_raised v e) at refl)

        counts : (l : List E) (m : ℕ) → entries_by caller m (l ++ e ∷ []) ≡ entries_by caller m l + (one_if (eqb (caller e) m) + 0)
        counts l m = entries_by-append caller m l (e ∷ [])

        mine : (m : ℕ) → (caller e) ≡ m → one_if (eqb (caller e) m) ≡ 1
        mine m same = subst (λ (z : ℕ). one_if (eqb (caller e) z) ≡ 1) same (one_if-same (caller e))

        others : (m : ℕ) → m ≢ (caller e) → entries_by caller m (r.history ++ e ∷ []) ≡ entries_by caller m r.history
        others m away = let k = counts r.history m in let z : one_if (eqb (caller e) m) ≡ 0 = grind (arith, nat_tests) in omega arith

        serves : (pair : ℕ × ℕ) → IsServed (length r.history) x pair → IsServed (length (r.history ++ e ∷ [])) x pair
        serves pair s = let a = s.0 in (omega (arith, longer), λ i. absurd (omega (arith, longer)))
