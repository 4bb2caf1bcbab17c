-- What becomes of a line where one seat changes.
use Rattle.std.proofs.Common.{◌≡◌, ◌≢◌, ℕ, zero, suc, ◌+◌, ◌^◌, ◌<◌, ◌≤◌, eqb, List, [], ◌∷◌, ◌++◌, length, set, sym, refl, ap, ◌∙◌, subst, ⊎_elim, arith, length-set, cond, eq-eqb, ne_eqb, Option, Some, None}
use mathlib.Core.Logic.{dite}
use mathlib.Core.Option.{none, some, some-ne-none, some-injective}
use mathlib.Core.Option as maybe
use native.Mathlib.Decide.{ℕ_discrete}
use lib.ListN.{get_elem?}
use Rattle.atomic_table.proofs.Lists.{at_set, at_snoc, set_here, set_else, at_longer}
use Rattle.mf_queue.specs.declared.parts.Stage.{Stage}
use Rattle.mf_queue.specs.declared.parts.Stage.TheVariants.{Idle, Waiting, Holding}
use Rattle.mf_queue.specs.Line.{HasPlace, Agrees, IsAt, Lies, Line}

-- the function f, with a at p
abbrev with_at : (ℕ → ℕ) → ℕ → ℕ → ℕ → ℕ
with_at f p a q = cond (eqb q p) a (f q)

with_at-here : (f : ℕ → ℕ) (p a q : ℕ) → q ≡ p → with_at f p a q ≡ a
with_at-here f p a q e = ap (λ b. cond b a (f q)) (eq-eqb q p e)

with_at-else : (f : ℕ → ℕ) (p a q : ℕ) → q ≢ p → with_at f p a q ≡ f q
with_at-else f p a q n = ap (λ b. cond b a (f q)) (ne_eqb q p n)

module _ {K : Type 0} where
  pub same_seat : (seats : List K) (id : ℕ) (k l : K) → get_elem? seats id ≡ some k → get_elem? seats id ≡ some l → k ≡ l
  same_seat seats id k l a b = some-injective k l (sym a ∙ b)

  pub set_at : (seats : List K) (id : ℕ) (k l : K) → get_elem? seats id ≡ some k → get_elem? (set seats id l) id ≡ some l
  set_at [] id k l at = absurd (some-ne-none k (sym at))
  set_at (x ∷ xs) zero k l at = refl
  set_at (x ∷ xs) (suc id) k l at = set_at xs id k l at

  none_past : (seats : List K) (k : K) → get_elem? seats (length seats) ≡ some k → ⊥
  none_past [] k e = some-ne-none k (sym e)
  none_past (x ∷ xs) k e = none_past xs k e

  -- what holds of each seat, where one changes
  pub each_after : (P : ℕ → K → Type 0) (seats : List K) (id : ℕ) (l : K) → P id l → ((seat : ℕ) (k : K) → seat ≢ id → get_elem? seats seat ≡ some k → P seat k)
      → (seat : ℕ) (k : K) → get_elem? (set seats id l) seat ≡ some k → P seat k
  each_after P seats id l mine others seat k e = ⊎_elim
      (λ (t : (seat ≡ id) × (l ≡ k)). subst (λ (z : ℕ × K). P z.0 z.1) (λ i. (sym t.0 i, t.1 i)) mine)
      (λ (t : (seat ≢ id) × (get_elem? seats seat ≡ some k)). others seat k t.0 t.1)
      (at_set seats id seat l k e)

module _ {X : Type 0} where
  no_holding : (p : ℕ) (x : X) → Holding p x ≢ Idle
  no_holding p x e = cc

  pub no_waiting : (p q : ℕ) (x : X) → Holding p x ≢ Waiting q
  no_waiting p q x e = cc

module _ {X A S K : Type 0} (stage_of : K → Stage X) (kept : X → A → S) (slot : ℕ) where
  abbrev L : List (maybe.Option S) → List K → ℕ → ℕ → X → Option ℕ → Type 0
  L = Line stage_of kept slot

  -- a place stays that of its seat, where no seat gives it up
  keeps_place : (seats : List K) (id : ℕ) (k l : K) (p owner : ℕ) → get_elem? seats id ≡ some k → (HasPlace p (stage_of k) → HasPlace p (stage_of l))
      → IsAt stage_of kept slot seats p owner → IsAt stage_of kept slot (set seats id l) p owner
  keeps_place seats id k l p owner at goes has = dite (ℕ_discrete owner id)
      (λ same. (
        l,
        subst (λ (z : ℕ). get_elem? (set seats id l) z ≡ some l) (sym same) (set_at seats id k l at),
        goes (subst (λ (z : K). HasPlace p (stage_of z)) (same_seat seats id has.0 k (subst (λ (z : ℕ). get_elem? seats z ≡ some has.0) same has.1) at) has.2),
      ))
      (λ other. (has.0, set_else seats id owner l other ∙ has.1, has.2))

  -- what a seat's stage tells
  pub agrees_at : (homes : List (maybe.Option S)) (seats : List K) (drawn served : ℕ) (value : X) (holder : Option ℕ) (r : L homes seats drawn served value holder) (id : ℕ) (k : K) (st : Stage X)
      → get_elem? seats id ≡ some k → stage_of k ≡ st → Agrees drawn served value holder r.owner id st
  agrees_at homes seats drawn served value holder r id k st at is = subst (Agrees drawn served value holder r.owner id) is (r.agrees id k at)

  -- a seat that is idle holds nothing
  pub idle_holds_none : (homes : List (maybe.Option S)) (seats : List K) (value : X) (holder : Option ℕ) (id : ℕ) (k : K) → get_elem? seats id ≡ some k → stage_of k ≡ Idle
      → Lies stage_of kept slot homes seats value holder → holder ≢ Some id
  idle_holds_none homes seats value None id k at free lies e = cc
  idle_holds_none homes seats value (Some j) id k at free lies e = let same : j ≡ id = cc in
      let one = same_seat seats id lies.0 k (subst (λ (z : ℕ). get_elem? seats z ≡ some lies.0) same lies.2) at in
      no_holding lies.1 value (sym lies.3 ∙ ap stage_of one ∙ free)

  -- the holder is one of the seats
  pub holder_sits : (homes : List (maybe.Option S)) (seats : List K) (value : X) (holder : Option ℕ) → Lies stage_of kept slot homes seats value holder → holder ≢ Some (length seats)
  holder_sits homes seats value None lies e = cc
  holder_sits homes seats value (Some j) lies e = let same : j ≡ length seats = cc in none_past seats lies.0 (subst (λ (z : ℕ). get_elem? seats z ≡ some lies.0) same lies.2)

  -- the value lies where it lay, where a seat changes that holds the turn on, with the same value, or didn't hold it
  lies_still : (homes : List (maybe.Option S)) (seats : List K) (x : X) (holder : Option ℕ) (id : ℕ) (k l : K) → get_elem? seats id ≡ some k
      → ((p : ℕ) → stage_of k ≡ Holding p x → (q : ℕ) × (stage_of l ≡ Holding q x)) → Lies stage_of kept slot homes seats x holder → Lies stage_of kept slot homes (set seats id l) x holder
  lies_still homes seats x None id k l at goes lies = lies
  lies_still homes seats x (Some j) id k l at goes lies = dite (ℕ_discrete j id)
      (λ same. let one = same_seat seats id lies.0 k (subst (λ (z : ℕ). get_elem? seats z ≡ some lies.0) same lies.2) at in
      let on = goes lies.1 (ap stage_of (sym one) ∙ lies.3) in (l, on.0, subst (λ (z : ℕ). get_elem? (set seats id l) z ≡ some l) (sym same) (set_at seats id k l at), on.1))
      (λ other. (lies.0, lies.1, set_else seats id j l other ∙ lies.2, lies.3))

  lies_beside : (homes : List (maybe.Option S)) (seats : List K) (x : X) (holder : Option ℕ) (l : K) → Lies stage_of kept slot homes seats x holder → Lies stage_of kept slot homes (seats ++ l ∷ []) x holder
  lies_beside homes seats x None l lies = lies
  lies_beside homes seats x (Some j) l lies = (lies.0, lies.1, at_longer seats (l ∷ []) j lies.0 lies.2, lies.3)

  module _ (homes : List (maybe.Option S)) (seats : List K) (drawn served : ℕ) (value : X) (holder : Option ℕ) where
    -- a seat knows something else, and stands where it stood
    pub restated : L homes seats drawn served value holder → (id : ℕ) (k l : K) → get_elem? seats id ≡ some k → stage_of l ≡ stage_of k → L homes (set seats id l) drawn served value holder
    restated r id k l at same = record {
      owner = r.owner;
      has_slot = r.has_slot;
      small = r.small;
      behind = r.behind;
      placed = λ p a b. keeps_place seats id k l p (r.owner p) at (subst (HasPlace p) (sym same)) (r.placed p a b);
      lies = lies_still homes seats value holder id k l at (λ p e. (p, same ∙ e)) r.lies;
      agrees = each_after (λ j m. Agrees drawn served value holder r.owner j (stage_of m)) seats id l (subst (Agrees drawn served value holder r.owner id) (sym same) (r.agrees id k at)) (λ j m _. r.agrees j m);
    }

    -- an idle seat draws the next place
    pub drawn_next : L homes seats drawn served value holder → (id : ℕ) (k l : K) → get_elem? seats id ≡ some k → stage_of k ≡ Idle → stage_of l ≡ Waiting drawn → drawn + 1 < 2 ^ 64
        → L homes (set seats id l) (drawn + 1) served value holder
    drawn_next r id k l at free waits small = let behind : served ≤ drawn = r.behind in record {
      owner = with_at r.owner drawn id;
      has_slot = r.has_slot;
      small = small;
      behind = omega arith;
      placed = λ p a b. dite (ℕ_discrete p drawn)
          (λ same. subst (IsAt stage_of kept slot (set seats id l) p) (sym (with_at-here r.owner drawn id p same)) (l, set_at seats id k l at, subst (HasPlace p) (sym waits) (sym same)))
          (λ other. subst (IsAt stage_of kept slot (set seats id l) p) (sym (with_at-else r.owner drawn id p other))
          (keeps_place seats id k l p (r.owner p) at (λ h. absurd (subst (HasPlace p) free h)) (r.placed p a (omega arith))));
      lies = lies_still homes seats value holder id k l at (λ p e. absurd (no_holding p value (sym e ∙ free))) r.lies;
      agrees = each_after (λ j m. Agrees (drawn + 1) served value holder (with_at r.owner drawn id) j (stage_of m)) seats id l
          (subst (Agrees (drawn + 1) served value holder (with_at r.owner drawn id) id) (sym waits) (behind, omega arith, with_at-here r.owner drawn id drawn refl))
          (λ j m _ e. others j (stage_of m) (r.agrees j m e));
    }
      where
        others : (j : ℕ) (st : Stage X) → Agrees drawn served value holder r.owner j st → Agrees (drawn + 1) served value holder (with_at r.owner drawn id) j st
        others j Idle a = tt
        others j (Waiting p) a = let low : p < drawn = a.1 in (a.0, omega arith, with_at-else r.owner drawn id p (λ h. omega arith) ∙ a.2)
        others j (Holding p x) a = let low : p < drawn = a.1 in (a.0, omega arith, with_at-else r.owner drawn id p (λ h. omega arith) ∙ a.2, a.3, a.4)

  module _ (homes : List (maybe.Option S)) (seats : List K) (drawn served : ℕ) (value : X) where
    -- at the place of a seat that waits nobody holds the turn
    pub free_at : (holder : Option ℕ) → L homes seats drawn served value holder → (id : ℕ) (k : K) → get_elem? seats id ≡ some k → stage_of k ≡ Waiting served → holder ≡ None
    free_at None r id k at waits = refl
    free_at (Some j) r id k at waits = let h = r.lies in let a = agrees_at homes seats drawn served value (Some j) r j h.0 (Holding h.1 value) h.2 h.3 in
        let b = agrees_at homes seats drawn served value (Some j) r id k (Waiting served) at waits in
        let same : j ≡ id = sym a.2 ∙ ap r.owner a.0 ∙ b.2 in
        let one = same_seat seats id h.0 k (subst (λ (z : ℕ). get_elem? seats z ≡ some h.0) same h.2) at in
        absurd (no_waiting h.1 served value (sym h.3 ∙ ap stage_of one ∙ waits))

    -- the seat takes the slot at its place
    pub taken_now : L homes seats drawn served value None → (id : ℕ) (k l : K) → get_elem? seats id ≡ some k → stage_of k ≡ Waiting served → stage_of l ≡ Holding served value
        → L (set homes slot none) (set seats id l) drawn served value (Some id)
    taken_now r id k l at waits holds = let b = agrees_at homes seats drawn served value None r id k (Waiting served) at waits in record {
      owner = r.owner;
      has_slot = let h : slot < length homes = r.has_slot in omega (arith, length-set homes slot none);
      small = r.small;
      behind = r.behind;
      placed = λ p x y. keeps_place seats id k l p (r.owner p) at (λ h. subst (HasPlace p) (sym holds) (subst (HasPlace p) waits h)) (r.placed p x y);
      lies = (l, served, set_at seats id k l at, holds);
      agrees = each_after (λ j m. Agrees drawn served value (Some id) r.owner j (stage_of m)) seats id l (subst (Agrees drawn served value (Some id) r.owner id) (sym holds) (refl, b.1, b.2, refl, refl))
          (λ j m _ e. others j (stage_of m) (r.agrees j m e));
    }
      where
        others : (j : ℕ) (st : Stage X) → Agrees drawn served value None r.owner j st → Agrees drawn served value (Some id) r.owner j st
        others j Idle a = tt
        others j (Waiting p) a = a
        others j (Holding p x) a = let clash : None ≡ Some j = a.3 in absurd (cc)

    -- no other seat holds the turn
    alone : (owner : ℕ → ℕ) (value' : X) (holder' : Option ℕ) (drawn' served' id : ℕ) → (j p : ℕ) (x : X) → j ≢ id → Agrees drawn served value (Some id) owner j (Holding p x) → Agrees drawn' served' value' holder' owner j (Holding p x)
    alone owner value' holder' drawn' served' id j p x other a = let clash : Some id ≡ Some j = a.3 in let same : id ≡ j = cc in absurd (other (sym same))

    -- the holder gives the slot back, and its place is served
    pub ended_now : (id : ℕ) → L homes seats drawn served value (Some id) → (k l : K) (p : ℕ) (y : X) (mark : A) → get_elem? seats id ≡ some k → stage_of k ≡ Holding p value → stage_of l ≡ Idle
        → L (set homes slot (some (kept y mark))) (set seats id l) drawn (served + 1) y None
    ended_now id r k l p y mark at holds free = let a = agrees_at homes seats drawn served value (Some id) r id k (Holding p value) at holds in
        let here : p ≡ served = a.0 in let low : p < drawn = a.1 in record {
          owner = r.owner;
          has_slot = let h : slot < length homes = r.has_slot in omega (arith, length-set homes slot (some (kept y mark)));
          small = r.small;
          behind = omega arith;
          placed = λ q x z. keeps_place seats id k l q (r.owner q) at (λ h. let same : p ≡ q = subst (HasPlace q) holds h in absurd (omega arith)) (r.placed q (omega arith) z);
          lies = (mark, set_here homes slot (some (kept y mark)) r.has_slot);
          agrees = each_after (λ j m. Agrees drawn (served + 1) y None r.owner j (stage_of m)) seats id l (subst (Agrees drawn (served + 1) y None r.owner id) (sym free) tt)
              (λ j m other e. others here a.2 j other (stage_of m) (r.agrees j m e));
        }
      where
        others : p ≡ served → r.owner p ≡ id → (j : ℕ) → j ≢ id → (st : Stage X) → Agrees drawn served value (Some id) r.owner j st → Agrees drawn (served + 1) y None r.owner j st
        others here mine j other Idle a = tt
        others here mine j other (Waiting q) a = let low : served ≤ q = a.0 in let ne : q ≢ served = λ e. other (sym a.2 ∙ (ap r.owner (e ∙ sym here) ∙ mine)) in (omega arith, a.1, a.2)
        others here mine j other (Holding q x) a = alone r.owner y None drawn (served + 1) id j q x other a

    -- the holder is told of something beside the value
    pub told_now : (id : ℕ) → L homes seats drawn served value (Some id) → (k l : K) (p : ℕ) (y : X) → get_elem? seats id ≡ some k → stage_of k ≡ Holding p value → stage_of l ≡ Holding p y
        → L homes (set seats id l) drawn served y (Some id)
    told_now id r k l p y at holds on = let a = agrees_at homes seats drawn served value (Some id) r id k (Holding p value) at holds in record {
      owner = r.owner;
      has_slot = r.has_slot;
      small = r.small;
      behind = r.behind;
      placed = λ q x z. keeps_place seats id k l q (r.owner q) at (λ h. subst (HasPlace q) (sym on) (subst (HasPlace q) holds h)) (r.placed q x z);
      lies = (l, p, set_at seats id k l at, on);
      agrees = each_after (λ j m. Agrees drawn served y (Some id) r.owner j (stage_of m)) seats id l (subst (Agrees drawn served y (Some id) r.owner id) (sym on) (a.0, a.1, a.2, refl, refl))
          (λ j m other e. others j other (stage_of m) (r.agrees j m e));
    }
      where
        others : (j : ℕ) → j ≢ id → (st : Stage X) → Agrees drawn served value (Some id) r.owner j st → Agrees drawn served y (Some id) r.owner j st
        others j other Idle a = tt
        others j other (Waiting q) a = a
        others j other (Holding q x) a = alone r.owner y (Some id) drawn served id j q x other a

  module _ (homes : List (maybe.Option S)) (seats : List K) (drawn served : ℕ) (value : X) (holder : Option ℕ) where
    -- an idle seat comes
    pub one_more : L homes seats drawn served value holder → (l : K) → stage_of l ≡ Idle → L homes (seats ++ l ∷ []) drawn served value holder
    one_more r l free = record {
      owner = r.owner;
      has_slot = r.has_slot;
      small = r.small;
      behind = r.behind;
      placed = λ p a b. let has = r.placed p a b in (has.0, at_longer seats (l ∷ []) (r.owner p) has.0 has.1, has.2);
      lies = lies_beside homes seats value holder l r.lies;
      agrees = λ j k e. ⊎_elim (r.agrees j k) (λ (t : l ≡ k). subst (λ (z : K). Agrees drawn served value holder r.owner j (stage_of z)) t (subst (Agrees drawn served value holder r.owner j) (sym free) tt)) (at_snoc seats l k j e);
    }
