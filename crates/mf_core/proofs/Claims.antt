-- Claims after one of them has changed.
use Rattle.std.proofs.Common.{◌≡◌, ◌∙◌, ℕ, Option, Some, None, ⊎_elim, ap, sym}
use Rattle.std.specs.Prelude.{◌==◌, ◌&&◌, if◌then◌else◌}
use Rattle.std.proofs.lemmas.Bool.{cases_eq}
use Rattle.mf_flight.specs.declared.slot.Slot.{Slot}
use Rattle.mf_flight.specs.declared.slot.State.{State}
use Rattle.mf_flight.specs.declared.slot.State.TheVariants.{Idle, Claimed, Ready}
use Rattle.mf_core.specs.Valid.{AreClaimed}
use Rattle.mf_core.proofs.Puts.{both_cases, both_here}

abbrev pub Slots : Type 0
Slots = ℕ → ℕ → Slot (Unit {0})

pub pair_of : (a b : ℕ × ℕ) → Some a ≡ Some b → a ≡ b
pair_of a b is = cc

-- the states with no plan, and with one
abbrev pub idle_state : State (Unit {0})
idle_state = Idle

abbrev pub ready_state : State (Unit {0})
ready_state = Ready tt

pub idle_not_claimed : idle_state ≡ Claimed → ⊥
idle_not_claimed is = cc

pub ready_not_claimed : ready_state ≡ Claimed → ⊥
ready_not_claimed is = cc

pub nothing_claimed : (place : ℕ × ℕ) → None ≡ Some place → ⊥
nothing_claimed place is = cc

-- no claim changes, and no pin of a caller that has one
pub claims_stay : (pinned pinned' : ℕ → Option ℕ) (claim claim' : ℕ → Option (ℕ × ℕ)) (slot : Slots)
    → ((m : ℕ) → claim' m ≡ claim m) → ((m e i : ℕ) → claim m ≡ Some (e, i) → pinned' m ≡ pinned m)
    → AreClaimed pinned claim slot → AreClaimed pinned' claim' slot
claims_stay pinned pinned' claim claim' slot same pins old = record {
  entry = λ m e i is. let was = sym (same m) ∙ is in let t = old.entry m e i was in (pins m e i was ∙ t.0, t.1);
  one = λ m k e i is also. old.one m k e i (sym (same m) ∙ is) (sym (same k) ∙ also);
  some = λ e i is. let t = old.some e i is in (t.0, same t.0 ∙ t.1);
}

module _ (pinned pinned' : ℕ → Option ℕ) (claim claim' : ℕ → Option (ℕ × ℕ)) (slot : Slots) (n e i : ℕ) (new : Slot (Unit {0}))
    (pins : (m : ℕ) → pinned' m ≡ pinned m) (others : (m : ℕ) → (m ≡ n → ⊥) → claim' m ≡ claim m) (old : AreClaimed pinned claim slot) where
  abbrev slots : Slots
  slots d j = if (d == e) && (j == i) then new else slot d j

  state_here : (d j : ℕ) → d ≡ e → j ≡ i → (slots d j).state ≡ new.state
  state_here d j same_d same_j = ap (λ (s : Slot (Unit {0})). s.state) (both_here slot e i new d j same_d same_j)

  -- a caller claims an entry that was idle
  pub one_more : claim' n ≡ Some (e, i) → pinned n ≡ Some e → new.state ≡ Claimed → (slot e i).state ≡ Idle → claim n ≡ None
      → AreClaimed pinned' claim' slots
  one_more is pin claims idle free = record {
    entry = λ m d j own. ⊎_elim
        (λ (same : m ≡ n). let at = pair_of (e, i) (d, j) (sym is ∙ ap claim' (sym same) ∙ own) in (
          pins m ∙ ap pinned same ∙ pin ∙ ap (λ (p : ℕ × ℕ). Some p.0) at,
          state_here d j (sym (ap (λ (p : ℕ × ℕ). p.0) at)) (sym (ap (λ (p : ℕ × ℕ). p.1) at)) ∙ claims,
        ))
        (λ (other : m ≡ n → ⊥). let t = old.entry m d j (sym (others m other) ∙ own) in (
          pins m ∙ t.0,
          ⊎_elim (λ (h : (d ≡ e) × (j ≡ i)). state_here d j h.0 h.1 ∙ claims)
              (λ (k : slots d j ≡ slot d j). ap (λ (s : Slot (Unit {0})). s.state) k ∙ t.1) (both_cases slot e i new d j),
        ))
        (cases_eq m n);
    one = λ m k d j own also. ⊎_elim
        (λ (same : m ≡ n). ⊎_elim (λ (same' : k ≡ n). same ∙ sym same') (λ (other' : k ≡ n → ⊥). absurd (clash m k d j same other' own also)) (cases_eq k n))
        (λ (other : m ≡ n → ⊥). ⊎_elim (λ (same' : k ≡ n). absurd (clash k m d j same' other also own))
        (λ (other' : k ≡ n → ⊥). old.one m k d j (sym (others m other) ∙ own) (sym (others k other') ∙ also)) (cases_eq k n))
        (cases_eq m n);
    some = λ d j state. ⊎_elim
        (λ (h : (d ≡ e) × (j ≡ i)). (n, is ∙ (λ k. Some (sym h.0 k, sym h.1 k))))
        (λ (k : slots d j ≡ slot d j). let t = old.some d j (sym (ap (λ (s : Slot (Unit {0})). s.state) k) ∙ state) in
        (t.0, others t.0 (λ same. nothing_claimed (d, j) (sym free ∙ ap claim (sym same) ∙ t.1)) ∙ t.1)) (both_cases slot e i new d j);
  }
    where
      clash : (m k d j : ℕ) → m ≡ n → (k ≡ n → ⊥) → claim' m ≡ Some (d, j) → claim' k ≡ Some (d, j) → ⊥
      clash m k d j same other own also =
          let at = pair_of (d, j) (e, i) (sym also ∙ also ∙ sym own ∙ ap claim' same ∙ is) in
          let t = old.entry k d j (sym (others k other) ∙ also) in
          idle_not_claimed (sym idle ∙ (λ x. (slot (sym (ap (λ (p : ℕ × ℕ). p.0) at) x) (sym (ap (λ (p : ℕ × ℕ). p.1) at) x)).state) ∙ t.1)

  -- a caller's claim ends
  pub one_less : claim n ≡ Some (e, i) → claim' n ≡ None → (new.state ≡ Claimed → ⊥) → AreClaimed pinned' claim' slots
  one_less was free ends = record {
    entry = λ m d j own. let other = apart m d j own in let t = old.entry m d j (sym (others m other) ∙ own) in (
      pins m ∙ t.0,
      ⊎_elim
          (λ (h : (d ≡ e) × (j ≡ i)). absurd (other (old.one m n d j (sym (others m other) ∙ own) (was ∙ (λ k. Some (sym h.0 k, sym h.1 k))))))
          (λ (k : slots d j ≡ slot d j). ap (λ (s : Slot (Unit {0})). s.state) k ∙ t.1) (both_cases slot e i new d j),
    );
    one = λ m k d j own also. old.one m k d j (sym (others m (apart m d j own)) ∙ own) (sym (others k (apart k d j also)) ∙ also);
    some = λ d j state. ⊎_elim
        (λ (h : (d ≡ e) × (j ≡ i)). absurd (ends (sym (state_here d j h.0 h.1) ∙ state)))
        (λ (k : slots d j ≡ slot d j). let t = old.some d j (sym (ap (λ (s : Slot (Unit {0})). s.state) k) ∙ state) in
        (t.0, others t.0 (elsewhere d j t.0 k state t.1) ∙ t.1)) (both_cases slot e i new d j);
  }
    where
      apart : (m d j : ℕ) → claim' m ≡ Some (d, j) → m ≡ n → ⊥
      apart m d j own same = nothing_claimed (d, j) (sym free ∙ ap claim' (sym same) ∙ own)

      elsewhere : (d j m : ℕ) → slots d j ≡ slot d j → (slots d j).state ≡ Claimed → claim m ≡ Some (d, j) → m ≡ n → ⊥
      elsewhere d j m k state own same =
          let at = pair_of (d, j) (e, i) (sym own ∙ ap claim same ∙ was) in
          ends (sym (state_here d j (ap (λ (p : ℕ × ℕ). p.0) at) (ap (λ (p : ℕ × ℕ). p.1) at)) ∙ state)
