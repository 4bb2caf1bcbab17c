-- The entries of a board, with and without what they are ready with.
use Rattle.std.proofs.Common.{◌≡◌, ◌∙◌, ℕ, Bool, true, false, Some, None, ◌⊎◌, inl, inr, ⊎_elim, refl, ap, sym}
use Rattle.std.specs.Prelude.{◌==◌, ◌&&◌, if◌then◌else◌}
use Rattle.mf_flight.specs.declared.slot.Slot.{Slot}
use Rattle.mf_flight.specs.declared.slot.State.{State}
use Rattle.mf_flight.specs.declared.slot.State.TheVariants.{Idle, Claimed, Ready}
use Rattle.mf_flight.specs.Slots.{asked, claimed, done, fresh, plan_of, quit, state_asked}
use Rattle.mf_core.specs.Kept.{blank, blank_state}
use Rattle.mf_core.proofs.Puts.{both_cases, both_here}

module _ {P : Type 0} where
  pub blank_if : (b : Bool) (s t : Slot P) → blank (if b then s else t) ≡ (if b then blank s else blank t)
  blank_if true s t = refl
  blank_if false s t = refl

  pub blank_claimed : (s : State P) → blank_state s ≡ Claimed → s ≡ Claimed
  blank_claimed Idle is = absurd (cc)
  blank_claimed Claimed is = refl
  blank_claimed (Ready plan) is = absurd (cc)

  pub blank_idle : (s : State P) → s ≡ Idle → blank_state s ≡ Idle
  blank_idle s is = ap blank_state is

  -- an idle entry that is asked for
  pub blank_asked : (s : Slot P) → s.state ≡ Idle → blank (asked s) ≡ claimed (blank s)
  blank_asked s is = λ k. record { state = blank_state (state_asked (is k)); quits = s.quits }

  -- one that isn't idle
  pub blank_unasked : (s : Slot P) → asked s ≡ s → blank (asked s) ≡ blank s
  blank_unasked s is = ap blank is

  nothing_ready : (plan : P) → None ≡ Some plan → ⊥
  nothing_ready plan is = cc

  same_plan : (made plan : P) → Some made ≡ Some plan → plan ≡ made
  same_plan made plan is = cc

  pub plan_dropped : (b : Bool) (s : Slot P) (plan : P) → plan_of (if b then fresh else s).state ≡ Some plan → plan_of s.state ≡ Some plan
  plan_dropped true s plan is = absurd (nothing_ready plan is)
  plan_dropped false s plan is = is

  pub plan_quit : (b : Bool) (old s : Slot P) (plan : P) → plan_of (if b then quit old else s).state ≡ Some plan → plan_of s.state ≡ Some plan
  plan_quit true old s plan is = absurd (nothing_ready plan is)
  plan_quit false old s plan is = is

  plan_of_asked : (s : State P) → plan_of (state_asked s) ≡ plan_of s
  plan_of_asked Idle = refl
  plan_of_asked Claimed = refl
  plan_of_asked (Ready plan) = refl

  pub plan_asked : (f : ℕ → ℕ → Slot P) (e i d j : ℕ) (plan : P)
      → plan_of (if (d == e) && (j == i) then asked (f e i) else f d j).state ≡ Some plan → plan_of (f d j).state ≡ Some plan
  plan_asked f e i d j plan is = ⊎_elim
      (λ (h : (d ≡ e) × (j ≡ i)). (λ k. plan_of (f (h.0 k) (h.1 k)).state) ∙ sym (plan_of_asked (f e i).state)
      ∙ ap (λ (s : Slot P). plan_of s.state) (sym (both_here f e i (asked (f e i)) d j h.0 h.1)) ∙ is)
      (λ (k : (if (d == e) && (j == i) then asked (f e i) else f d j) ≡ f d j). ap (λ (s : Slot P). plan_of s.state) (sym k) ∙ is)
      (both_cases f e i (asked (f e i)) d j)

  pub plan_done : (f : ℕ → ℕ → Slot P) (e i : ℕ) (made : P) (d j : ℕ) (plan : P)
      → plan_of (if (d == e) && (j == i) then done (f e i) made else f d j).state ≡ Some plan
      → (plan_of (f d j).state ≡ Some plan) ⊎ ((d ≡ e) × (j ≡ i) × (plan ≡ made))
  plan_done f e i made d j plan is = ⊎_elim
      (λ (h : (d ≡ e) × (j ≡ i)). inr (
        h.0,
        h.1,
        same_plan made plan
            (ap (λ (s : Slot P). plan_of s.state) (sym (both_here f e i (done (f e i) made) d j h.0 h.1)) ∙ is),
      ))
      (λ (k : (if (d == e) && (j == i) then done (f e i) made else f d j) ≡ f d j). inl (ap (λ (s : Slot P). plan_of s.state) (sym k) ∙ is))
      (both_cases f e i (done (f e i) made) d j)

  pub plan_now : (f : ℕ → ℕ → Slot P) (e i : ℕ) (made : P) → plan_of (if (e == e) && (i == i) then done (f e i) made else f e i).state ≡ Some made
  plan_now f e i made = ap (λ (s : Slot P). plan_of s.state) (both_here f e i (done (f e i) made) e i refl refl)
