-- What a seat at rest tells.
use Rattle.std.proofs.Common.{◌≡◌, ℕ, List, [], ◌∷◌, refl, sym, ap, subst, Some, None}
use Rattle.mf_queue.specs.declared.parts.Item.{Item}
use Rattle.mf_queue.specs.declared.parts.Item.TheVariants.{Away}
use Rattle.mf_queue.specs.declared.parts.Stage.{Stage}
use Rattle.mf_queue.specs.declared.parts.Stage.TheVariants.{Idle, Waiting, Holding}
use Rattle.mf_queue.specs.Queue.{taken_at, Holds, Rests}

module _ {T : Type 0} where
  pub holds_at : (stage : Stage (T × ℕ)) (P : T → ℕ → Type 0) (p : ℕ) (x : T) (count : ℕ) → stage ≡ Holding p (x, count) → P x count → Holds (taken_at stage) P
  holds_at stage P p x count is h = subst (λ (st : Stage (T × ℕ)). Holds (taken_at st) P) (sym is) h

  -- what is said of what was taken, where that is known
  pub law_at : (stage : Stage (T × ℕ)) (P : T → ℕ → Type 0) (p : ℕ) (x : T) (count : ℕ) → stage ≡ Holding p (x, count) → Holds (taken_at stage) P → P x count
  law_at stage P p x count is h = subst (λ (st : Stage (T × ℕ)). Holds (taken_at st) P) is h

  pub taken_idle : (stage : Stage (T × ℕ)) → stage ≡ Idle → taken_at stage ≡ None
  taken_idle stage is = ap taken_at is

  pub taken_holding : (stage : Stage (T × ℕ)) (p : ℕ) (x : T × ℕ) → stage ≡ Holding p x → taken_at stage ≡ Some x
  taken_holding stage p x is = ap taken_at is

module _ {T A : Type 0} where
  -- where nothing is taken, the seat is idle
  pub is_idle : (stage : Stage (T × ℕ)) (out : List (ℕ × Item T A)) → Rests stage out → taken_at stage ≡ None → (stage ≡ Idle) × (out ≡ [])
  is_idle Idle out rests none_taken = (refl, rests)
  is_idle (Waiting p) out rests none_taken = absurd rests
  is_idle (Holding p x) out rests none_taken = absurd (cc)

  -- where something is taken, the seat holds the turn
  pub is_holding : (stage : Stage (T × ℕ)) (out : List (ℕ × Item T A)) (P : T → ℕ → Type 0) → Rests stage out → Holds (taken_at stage) P
      → (p : ℕ) × (x : T) × (count : ℕ) × (stage ≡ Holding p (x, count)) × (out ≡ (0, Away) ∷ []) × P x count
  is_holding Idle out P rests held = absurd held
  is_holding (Waiting p) out P rests held = absurd held
  is_holding (Holding p x) out P rests held = (p, x.0, x.1, refl, rests, held)

  pub rests_idle : (stage : Stage (T × ℕ)) (out : List (ℕ × Item T A)) → stage ≡ Idle → out ≡ [] → Rests stage out
  rests_idle stage out is none_out = subst (λ (st : Stage (T × ℕ)). Rests st out) (sym is) none_out

  pub rests_holding : (stage : Stage (T × ℕ)) (out : List (ℕ × Item T A)) (p : ℕ) (x : T × ℕ) → stage ≡ Holding p x → out ≡ (0, Away) ∷ [] → Rests stage out
  rests_holding stage out p x is has_slot = subst (λ (st : Stage (T × ℕ)). Rests st out) (sym is) has_slot

  pub stage_rests : (stage stage' : Stage (T × ℕ)) (out out' : List (ℕ × Item T A)) → stage' ≡ stage → out' ≡ out → Rests stage out → Rests stage' out'
  stage_rests stage stage' out out' is same rests = subst (λ (z : Stage (T × ℕ) × List (ℕ × Item T A)). Rests z.0 z.1) (λ i. (sym is i, sym same i)) rests
