-- What clauses say of the value that a seat took, as the queue says it.
use Rattle.std.proofs.Common.{◌≡◌, ℕ, Option, Some, None, sym, subst}
use Rattle.atomic_table.specs.declared.shared.Seat.{Seat as Sat}
use Rattle.mf_queue.specs.declared.parts.Item.{Item}
use Rattle.mf_queue.specs.declared.parts.Knowledge.{Knowledge}
use Rattle.mf_queue.specs.Queue.{taken, view, Holds}
use Rattle.mf_turn.specs.declared.act.Act.{Act}
use Rattle.mf_turn.specs.declared.view.View.{View}
use Rattle.mf_turn.specs.Standing.{value_of, standing_of, Standing}
use Rattle.mf_turn.specs.Sums.{HasSome}

module _ {T : Type 0} where
  held_at : (o : Option (T × ℕ)) (P : T → Type 0) (Q : T → ℕ → Type 0) → ((x : T) (count : ℕ) → P x → Q x count) → HasSome (value_of o) P → Holds o Q
  held_at None P Q go has = let clash : None ≡ Some has.0 = has.1 in absurd (cc)
  held_at (Some z) P Q go has = let e : Some z.0 ≡ Some has.0 = has.1 in let same : has.0 ≡ z.0 = cc in go z.0 z.1 (subst P same has.2)

module _ {T E : Type 0} where
  -- what a seat may do with the value that it took
  pub held : (s : Standing T E) (seat : Sat (Item T Act) (Knowledge T (View E))) (P : T → View E → Type 0) (Q : T → ℕ → Type 0) → standing_of seat ≡ s
      → ((x : T) (count : ℕ) → P x (view seat) → Q x count) → HasSome s.taken (λ x. P x s.view) → Holds (taken seat) Q
  held s seat P Q is go has = held_at (taken seat) (λ x. P x (view seat)) Q go (subst (λ (z : Standing T E). HasSome z.taken (λ x. P x z.view)) (sym is) has)
