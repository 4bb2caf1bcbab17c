use Rattle.std.proofs.Common.{◌≡◌, ◌∙◌, ap, sym, refl, subst, false, ℕ, ◌≤◌, arith}
use Rattle.std.specs.Prelude.{◌==◌, ◌&&◌, not, length}
use Rattle.mf_core.specs.Kept.{board_world}
use Rattle.mf_core.specs.declared.caller.CallerState.{CallerState}
use Rattle.mf_legal.specs.Calls.{one_if}
use Rattle.mf_hub.specs.Stores.{others_below, world_of, Stored}
use Rattle.mf_hub.proofs.Accounts.{counts_other, others_most, skips_absent, skips_own}
use Rattle.mf_hub.proofs.Sums.{sum-next}
use Rattle.mf_hub.proofs.store.Store.others.Goals as goal
use Rattle.mf_hub.proofs.store.Store.others.Goals.{then-number-caller+then-caller, else-number-caller, else-number-caller-via-then-number-caller+else-caller, else-number-caller-via-else-number-caller}

pub loop-number-init : goal.loop-number-init
loop-number-init c = refl

pub overflow_add-others : goal.overflow_add-others
overflow_add-others c =
    let most = others_most (board_world c.self.inside.board) c.args.caller c.loop-number.number in
    let is = c.loop-number.invariant in
    omega (arith, most, is, c.loop-number-test.true, c.next_caller-number-end.type_inv)

pub loop-number-preserved : goal.loop-number-preserved
loop-number-preserved c = let w = board_world c.self.inside.board in let n = c.args.caller in let k = c.loop-number.number in
    let next = sum-next (λ m. one_if (not (m == n) && (w.caller m).joined)) k in
    let is = c.loop-number.invariant in
    elim c.if-number-caller.branch [
      | then-number-caller+then-caller t ↦
          let one = counts_other w n k t.if-number-caller.true (sym (ap (λ (s : CallerState). s.joined) t.caller.ensures) ∙ t.if-caller.true) in
          rw t.others-is (omega (arith, next, is, one))
      | else-number-caller t ↦ elim t.else-number-caller.branch [
        | else-number-caller-via-then-number-caller+else-caller u ↦
            let zero = skips_absent w n k (sym (ap (λ (s : CallerState). s.joined) u.caller.ensures) ∙ u.if-caller.false) in
            rw t.others-is (omega (arith, next, is, zero))
        | else-number-caller-via-else-number-caller u ↦
            let zero = skips_own w n k u.if-number-caller.false in
            rw t.others-is (omega (arith, next, is, zero))
      ]
    ]

pub returns-clause-others : goal.returns-clause-others
returns-clause-others c = let w = board_world c.self.inside.board in let n = c.args.caller in
    let same : c.loop-number.number ≡ length c.self.inside.board.callers.items =
    omega (arith, c.loop-number-test.false, c.loop-number.auto.number-end, c.next_caller-number-end.ensures) in
    c.loop-number.invariant ∙ ap (others_below w n) same
    ∙ ap (λ (z : Stored). others_below (world_of z) n (length z.board.callers.items)) c.self.view_is

pub returns-clause-beyond : goal.returns-clause-beyond
returns-clause-beyond c = subst (λ (z : Stored). (m : ℕ) → (world_of z).next ≤ m → ((world_of z).caller m).joined ≡ false) c.self.view_is
    c.self.invariant.kept.valid.numbers.later
