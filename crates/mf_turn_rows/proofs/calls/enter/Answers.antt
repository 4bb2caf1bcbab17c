use Rattle.std.proofs.Common.{ap, ◌∙◌}
use Rattle.mf_turn.specs.declared.view.View.{View}
use Rattle.mf_turn_rows.specs.declared.tally.Entry.{Entry}
use Rattle.mf_turn_rows.specs.Tallies.{account_of}
use Rattle.mf_turn_rows.proofs.Turns.{quiet}
use Rattle.mf_turn_rows.proofs.calls.enter.Goals as goal

pub give-requires-clause-may : goal.give-requires-clause-may
give-requires-clause-may g c = let t = c.take-tally in (
  t.result,
  t.ensures.taken,
  (
    quiet (account_of t.result) _ _ t.ensures.view t.ensures.teaches,
    (ap (λ (v : View Entry). v.number) (t.ensures.view) ∙ ap (λ (v : View Entry). v.number) c.split-seat.ensures.view, c.in-Ok.ensures.joins),
  ),
)

pub give-requires-in-Err-clause-may : goal.give-requires-in-Err-clause-may
give-requires-in-Err-clause-may g c = let t = c.take-tally in
    (t.result, t.ensures.taken, (quiet (account_of t.result) _ _ t.ensures.view t.ensures.teaches, c.in-Err.ensures.joins))
