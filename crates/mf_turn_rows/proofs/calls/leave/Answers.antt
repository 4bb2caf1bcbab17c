use Rattle.std.proofs.Common.{ap, ◌∙◌}
use Rattle.mf_turn.specs.declared.view.View.{View}
use Rattle.mf_turn_rows.specs.declared.tally.Entry.{Entry}
use Rattle.mf_turn_rows.specs.Tallies.{account_of}
use Rattle.mf_turn_rows.proofs.Turns.{quiet}
use Rattle.mf_turn_rows.proofs.calls.leave.Goals as goal

pub give-requires-clause-may : goal.give-requires-clause-may
give-requires-clause-may g c = let t = c.take-tally in (
  t.result,
  t.ensures.taken,
  (
    quiet (account_of t.result) _ _ t.ensures.view t.ensures.teaches,
    (
      c.args.number,
      ap (λ (v : View Entry). v.leaving) (t.ensures.view) ∙ (ap (λ (v : View Entry). v.leaving) c.join.ensures.view ∙ c.requires.number),
      c.end_caller.ensures,
    ),
  ),
)
