use Rattle.mf_turn_rows.specs.Tallies.{account_of}
use Rattle.mf_turn_rows.proofs.Turns.{quiet}
use Rattle.mf_turn_rows.proofs.calls.add.Goals as goal

pub give-requires-clause-may : goal.give-requires-clause-may
give-requires-clause-may g c = let t = c.take-tally in
    (t.result, t.ensures.taken, (quiet (account_of t.result) _ _ t.ensures.view t.ensures.teaches, c.add_one.ensures))
