use Rattle.mf_core.specs.Running.{IsWhole}
use Rattle.mf_core_rows.proofs.core_tests.who_has_not_joined_may_not_ask.Given as goal

abbrev pub invariant-loop-event : goal.invariant-loop-event
invariant-loop-event g l =
    (goal.iterator-loop-event g).can_next l.event-iterator × (goal.iterator-loop-event g).is_finite l.event-iterator × IsWhole l.world
