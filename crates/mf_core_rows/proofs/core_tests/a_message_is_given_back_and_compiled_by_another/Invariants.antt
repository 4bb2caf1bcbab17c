use Rattle.mf_core.specs.Running.{IsWhole}
use Rattle.mf_core_rows.proofs.core_tests.a_message_is_given_back_and_compiled_by_another.Given as goal

abbrev pub invariant-loop-event : goal.invariant-loop-event
invariant-loop-event g l =
    (goal.iterator-loop-event g).can_next l.event-iterator × (goal.iterator-loop-event g).is_finite l.event-iterator × IsWhole l.world
