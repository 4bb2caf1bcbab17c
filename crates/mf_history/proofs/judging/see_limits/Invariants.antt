use Rattle.std.proofs.Common.{◌≤◌, ◌+◌, drop}
use Rattle.mf_edition.specs.Sizes.{messages_by, used_by}
use Rattle.mf_history.proofs.judging.see_limits.Given as goal

abbrev pub invariant-loop-k : goal.invariant-loop-k
invariant-loop-k l = messages_by l.log + used_by (drop l.k l.log) ≤ used_by l.log + messages_by (drop l.k l.log)
