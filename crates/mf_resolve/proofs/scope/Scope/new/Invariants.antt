use Rattle.std.proofs.Common.{◌≡◌, replicate, None}
use Rattle.mf_resolve.proofs.scope.Scope.new.Given as goal

abbrev pub invariant-loop : goal.invariant-loop
invariant-loop l = l.resolved.items ≡ replicate l.index None
