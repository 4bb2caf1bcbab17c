use Rattle.std.proofs.Common.{◌≡◌, ◌++◌, take}
use Rattle.mf_resolve.specs.Refusals.{refused_errors}
use Rattle.mf_resolve.proofs.call.add_refusals.Given as goal

abbrev pub invariant-loop-place : goal.invariant-loop-place
invariant-loop-place l = l.faults ≡ l.fn.faults ++ refused_errors l.refused (take l.place l.given)
