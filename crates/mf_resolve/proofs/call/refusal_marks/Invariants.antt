use Rattle.std.proofs.Common.{◌≡◌, ◌<◌, ℕ, length, take, slice_get, Some}
use Rattle.mf_value.specs.Traces.{is_refused}
use Rattle.mf_resolve.proofs.call.refusal_marks.Given as goal

abbrev pub invariant-loop-fault : goal.invariant-loop-fault
invariant-loop-fault l =
    (length l.marks.items ≡ l.fn.count)
    × ((place : ℕ) → place < l.fn.count → slice_get l.marks.items place ≡ Some (is_refused (take l.fault-index l.refused) place))
