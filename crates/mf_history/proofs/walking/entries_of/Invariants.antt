use Rattle.std.proofs.Common.{◌≡◌, ◌≤◌, ◌+◌, drop}
use Rattle.mf_legal.specs.Calls.{made_by}
use Rattle.mf_history.proofs.walking.entries_of.Given as goal

abbrev pub invariant-loop-k : goal.invariant-loop-k
invariant-loop-k l = (l.made + made_by l.fn.caller (drop l.k l.log) ≡ made_by l.fn.caller l.log) × (l.made ≤ l.k)
