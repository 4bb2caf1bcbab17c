use Rattle.std.proofs.Common.{◌≡◌, ◌+◌, drop}
use Rattle.mf_history.specs.Forgone.{forgone_lines}
use Rattle.mf_history.proofs.forgone.forgone_lines.Given as goal

abbrev pub invariant-loop-exchange : goal.invariant-loop-exchange
invariant-loop-exchange l = l.count + forgone_lines (drop l.exchange-index l.lines) ≡ forgone_lines l.lines
