use Rattle.std.proofs.Common.{◌≡◌, ◌++◌}
use Rattle.mf_lines.specs.Served.{ended}
use Rattle.mf_mill.specs.Scripts.{english_line, requests_to}
use Rattle.mf_mill.proofs.script.script.Given as goal

-- the input so far has the requests so far
abbrev pub invariant-loop-j : goal.invariant-loop-j
invariant-loop-j l = l.input.items ≡ ended english_line ++ requests_to l.j
