use Rattle.std.proofs.Common.{◌≡◌, ◌-◌}
use Rattle.std.specs.Option.{is_some}
use Rattle.mf_select.specs.Ranks.{row, row_of}
use Rattle.mf_select.proofs.ranks.Ranks.is_match.Given as goal

abbrev pub invariant-loop : goal.invariant-loop
invariant-loop l = is_some (row_of l.fn.self l.place) ≡ is_some (row (l.fn.self.columns - l.counter) l.fn.self.variants l.place l.rest)
