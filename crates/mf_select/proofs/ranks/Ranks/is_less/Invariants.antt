use Rattle.std.proofs.Common.{◌≡◌, ◌-◌}
use Rattle.mf_select.specs.Ranks.{is_less, is_less_from}
use Rattle.mf_select.proofs.ranks.Ranks.is_less.Given as goal

abbrev pub invariant-loop : goal.invariant-loop
invariant-loop l = is_less l.fn.self l.place l.other ≡ is_less_from (l.fn.self.columns - l.counter) l.fn.self.variants l.place l.other l.rest
