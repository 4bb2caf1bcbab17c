use Rattle.std.proofs.Common.{arith}
use Rattle.std.specs.Prelude.{◌-◌, ◌/◌}
use Rattle.mf_numfmt.proofs.Grouped.{ends_group, within_group}
use Rattle.mf_numfmt.proofs.writing.group_end.Goals as goal

pub returns-clause-ends : goal.returns-clause-ends
returns-clause-ends c =
    let layout = c.args.layout.now in
    λ some. ends_group layout c.args.grouped ((c.args.place - 1 - layout.primary) / layout.secondary) c.if-not-grouped.false

pub returns-clause-within : goal.returns-clause-within
returns-clause-within c =
    λ k above below. within_group c.args.layout.now c.args.grouped c.args.place k (omega arith) above below
