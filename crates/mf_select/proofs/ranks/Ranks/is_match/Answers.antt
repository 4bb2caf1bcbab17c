use Rattle.std.proofs.Common.{ap, not, sym, ◌∙◌, ◌+◌, ◌-◌}
use Rattle.std.specs.Option.{is_some}
use Rattle.mf_select.specs.Ranks.{row}
use Rattle.mf_select.proofs.Least.{has_rank, row_some}
use Rattle.mf_select.proofs.ranks.Ranks.is_match.Goals as goal

pub loop-preserved : goal.loop-preserved
loop-preserved c =
    let ranks = c.args.self.now in
    let place = c.args.place in
    let rest = c.loop.rest.now in
    let found = has_rank c.rank_at.result (c.is_none.ensures ∙ ap not c.if-is_none.false) in
    c.loop.invariant
    ∙ row_some ranks.columns c.loop.counter ranks.variants place rest c.loop-test.true found.0 (sym c.rank_at.ensures ∙ found.1)
    ∙ ap (λ r. is_some (row (ranks.columns - (c.loop.counter + 1)) ranks.variants place r)) (sym c.behind-rest.ensures)
