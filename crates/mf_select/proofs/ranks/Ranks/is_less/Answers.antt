use Rattle.std.proofs.Common.{None, ap, sym, ◌∙◌, ◌+◌, ◌-◌}
use Rattle.mf_select.specs.Ranks.{difference, is_less_from, rank_at}
use Rattle.mf_select.proofs.Least.{less_at}
use Rattle.mf_select.proofs.ranks.Ranks.is_less.Goals as goal

pub loop-preserved : goal.loop-preserved
loop-preserved c =
    let ranks = c.args.self.now in
    let place = c.args.place in
    let other = c.args.other in
    let rest = c.loop.rest.now in
    c.loop.invariant
    ∙ less_at ranks.columns c.loop.counter ranks.variants place rest c.loop-test.true other None
    (ap (λ r. difference r (rank_at rest other)) (sym c.rank_at.ensures) ∙ ap (difference c.rank_at.result) (sym c.rank_at-in-loop.ensures) ∙ sym c.difference.ensures ∙ c.in_default.is)
    ∙ ap (λ r. is_less_from (ranks.columns - (c.loop.counter + 1)) ranks.variants place other r) (sym c.behind-rest.ensures)
