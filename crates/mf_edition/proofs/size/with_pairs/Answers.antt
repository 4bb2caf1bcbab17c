use Rattle.std.proofs.Common.{◌+◌, ap, ◌∙◌, arith, take_all}
use Rattle.mf_edition.specs.Sizes.{byte_count, pairs_size, shown}
use Rattle.mf_edition.proofs.Sized.{pairs_more}
use Rattle.mf_edition.proofs.size.with_pairs.Goals as goal

pub loop-pair-init : goal.loop-pair-init
loop-pair-init c = let fits = c.ranges.size.fits in omega arith

pub loop-pair-preserved : goal.loop-pair-preserved
loop-pair-preserved c =
    c.with_text-total.ensures
    ∙ ap (λ size. shown (size + byte_count c.pair-item.result.value))
    (c.with_text.ensures ∙ ap (λ size. shown (size + byte_count c.pair-item.result.name)) c.loop-pair.invariant)
    ∙ pairs_more c.args.size c.loop-pair.pair-index c.args.pairs.now c.pair-item.result c.loop-pair-test.true c.pair-item.is

pub returns : goal.returns
returns c =
    c.loop-pair.invariant ∙ ap (λ pairs. shown (c.args.size + pairs_size pairs)) (take_all c.loop-pair.pair-index c.args.pairs.now c.loop-pair-test.false)
