use Rattle.mf_render.proofs.Shown.{one_fallback}
use Rattle.mf_render.proofs.message.format_invalid.Goals as goal

pub returns : goal.returns
returns c =
    let parts = one_fallback c.args.«record».now.dir c.in_ok-source.source c.new.result c.in_ok-parts.parts c.new.ensures c.in_ok-source.ensures c.in_ok-parts.ensures in
    λ i. record { parts = parts i; faults = c.in_ok-copied.ensures i }
