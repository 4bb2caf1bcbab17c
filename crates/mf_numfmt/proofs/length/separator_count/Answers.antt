use Rattle.std.proofs.Common.{ℕ, ap, ◌∙◌, arith}
use Rattle.std.specs.Int.{div_ceil}
use Rattle.mf_numfmt.proofs.Lengths.{grouped_length, plain_length}
use Rattle.mf_numfmt.proofs.length.separator_count.Goals as goal

pub returns-then-not-grouped : goal.returns-then-not-grouped
returns-then-not-grouped c =
    λ n. plain_length c.args.layout.now c.args.grouped n c.args.digits c.if-not-grouped.true ∙ omega arith

pub returns : goal.returns
returns c =
    let layout = c.args.layout.now in
    λ n. grouped_length layout c.args.grouped n c.args.digits c.div_ceil.result c.if-not-grouped.false
    (c.div_ceil.ensures ∙ ap (λ (m : ℕ). div_ceil m layout.secondary) c.saturating_sub-before.ensures)
