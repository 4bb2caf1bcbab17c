use Rattle.std.proofs.Common.{◌++◌, ap, ◌∙◌, refl, arith, string_bytes}
use Rattle.mf_numfmt.proofs.Grouped.{written_both, fraction_parts}
use Rattle.mf_numfmt.proofs.writing.push_fraction.Goals as goal

pub returns : goal.returns
returns c =
    let decimal = c.args.layout.now.decimal in
    let first = c.in_ok-push_str.ensures.bytes ∙ ap (λ b. string_bytes c.args.text.now ++ b) c.as_str.ensures.bytes in
    written_both _ _ _ decimal _ _ _ first c.in_ok-push_span.ensures refl
    (fraction_parts c.args.layout.now c.args.fraction c.of.result.number c.args.fraction_len (omega arith) c.of.ensures)
