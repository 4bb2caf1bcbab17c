use Rattle.std.proofs.Common.{◌-◌, ◌∷◌, [], refl, arith}
use Rattle.std.specs.Prelude.{slice_index}
use Rattle.mf_numfmt.specs.NumberText.{digit_character}
use Rattle.mf_numfmt.specs.Spans.{span_text}
use Rattle.mf_numfmt.proofs.Grouped.{written_more, span_more}
use Rattle.mf_numfmt.proofs.writing.push_span.Goals as goal

pub loop-at-preserved : goal.loop-at-preserved
loop-at-preserved c =
    let n = c.args.number.now in
    let at = c.loop-at.at in
    let end = c.args.end in
    let digit = slice_index n.digits (at - 1) in
    record {
      from = omega arith;
      within = omega arith;
      written = written_more _ _ (digit_character digit ∷ []) (span_text n.number end (at - 1 - end)) _ _ c.in_ok-push_digit.ensures
          (span_more n.number end at (at - 1) digit (omega arith) refl (n.written (at - 1))) c.loop-at.invariant.written;
    }
