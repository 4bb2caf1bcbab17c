use Rattle.std.proofs.Common.{◌-◌, ◌++◌, ap, sym, arith}
use Rattle.mf_numfmt.specs.Spans.{span_text}
use Rattle.mf_numfmt.proofs.Grouped.{written_both, some_end}
use Rattle.mf_numfmt.proofs.writing.push_group.Goals as goal

pub returns-in_ok-push_str : goal.returns-in_ok-push_str
returns-in_ok-push_str c =
    let span = span_text c.args.whole.now.number c.args.end (c.args.place - c.args.end) in
    let group = c.args.layout.now.group in
    written_both _ _ _ span group _ _ c.in_ok-push_span.ensures c.in_ok-push_str.ensures.bytes c.as_str.ensures.bytes
    (ap (λ s. span ++ s) (sym (some_end group c.args.end (omega arith))))
