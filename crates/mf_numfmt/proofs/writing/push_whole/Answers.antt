use Rattle.std.proofs.Common.{arith}
use Rattle.mf_numfmt.specs.NumberText.{places_text}
use Rattle.mf_numfmt.specs.Spans.{group_text}
use Rattle.mf_numfmt.proofs.Grouped.{written_more, places_by_group}
use Rattle.mf_numfmt.proofs.writing.push_whole.Goals as goal

pub loop-place-preserved : goal.loop-place-preserved
loop-place-preserved c =
    let layout = c.args.layout.now in
    let n = c.args.whole.now.number in
    let place = c.loop-place.place in
    let end = c.group_end-end.result in
    let found = c.group_end-end.ensures in
    record {
      within = omega arith;
      written = written_more _ _ (group_text layout n place end) (places_text layout c.args.grouped n end) _ _ c.in_ok-push_group.ensures
          (places_by_group layout c.args.grouped n place end found.below found.ends found.within) c.loop-place.invariant.written;
    }
