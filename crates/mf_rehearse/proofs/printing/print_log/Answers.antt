use Rattle.std.proofs.Common.{◌∙◌, ap, sym, arith}
use Rattle.std.specs.Option.{option_copied}
use Rattle.mf_rehearse.proofs.Pieces.{entry_more}
use Rattle.mf_rehearse.proofs.printing.print_log.Goals as goal

pub loop-index-preserved : goal.loop-index-preserved
loop-index-preserved c = let l = c.loop-index in (
  entry_more c.args.log.now l.index c.in-Some.entry.now l.output.items c.print_entry.new.output.items (sym c.get.ensures ∙ ap option_copied c.in-Some.is) c.in_ok-print_entry.ensures
      ∙ l.invariant.0,
  (let h = c.loop-index-test.true in let e = c.len-count.ensures.len in omega arith),
)
