use Rattle.std.proofs.Common.{◌∙◌, ap, sym, arith}
use Rattle.std.specs.Option.{option_copied}
use Rattle.mf_edition.specs.Sizes.{messages_by, used_by}
use Rattle.mf_history.proofs.Verdicts.{drop_here}
use Rattle.mf_history.proofs.Walks.{none_from}
use Rattle.mf_history.proofs.judging.see_limits.Goals.{in-Some, in_default}
use Rattle.mf_history.proofs.judging.see_limits.Goals as goal

pub loop-k-preserved : goal.loop-k-preserved
loop-k-preserved c = elim c.match-get.branch [
  | in-Some w ↦
      let here = drop_here c.args.log.now c.loop-k.k w.in-Some.entry.now (sym c.get.ensures ∙ ap option_copied w.in-Some.is) in
      let messages = ap messages_by here in
      let used = ap used_by here in
      omega (arith, messages, used, c.loop-k.invariant, w.size-size.ensures.size, w.size-size.ensures.counted)
  | in_default w ↦ absurd (none_from c.args.log.now c.loop-k.k (sym c.get.ensures ∙ ap option_copied w.in_default.is) (omega (arith, c.loop-k-test.true, c.len-k-end.ensures.len)))
]
