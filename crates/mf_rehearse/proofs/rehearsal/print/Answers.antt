use Rattle.std.proofs.Common.{◌+◌, refl, arith}
use Rattle.mf_rehearse.proofs.Departing.{printed_more}
use Rattle.mf_rehearse.proofs.rehearsal.print.Goals as goal

pub loop-caller-preserved : goal.loop-caller-preserved
loop-caller-preserved c = let l = c.loop-caller in (
  λ parts matches all.
      printed_more l.caller (l.caller + 1) parts l.output.items c.print_replies.new.output.items c.replies_to.result.now refl all
      (l.invariant.0 parts matches all) (c.replies_to.ensures parts matches) c.in_ok-print_replies.ensures,
  omega (arith, c.loop-caller-test.true),
)
