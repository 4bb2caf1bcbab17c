use Rattle.std.proofs.Common.{◌+◌, sym, subst, arith}
use Rattle.mf_tree.specs.declared.fault.Kind.TheVariants.{Syntax}
use Rattle.mf_value.specs.declared.called.CallFault.{CallFault}
use Rattle.mf_resolve.proofs.Refused.{AreMarked, none_marked, one_marked}
use Rattle.mf_resolve.proofs.call.refusal_marks.Goals as goal
use Rattle.mf_resolve.proofs.call.refusal_marks.Goals.{then-place-len, else-place-len}

pub loop-fault-preserved : goal.loop-fault-preserved
loop-fault-preserved c =
    let refused = c.args.refused.now in
    let i = c.loop-fault.fault-index in
    let inside = c.loop-fault-test.true in
    let default : CallFault = record { kind = Syntax; option = 0 } in
    let marks = c.loop-fault.marks.items in
    elim c.if-place-len.branch [
      | then-place-len w ↦
          subst (λ marks. AreMarked refused i default inside c.args.count (i + 1) marks.items) (sym w.marks-is)
          (one_marked refused i default inside c.args.count marks c.loop-fault.invariant (let room = w.if-place-len.true in let len = c.len.ensures in let ok = c.loop-fault.marks.ok in omega arith))
      | else-place-len w ↦
          subst (λ marks. AreMarked refused i default inside c.args.count (i + 1) marks.items) (sym w.marks-is)
          (none_marked refused i default inside c.args.count marks c.loop-fault.invariant (let room = w.if-place-len.false in let len = c.len.ensures in let ok = c.loop-fault.marks.ok in omega arith))
    ]
