use Rattle.std.proofs.Common.{◌∙◌, ap, sym, arith}
use Rattle.std.specs.Option.{option_copied}
use Rattle.std.proofs.lemmas.Bool.{eq-eqb, ne_eqb}
use Rattle.mf_legal.specs.Calls.{one_if}
use Rattle.mf_history.proofs.Walks.{made_here, none_from}
use Rattle.mf_history.proofs.walking.entries_of.Goals.{in-Some+then-entry-caller, in-Some+else-entry-caller, in_default}
use Rattle.mf_history.proofs.walking.entries_of.Goals as goal

pub loop-k-preserved : goal.loop-k-preserved
loop-k-preserved c = elim c.match-get.branch [
  | in-Some+then-entry-caller w ↦
      let here = made_here c.args.caller c.args.log.now c.loop-k.k w.in-Some.entry.now (sym c.get.ensures ∙ ap option_copied w.in-Some.is) in
      let one = ap one_if (eq-eqb w.in-Some.entry.now.caller c.args.caller w.if-entry-caller.true) in
      (omega (arith, here, one, w.made-is, c.loop-k.invariant.0), omega (arith, w.made-is, c.loop-k.invariant.1))
  | in-Some+else-entry-caller w ↦
      let here = made_here c.args.caller c.args.log.now c.loop-k.k w.in-Some.entry.now (sym c.get.ensures ∙ ap option_copied w.in-Some.is) in
      let none = ap one_if (ne_eqb w.in-Some.entry.now.caller c.args.caller w.if-entry-caller.false) in
      (omega (arith, here, none, w.made-is, c.loop-k.invariant.0), omega (arith, w.made-is, c.loop-k.invariant.1))
  | in_default w ↦ absurd (none_from c.args.log.now c.loop-k.k (sym c.get.ensures ∙ ap option_copied w.in_default.is) (omega (arith, c.loop-k-test.true, c.len-k-end.ensures.len)))
]
