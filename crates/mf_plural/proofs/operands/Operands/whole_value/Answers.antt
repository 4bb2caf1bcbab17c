use Rattle.std.proofs.Common.{◌∙◌, ap, Some}
use Rattle.mf_plural.specs.Choice.{value_of}
use Rattle.mf_plural.proofs.Wholes.{none_left, under_pos, whole_left}
use Rattle.mf_plural.proofs.operands.Operands.whole_value.Goals as goal

pub returns-in-Some : goal.returns-in-Some
returns-in-Some c =
    let x = value_of c.args.self.now c.args.operand in
    ap Some c.remainder.ensures ∙ whole_left c.args.modulus x.over x.under c.in-Some.value (under_pos c.args.self.now c.args.operand) c.in-Some.ensures

pub returns-in-None : goal.returns-in-None
returns-in-None c =
    let x = value_of c.args.self.now c.args.operand in
    none_left c.args.modulus x.over x.under c.in-None.ensures
