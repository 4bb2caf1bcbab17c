use Rattle.std.proofs.Common.{subst}
use Rattle.std.proofs.lemmas.Result.{on_ok_weaker}
use Rattle.std.specs.Result.{OnOk}
use Rattle.mf_tree.specs.declared.name.Name.{Name}
use Rattle.mf_tree.specs.declared.expression.Expression.{Expression}
use Rattle.mf_tree.specs.Equality.{is_same_name}
use Rattle.mf_tree.specs.Faults.{call_options, expression_of, is_in_operand, is_in_options, name_of}
use Rattle.mf_check.specs.Seen.{value_cmp, AreNamesSeenToo, IsValueOf}
use Rattle.mf_check.proofs.Seen.{three_too}
use Rattle.mf_check.proofs.declarations.see_declaration.Goals as goal

pub returns : goal.returns
returns c =
    let declaration = c.args.declaration.now in
    on_ok_weaker c.see_call.result
    (three_too value_cmp IsValueOf (λ name. is_same_name name (name_of declaration)) (λ name. is_in_operand name (expression_of declaration).operand)
    (λ name. is_in_options name (call_options (expression_of declaration).function)) c.args.seen.now c.see_name.new.seen c.see_operand.new.seen c.see_call.new.seen
    (subst (λ (bound : Name). AreNamesSeenToo (λ name. is_same_name name bound) c.args.seen.now c.see_name.new.seen) c.name_of.ensures c.in_ok-see_name.ensures)
    (subst (λ (expression : Expression). AreNamesSeenToo (λ name. is_in_operand name expression.operand) c.see_name.new.seen c.see_operand.new.seen) c.expression_of-expression.ensures
    c.in_ok-see_operand.ensures))
    (subst (λ (expression : Expression). OnOk c.see_call.result (AreNamesSeenToo (λ name. is_in_options name (call_options expression.function)) c.see_operand.new.seen c.see_call.new.seen))
    c.expression_of-expression.ensures c.see_call.ensures)
