use Rattle.mf_tree.specs.declared.expression.OptionNode.{OptionNode}
use Rattle.mf_tree.specs.Faults.{is_in_value}
use Rattle.mf_check.specs.Seen.{value_cmp, IsValueOf}
use Rattle.mf_check.proofs.Seen.{seen_too_more}
use Rattle.mf_check.proofs.declarations.see_options.Goals as goal

pub loop-option-preserved : goal.loop-option-preserved
loop-option-preserved c =
    seen_too_more value_cmp IsValueOf (λ name (option : OptionNode). is_in_value name option.value) c.args.options.now c.loop-option.option-index c.option-item.result
    c.loop-option-test.true c.option-item.is c.args.seen.now c.loop-option.seen c.see_value.new.seen c.loop-option.invariant c.in_ok-see_value.ensures
