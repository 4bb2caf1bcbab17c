use Rattle.std.proofs.Common.{◌≡◌, ◌++◌, take}
use Rattle.std.specs.List.{list_any}
use Rattle.mf_tree.specs.declared.expression.OptionNode.{OptionNode}
use Rattle.mf_tree.specs.declared.fault.Kind.TheVariants.{DuplicateOptionName}
use Rattle.mf_tree.specs.Equality.{is_same_identifier}
use Rattle.mf_tree.specs.Faults.{duplicate_options, faults_where, identifier_text, is_duplicate_option, Member}
use Rattle.mf_check.proofs.SeenKeys.{AreIdentifiersSeen}
use Rattle.mf_check.proofs.Listed.{left_from}
use Rattle.mf_check.proofs.options.add_in_options.Given as goal

abbrev pub invariant-loop-option : goal.invariant-loop-option
invariant-loop-option l = record {
  found : l.found ++ faults_where DuplicateOptionName is_duplicate_option (λ (option : Member OptionNode). identifier_text option.this.name) (left_from l.options l.option-index)
      ≡ l.fn.found ++ duplicate_options l.options;
  seen : AreIdentifiersSeen (λ identifier. list_any (λ (other : OptionNode). is_same_identifier identifier other.name) (take l.option-index l.options)) l.seen;
}
