use Rattle.std.proofs.Common.{◌≡◌, ◌+◌, [], ◌∷◌, ◌++◌, ap, not, ◌∙◌}
use Rattle.mf_tree.specs.declared.expression.OptionNode.{OptionNode}
use Rattle.mf_tree.specs.declared.fault.Kind.TheVariants.{DuplicateOptionName}
use Rattle.mf_tree.specs.Equality.{is_same_identifier}
use Rattle.mf_tree.specs.Faults.{faults_where, identifier_text, is_duplicate_option, duplicate_options, Member}
use Rattle.mf_check.specs.Seen.{AreValuesOf}
use Rattle.mf_check.proofs.SeenKeys.{values_cmp}
use Rattle.mf_check.proofs.Listed.{added_member, left_from, member_at, passed_member}
use Rattle.mf_check.proofs.Seen.{identifiers_tied, inserted, seen_more, was_not_there, was_there}
use Rattle.mf_check.proofs.options.add_in_options.Goals as goal
use Rattle.mf_check.proofs.options.add_in_options.Goals.{then-not-is_new+in_ok-show_identifier+in_ok-push, else-not-is_new}

pub loop-option-preserved : goal.loop-option-preserved
loop-option-preserved c =
    let options = c.args.options.now in
    let place = c.loop-option.option-index in
    let option = c.option-item.result in
    let old = c.loop-option.seen in
    let new = c.insert.new.self in
    let key = c.identifier_value.result in
    let about = λ (option : Member OptionNode). identifier_text option.this.name in
    let whole = c.args.found.now ++ duplicate_options options in
    let told : c.in_ok-is_new.is_new ≡ not (is_duplicate_option (member_at options place option)) =
    c.in_ok-is_new.ensures.added ∙ ap not (c.loop-option.invariant.seen.each option.name key c.identifier_value.ensures) in
    record {
      found =
          elim c.if-not-is_new.branch [
            | then-not-is_new+in_ok-show_identifier+in_ok-push w ↦
                ap (λ found. found ++ faults_where DuplicateOptionName is_duplicate_option about (left_from options (place + 1)))
                (w.found-is ∙ w.in_ok-push.ensures.ok ∙ ap (λ of. c.loop-option.found ++ record { kind = DuplicateOptionName; of = of } ∷ []) w.in_ok-show_identifier.ensures)
                ∙ added_member DuplicateOptionName is_duplicate_option about options place option c.loop-option-test.true c.option-item.is c.loop-option.found whole
                (was_there _ _ told w.if-not-is_new.true) c.loop-option.invariant.found
            | else-not-is_new w ↦
                ap (λ found. found ++ faults_where DuplicateOptionName is_duplicate_option about (left_from options (place + 1))) w.found-is
                ∙ passed_member DuplicateOptionName is_duplicate_option about options place option c.loop-option-test.true c.option-item.is c.loop-option.found whole
                (was_not_there _ _ told w.if-not-is_new.false) c.loop-option.invariant.found
          ];
      seen =
          seen_more values_cmp AreValuesOf (λ identifier (other : OptionNode). is_same_identifier identifier other.name) options place option c.loop-option-test.true c.option-item.is old new
          c.loop-option.invariant.seen
          (inserted values_cmp AreValuesOf is_same_identifier identifiers_tied option.name key old new c.identifier_value.ensures c.in_ok-is_new.ensures.updates);
    }
