use Rattle.std.proofs.Common.{◌≡◌, ◌++◌, drop, not}
use Rattle.mf_tree.specs.declared.fault.Kind.TheVariants.{MissingSelectorAnnotation}
use Rattle.mf_tree.specs.Faults.{faults_where, is_annotated, missing_selector_annotations, variable_text}
use Rattle.mf_check.specs.Annotations.{AreAnswers}
use Rattle.mf_check.proofs.selectors.add_missing_annotations.Given as goal

abbrev pub invariant-loop-selector : goal.invariant-loop-selector
invariant-loop-selector l = record {
  found : l.found ++ faults_where MissingSelectorAnnotation (λ selector. not (is_annotated l.declarations selector)) variable_text (drop l.selector-index l.selectors)
      ≡ l.fn.found ++ missing_selector_annotations l.declarations l.selectors;
  answers : AreAnswers l.declarations l.answers;
}
