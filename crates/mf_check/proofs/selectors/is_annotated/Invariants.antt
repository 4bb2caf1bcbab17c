use Rattle.mf_check.specs.Annotations.{AreAnswers}
use Rattle.mf_check.proofs.selectors.is_annotated.Given as goal

abbrev pub invariant-loop-passed : goal.invariant-loop-passed
invariant-loop-passed l = AreAnswers l.declarations l.answers
