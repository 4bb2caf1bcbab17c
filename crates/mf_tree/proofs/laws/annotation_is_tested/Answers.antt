use Rattle.mf_tree.proofs.Annotated.{is_tested}
use Rattle.mf_tree.proofs.laws.annotation_is_tested.Goals as goal

pub returns : goal.returns
returns c = is_tested
