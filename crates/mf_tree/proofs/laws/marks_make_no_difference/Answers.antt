use Rattle.mf_tree.proofs.Marks.{same}
use Rattle.mf_tree.proofs.laws.marks_make_no_difference.Goals as goal

pub returns : goal.returns
returns c = same
