use Rattle.std.proofs.Common.{◌≡◌, ◌-◌, length}
use Rattle.mf_tree.specs.Faults.{is_annotated, is_annotated_within}
use Rattle.mf_check.specs.Annotations.{AreAlike}
use Rattle.mf_check.proofs.Walk.{AllLead}
use Rattle.mf_check.proofs.selectors.walk.Given as goal

abbrev pub invariant-walk : goal.invariant-walk
invariant-walk l = record {
  left : is_annotated_within l.declarations (length l.declarations - l.index) l.name ≡ is_annotated l.declarations l.fn.name;
  same : is_annotated l.declarations l.name ≡ is_annotated l.declarations l.fn.name;
  alike : AreAlike l.declarations l.fn.name l.path.items;
  lead : AllLead l.declarations l.on_path l.name;
}
