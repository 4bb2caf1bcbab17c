use Rattle.std.proofs.Common.{◌≡◌, ◌++◌, take}
use Rattle.std.specs.List.{list_any}
use Rattle.mf_tree.specs.declared.fault.Kind.TheVariants.{DuplicateDeclaration}
use Rattle.mf_tree.specs.declared.message.Declaration.{Declaration}
use Rattle.mf_tree.specs.Faults.{duplicate_declarations, faults_where, is_duplicate_declaration, is_in_declaration, name_of, variable_text, Member}
use Rattle.mf_check.specs.Seen.{AreNamesSeen}
use Rattle.mf_check.proofs.Listed.{left_from}
use Rattle.mf_check.proofs.declarations.add_duplicate_declarations.Given as goal

abbrev pub invariant-loop-declaration : goal.invariant-loop-declaration
invariant-loop-declaration l = record {
  found : l.found ++ faults_where DuplicateDeclaration is_duplicate_declaration (λ (declaration : Member Declaration). variable_text (name_of declaration.this)) (left_from l.declarations l.declaration-index)
      ≡ l.fn.found ++ duplicate_declarations l.declarations;
  seen : AreNamesSeen (λ name. list_any (is_in_declaration name) (take l.declaration-index l.declarations)) l.seen;
}
