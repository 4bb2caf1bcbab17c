use Rattle.std.proofs.Common.{◌≡◌, ◌+◌, [], ◌∷◌, ◌++◌, ap, sym, take, ◌∙◌}
use Rattle.std.specs.List.{list_any}
use Rattle.mf_tree.specs.declared.message.Declaration.{Declaration}
use Rattle.mf_tree.specs.declared.fault.Kind.TheVariants.{DuplicateDeclaration}
use Rattle.mf_tree.specs.Faults.{duplicate_declarations, faults_where, is_duplicate_declaration, is_in_declaration, name_of, variable_text, Member}
use Rattle.mf_check.specs.Seen.{value_cmp, IsValueOf}
use Rattle.mf_check.proofs.Listed.{added_member, left_from, member_at, passed_member}
use Rattle.mf_check.proofs.Seen.{seen_more}
use Rattle.mf_check.proofs.declarations.add_duplicate_declarations.Goals as goal
use Rattle.mf_check.proofs.declarations.add_duplicate_declarations.Goals.{then-is_duplicate+in_ok-show_variable+in_ok-push, else-is_duplicate}

pub loop-declaration-preserved : goal.loop-declaration-preserved
loop-declaration-preserved c =
    let declarations = c.args.declarations.now in
    let place = c.loop-declaration.declaration-index in
    let declaration = c.declaration-item.result in
    let about = λ (declaration : Member Declaration). variable_text (name_of declaration.this) in
    let whole = c.args.found.now ++ duplicate_declarations declarations in
    let told : c.is_duplicate.result ≡ is_duplicate_declaration (member_at declarations place declaration) =
    c.is_duplicate.ensures (λ name. list_any (is_in_declaration name) (take place declarations)) c.loop-declaration.invariant.seen in
    record {
      found =
          elim c.if-is_duplicate.branch [
            | then-is_duplicate+in_ok-show_variable+in_ok-push w ↦
                ap (λ found. found ++ faults_where DuplicateDeclaration is_duplicate_declaration about (left_from declarations (place + 1)))
                (w.found-is ∙ w.in_ok-push.ensures.ok
                ∙ ap (λ of. c.loop-declaration.found ++ record { kind = DuplicateDeclaration; of = of } ∷ []) (w.in_ok-show_variable.ensures ∙ ap variable_text w.name_of.ensures))
                ∙ added_member DuplicateDeclaration is_duplicate_declaration about declarations place declaration c.loop-declaration-test.true c.declaration-item.is c.loop-declaration.found whole
                (sym told ∙ w.if-is_duplicate.true) c.loop-declaration.invariant.found
            | else-is_duplicate w ↦
                ap (λ found. found ++ faults_where DuplicateDeclaration is_duplicate_declaration about (left_from declarations (place + 1))) w.found-is
                ∙ passed_member DuplicateDeclaration is_duplicate_declaration about declarations place declaration c.loop-declaration-test.true c.declaration-item.is c.loop-declaration.found whole
                (sym told ∙ w.if-is_duplicate.false) c.loop-declaration.invariant.found
          ];
      seen =
          seen_more value_cmp IsValueOf is_in_declaration declarations place declaration c.loop-declaration-test.true c.declaration-item.is c.loop-declaration.seen c.see_declaration.new.seen
          c.loop-declaration.invariant.seen c.in_ok-see_declaration.ensures;
    }
