use Rattle.std.proofs.Common.{◌+◌, refl, ap, sym, ◌∙◌, subst, take}
use Rattle.mf_tree.specs.declared.name.Name.{Name}
use Rattle.mf_check.specs.Annotations.{HasFirst}
use Rattle.mf_check.specs.Seen.{Value}
use Rattle.mf_check.proofs.First.{entered, skipped}
use Rattle.mf_check.proofs.selectors.first_declarations.Goals as goal
use Rattle.mf_check.proofs.selectors.first_declarations.Goals.{then-not-contains_key+in_ok-insert, else-not-contains_key}

pub loop-declaration-preserved : goal.loop-declaration-preserved
loop-declaration-preserved c =
    let declarations = c.args.declarations.now in
    let place = c.loop-declaration.declaration-index in
    let declaration = c.declaration-item.result in
    let key : Value = record { ref_ptr = (0, 0); now = c.name_of.result.now.value } in
    let of = ap (λ (name : Name). name.value) c.name_of.ensures in
    elim c.if-not-contains_key.branch [
      | then-not-contains_key+in_ok-insert w ↦
          subst (HasFirst (take (place + 1) declarations)) (sym w.first-is)
          (entered declarations place declaration key c.loop-declaration-test.true c.declaration-item.is of c.loop-declaration.first w.insert.new.self _ c.loop-declaration.invariant
          (sym c.contains_key.ensures ∙ w.if-not-contains_key.true) refl w.in_ok-insert.ensures.updates)
      | else-not-contains_key w ↦
          subst (HasFirst (take (place + 1) declarations)) (sym w.first-is)
          (skipped declarations place declaration key c.loop-declaration-test.true c.declaration-item.is of c.loop-declaration.first c.loop-declaration.invariant
          (sym c.contains_key.ensures ∙ w.if-not-contains_key.false))
    ]
