use Rattle.std.proofs.Common.{◌≡◌, refl, sym, ◌∙◌, subst}
use Rattle.std.specs.Borrow.{Bor}
use Rattle.mf_tree.specs.declared.name.Name.{Name}
use Rattle.mf_tree.specs.Faults.{is_annotated}
use Rattle.mf_check.specs.Annotations.{AreAlike}
use Rattle.mf_check.proofs.Walk.{all_at, kept, key_of}
use Rattle.mf_check.proofs.selectors.is_annotated.Goals as goal

pub loop-passed-preserved : goal.loop-passed-preserved
loop-passed-preserved c =
    let declarations = c.args.declarations.now in
    let passed = c.passed-item.result in
    let Alike = λ (passed : Bor Name). is_annotated declarations passed.now ≡ is_annotated declarations c.args.name.now in
    let path = c.deref-passed-items.result.now in
    let alike = subst (AreAlike declarations c.args.name.now) (sym c.deref-passed-items.ensures.value) c.in_ok-annotated.ensures.alike in
    let same : Alike passed = subst Alike (sym c.passed-item.is) (all_at Alike path c.loop-passed.passed-index passed alike c.loop-passed-test.true) in
    kept declarations c.loop-passed.answers c.insert.new.self passed.now (key_of passed.now) c.in_ok-annotated.annotated refl (c.in_ok-annotated.ensures.told ∙ sym same)
    c.loop-passed.invariant c.in_ok-insert.ensures.updates
