use Rattle.std.proofs.Common.{◌≡◌, ◌+◌, ◌-◌, length, refl, ap, sym, ◌∙◌, subst}
use Rattle.std.specs.Borrow.{Bor}
use Rattle.std.specs.Option.{option_copied}
use Rattle.mf_tree.specs.declared.name.Name.{Name}
use Rattle.mf_tree.specs.Equality.{is_same_name}
use Rattle.mf_tree.specs.Faults.{is_annotated, is_annotated_within}
use Rattle.mf_check.specs.Annotations.{AreAlike}
use Rattle.mf_check.specs.Seen.{value_cmp, IsValueOf}
use Rattle.mf_check.proofs.Seen.{inserted, names_tied, was_there}
use Rattle.mf_check.proofs.Walk.{all_more, circle, key_of, lead_on, one_step, walk_step}
use Rattle.mf_check.proofs.selectors.walk.Goals as goal

pub returns-in-Some-clause-told : goal.returns-in-Some-clause-told
returns-in-Some-clause-told c =
    c.requires.answers.each c.walk.name.now (key_of c.walk.name.now) c.in-Some.answer.now refl (sym c.get.ensures.value ∙ ap option_copied c.in-Some.is)
    ∙ c.walk.invariant.same

pub returns-then-not-is_new-clause-told : goal.returns-then-not-is_new-clause-told
returns-then-not-is_new-clause-told c =
    sym (circle c.args.declarations.now c.walk.on_path c.walk.name.now c.walk.invariant.lead (was_there _ _ c.in_ok-is_new.ensures.added c.if-not-is_new.true))
    ∙ c.walk.invariant.same

pub walk-preserved : goal.walk-preserved
walk-preserved c =
    let declarations = c.args.declarations.now in
    let here = c.walk.name.now in
    record {
      left =
          c.in-Variable.ensures (is_annotated_within declarations (length declarations - (c.walk.index + 1)))
          ∙ sym (walk_step declarations c.walk.index here c.walk-test.true)
          ∙ c.walk.invariant.left;
      same = c.in-Variable.ensures (is_annotated declarations) ∙ one_step declarations here ∙ c.walk.invariant.same;
      alike =
          subst (AreAlike declarations c.args.name.now) (sym c.in_ok-push.ensures.items)
          (all_more (λ (passed : Bor Name). is_annotated declarations passed.now ≡ is_annotated declarations c.args.name.now) c.walk.path.items c.walk.name c.walk.invariant.alike
          c.walk.invariant.same);
      lead =
          lead_on declarations c.walk.on_path c.insert.new.self here c.in-Variable.operand.now c.in-Variable.ensures c.walk.invariant.lead
          (inserted value_cmp IsValueOf is_same_name names_tied here (key_of here) c.walk.on_path c.insert.new.self refl c.in_ok-is_new.ensures.updates);
    }
