use Rattle.std.proofs.Common.{◌≡◌, ◌<◌, ◌+◌, ◌++◌, get_or, List, length, take, refl, ap, sym, subst, ◌∙◌, arith}
use Rattle.std.proofs.lemmas.Option.{slice_get_read}
use Rattle.mf_tree.specs.declared.fault.Fault.{Fault}
use Rattle.mf_value.specs.Traces.{is_refused}
use Rattle.mf_resolve.specs.Refusals.{refused_errors}
use Rattle.mf_resolve.proofs.Refused.{none_behind, none_more, one_more, same_some}
use Rattle.mf_resolve.proofs.call.add_refusals.Goals as goal
use Rattle.mf_resolve.proofs.call.add_refusals.Goals.{then-index+in_ok-identifier_text+in_ok-push, else-index}

pub returns-then-is_empty : goal.returns-then-is_empty
returns-then-is_empty c = none_behind c.args.faults.now c.args.refused.now c.args.given.now (c.is_empty.ensures.0 c.if-is_empty.true)

pub loop-place-preserved : goal.loop-place-preserved
loop-place-preserved c =
    let refused = c.args.refused.now in
    let given = c.args.given.now in
    let place = c.loop-place.place in
    let marks = c.in_ok-marks.marks.items in
    let count = c.in_ok-marks.ensures.count in
    let inside : place < length given = subst (λ items. place < length items) c.as_slice-option-items.ensures c.loop-place-test.true in
    let item : c.option-item.result ≡ get_or given place c.option-item.result =
    c.option-item.is ∙ ap (λ items. get_or items place c.option-item.result) c.as_slice-option-items.ensures in
    let below : place < length marks = let len = c.len.ensures in omega arith in
    let mark : is_refused refused place ≡ c.index.result.now =
    ap (λ faults. is_refused faults place) (sym c.as_slice.ensures)
    ∙ same_some _ _ (sym (c.in_ok-marks.ensures.marks place (let len = c.len.ensures in omega arith)) ∙ slice_get_read marks (length marks) place c.index.result.now refl below c.index.ensures) in
    elim c.if-index.branch [
      | then-index+in_ok-identifier_text+in_ok-push w ↦
          one_more refused given place c.option-item.result inside item c.args.faults.now c.loop-place.faults c.if-index.faults w.in_ok-identifier_text.field-0
          (mark ∙ w.if-index.true) w.in_ok-identifier_text.ensures c.loop-place.invariant (w.faults-is ∙ w.in_ok-push.ensures.ok)
      | else-index w ↦
          subst (λ (faults : List Fault). faults ≡ c.args.faults.now ++ refused_errors refused (take (place + 1) given)) (sym w.faults-is)
          (none_more refused given place c.option-item.result inside item c.args.faults.now c.loop-place.faults (mark ∙ w.if-index.false) c.loop-place.invariant)
    ]
