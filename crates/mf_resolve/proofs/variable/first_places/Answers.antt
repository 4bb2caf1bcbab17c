use Rattle.std.proofs.Common.{◌+◌, ap, sym, ◌∙◌, subst, take}
use Rattle.mf_tree.specs.declared.name.Name.{Name}
use Rattle.mf_resolve.specs.Sources.{HasPlaces, Key}
use Rattle.mf_resolve.proofs.Places.{entered, skipped}
use Rattle.mf_resolve.proofs.variable.first_places.Goals as goal
use Rattle.mf_resolve.proofs.variable.first_places.Goals.{then-not-contains_key+in_ok-insert, else-not-contains_key}

pub loop-place-preserved : goal.loop-place-preserved
loop-place-preserved c =
    let declarations = c.args.declarations.now in
    let place = c.loop-place.place in
    let declaration = c.index-declarations-place.result in
    let key : Key = record { ref_ptr = (0, 0); now = c.name_of.result.now.value } in
    let of = ap (λ (name : Name). name.value) c.name_of.ensures in
    elim c.if-not-contains_key.branch [
      | then-not-contains_key+in_ok-insert w ↦
          subst (HasPlaces (take (place + 1) declarations)) (sym w.places-is)
          (entered declarations place declaration key c.loop-place-test.true c.index-declarations-place.is of c.loop-place.places w.insert.new.self c.loop-place.invariant
          (sym c.contains_key.ensures ∙ w.if-not-contains_key.true) w.in_ok-insert.ensures.updates)
      | else-not-contains_key w ↦
          subst (HasPlaces (take (place + 1) declarations)) (sym w.places-is)
          (skipped declarations place declaration key c.loop-place-test.true c.index-declarations-place.is of c.loop-place.places c.loop-place.invariant
          (sym c.contains_key.ensures ∙ w.if-not-contains_key.false))
    ]
