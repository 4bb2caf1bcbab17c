use Rattle.std.proofs.Common.{◌+◌, ℕ, List, Option, ap, sym, ◌∙◌}
use Rattle.std.specs.BTreeMap.{get}
use Rattle.unicode_normalization.specs.Forms.{nfc}
use Rattle.mf_text.specs.Order.{byte_cmp}
use Rattle.mf_value.proofs.Index.{seen_again, seen_first, kept_as}
use Rattle.mf_value.proofs.entries.index_of.Goals as goal
use Rattle.mf_value.proofs.entries.index_of.Goals.{then-contains_key, else-contains_key+in_ok-insert}

pub loop-place-preserved : goal.loop-place-preserved
loop-place-preserved c =
    let entries = c.args.pairs.now in
    let at = c.loop-place.place in
    let entry = c.index-pairs-place.result in
    let key = c.in_ok-form.form in
    let inside = c.loop-place-test.true in
    let of = c.in_ok-form.ensures ∙ ap nfc c.as_str.ensures.characters in
    let found : List ℕ → Option ℕ = λ form. get byte_cmp c.loop-place.places form in
    elim c.if-contains_key.branch [
      | then-contains_key w ↦
          kept_as entries (at + 1) _ _ _ _ (sym w.places-is) (sym (w.repeated-is ∙ w.or-repeated.ensures))
          (seen_again entries at entry key inside c.index-pairs-place.is of found c.loop-place.repeated (sym c.contains_key.ensures ∙ w.if-contains_key.true) c.loop-place.invariant)
      | else-contains_key+in_ok-insert w ↦
          kept_as entries (at + 1) _ _ _ _ (sym w.places-is) (sym w.repeated-is)
          (seen_first entries at entry key inside c.index-pairs-place.is of found (λ form. get byte_cmp w.insert.new.self form) c.loop-place.repeated (sym c.contains_key.ensures ∙ w.if-contains_key.false) w.in_ok-insert.ensures.updates.0 c.loop-place.invariant)
    ]
