use Rattle.std.proofs.Common.{◌≡◌, ◌+◌, [], ◌∷◌, ◌++◌, ap, map, not, ◌∙◌}
use Rattle.std.specs.Fmt.{decimal}
use Rattle.mf_tree.specs.declared.message.Variant.{Variant}
use Rattle.mf_tree.specs.declared.fault.Kind.TheVariants.{DuplicateVariant}
use Rattle.mf_tree.specs.Equality.{is_same_keys}
use Rattle.mf_tree.specs.Faults.{faults_where, is_duplicate_variant, duplicate_variants, number_text}
use Rattle.mf_check.specs.KeyValues.{key_value}
use Rattle.mf_check.proofs.SeenKeys.{key_values_cmp, AreKeyValuesOf}
use Rattle.mf_check.proofs.Listed.{added_member, count_before, left_from, member_at, passed_member}
use Rattle.mf_check.proofs.Seen.{keys_tied, inserted, seen_more, was_not_there, was_there}
use Rattle.mf_check.proofs.variants.add_duplicate_variants.Goals as goal
use Rattle.mf_check.proofs.variants.add_duplicate_variants.Goals.{then-not-is_new+in_ok-show_number+in_ok-push, else-not-is_new}

pub loop-at-preserved : goal.loop-at-preserved
loop-at-preserved c =
    let variants = c.args.variants.now in
    let place = c.loop-at.at in
    let variant = c.index-variants-at.result in
    let old = c.loop-at.seen in
    let new = c.insert.new.self in
    let key = c.in_ok-keys.keys in
    let whole = c.args.found.now ++ duplicate_variants variants in
    let of_keys : AreKeyValuesOf key variant.keys = c.in_ok-keys.ensures ∙ ap (map key_value) c.as_slice.ensures in
    let told : c.in_ok-is_new.is_new ≡ not (is_duplicate_variant (member_at variants place variant)) =
    c.in_ok-is_new.ensures.added ∙ ap not (c.loop-at.invariant.seen.each variant.keys key of_keys) in
    let number : decimal (place + 1) ≡ number_text (member_at variants place variant) = ap (λ n. decimal (n + 1)) (count_before variants place c.loop-at-test.true) in
    record {
      found =
          elim c.if-not-is_new.branch [
            | then-not-is_new+in_ok-show_number+in_ok-push w ↦
                ap (λ found. found ++ faults_where DuplicateVariant is_duplicate_variant number_text (left_from variants (place + 1)))
                (w.found-is ∙ w.in_ok-push.ensures.ok ∙ ap (λ of. c.loop-at.found ++ record { kind = DuplicateVariant; of = of } ∷ []) (w.in_ok-show_number.ensures ∙ number))
                ∙ added_member DuplicateVariant is_duplicate_variant number_text variants place variant c.loop-at-test.true c.index-variants-at.is c.loop-at.found whole
                (was_there _ _ told w.if-not-is_new.true) c.loop-at.invariant.found
            | else-not-is_new w ↦
                ap (λ found. found ++ faults_where DuplicateVariant is_duplicate_variant number_text (left_from variants (place + 1))) w.found-is
                ∙ passed_member DuplicateVariant is_duplicate_variant number_text variants place variant c.loop-at-test.true c.index-variants-at.is c.loop-at.found whole
                (was_not_there _ _ told w.if-not-is_new.false) c.loop-at.invariant.found
          ];
      seen =
          seen_more key_values_cmp AreKeyValuesOf (λ keys (other : Variant). is_same_keys keys other.keys) variants place variant c.loop-at-test.true c.index-variants-at.is old new
          c.loop-at.invariant.seen
          (inserted key_values_cmp AreKeyValuesOf is_same_keys keys_tied variant.keys key old new of_keys c.in_ok-is_new.ensures.updates);
    }
