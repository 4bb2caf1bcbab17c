use Rattle.std.proofs.Common.{◌≡◌, ◌++◌, take}
use Rattle.std.specs.List.{list_any}
use Rattle.mf_tree.specs.declared.message.Variant.{Variant}
use Rattle.mf_tree.specs.declared.fault.Kind.TheVariants.{DuplicateVariant}
use Rattle.mf_tree.specs.Equality.{is_same_keys}
use Rattle.mf_tree.specs.Faults.{duplicate_variants, faults_where, is_duplicate_variant, number_text}
use Rattle.mf_check.proofs.SeenKeys.{AreKeysSeen}
use Rattle.mf_check.proofs.Listed.{left_from}
use Rattle.mf_check.proofs.variants.add_duplicate_variants.Given as goal

abbrev pub invariant-loop-at : goal.invariant-loop-at
invariant-loop-at l = record {
  found : l.found ++ faults_where DuplicateVariant is_duplicate_variant number_text (left_from l.variants l.at) ≡ l.fn.found ++ duplicate_variants l.variants;
  seen : AreKeysSeen (λ keys. list_any (λ (other : Variant). is_same_keys keys other.keys) (take l.at l.variants)) l.seen;
}
