use Rattle.std.proofs.Common.{◌≡◌, ◌++◌, not}
use Rattle.mf_tree.specs.declared.fault.Kind.TheVariants.{VariantKeyMismatch}
use Rattle.mf_tree.specs.declared.message.Variant.{Variant}
use Rattle.mf_tree.specs.Faults.{faults_where, has_key_for_each, number_text, variant_key_mismatches, Member}
use Rattle.mf_check.proofs.Listed.{left_from}
use Rattle.mf_check.proofs.variants.add_key_mismatches.Given as goal

abbrev pub invariant-loop-at : goal.invariant-loop-at
invariant-loop-at l =
    l.found ++ faults_where VariantKeyMismatch (λ (variant : Member Variant). not (has_key_for_each l.selectors variant.this)) number_text (left_from l.variants l.at)
    ≡ l.fn.found ++ variant_key_mismatches l.selectors l.variants
