use Rattle.std.proofs.Common.{◌++◌, ap, ◌∙◌, codes}
use Rattle.std.specs.List.{flat_map}
use Rattle.mf_tree.specs.Canonical.{selector_source, variant_source}
use Rattle.mf_print.proofs.Passing.{three_parts}
use Rattle.mf_print.proofs.Words.{dot_match}
use Rattle.mf_print.proofs.message.push_matcher.Goals as goal

pub returns : goal.returns
returns c =
    three_parts c.push_variants.result c.args.out.now c.push_str.new.self c.push_selectors.new.out c.push_variants.new.out
    (codes ".match") (flat_map selector_source c.args.selectors.now) (flat_map variant_source c.args.variants.now)
    (c.in_ok-push_str.ensures.ok ∙ ap (λ word. c.args.out.now ++ word) dot_match) c.in_ok-push_selectors.ensures c.push_variants.ensures
