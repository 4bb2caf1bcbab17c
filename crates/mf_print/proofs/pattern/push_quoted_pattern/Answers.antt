use Rattle.std.proofs.Common.{◌++◌, ◌∷◌, [], ap, ◌∙◌}
use Rattle.std.proofs.lemmas.Result.{on_ok_weaker}
use Rattle.mf_tree.specs.Canonical.{pattern_source}
use Rattle.mf_print.proofs.Passing.{three_parts}
use Rattle.mf_print.proofs.Words.{two_opening, two_closing}
use Rattle.mf_print.proofs.pattern.push_quoted_pattern.Goals as goal

pub returns : goal.returns
returns c =
    three_parts c.push_str-2.result c.args.out.now c.push_str.new.self c.push_pattern.new.out c.push_str-2.new.self
    (0x7B ∷ 0x7B ∷ []) (pattern_source c.args.pattern.now) (0x7D ∷ 0x7D ∷ [])
    (c.in_ok-push_str.ensures.ok ∙ ap (λ word. c.args.out.now ++ word) two_opening) c.in_ok-push_pattern.ensures
    (on_ok_weaker c.push_str-2.result (λ pushed. pushed ∙ ap (λ word. c.push_pattern.new.out ++ word) two_closing) c.push_str-2.ensures.ok)
