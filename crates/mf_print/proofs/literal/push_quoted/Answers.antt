use Rattle.std.proofs.Common.{◌++◌, ◌∷◌, [], sym, ap, ◌∙◌, map-id}
use Rattle.std.specs.List.{flat_map}
use Rattle.std.proofs.lemmas.Iterator.{YieldsList-from_chars}
use Rattle.std.proofs.lemmas.Iterator.Consumers.{YieldsList-end}
use Rattle.mf_tree.specs.Canonical.{escaped, escaped_in_quotes}
use Rattle.mf_print.proofs.Passing.{between_bars}
use Rattle.mf_print.proofs.literal.push_quoted.Goals as goal

pub returns : goal.returns
returns c =
    let end = YieldsList-end (YieldsList-from_chars c.as_str.result.now c.as_str.utf8 cc) c.loop-c.yielded _ c.loop-c.yielded_by _ _ c.in-None.is c.next.ensures.steps in
    let all = sym (map-id c.loop-c.yielded) ∙ end.0 ∙ c.as_str.ensures.characters in
    between_bars c.push-2.result c.args.out.now c.loop-c.out c.push-2.new.self (flat_map (escaped escaped_in_quotes) c.args.value.now)
    (c.loop-c.invariant ∙ ap (λ cs. (c.args.out.now ++ 0x7C ∷ []) ++ flat_map (escaped escaped_in_quotes) cs) all) c.push-2.ensures.ok
