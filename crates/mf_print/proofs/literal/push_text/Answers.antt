use Rattle.std.proofs.Common.{◌++◌, sym, ap, ◌∙◌, map-id}
use Rattle.std.proofs.lemmas.Iterator.{YieldsList-from_chars}
use Rattle.std.proofs.lemmas.Iterator.Consumers.{YieldsList-end}
use Rattle.mf_tree.specs.Canonical.{text_source}
use Rattle.mf_print.proofs.literal.push_text.Goals as goal

pub returns : goal.returns
returns c =
    let end = YieldsList-end (YieldsList-from_chars c.as_str.result.now c.as_str.utf8 cc) c.loop-c.yielded _ c.loop-c.yielded_by _ _ c.in-None.is c.next.ensures.steps in
    c.loop-c.invariant ∙ ap (λ cs. c.args.out.now ++ text_source cs) (sym (map-id c.loop-c.yielded) ∙ end.0 ∙ c.as_str.ensures.characters)
