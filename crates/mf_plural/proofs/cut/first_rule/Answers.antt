use Rattle.std.proofs.Common.{◌∙◌, ◌+◌, ◌∷◌, ap, sym, take}
use Rattle.std.proofs.lemmas.List.{take_rest}
use Rattle.mf_plural.specs.Grammar.{rule_texts}
use Rattle.mf_plural.proofs.Cutting.{first_text, only_text}
use Rattle.mf_plural.proofs.cut.first_rule.Goals as goal

pub returns-in-Some-clause-texts : goal.returns-in-Some-clause-texts
returns-in-Some-clause-texts c =
    first_text c.args.text.now c.in-Some.end c.in-Some.ensures
    ∙ ap (λ rest. take c.in-Some.end c.args.text.now ∷ rule_texts rest) (sym (take_rest c.args.text.now (c.in-Some.end + 1)))

pub returns-in-None-clause-texts : goal.returns-in-None-clause-texts
returns-in-None-clause-texts c = only_text c.args.text.now c.in-None.ensures c.requires
