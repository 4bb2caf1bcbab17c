use Rattle.std.proofs.Common.{◌+◌, ◌∷◌, ◌∙◌, ap, sym, take}
use Rattle.std.proofs.lemmas.List.{take_rest}
use Rattle.mf_plural.specs.Grammar.{between, separates}
use Rattle.mf_plural.specs.declared.token.Token.TheVariants as token
use Rattle.mf_plural.proofs.Cutting.{split_found, split_missing}
use Rattle.mf_plural.proofs.cut.cut.Goals as goal

pub returns-in-Some-clause-cut : goal.returns-in-Some-clause-cut
returns-in-Some-clause-cut c =
    split_found (separates c.args.separator) c.args.tokens.now token.And c.in-Some.at c.in-Some.ensures
    ∙ ap (λ rest. take c.in-Some.at c.args.tokens.now ∷ between c.args.separator rest) (sym (take_rest c.args.tokens.now (c.in-Some.at + 1)))

pub returns-in-None-clause-cut : goal.returns-in-None-clause-cut
returns-in-None-clause-cut c = split_missing (separates c.args.separator) c.args.tokens.now c.in-None.ensures
