use Rattle.std.proofs.Common.{sym, ◌∙◌}
use Rattle.std.proofs.lemmas.Bool.{false≢true}
use Rattle.mf_parse.proofs.Bodies.{matcher_found}
use Rattle.mf_parse.proofs.matcher.matcher.Goals as goal

pub returns-clause-found : goal.returns-clause-found
returns-clause-found c =
    matcher_found c.in_ok-selectors.selectors c.in_ok-variants.variants c.args.cursor.now.left c.selectors.new.cursor.left c.s.new.self.left c.variants.new.cursor.left
    c.in_ok-selectors.ensures.found (λ empty. false≢true (sym c.if-is_empty.false ∙ c.is_empty.ensures.1 empty)) (sym c.s.ensures.computed ∙ c.if-not-s.false) c.if-not-s.ensures.passed c.in_ok-variants.ensures.found
