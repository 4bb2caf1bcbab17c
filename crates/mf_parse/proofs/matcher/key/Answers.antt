use Rattle.mf_parse.proofs.Choices.{star_found}
use Rattle.mf_parse.proofs.matcher.key.Goals as goal

pub returns-then-one-clause-found : goal.returns-then-one-clause-found
returns-then-one-clause-found c = star_found c.args.cursor.now.left c.one.new.self.left c.if-one.ensures.passed
