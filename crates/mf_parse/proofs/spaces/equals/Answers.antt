use Rattle.mf_parse.proofs.Choices.{equals_found}
use Rattle.mf_parse.proofs.spaces.equals.Goals as goal

pub returns-clause-found : goal.returns-clause-found
returns-clause-found c = equals_found c.args.cursor.now.left c.o.new.self.left c.expect.new.cursor.left c.o-2.new.self.left c.o.ensures.computed c.in_ok-expect.ensures.found c.o-2.ensures.computed
