use Rattle.mf_parse.proofs.Choices.{opening_brace_found}
use Rattle.mf_parse.proofs.spaces.opening_brace.Goals as goal

pub returns-clause-found : goal.returns-clause-found
returns-clause-found c = opening_brace_found c.args.cursor.now.left c.expect.new.cursor.left c.o.new.self.left c.in_ok-expect.ensures.found c.o.ensures.computed
