use Rattle.mf_lex.proofs.Readings.{o_passes}
use Rattle.mf_lex.proofs.Shorter.{o_no_longer}
use Rattle.mf_lex.proofs.cursor.Cursor.o.Goals as goal

pub returns-clause-longest : goal.returns-clause-longest
returns-clause-longest c = o_passes c.args.self.now.left c.pass_space.new.cursor.left c.pass_space.ensures.computed

pub returns-clause-no_longer : goal.returns-clause-no_longer
returns-clause-no_longer c = rw c.pass_space.ensures.computed (o_no_longer c.args.self.now.left)
