use Rattle.mf_lex.proofs.Readings.{s_passes}
use Rattle.mf_lex.proofs.Shorter.{s_shortens}
use Rattle.mf_lex.proofs.cursor.Cursor.s.Goals as goal

pub returns-clause-longest : goal.returns-clause-longest
returns-clause-longest c =
    s_passes c.pass_needed_space.result c.args.self.now c.pass_needed_space.new.cursor c.pass_needed_space.ensures.computed c.pass_needed_space.ensures.passed

pub returns-clause-shorter : goal.returns-clause-shorter
returns-clause-shorter c =
    s_shortens c.pass_needed_space.result c.args.self.now c.pass_needed_space.new.cursor c.pass_needed_space.ensures.computed c.pass_needed_space.ensures.passed
