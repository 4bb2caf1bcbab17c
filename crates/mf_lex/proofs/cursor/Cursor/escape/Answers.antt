use Rattle.mf_lex.proofs.Readings.{escape_reads}
use Rattle.mf_lex.proofs.Shorter.{escape_shortens}
use Rattle.mf_lex.proofs.cursor.Cursor.escape.Goals as goal

pub returns-clause-longest : goal.returns-clause-longest
returns-clause-longest c = escape_reads c.pass_escape.result c.args.self.now.left c.pass_escape.new.cursor.left c.pass_escape.ensures.computed

pub returns-clause-shorter : goal.returns-clause-shorter
returns-clause-shorter c = escape_shortens c.pass_escape.result c.args.self.now.left c.pass_escape.new.cursor.left c.pass_escape.ensures.computed
