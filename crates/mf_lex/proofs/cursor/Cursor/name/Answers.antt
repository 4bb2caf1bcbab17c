use Rattle.std.proofs.lemmas.Result.{IfOk-weaker}
use Rattle.mf_text.specs.Grammar.{SpellsName}
use Rattle.mf_lex.specs.Readers.{Finds, Reads, Shortens}
use Rattle.mf_lex.specs.Computed.{name_at}
use Rattle.mf_lex.proofs.Readings.{name_reads}
use Rattle.mf_lex.proofs.Shorter.{name_shortens}
use Rattle.mf_lex.proofs.cursor.Cursor.name.Goals as goal

pub returns-clause-longest : goal.returns-clause-longest
returns-clause-longest c =
    IfOk-weaker c.read_name.result
    (λ found. Finds name_at found c.args.self.now.left c.read_name.new.cursor.left) (λ found. Reads SpellsName found c.args.self.now.left c.read_name.new.cursor.left)
    (λ found finds. name_reads found c.args.self.now.left c.read_name.new.cursor.left finds)
    c.read_name.ensures.computed

pub returns-clause-shorter : goal.returns-clause-shorter
returns-clause-shorter c =
    IfOk-weaker c.read_name.result
    (λ found. Finds name_at found c.args.self.now.left c.read_name.new.cursor.left) (λ found. Shortens found c.args.self.now.left c.read_name.new.cursor.left)
    (λ found finds. name_shortens found c.args.self.now.left c.read_name.new.cursor.left finds)
    c.read_name.ensures.computed
