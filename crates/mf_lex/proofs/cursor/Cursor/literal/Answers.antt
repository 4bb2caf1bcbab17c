use Rattle.std.proofs.lemmas.Result.{IfOk-weaker}
use Rattle.mf_text.specs.Grammar.{SpellsLiteral}
use Rattle.mf_lex.specs.Readers.{Finds, Reads, Shortens}
use Rattle.mf_lex.specs.Computed.{literal_at}
use Rattle.mf_lex.proofs.Readings.{literal_reads}
use Rattle.mf_lex.proofs.Shorter.{literal_shortens}
use Rattle.mf_lex.proofs.cursor.Cursor.literal.Goals as goal

pub returns-clause-longest : goal.returns-clause-longest
returns-clause-longest c =
    IfOk-weaker c.read_literal.result
    (λ found. Finds literal_at found c.args.self.now.left c.read_literal.new.cursor.left) (λ found. Reads SpellsLiteral found c.args.self.now.left c.read_literal.new.cursor.left)
    (λ found finds. literal_reads found c.args.self.now.left c.read_literal.new.cursor.left finds)
    c.read_literal.ensures.computed

pub returns-clause-shorter : goal.returns-clause-shorter
returns-clause-shorter c =
    IfOk-weaker c.read_literal.result
    (λ found. Finds literal_at found c.args.self.now.left c.read_literal.new.cursor.left) (λ found. Shortens found c.args.self.now.left c.read_literal.new.cursor.left)
    (λ found finds. literal_shortens found c.args.self.now.left c.read_literal.new.cursor.left finds)
    c.read_literal.ensures.computed
