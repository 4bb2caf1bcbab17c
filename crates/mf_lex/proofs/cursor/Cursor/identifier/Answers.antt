use Rattle.std.proofs.lemmas.Result.{IfOk-weaker}
use Rattle.mf_lex.specs.Readers.{Finds, Reads, Shortens, SpellsIdent}
use Rattle.mf_lex.specs.Computed.{identifier_at}
use Rattle.mf_lex.proofs.Readings.{identifier_reads}
use Rattle.mf_lex.proofs.Shorter.{identifier_shortens}
use Rattle.mf_lex.proofs.cursor.Cursor.identifier.Goals as goal

pub returns-clause-longest : goal.returns-clause-longest
returns-clause-longest c =
    IfOk-weaker c.read_identifier.result
    (λ found. Finds identifier_at found c.args.self.now.left c.read_identifier.new.cursor.left) (λ found. Reads SpellsIdent found c.args.self.now.left c.read_identifier.new.cursor.left)
    (λ found finds. identifier_reads found c.args.self.now.left c.read_identifier.new.cursor.left finds)
    c.read_identifier.ensures.computed

pub returns-clause-shorter : goal.returns-clause-shorter
returns-clause-shorter c =
    IfOk-weaker c.read_identifier.result
    (λ found. Finds identifier_at found c.args.self.now.left c.read_identifier.new.cursor.left) (λ found. Shortens found c.args.self.now.left c.read_identifier.new.cursor.left)
    (λ found finds. identifier_shortens found c.args.self.now.left c.read_identifier.new.cursor.left finds)
    c.read_identifier.ensures.computed
