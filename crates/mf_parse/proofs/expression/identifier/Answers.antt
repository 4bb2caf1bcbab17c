use Rattle.mf_parse.proofs.Choices.{identifier_found}
use Rattle.mf_parse.proofs.expression.identifier.Goals as goal

pub returns-clause-found : goal.returns-clause-found
returns-clause-found c =
    identifier_found c.in_ok-ident.ident c.in_ok-identifier.identifier c.args.cursor.now.left c.ident.new.cursor.left c.in_ok-ident.ensures.found c.in_ok-identifier.ensures
