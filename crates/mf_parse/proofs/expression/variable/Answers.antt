use Rattle.mf_parse.proofs.Choices.{variable_is}
use Rattle.mf_parse.proofs.expression.variable.Goals as goal

pub returns-clause-found : goal.returns-clause-found
returns-clause-found c =
    variable_is c.in_ok-spelled.spelled c.in_ok-name.name c.args.cursor.now.left c.expect.new.cursor.left c.bare_name.new.cursor.left
    c.in_ok-expect.ensures.found c.in_ok-spelled.ensures.found c.in_ok-name.ensures
