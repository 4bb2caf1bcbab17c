use Rattle.mf_parse.proofs.Bodies.{input_is}
use Rattle.mf_parse.proofs.declaration.input.Goals as goal

pub returns-clause-found : goal.returns-clause-found
returns-clause-found c =
    input_is c.in_ok-name.name c.in_ok-operand.operand c.in_ok-expression.expression c.args.cursor.now.left c.o.new.self.left c.opening_brace.new.cursor.left c.variable.new.cursor.left c.rest_of_expression.new.cursor.left
    c.o.ensures.computed c.in_ok-opening_brace.ensures.found c.in_ok-name.ensures.found c.in_ok-operand.ensures.cases c.in_ok-expression.ensures.found
