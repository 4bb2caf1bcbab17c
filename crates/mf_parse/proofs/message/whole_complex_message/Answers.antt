use Rattle.mf_parse.proofs.Whole.{complex_more}
use Rattle.mf_parse.proofs.message.whole_complex_message.Goals as goal

pub returns-then-not-is_end-clause-none : goal.returns-then-not-is_end-clause-none
returns-then-not-is_end-clause-none c is =
    complex_more c.in_ok-declarations.declarations c.in_ok-body.body c.args.cursor.now.left c.o.new.self.left c.declarations.new.cursor.left c.complex_body.new.cursor.left c.o-2.new.self.left
    c.o.ensures.computed c.in_ok-declarations.ensures.found c.in_ok-body.ensures.found c.o-2.ensures.computed c.if-not-is_end.ensures
