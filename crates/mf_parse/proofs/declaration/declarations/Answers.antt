use Rattle.mf_parse.specs.Computed.{declarations_at}
use Rattle.mf_parse.proofs.Bodies.{declaration_step, declaration_stop, declaration_shorter}
use Rattle.mf_parse.proofs.Texts.{match_some, match_none}
use Rattle.mf_parse.proofs.declaration.declarations.Goals as goal

pub loop-declarations-smaller : goal.loop-declarations-smaller
loop-declarations-smaller c =
    let found = match_some c.in_ok-declaration.field-0 c.in-Some.declaration _ _ c.in-Some.is c.in_ok-declaration.ensures.found in
    declaration_shorter c.in-Some.declaration c.loop-declarations.cursor.left c.declaration.new.cursor.left c.o.new.self.left found.0 found.1 c.o.ensures.computed

pub loop-declarations-preserved : goal.loop-declarations-preserved
loop-declarations-preserved c =
    let found = match_some c.in_ok-declaration.field-0 c.in-Some.declaration _ _ c.in-Some.is c.in_ok-declaration.ensures.found in
    declaration_step (declarations_at c.args.cursor.now.left) c.in-Some.declaration c.loop-declarations.declarations c.push.new.self c.loop-declarations.cursor.left c.declaration.new.cursor.left c.o.new.self.left
    c.loop-declarations.invariant found.0 found.1 c.o.ensures.computed c.in_ok-push.ensures.ok

pub returns-clause-found : goal.returns-clause-found
returns-clause-found c =
    let found = match_none c.in_ok-declaration.field-0 _ _ c.in_default.is c.in_ok-declaration.ensures.found in
    declaration_stop (declarations_at c.args.cursor.now.left) c.loop-declarations.declarations c.loop-declarations.cursor.left c.declaration.new.cursor.left c.loop-declarations.invariant found.0 found.1
