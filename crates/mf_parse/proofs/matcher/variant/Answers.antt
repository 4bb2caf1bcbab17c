use Rattle.mf_parse.proofs.Bodies.{variant_is}
use Rattle.mf_parse.proofs.matcher.variant.Goals as goal

pub returns-clause-found : goal.returns-clause-found
returns-clause-found c =
    variant_is c.in_ok-keys.keys c.in_ok-pattern.pattern c.args.cursor.now.left c.keys.new.cursor.left c.o.new.self.left c.quoted_pattern.new.cursor.left
    c.in_ok-keys.ensures.found c.o.ensures.computed c.in_ok-pattern.ensures.found
