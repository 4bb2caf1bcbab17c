use Rattle.std.proofs.Common.{chars, ◌∙◌}
use Rattle.mf_lex.specs.Classes.{holds}
use Rattle.mf_lex.proofs.Runs.{ends_with_behind, taken_is_run}
use Rattle.mf_lex.proofs.run.take_run.Goals as goal

pub front-requires : goal.front-requires
front-requires c =
    ends_with_behind (holds c.args.class) (chars c.rest-start.result.now) (chars c.rest.result.now) c.args.cursor.now.left
    c.rest-start.ensures (c.rest.ensures ∙ c.pass_run.ensures.run)

pub returns-clause-taken : goal.returns-clause-taken
returns-clause-taken c =
    taken_is_run (holds c.args.class) (chars c.rest-start.result.now) (chars c.rest.result.now) c.args.cursor.now.left (chars c.front.result.now)
    c.rest-start.ensures (c.rest.ensures ∙ c.pass_run.ensures.run) c.front.ensures
