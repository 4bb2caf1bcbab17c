use Rattle.mf_edition.specs.Handlers.{handler_of}
use Rattle.mf_meaning.specs.Functions.{built_in}
use Rattle.mf_render.proofs.Called.{known_ok}
use Rattle.mf_render.proofs.functions.EditionFunctionsFunctions.call.Goals as goal
use Rattle.std.specs.Option.{option_copied}

pub returns-then-known : goal.returns-then-known
returns-then-known c =
    known_ok c.args.self.now.«record».now c.built_ins-built_ins.result.place.now (built_in c.args.name.now)
    (handler_of c.args.self.now.edition.now.handlers c.args.name.now) (option_copied c.args.operand) c.args.options.now c.call.result
    c.built_ins-built_ins.ensures c.if-known.ensures c.call.ensures
