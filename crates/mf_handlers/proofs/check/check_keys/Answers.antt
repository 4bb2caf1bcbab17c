use Rattle.std.proofs.Common.{sym, ◌∙◌}
use Rattle.mf_handlers.proofs.Places.{repeated_fits}
use Rattle.mf_handlers.proofs.check.check_keys.Goals as goal

pub overflow_cast-result : goal.overflow_cast-result
overflow_cast-result c =
    repeated_fits c.in-Some.place c.args.entries.now c.requires.few (sym c.repeated.ensures ∙ c.in-Some.is)
