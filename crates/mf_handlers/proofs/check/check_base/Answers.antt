use Rattle.std.proofs.Common.{sym, ◌∙◌}
use Rattle.mf_handlers.proofs.Places.{position_fits}
use Rattle.mf_handlers.proofs.check.check_base.Goals as goal

pub overflow_cast-result : goal.overflow_cast-result
overflow_cast-result c =
    position_fits _ c.in-Some-bad_preset.place c.args.presets.now c.requires.few (sym c.bad_preset.ensures ∙ c.in-Some-bad_preset.is)
