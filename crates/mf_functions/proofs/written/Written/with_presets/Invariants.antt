use Rattle.std.proofs.Common.{◌≡◌, drop}
use Rattle.mf_functions.specs.Written.{preset_from}
use Rattle.mf_functions.proofs.written.Written.with_presets.Given as goal

abbrev pub invariant-loop-preset : goal.invariant-loop-preset
invariant-loop-preset l =
    preset_from l.function l.written (drop l.preset-index l.presets) ≡ preset_from l.function l.fn.self l.presets
