-- How many presets and entries a handler may have that is checked.
use Rattle.std.specs.Prelude.{◌<◌, ◌^◌, List, length}
use Rattle.mf_value.specs.declared.handler.HandlerDef.{HandlerDef}
use Rattle.mf_value.specs.declared.handler.HandlerDef.TheVariants.{Alias, Affix, Table}

-- the place of each has 32 bits
abbrev pub AreFew : {A : Type 0} → List A → Type 0
AreFew things = length things < 2 ^ 32

abbrev pub IsFew : HandlerDef → Type 0
IsFew (Alias base presets) = AreFew presets
IsFew (Affix base presets prefix suffix) = AreFew presets
IsFew (Table entries default) = AreFew entries
