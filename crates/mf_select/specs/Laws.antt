-- Laws of selection.
use Rattle.std.specs.Prelude.{◌≡◌, ℕ, List, []}
use Rattle.mf_locale.specs.declared.record.LocaleRecord.{LocaleRecord}
use Rattle.mf_meaning.specs.Ranks.{rank}
use Rattle.mf_tree.specs.Faults.{faults}
use Rattle.mf_tree.specs.declared.message.Body.TheVariants.{Match}
use Rattle.mf_tree.specs.declared.message.Message.{Message}
use Rattle.mf_tree.specs.declared.message.Variant.{Variant}
use Rattle.mf_tree.specs.declared.name.Name.{Name}
use Rattle.mf_value.specs.Meaning.{Meaning}
use Rattle.mf_value.specs.Selection.{Chosen}
use Rattle.mf_value.specs.declared.value.Value.{Value}
use Rattle.mf_select.specs.Choosing.{CanChoose, TellsKeys}

-- a variant can be chosen in a message that the checks find nothing wrong with
abbrev pub ValidCanChoose : Type 0
ValidCanChoose = (message : Message) (selectors : List Name) (variants : List Variant) → message.body ≡ Match selectors variants →
    faults message ≡ [] → CanChoose selectors variants

-- the ranks of keys by a locale, those of the built-in functions and of handlers, tell keys apart
abbrev pub RanksTellKeys : Type 0
RanksTellKeys = (locale : LocaleRecord) → TellsKeys (rank locale)

-- one variant at most is the chosen one
abbrev pub OneIsChosen : Type 0
OneIsChosen = (meaning : Meaning) (values : List Value) (variants : List Variant) (place other : ℕ) →
    Chosen meaning values variants place → Chosen meaning values variants other → place ≡ other
