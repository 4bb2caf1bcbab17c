-- What the options of a call come to, option by option: for private clauses.
use Rattle.std.specs.Prelude.{◌≡◌, Bool, true, false, List, [], ◌∷◌, ◌++◌, map, Option, Some, None, if◌then◌else◌}
use Rattle.mf_text.specs.declared.pair.Pair.{Pair}
use Rattle.mf_tree.specs.Faults.{identifier_text}
use Rattle.mf_value.specs.Traces.{Outcome, handed, directed, identified, passed_over, Owner, of_function, of_markup, Optioned}
use Rattle.mf_value.specs.declared.given.Given.{Given}
use Rattle.mf_resolve.specs.declared.settings.Settings.{Settings}

abbrev pub no_settings : Settings
no_settings = record { given = []; dir = None; id = None }

-- whether it is a function that has the options
abbrev pub owner_of : Bool → Owner
owner_of directs = if directs then of_function else of_markup

abbrev pub settings_after : Settings → Outcome → Settings
settings_after before (handed given) = record before { given = before.given ++ given ∷ [] }
settings_after before (directed dir) = record before { dir = Some dir }
settings_after before (identified id) = record before { id = Some id }
settings_after before passed_over = before

-- an option with an outcome is taken, and one without is refused and changes nothing
abbrev pub Takes : Settings → Settings → Option Outcome → Bool → Type 0
Takes old new (Some outcome) taken = (taken ≡ true) × (new ≡ settings_after old outcome)
Takes old new None taken = (taken ≡ false) × (new ≡ old)

abbrev pub settings_from : Settings → List Optioned → Settings
settings_from before [] = before
settings_from before (option ∷ options) = settings_from (settings_after before option.outcome) options

-- the options of markup, by their identifiers
abbrev pub named_option : Given → Pair
named_option option = record { name = identifier_text option.name; value = option.value }

abbrev pub named_options : List Given → List Pair
named_options given = map named_option given
