-- The errors of the options that a call refuses, without their places: for private clauses.
use Rattle.std.specs.Prelude.{◌≡◌, ◌<◌, ◌+◌, ℕ, Bool, List, [], ◌∷◌, slice_get, Some, if◌then◌else◌}
use Rattle.mf_tree.specs.Faults.{identifier_text}
use Rattle.mf_tree.specs.declared.fault.Fault.{Fault}
use Rattle.mf_tree.specs.declared.fault.Kind.TheVariants.{BadOption}
use Rattle.mf_value.specs.Traces.{is_refused}
use Rattle.mf_value.specs.declared.called.CallFault.{CallFault}
use Rattle.mf_value.specs.declared.given.Given.{Given}

abbrev pub refused_from : ℕ → List CallFault → List Given → List Fault
refused_from place refused [] = []
refused_from place refused (given ∷ others) =
    if is_refused refused place then record { kind = BadOption; of = identifier_text given.name } ∷ refused_from (place + 1) refused others
    else refused_from (place + 1) refused others

abbrev pub refused_errors : List CallFault → List Given → List Fault
refused_errors refused given = refused_from 0 refused given

-- of so many options each is marked where the call refuses it
abbrev pub AreMarks : List CallFault → ℕ → List Bool → Type 0
AreMarks refused count marks = (place : ℕ) → place < count → slice_get marks place ≡ Some (is_refused refused place)
