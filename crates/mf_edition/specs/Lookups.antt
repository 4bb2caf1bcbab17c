-- Things that are found by a test.
use Rattle.std.specs.Prelude.{Bool, Option, None, Some, List, [], ◌∷◌, if◌then◌else◌}

-- what the first thing that passes a test has, if there is one
abbrev pub found_by : {T V : Type 0} → (T → Bool) → (T → V) → List T → Option V
found_by passes of [] = None
found_by passes of (thing ∷ things) =
    if passes thing then Some (of thing) else found_by passes of things
