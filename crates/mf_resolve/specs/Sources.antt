-- What a variable stands for in a scope: for private clauses.
use Rattle.std.specs.Prelude.{◌≡◌, ◌+◌, nat_lt, ℕ, List, [], ◌∷◌, slice_get, Option, Some, None, if◌then◌else◌}
use Rattle.std.specs.Borrow.{Bor}
use Rattle.std.specs.BTreeMap.{BTreeMap, get}
use Rattle.std.specs.declared.cmp.Ordering.{Ordering}
use Rattle.mf_text.specs.Arguments.{argument_named}
use Rattle.mf_text.specs.Order.{byte_cmp}
use Rattle.mf_text.specs.declared.arguments.Argued.{Argued}
use Rattle.mf_text.specs.declared.direction.Direction.{Direction}
use Rattle.mf_tree.specs.Equality.{is_same_name}
use Rattle.mf_tree.specs.Faults.{name_of, variable_text}
use Rattle.mf_tree.specs.declared.message.Declaration.{Declaration}
use Rattle.mf_tree.specs.declared.name.Name.{Name}
use Rattle.mf_value.specs.Traces.{argument_value, fallback}
use Rattle.mf_value.specs.Values.{option_text}
use Rattle.mf_value.specs.declared.value.Value.{Value}
use Rattle.mf_resolve.specs.declared.variable.Source.{Source}
use Rattle.mf_resolve.specs.declared.variable.Source.TheVariants.{Declared, Argument, Nothing}

-- a name is looked up by its value

abbrev pub Key : Type 0
Key = Bor (List ℕ)

abbrev pub key_cmp : Key → Key → Ordering
key_cmp a b = byte_cmp a.now b.now

-- the place of the first declaration that binds a variable
abbrev pub place_from : ℕ → Name → List Declaration → Option ℕ
place_from place name [] = None
place_from place name (declaration ∷ declarations) =
    if is_same_name (name_of declaration) name then Some place else place_from (place + 1) name declarations

-- the map has the place of the first declaration of each variable
pub record HasPlaces (declarations : List Declaration) (places : BTreeMap Key ℕ) : Type 0 where
  pub each : (name : Name) (key : Key) → key.now ≡ name.value → get key_cmp places key ≡ place_from 0 name declarations

-- what a variable stands for: a declaration that is one of so many, or else an argument, or else nothing
abbrev pub place_below : ℕ → Option ℕ → Option ℕ
place_below limit None = None
place_below limit (Some place) = if nat_lt place limit then Some place else None

abbrev pub IsArgument : Option Argued → Source → Type 0
IsArgument None Nothing = Unit {0}
IsArgument None (Declared place) = ⊥
IsArgument None (Argument argued) = ⊥
IsArgument (Some argued) Nothing = ⊥
IsArgument (Some argued) (Declared place) = ⊥
IsArgument (Some argued) (Argument found) = found.now ≡ argued

abbrev pub IsDeclared : ℕ → Source → Type 0
IsDeclared place (Declared found) = found ≡ place
IsDeclared place (Argument argued) = ⊥
IsDeclared place Nothing = ⊥

abbrev pub IsSource : Option ℕ → Option Argued → Source → Type 0
IsSource (Some place) argued source = IsDeclared place source
IsSource None argued source = IsArgument argued source

-- the value that is kept of the declaration at a place
abbrev pub kept_value : Option (Option Value) → Option Value
kept_value None = None
kept_value (Some kept) = kept

-- the value of what a variable stands for
abbrev pub source_value : Direction → List (Option Value) → Name → Source → Option Value
source_value dir resolved name (Declared place) = kept_value (slice_get resolved place)
source_value dir resolved name (Argument argued) = Some (argument_value dir argued.now)
source_value dir resolved name Nothing = Some (fallback (variable_text name))

-- what a variable stands for where the declarations before a place count
abbrev pub IsFound : List Declaration → List (List ℕ × Argued) → ℕ → Name → Source → Type 0
IsFound declarations arguments limit name found =
    IsSource (place_below limit (place_from 0 name declarations)) (argument_named arguments name.value) found

-- the value of what a variable stands for, where it is there
abbrev pub IsValueOf : Direction → List (Option Value) → Name → Source → Value → Type 0
IsValueOf dir resolved name found value = (known : Value) → source_value dir resolved name found ≡ Some known → value ≡ known

-- its option text
abbrev pub IsTextOf : List (Option Value) → Source → Option (List ℕ) → Type 0
IsTextOf resolved found text =
    (dir : Direction) (name : Name) (value : Value) → source_value dir resolved name found ≡ Some value → text ≡ option_text value.content
