-- For private clauses: how the annotation of a variable is found.
use Rattle.std.specs.Prelude.{◌≡◌, Bool, true, false, List, Option, Some}
use Rattle.std.specs.Borrow.{Bor}
use Rattle.std.specs.BTreeMap.{BTreeMap, get}
use Rattle.std.specs.List.{AllByRecursion}
use Rattle.std.specs.Option.{option_map}
use Rattle.mf_tree.specs.declared.name.Name.{Name}
use Rattle.mf_tree.specs.declared.message.Declaration.{Declaration}
use Rattle.mf_tree.specs.Faults.{first_declaration, is_annotated}
use Rattle.mf_check.specs.declared.selectors.Annotation.{Annotation}
use Rattle.mf_check.specs.declared.selectors.Annotation.TheVariants as Annotations
use Rattle.mf_check.specs.Seen.{Value, value_cmp}

abbrev pub read_declaration : Option (Bor Declaration) → Option Declaration
read_declaration found = option_map (λ (declaration : Bor Declaration). declaration.now) found

-- the map has the first declaration of each variable
pub record HasFirst (declarations : List Declaration) (first : BTreeMap Value (Bor Declaration)) : Type 0 where
  pub each : (name : Name) (value : Value) → value.now ≡ name.value → read_declaration (get value_cmp first value) ≡ first_declaration declarations name

-- whether a declaration annotates its variable, where it is known which others are annotated
abbrev pub annotates : (Name → Bool) → Annotation → Bool
annotates known Annotations.Function = true
annotates known (Annotations.Variable operand) = known operand.now
annotates known Annotations.Nothing = false

-- what the map has of a variable is whether it is annotated
pub record AreAnswers (declarations : List Declaration) (answers : BTreeMap Value Bool) : Type 0 where
  pub each : (name : Name) (value : Value) (answer : Bool) → value.now ≡ name.value → get value_cmp answers value ≡ Some answer → answer ≡ is_annotated declarations name

-- the variables of the path are annotated where that one is
abbrev pub AreAlike : List Declaration → Name → List (Bor Name) → Type 0
AreAlike declarations name path = AllByRecursion (λ (passed : Bor Name). is_annotated declarations passed.now ≡ is_annotated declarations name) path
