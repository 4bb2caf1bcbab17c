-- How a scope changes while it resolves: for private clauses.
use Rattle.std.specs.Prelude.{◌≡◌, ◌<◌, ◌≤◌, ℕ, Bool, false, IsTrue, not, List, [], ◌∷◌, ◌++◌, map, take, slice_get, Option, Some, None, if◌then◌else◌}
use Rattle.std.specs.List.{list_all}
use Rattle.mf_text.specs.declared.arguments.Argued.{Argued}
use Rattle.mf_tree.specs.declared.fault.Fault.{Fault}
use Rattle.mf_tree.specs.declared.message.Declaration.{Declaration}
use Rattle.mf_tree.specs.declared.message.Declaration.TheVariants as declaration
use Rattle.mf_value.specs.ErrorLists.{is_among, is_same_node, with_fault, without_place}
use Rattle.mf_value.specs.Meaning.{Meaning}
use Rattle.mf_tree.specs.declared.expression.Call.{Call}
use Rattle.mf_tree.specs.declared.expression.Expression.{Expression}
use Rattle.mf_tree.specs.declared.expression.OptionNode.{OptionNode}
use Rattle.mf_tree.specs.declared.expression.OptionValue.{OptionValue}
use Rattle.mf_tree.specs.declared.expression.Operand.{Operand}
use Rattle.mf_tree.specs.declared.name.Name.{Name}
use Rattle.mf_value.specs.Values.{option_text}
use Rattle.mf_value.specs.Traces.{Bound, Node, Optioned, Spot, of_call, of_declaration, Placed, Trace, bound_variables, called_trace, expression_under, function_trace, is_fallback, operand_trace, option_faults, option_traces, option_value_trace, variable_trace, variable_value}
use Rattle.mf_value.specs.declared.called.Called.{Called}
use Rattle.mf_value.specs.declared.value.Value.{Value}
use Rattle.mf_resolve.specs.Settings.{no_settings, owner_of, settings_from}
use Rattle.mf_resolve.specs.Sources.{kept_value, source_value}
use Rattle.mf_resolve.specs.declared.expression.Resolved.{Resolved}
use Rattle.mf_resolve.specs.declared.expression.Resolved.TheVariants as operand
use Rattle.mf_resolve.specs.declared.settings.Settings.{Settings}
use Rattle.mf_resolve.specs.declared.variable.Source.{Source}
use Rattle.mf_resolve.specs.declared.variable.Source.TheVariants as source

-- what a scope is seen as: what it was made of, what it keeps of the declarations that were used, and the errors so far
pub record ScopeState : Type 0 where
  pub arguments : List (List ℕ × Argued)
  pub declarations : List Declaration
  pub resolved : List (Option Value)
  pub faults : List Fault

abbrev pub bound_of : Meaning → ScopeState → List Bound
bound_of meaning scope = bound_variables meaning scope.arguments scope.declarations

-- the variables of the first declarations
abbrev pub bound_below : Meaning → ScopeState → ℕ → List Bound
bound_below meaning scope limit = take limit (bound_of meaning scope)

-- no error stands at the node
abbrev pub is_free : Node → List Placed → Bool
is_free node faults = list_all (λ (fault : Placed). not (is_same_node fault.node node)) faults

-- one error more while a node is resolved: what stands there is new
abbrev pub with_placed : Node → List Placed → Placed → List Placed
with_placed node before fault = if is_same_node fault.node node then before ++ fault ∷ [] else with_fault before fault

abbrev pub behind_at : Node → List Placed → List Placed → List Placed
behind_at node before [] = before
behind_at node before (fault ∷ faults) = behind_at node (with_placed node before fault) faults

-- a declaration that was resolved has its value and all its errors, and one that wasn't has none
abbrev pub Fits : List Placed → ℕ → Option Bound → Option (Option Value) → Type 0
Fits faults place None kept = Unit {0}
Fits faults place (Some bound) None = Unit {0}
Fits faults place (Some bound) (Some None) = IsTrue (is_free (of_declaration place) faults)
Fits faults place (Some bound) (Some (Some value)) = (value ≡ bound.trace.value) × IsTrue (list_all (is_among faults) bound.trace.faults)

-- the scope has these errors, and its first declarations fit them
pub record Stands (meaning : Meaning) (scope : ScopeState) (limit : ℕ) (faults : List Placed) : Type 0 where
  pub listed : scope.faults ≡ map without_place faults
  pub each : (place : ℕ) → place < limit → Fits faults place (slice_get (bound_of meaning scope) place) (slice_get scope.resolved place)

-- the node is none of the first declarations
abbrev pub IsOutside : ℕ → Node → Type 0
IsOutside limit (of_call number) = Unit {0}
IsOutside limit (of_declaration place) = limit ≤ place

-- the scope is made of the same, keeps what it kept, and changes nothing of later declarations
pub record Keeps (limit : ℕ) (old new : ScopeState) : Type 0 where
  pub arguments : new.arguments ≡ old.arguments
  pub declarations : new.declarations ≡ old.declarations
  pub later : (place : ℕ) → limit ≤ place → slice_get new.resolved place ≡ slice_get old.resolved place
  pub kept : (place : ℕ) (value : Value) → slice_get old.resolved place ≡ Some (Some value) → slice_get new.resolved place ≡ Some (Some value)

-- the scope goes from one state to another over these errors, and something holds
pub record Steps (meaning : Meaning) (limit : ℕ) (old new : ScopeState) (traced : Node → List Placed) (Says : Node → Type 0) : Type 0 where
  pub keeps : Keeps limit old new
  pub stands : (node : Node) (before : List Placed) → IsOutside limit node → Stands meaning old limit before →
      Stands meaning new limit (behind_at node before (traced node))
  pub says : (node : Node) (before : List Placed) → IsOutside limit node → Stands meaning old limit before → Says node

-- What each step of a resolution does.

-- one error more
abbrev pub with_error : ScopeState → Fault → ScopeState
with_error scope fault = record scope { faults = scope.faults ++ fault ∷ [] }

abbrev pub with_errors : ScopeState → List Fault → ScopeState
with_errors scope faults = record scope { faults = scope.faults ++ faults }

-- a value that is that of its trace
abbrev pub Evaluates : Meaning → ℕ → ScopeState → ScopeState → (Node → Trace) → Value → Type 0
Evaluates meaning limit old new traced value = Steps meaning limit old new (λ node. (traced node).faults) (λ node. value ≡ (traced node).value)

-- a variable, under the declarations before a place
abbrev pub Uses : Meaning → ℕ → ℕ → ScopeState → ScopeState → Name → Spot → Source → Type 0
Uses meaning inner limit old new name spot source =
    Steps meaning limit old new
    (λ node. (variable_trace meaning old.arguments (bound_below meaning old inner) node spot name).faults)
    (λ node. source_value meaning.direction new.resolved name source ≡ Some (variable_value meaning old.arguments (bound_below meaning old inner) name))

-- a declaration
abbrev pub faults_of : Option Bound → List Placed
faults_of None = []
faults_of (Some bound) = bound.trace.faults

abbrev pub value_of : Option Bound → Option Value
value_of None = None
value_of (Some bound) = Some bound.trace.value

abbrev pub Resolves : Meaning → ℕ → ScopeState → ScopeState → ℕ → Type 0
Resolves meaning limit old new place =
    Steps meaning limit old new (λ node. faults_of (slice_get (bound_of meaning old) place))
    (λ node. kept_value (slice_get new.resolved place) ≡ value_of (slice_get (bound_of meaning old) place))

-- the value of the declaration at a place is kept
abbrev pub IsKept : List (Option Value) → ℕ → Type 0
IsKept resolved place = (value : Value) × (slice_get resolved place ≡ Some (Some value))

-- what a variable stands for is there
abbrev pub IsThere : List (Option Value) → Source → Type 0
IsThere resolved (source.Declared place) = IsKept resolved place
IsThere resolved (source.Argument argued) = Unit {0}
IsThere resolved source.Nothing = Unit {0}

-- the value of an operand
abbrev pub operand_of : List (Option Value) → Resolved → Option Value
operand_of resolved operand.Absent = None
operand_of resolved (operand.Kept place) = kept_value (slice_get resolved place)
operand_of resolved (operand.Made value) = Some value

-- what the operand is kept under is there
abbrev pub IsHeld : List (Option Value) → Resolved → Type 0
IsHeld resolved operand.Absent = Unit {0}
IsHeld resolved (operand.Kept place) = IsKept resolved place
IsHeld resolved (operand.Made value) = Unit {0}

abbrev pub trace_faults : Option Trace → List Placed
trace_faults None = []
trace_faults (Some trace) = trace.faults

abbrev pub trace_value : Option Trace → Option Value
trace_value None = None
trace_value (Some trace) = Some trace.value

abbrev pub ResolvesOperand : Meaning → ℕ → ℕ → ScopeState → ScopeState → Operand → Resolved → Type 0
ResolvesOperand meaning inner limit old new operand resolved =
    Steps meaning limit old new
    (λ node. trace_faults (operand_trace meaning old.arguments (bound_below meaning old inner) node operand))
    (λ node. operand_of new.resolved resolved ≡ trace_value (operand_trace meaning old.arguments (bound_below meaning old inner) node operand))

-- the value of an option
abbrev pub ResolvesOption : Meaning → ℕ → ScopeState → ScopeState → OptionValue → ℕ → Option (List ℕ) → Type 0
ResolvesOption meaning limit old new option place text =
    Steps meaning limit old new
    (λ node. (option_value_trace meaning old.arguments (bound_below meaning old limit) node place option).faults)
    (λ node. text ≡ option_text (option_value_trace meaning old.arguments (bound_below meaning old limit) node place option).value.content)

-- the options of a function, or of markup
abbrev pub ResolvesOptions : Meaning → ℕ → ScopeState → ScopeState → Bool → List OptionNode → Settings → Type 0
ResolvesOptions meaning limit old new directs options settings =
    Steps meaning limit old new
    (λ node. option_faults (option_traces meaning old.arguments (owner_of directs) (bound_below meaning old limit) node options))
    (λ node. settings ≡ settings_from no_settings (option_traces meaning old.arguments (owner_of directs) (bound_below meaning old limit) node options))

-- an expression, its operand under the declarations before one place and its options under those before another
abbrev pub expression_below : Meaning → ℕ → ℕ → ScopeState → Expression → Node → Trace
expression_below meaning inner limit scope expression node =
    expression_under meaning scope.arguments (bound_below meaning scope inner) (bound_below meaning scope limit) node expression

-- a declaration, under those before a place
abbrev pub declared_below : Meaning → ℕ → ScopeState → Declaration → Node → Trace
declared_below meaning place scope (declaration.Input name expression) node =
    expression_under meaning scope.arguments [] (bound_below meaning scope place) node expression
declared_below meaning place scope (declaration.Local name expression) node =
    expression_under meaning scope.arguments (bound_below meaning scope place) (bound_below meaning scope place) node expression

-- its function, behind an operand without errors
abbrev pub call_below : Meaning → ℕ → ScopeState → Expression → Call → Option Value → Node → Trace
call_below meaning limit scope expression call operand node =
    function_trace meaning scope.arguments (bound_below meaning scope limit) node expression operand [] (Some call)

abbrev pub is_fallback_value : Option Value → Bool
is_fallback_value None = false
is_fallback_value (Some value) = is_fallback value.content

-- what a call gave makes of a scope: some errors more, and a value
pub record Ends (expression : Expression) (old new : ScopeState) (settings : Settings) (called : Called) (value : Value) : Type 0 where
  pub added : List Fault
  pub grown : new ≡ with_errors old added
  pub errors : (node : Node) (options : List Optioned) → settings ≡ settings_from no_settings options →
      added ≡ map without_place (called_trace node expression [] options called).faults
  pub value_is : (node : Node) (options : List Optioned) → settings ≡ settings_from no_settings options →
      value ≡ (called_trace node expression [] options called).value

-- The same as clauses say them, each at whatever place it may stand.

abbrev pub ResolvesExpression : Meaning → ℕ → ℕ → ScopeState → ScopeState → Expression → Value → Type 0
ResolvesExpression meaning inner limit old new expression value =
    Evaluates meaning limit old new (expression_below meaning inner limit old expression) value

abbrev pub ResolvesDeclaration : Meaning → ℕ → ScopeState → ScopeState → Declaration → Value → Type 0
ResolvesDeclaration meaning place old new declaration value = Evaluates meaning place old new (declared_below meaning place old declaration) value

abbrev pub ResolvesCall : Meaning → ℕ → ScopeState → ScopeState → Expression → Call → Resolved → Value → Type 0
ResolvesCall meaning limit old new expression call operand value =
    Evaluates meaning limit old new (call_below meaning limit old expression call (operand_of old.resolved operand)) value

abbrev pub ResolvesPlace : Meaning → ScopeState → ScopeState → ℕ → Type 0
ResolvesPlace meaning old new place = (outer : ℕ) → place < outer → Resolves meaning outer old new place

abbrev pub FindsVariable : Meaning → ℕ → ScopeState → ScopeState → Name → Source → Type 0
FindsVariable meaning limit old new name found = (spot : Spot) (outer : ℕ) → limit ≤ outer → Uses meaning limit outer old new name spot found

abbrev pub FindsOperand : Meaning → ℕ → ScopeState → ScopeState → Operand → Resolved → Type 0
FindsOperand meaning limit old new operand resolved = (outer : ℕ) → limit ≤ outer → ResolvesOperand meaning limit outer old new operand resolved

abbrev pub FindsOption : Meaning → ℕ → ScopeState → ScopeState → OptionValue → Option (List ℕ) → Type 0
FindsOption meaning limit old new option text = (place : ℕ) → ResolvesOption meaning limit old new option place text
