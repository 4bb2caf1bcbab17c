-- What the calls on a scope promise: after any of them, its errors are the traces of these calls joined, each error where it
-- first arose.
use Rattle.std.specs.Prelude.{◌≡◌, nat_lt, ℕ, List, Bool, true, IsTrue, length}
use Rattle.std.specs.List.{list_all}
use Rattle.mf_text.specs.declared.arguments.Argued.{Argued}
use Rattle.mf_tree.specs.declared.expression.Expression.{Expression}
use Rattle.mf_tree.specs.declared.fault.Fault.{Fault}
use Rattle.mf_tree.specs.declared.message.Declaration.{Declaration}
use Rattle.mf_tree.specs.declared.name.Name.{Name}
use Rattle.mf_tree.specs.declared.pattern.Markup.{Markup}
use Rattle.mf_value.specs.ErrorLists.{Calls, after_adding, after_call, error_list, firsts, no_calls}
use Rattle.mf_value.specs.Meaning.{Meaning}
use Rattle.mf_value.specs.Selection.{MarkupTrace, markup_trace}
use Rattle.mf_value.specs.Traces.{Node, of_call, of_declaration, Placed, Trace, at_operand, expression_trace, variable_trace}
use Rattle.mf_value.specs.declared.value.Value.{Value}
use Rattle.mf_resolve.specs.Resolving.{ScopeState, Stands, bound_of}
use Rattle.mf_resolve.specs.declared.markup.MarkupValue.{MarkupValue}

-- the place is a declaration's or that of an earlier call
abbrev pub is_earlier : ℕ → Node → Bool
is_earlier count (of_declaration place) = true
is_earlier count (of_call number) = nat_lt number count

-- the scope has gathered the errors of these calls; the second and the third serve private clauses
pub record Gathers (meaning : Meaning) (scope : ScopeState) (calls : Calls) : Type 0 where
  pub faults : scope.faults ≡ error_list calls.joined
  pub stands : Stands meaning scope (length scope.declarations) (firsts calls.joined)
  pub counted : IsTrue (list_all (λ (fault : Placed). is_earlier calls.count fault.node) (firsts calls.joined))

-- the scope of a message with these declarations, where nothing has been resolved
pub record Opens (scope : ScopeState) (declarations : List Declaration) (arguments : List (List ℕ × Argued)) : Type 0 where
  pub arguments_are : scope.arguments ≡ arguments
  pub declarations_are : scope.declarations ≡ declarations
  pub gathers : (meaning : Meaning) → Gathers meaning scope no_calls

-- the scope is that of the same message and arguments, and to the calls that it has gathered come more
pub record Advances (meaning : Meaning) (old new : ScopeState) (after : Calls → Calls) : Type 0 where
  pub arguments : new.arguments ≡ old.arguments
  pub declarations : new.declarations ≡ old.declarations
  pub gathers : (calls : Calls) → Gathers meaning old calls → Gathers meaning new (after calls)

-- a call gives the value of its trace, and its errors are gathered
pub record Gives (meaning : Meaning) (old new : ScopeState) (traced : Node → Trace) (value : Value) : Type 0 where
  pub advances : Advances meaning old new (after_call (λ node. (traced node).faults))
  pub value_is : (calls : Calls) → Gathers meaning old calls → value ≡ (traced (of_call calls.count)).value

-- the traces of what a call is handed, at a node
abbrev pub expression_at : Meaning → ScopeState → Expression → Node → Trace
expression_at meaning scope expression node = expression_trace meaning scope.arguments (bound_of meaning scope) node expression

abbrev pub variable_at : Meaning → ScopeState → Name → Node → Trace
variable_at meaning scope name node = variable_trace meaning scope.arguments (bound_of meaning scope) node at_operand name

abbrev pub markup_at : Meaning → ScopeState → Markup → Node → MarkupTrace
markup_at meaning scope markup node = markup_trace meaning scope.arguments (bound_of meaning scope) node markup

abbrev pub GivesExpression : Meaning → ScopeState → ScopeState → Expression → Value → Type 0
GivesExpression meaning old new expression value = Gives meaning old new (expression_at meaning old expression) value

abbrev pub GivesVariable : Meaning → ScopeState → ScopeState → Name → Value → Type 0
GivesVariable meaning old new name value = Gives meaning old new (variable_at meaning old name) value

-- the same of markup, with what its trace says of its options and its id
pub record GivesMarkup (meaning : Meaning) (old new : ScopeState) (markup : Markup) (value : MarkupValue) : Type 0 where
  pub advances : Advances meaning old new (after_call (λ node. (markup_at meaning old markup node).faults))
  pub options_are : (calls : Calls) → Gathers meaning old calls → value.options ≡ (markup_at meaning old markup (of_call calls.count)).options
  pub id_is : (calls : Calls) → Gathers meaning old calls → value.id ≡ (markup_at meaning old markup (of_call calls.count)).id

-- an error is added, whatever the functions mean
abbrev pub Adds : ScopeState → ScopeState → Fault → Type 0
Adds old new fault = (meaning : Meaning) → Advances meaning old new (after_adding fault)
