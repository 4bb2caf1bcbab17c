-- What an expression comes to, and the errors that arise on the way (Unicode TS 35, Part 9, "Expression and Markup
-- Resolution", "Function Resolution", "Option Resolution", "Fallback Resolution"; which errors follow a first one, what an
-- error is about and where it stands are this project's own).
use Rattle.std.specs.Prelude.{◌==◌, ◌+◌, refl, ℕ, pos, Bool, true, false, List, [], ◌∷◌, ◌++◌, map, codes, Option, Some, None, encode_utf8_all, if◌then◌else◌}
use Rattle.std.specs.List.{list_any, flat_map}
use Rattle.std.specs.Str.{bytes_eq}
use Rattle.mf_text.specs.Arguments.{argument_named}
use Rattle.mf_text.specs.declared.arguments.Argued.{Argued}
use Rattle.mf_text.specs.declared.arguments.Argued.TheVariants as argued
use Rattle.mf_text.specs.declared.direction.Direction.{Direction}
use Rattle.mf_text.specs.declared.direction.Direction.TheVariants.{Ltr, Rtl, Unknown}
use Rattle.mf_decimal.specs.declared.decimal.Decimal.{Decimal}
use Rattle.mf_tree.specs.Canonical.{quoted_source}
use Rattle.mf_tree.specs.Equality.{is_same_name}
use Rattle.mf_tree.specs.Faults.{identifier_text, name_of, variable_text}
use Rattle.mf_tree.specs.declared.expression.Call.{Call}
use Rattle.mf_tree.specs.declared.expression.Expression.{Expression}
use Rattle.mf_tree.specs.declared.expression.Operand.{Operand}
use Rattle.mf_tree.specs.declared.expression.Operand.TheVariants as operand
use Rattle.mf_tree.specs.declared.expression.OptionNode.{OptionNode}
use Rattle.mf_tree.specs.declared.expression.OptionValue.{OptionValue}
use Rattle.mf_tree.specs.declared.expression.OptionValue.TheVariants as option
use Rattle.mf_tree.specs.declared.fault.Kind.{Kind}
use Rattle.mf_tree.specs.declared.fault.Kind.TheVariants.{BadOperand, BadOption, UnknownFunction, UnresolvedVariable}
use Rattle.mf_tree.specs.declared.message.Declaration.{Declaration}
use Rattle.mf_tree.specs.declared.message.Declaration.TheVariants.{Input, Local}
use Rattle.mf_tree.specs.declared.name.Identifier.{Identifier}
use Rattle.mf_tree.specs.declared.name.Name.{Name}
use Rattle.mf_value.specs.Meaning.{Meaning}
use Rattle.mf_value.specs.Values.{nothing_kept, option_text}
use Rattle.mf_value.specs.Wholes.{whole}
use Rattle.mf_value.specs.declared.called.Called.{Called}
use Rattle.mf_value.specs.declared.called.CallFault.{CallFault}
use Rattle.mf_value.specs.declared.content.Content.{Content}
use Rattle.mf_value.specs.declared.content.Content.TheVariants as content
use Rattle.mf_value.specs.declared.content.Selects.TheVariants.{Nothing}
use Rattle.mf_value.specs.declared.given.Given.{Given}
use Rattle.mf_value.specs.declared.value.Value.{Value}

-- Where an error arises.

-- what is resolved: a declaration, by its place in the message from 0; or what a call on a scope was handed, by the number
-- of the calls before it
pub data Node : Type 0 where
  of_declaration : ℕ → Node
  of_call : ℕ → Node

-- what of it: its operand, its function, or an option by its place from 0
pub data Spot : Type 0 where
  at_operand : Spot
  at_function : Spot
  at_option : ℕ → Spot

-- an error with its place
pub record Placed : Type 0 where
  pub node : Node
  pub spot : Spot
  pub kind : Kind
  pub of : List ℕ

-- what an expression or a variable comes to, and its errors in the order in which they arise
pub record Trace : Type 0 where
  pub value : Value
  pub faults : List Placed

-- Values.

-- a text that no function has made: it has no direction and selects nothing
abbrev pub plain_text : List ℕ → Value
plain_text text = record {
  content = content.Text text;
  dir = Unknown;
  forced = false;
  id = None;
  prefix = [];
  suffix = [];
  selects = Nothing;
  selects_fits = refl;
}

-- a number that no function has made: it has the direction of numbers, keeps no option and selects nothing
abbrev pub plain_number : Direction → Decimal → Value
plain_number dir amount = record {
  content = content.Number amount nothing_kept;
  dir = dir;
  forced = false;
  id = None;
  prefix = [];
  suffix = [];
  selects = Nothing;
  selects_fits = refl;
}

abbrev pub fallback : List ℕ → Value
fallback source = record {
  content = content.Fallback source;
  dir = Unknown;
  forced = false;
  id = None;
  prefix = [];
  suffix = [];
  selects = Nothing;
  selects_fits = refl;
}

abbrev pub argument_value : Direction → Argued → Value
argument_value dir (argued.Text text) = plain_text text
argument_value dir (argued.Signed number) = plain_number dir (whole number)
argument_value dir (argued.Unsigned number) = plain_number dir (whole (pos number))

-- Fallback sources.

abbrev pub function_source : Identifier → List ℕ
function_source name = codes ":" ++ identifier_text name

-- an expression has a function where it has no operand
abbrev pub called_source : Option Call → List ℕ
called_source None = []
called_source (Some function) = function_source function.name

abbrev pub source_of : Option Call → Operand → List ℕ
source_of function (operand.Literal text) = quoted_source text
source_of function (operand.Variable name) = variable_text name
source_of function operand.Absent = called_source function

abbrev pub fallback_source : Expression → List ℕ
fallback_source expression = source_of expression.function expression.operand

-- Options: each is handed to the function, or sets the direction or the id of the value, or is passed over.

pub data Outcome : Type 0 where
  handed : Given → Outcome
  directed : Direction → Outcome
  identified : List ℕ → Outcome
  passed_over : Outcome

-- what becomes of an option, and its errors: those of its variable, and its own
pub record Optioned : Type 0 where
  pub outcome : Outcome
  pub faults : List Placed

-- the value of `u:dir`
abbrev pub direction_named : List ℕ → Option Outcome
direction_named text =
    if bytes_eq text (codes "ltr") then Some (directed Ltr)
    else if bytes_eq text (codes "rtl") then Some (directed Rtl)
    else if bytes_eq text (codes "auto") then Some (directed Unknown)
    else if bytes_eq text (codes "inherit") then Some passed_over
    else None

-- what has an option: a function, whose value has a direction, or markup, which has none
pub data Owner : Type 0 where
  of_function : Owner
  of_markup : Owner

abbrev pub direction_for : Owner → List ℕ → Option Outcome
direction_for of_function text = direction_named (encode_utf8_all text)
direction_for of_markup text = None

-- an option of the namespace `u`, by its name: there are `u:dir` and `u:id`
abbrev pub universal_outcome : Owner → List ℕ → List ℕ → Option Outcome
universal_outcome owner name text =
    if bytes_eq (encode_utf8_all name) (codes "dir") then direction_for owner text
    else if bytes_eq (encode_utf8_all name) (codes "id") then Some (identified text)
    else None

abbrev pub is_universal : Option Name → Bool
is_universal None = false
is_universal (Some namespace) = bytes_eq (encode_utf8_all namespace.value) (codes "u")

abbrev pub is_literal : OptionValue → Bool
is_literal (option.Literal text) = true
is_literal (option.Variable name) = false

-- what becomes of an option with this option text; none where it is refused
abbrev pub text_outcome : Owner → OptionNode → List ℕ → Option Outcome
text_outcome owner node text =
    if is_universal node.name.namespace then universal_outcome owner node.name.name.value text
    else Some (handed (record { name = node.name; value = text; literal = is_literal node.value }))

-- the same by the option text, if there is one: a fallback has none
abbrev pub option_outcome : Owner → OptionNode → Option (List ℕ) → Option Outcome
option_outcome owner node None = None
option_outcome owner node (Some text) = text_outcome owner node text

-- an option that is handed to the function, with its place among the options of the source
pub record Handed : Type 0 where
  pub place : ℕ
  pub given : Given

abbrev pub handed_by : ℕ → Outcome → List Handed
handed_by place (handed given) = record { place = place; given = given } ∷ []
handed_by place (directed dir) = []
handed_by place (identified id) = []
handed_by place passed_over = []

abbrev pub handed_from : ℕ → List Optioned → List Handed
handed_from place [] = []
handed_from place (option ∷ options) = handed_by place option.outcome ++ handed_from (place + 1) options

abbrev pub given_options : List Optioned → List Given
given_options options = map (λ (option : Handed). option.given) (handed_from 0 options)

abbrev pub option_faults : List Optioned → List Placed
option_faults options = flat_map (λ (option : Optioned). option.faults) options

-- the direction that is set, if one is: by the last that sets one
abbrev pub direction_after : Option Direction → Outcome → Option Direction
direction_after before (handed given) = before
direction_after before (directed dir) = Some dir
direction_after before (identified id) = before
direction_after before passed_over = before

abbrev pub direction_set : Option Direction → List Optioned → Option Direction
direction_set before [] = before
direction_set before (option ∷ options) = direction_set (direction_after before option.outcome) options

abbrev pub id_after : Option (List ℕ) → Outcome → Option (List ℕ)
id_after before (handed given) = before
id_after before (directed dir) = before
id_after before (identified id) = Some id
id_after before passed_over = before

abbrev pub id_set : Option (List ℕ) → List Optioned → Option (List ℕ)
id_set before [] = before
id_set before (option ∷ options) = id_set (id_after before option.outcome) options

-- A call.

-- the call refuses an option, by its place among those that it was handed
abbrev pub is_refused : List CallFault → ℕ → Bool
is_refused faults place = list_any (λ (fault : CallFault). fault.option == place) faults

abbrev pub bad_option : Node → ℕ → Identifier → Placed
bad_option node place name = record { node = node; spot = at_option place; kind = BadOption; of = identifier_text name }

-- an error for each option that the call refuses, in the order of the source
abbrev pub refusals_from : ℕ → Node → List CallFault → List Handed → List Placed
refusals_from place node faults [] = []
refusals_from place node faults (option ∷ options) =
    if is_refused faults place
    then bad_option node option.place option.given.name ∷ refusals_from (place + 1) node faults options
    else refusals_from (place + 1) node faults options

-- a value with the direction that is set, which then is isolated in any case
abbrev pub with_direction : Option Direction → Value → Value
with_direction None value = value
with_direction (Some dir) value = record value { dir = dir; forced = true }

-- the value of a call: isolation isn't forced and there is no id but where the options of this very call say so
abbrev pub value_after : List Optioned → Value → Value
value_after options value = with_direction (direction_set None options) (record value { forced = false; id = id_set None options })

-- a function that refuses its operand stands for it where there is none
abbrev pub operand_spot : Operand → Spot
operand_spot (operand.Literal text) = at_operand
operand_spot (operand.Variable name) = at_operand
operand_spot operand.Absent = at_function

abbrev pub bad_operand : Node → Expression → Placed
bad_operand node expression = record { node = node; spot = operand_spot expression.operand; kind = BadOperand; of = fallback_source expression }

abbrev pub unknown_function : Node → Identifier → Placed
unknown_function node name = record { node = node; spot = at_function; kind = UnknownFunction; of = function_source name }

-- the errors of the call behind those before it: those of the options that it refuses, or that it refuses its operand
abbrev pub given_trace : Node → Expression → List Placed → List Optioned → List CallFault → Option Value → Trace
given_trace node expression before options faults None =
    record { value = fallback (fallback_source expression); faults = before ++ bad_operand node expression ∷ [] }
given_trace node expression before options faults (Some value) =
    record { value = value_after options value; faults = before ++ refusals_from 0 node faults (handed_from 0 options) }

abbrev pub called_trace : Node → Expression → List Placed → List Optioned → Called → Trace
called_trace node expression before options called = given_trace node expression before options called.faults called.value

abbrev pub is_fallback : Content → Bool
is_fallback (content.Text text) = false
is_fallback (content.Number amount kept) = false
is_fallback (content.Fallback source) = true

-- a variable that a declaration binds, with the trace of the declaration's expression
pub record Bound : Type 0 where
  pub name : Name
  pub trace : Trace

abbrev pub binding : List Bound → Name → Option Trace
binding [] name = None
binding (bound ∷ others) name = if is_same_name bound.name name then Some bound.trace else binding others name

-- a variable that is nothing
abbrev pub argued_faults : Node → Spot → Name → Option Argued → List Placed
argued_faults node spot name (Some argued) = []
argued_faults node spot name None = record { node = node; spot = spot; kind = UnresolvedVariable; of = variable_text name } ∷ []

-- an option is refused behind the errors of its variable
abbrev pub optioned : Placed → List Placed → Option Outcome → Optioned
optioned refusal faults (Some outcome) = record { outcome = outcome; faults = faults }
optioned refusal faults None = record { outcome = passed_over; faults = faults ++ refusal ∷ [] }

abbrev pub option_of : Owner → Node → ℕ → OptionNode → Trace → Optioned
option_of owner node place option trace =
    optioned (bad_option node place option.name) trace.faults (option_outcome owner option (option_text trace.value.content))

-- an expression without a function has the value of its operand, and has one
abbrev pub operand_or : List ℕ → Option Value → Value
operand_or source None = fallback source
operand_or source (Some value) = value

-- With the functions and the arguments of a request.
module _ (meaning : Meaning) (arguments : List (List ℕ × Argued)) where
  -- an argument, which may not be there
  abbrev pub argued_value : Name → Option Argued → Value
  argued_value name (Some argued) = argument_value meaning.direction argued
  argued_value name None = fallback (variable_text name)

  -- a variable has the whole trace of the declaration that binds it, at each use; else it is the argument of its name
  abbrev pub bound_value : Name → Option Trace → Value
  bound_value name (Some trace) = trace.value
  bound_value name None = argued_value name (argument_named arguments name.value)

  abbrev pub bound_faults : Node → Spot → Name → Option Trace → List Placed
  bound_faults node spot name (Some trace) = trace.faults
  bound_faults node spot name None = argued_faults node spot name (argument_named arguments name.value)

  abbrev pub variable_value : List Bound → Name → Value
  variable_value bound name = bound_value name (binding bound name)

  abbrev pub variable_trace : List Bound → Node → Spot → Name → Trace
  variable_trace bound node spot name =
      record { value = variable_value bound name; faults = bound_faults node spot name (binding bound name) }

  -- the value of an option
  abbrev pub option_value_trace : List Bound → Node → ℕ → OptionValue → Trace
  option_value_trace bound node place (option.Literal text) = record { value = plain_text text; faults = [] }
  option_value_trace bound node place (option.Variable name) = variable_trace bound node (at_option place) name

  abbrev pub option_trace : Owner → List Bound → Node → ℕ → OptionNode → Optioned
  option_trace owner bound node place option = option_of owner node place option (option_value_trace bound node place option.value)

  abbrev pub option_traces_from : Owner → List Bound → Node → ℕ → List OptionNode → List Optioned
  option_traces_from owner bound node place [] = []
  option_traces_from owner bound node place (option ∷ options) =
      option_trace owner bound node place option ∷ option_traces_from owner bound node (place + 1) options

  abbrev pub option_traces : Owner → List Bound → Node → List OptionNode → List Optioned
  option_traces owner bound node options = option_traces_from owner bound node 0 options

  -- the options of a function that there is are resolved, and it is called with those that are left
  abbrev pub call_trace : Node → Expression → Identifier → Option Value → List Placed → List Optioned → Trace
  call_trace node expression name operand before options =
      called_trace node expression (before ++ option_faults options) options (meaning.called name operand (given_options options))

  -- behind the operand, which is no fallback: the function, if there is one
  abbrev pub function_trace : List Bound → Node → Expression → Option Value → List Placed → Option Call → Trace
  function_trace bound node expression operand before None = record { value = operand_or (fallback_source expression) operand; faults = before }
  function_trace bound node expression operand before (Some function) =
      if meaning.known function.name
      then call_trace node expression function.name operand before (option_traces of_function bound node function.options)
      else record { value = fallback (fallback_source expression); faults = before ++ unknown_function node function.name ∷ [] }

  abbrev pub operand_trace : List Bound → Node → Operand → Option Trace
  operand_trace bound node operand.Absent = None
  operand_trace bound node (operand.Literal text) = Some (record { value = plain_text text; faults = [] })
  operand_trace bound node (operand.Variable name) = Some (variable_trace bound node at_operand name)

  -- nothing further of an expression is looked at where its operand is a fallback: its value is one with the expression's own source
  abbrev pub after_operand : List Bound → Node → Expression → Option Trace → Trace
  after_operand bound node expression None = function_trace bound node expression None [] expression.function
  after_operand bound node expression (Some trace) =
      if is_fallback trace.value.content then record { value = fallback (fallback_source expression); faults = trace.faults }
      else function_trace bound node expression (Some trace.value) trace.faults expression.function

  -- an expression: its operand under some declarations, its options under some
  abbrev pub expression_under : List Bound → List Bound → Node → Expression → Trace
  expression_under for_operand for_options node expression =
      after_operand for_options node expression (operand_trace for_operand node expression.operand)

  abbrev pub expression_trace : List Bound → Node → Expression → Trace
  expression_trace bound node expression = expression_under bound bound node expression

  -- a declaration under those before it: the operand of an `.input` is the argument
  abbrev pub declared_trace : List Bound → ℕ → Declaration → Trace
  declared_trace earlier place (Input name expression) = expression_under [] earlier (of_declaration place) expression
  declared_trace earlier place (Local name expression) = expression_under earlier earlier (of_declaration place) expression

  abbrev pub bound_by : List Bound → ℕ → Declaration → Bound
  bound_by earlier place declaration = record { name = name_of declaration; trace = declared_trace earlier place declaration }

  -- the variables that a message's declarations bind, in source order
  abbrev pub bound_from : List Bound → ℕ → List Declaration → List Bound
  bound_from earlier place [] = earlier
  bound_from earlier place (declaration ∷ declarations) =
      bound_from (earlier ++ bound_by earlier place declaration ∷ []) (place + 1) declarations

  abbrev pub bound_variables : List Declaration → List Bound
  bound_variables declarations = bound_from [] 0 declarations
