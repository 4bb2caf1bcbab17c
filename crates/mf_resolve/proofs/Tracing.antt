-- What holds of each error of a trace: it holds of what arises at the node, and of the traces of the variables that are bound.
use Rattle.std.proofs.Common.{◌≡◌, ◌+◌, ℕ, Bool, true, cond, List, [], ◌∷◌, ◌++◌, Option, Some, None, refl, sym, ap, ◌∙◌, inl, inr}
use Rattle.std.proofs.lemmas.Bool.{cases_Bool}
use Rattle.std.specs.List.{list_all}
use Rattle.mf_text.specs.Arguments.{argument_named}
use Rattle.mf_text.specs.declared.arguments.Argued.{Argued}
use Rattle.mf_tree.specs.Equality.{is_same_name}
use Rattle.mf_tree.specs.declared.expression.Call.{Call}
use Rattle.mf_tree.specs.declared.expression.Expression.{Expression}
use Rattle.mf_tree.specs.declared.expression.Operand.{Operand}
use Rattle.mf_tree.specs.declared.expression.Operand.TheVariants as operand
use Rattle.mf_tree.specs.declared.expression.OptionNode.{OptionNode}
use Rattle.mf_tree.specs.declared.expression.OptionValue.{OptionValue}
use Rattle.mf_tree.specs.declared.expression.OptionValue.TheVariants as option
use Rattle.mf_tree.specs.declared.fault.Kind.{Kind}
use Rattle.mf_tree.specs.declared.fault.Kind.TheVariants.{BadOperand, BadOption, UnknownFunction, UnresolvedVariable}
use Rattle.mf_tree.specs.declared.name.Name.{Name}
use Rattle.mf_value.specs.Meaning.{Meaning}
use Rattle.mf_value.specs.Traces.{Bound, Handed, Node, Optioned, Outcome, Owner, Placed, Spot, Trace, after_operand, argued_faults, at_function, at_operand, at_option, bad_option, binding, bound_faults, call_trace, expression_under, fallback, fallback_source, function_trace, given_options, given_trace, handed_from, is_fallback, is_refused, of_function, operand_spot, operand_trace, option_faults, option_outcome, option_trace, option_traces, option_traces_from, option_value_trace, optioned, refusals_from, unknown_function, variable_trace}
use Rattle.mf_value.specs.Values.{option_text}
use Rattle.mf_value.specs.declared.called.CallFault.{CallFault}
use Rattle.mf_value.specs.declared.called.Called.{Called}
use Rattle.mf_value.specs.declared.value.Value.{Value}
use Rattle.mf_resolve.specs.Resolving.{trace_faults}
use Rattle.mf_resolve.proofs.Adding.{all_append, and_both, and_left, and_right}

-- the test holds of each error that is bound
abbrev pub of_bound : (Placed → Bool) → List Bound → Bool
of_bound test bound = list_all (λ (variable : Bound). list_all test variable.trace.faults) bound

pub binding_holds : (test : Placed → Bool) (bound : List Bound) (name : Name) (trace : Trace) → of_bound test bound ≡ true →
    binding bound name ≡ Some trace → list_all test trace.faults ≡ true
binding_holds test [] name trace holds is = cc
binding_holds test (variable ∷ bound) name trace holds is = elim (cases_Bool (is_same_name variable.name name)) [
  | inl same ↦
      let found : Some variable.trace ≡ Some trace = sym (ap (λ b. cond b (Some variable.trace) (binding bound name)) same) ∙ is in
      let equal : variable.trace ≡ trace = cc in
      ap (λ (t : Trace). list_all test t.faults) (sym equal) ∙ and_left _ _ holds
  | inr other ↦
      binding_holds test bound name trace (and_right _ _ holds) (sym (ap (λ b. cond b (Some variable.trace) (binding bound name)) other) ∙ is)
]

module _ (test : Placed → Bool) (node : Node) (own : (spot : Spot) (kind : Kind) (of : List ℕ) → test (record { node = node; spot = spot; kind = kind; of = of }) ≡ true) where
  one : (spot : Spot) (kind : Kind) (of : List ℕ) → list_all test (record { node = node; spot = spot; kind = kind; of = of } ∷ []) ≡ true
  one spot kind of = and_both _ _ (own spot kind of) refl

  pub argued_holds : (spot : Spot) (name : Name) (argued : Option Argued) → list_all test (argued_faults node spot name argued) ≡ true
  argued_holds spot name None = one spot UnresolvedVariable _
  argued_holds spot name (Some argued) = refl

  refusals_hold : (place : ℕ) (faults : List CallFault) (options : List Handed) → list_all test (refusals_from place node faults options) ≡ true
  refusals_hold place faults [] = refl
  refusals_hold place faults (option ∷ options) = elim (cases_Bool (is_refused faults place)) [
    | inl refused ↦
        ap (λ b. list_all test (cond b (bad_option node option.place option.given.name ∷ refusals_from (place + 1) node faults options) (refusals_from (place + 1) node faults options))) refused
        ∙ and_both _ _ (own (at_option option.place) BadOption _) (refusals_hold (place + 1) faults options)
    | inr kept ↦
        ap (λ b. list_all test (cond b (bad_option node option.place option.given.name ∷ refusals_from (place + 1) node faults options) (refusals_from (place + 1) node faults options))) kept
        ∙ refusals_hold (place + 1) faults options
  ]

  pub given_holds : (expression : Expression) (before : List Placed) (options : List Optioned) (faults : List CallFault) (value : Option Value) →
      list_all test before ≡ true → list_all test (given_trace node expression before options faults value).faults ≡ true
  given_holds expression before options faults None holds = all_append test before _ holds (one (operand_spot expression.operand) BadOperand _)
  given_holds expression before options faults (Some value) holds = all_append test before _ holds (refusals_hold 0 faults (handed_from 0 options))

  optioned_holds : (place : ℕ) (option : OptionNode) (faults : List Placed) (outcome : Option Outcome) → list_all test faults ≡ true →
      list_all test (optioned (bad_option node place option.name) faults outcome).faults ≡ true
  optioned_holds place option faults (Some outcome) holds = holds
  optioned_holds place option faults None holds = all_append test faults _ holds (one (at_option place) BadOption _)

  module _ (meaning : Meaning) (arguments : List (List ℕ × Argued)) where
    bound_holds : (bound : List Bound) (spot : Spot) (name : Name) (found : Option Trace) → ((trace : Trace) → found ≡ Some trace → list_all test trace.faults ≡ true) →
        list_all test (bound_faults meaning arguments node spot name found) ≡ true
    bound_holds bound spot name None holds = argued_holds spot name (argument_named arguments name.value)
    bound_holds bound spot name (Some trace) holds = holds trace refl

    pub variable_holds : (bound : List Bound) (spot : Spot) (name : Name) → of_bound test bound ≡ true → list_all test (variable_trace meaning arguments bound node spot name).faults ≡ true
    variable_holds bound spot name holds = bound_holds bound spot name (binding bound name) (λ trace is. binding_holds test bound name trace holds is)

    value_holds : (bound : List Bound) (place : ℕ) (value : OptionValue) → of_bound test bound ≡ true → list_all test (option_value_trace meaning arguments bound node place value).faults ≡ true
    value_holds bound place (option.Literal text) holds = refl
    value_holds bound place (option.Variable name) holds = variable_holds bound (at_option place) name holds

    pub option_holds : (owner : Owner) (bound : List Bound) (place : ℕ) (option : OptionNode) → of_bound test bound ≡ true → list_all test (option_trace meaning arguments owner bound node place option).faults ≡ true
    option_holds owner bound place option holds =
        let trace : Trace = option_value_trace meaning arguments bound node place option.value in
        optioned_holds place option trace.faults (option_outcome owner option (option_text trace.value.content)) (value_holds bound place option.value holds)

    pub options_hold : (owner : Owner) (bound : List Bound) (place : ℕ) (options : List OptionNode) → of_bound test bound ≡ true → list_all test (option_faults (option_traces_from meaning arguments owner bound node place options)) ≡ true
    options_hold owner bound place [] holds = refl
    options_hold owner bound place (option ∷ options) holds = all_append test _ _ (option_holds owner bound place option holds) (options_hold owner bound (place + 1) options holds)

    pub function_holds : (bound : List Bound) (expression : Expression) (value : Option Value) (before : List Placed) (function : Option Call) → of_bound test bound ≡ true → list_all test before ≡ true →
        list_all test (function_trace meaning arguments bound node expression value before function).faults ≡ true
    function_holds bound expression value before None holds first = first
    function_holds bound expression value before (Some function) holds first =
        let options : List Optioned = option_traces meaning arguments of_function bound node function.options in
        let called : Called = meaning.called function.name value (given_options options) in
        let known : Trace = call_trace meaning arguments node expression function.name value before options in
        let unknown : Trace = record { value = fallback (fallback_source expression); faults = before ++ unknown_function node function.name ∷ [] } in
        elim (cases_Bool (meaning.known function.name)) [
          | inl is ↦
              ap (λ (b : Bool). let t : Trace = cond b known unknown in list_all test t.faults) is
              ∙ given_holds expression (before ++ option_faults options) options called.faults called.value
              (all_append test before _ first (options_hold of_function bound 0 function.options holds))
          | inr is ↦
              ap (λ (b : Bool). let t : Trace = cond b known unknown in list_all test t.faults) is
              ∙ all_append test before _ first (one at_function UnknownFunction _)
        ]

    operand_holds : (bound : List Bound) (operand : Operand) → of_bound test bound ≡ true → list_all test (trace_faults (operand_trace meaning arguments bound node operand)) ≡ true
    operand_holds bound operand.Absent holds = refl
    operand_holds bound (operand.Literal text) holds = refl
    operand_holds bound (operand.Variable name) holds = variable_holds bound at_operand name holds

    after_holds : (bound : List Bound) (expression : Expression) (operand : Option Trace) → of_bound test bound ≡ true → list_all test (trace_faults operand) ≡ true →
        list_all test (after_operand meaning arguments bound node expression operand).faults ≡ true
    after_holds bound expression None holds first = function_holds bound expression None [] expression.function holds refl
    after_holds bound expression (Some trace) holds first =
        let further : Trace = function_trace meaning arguments bound node expression (Some trace.value) trace.faults expression.function in
        let shown : Trace = record { value = fallback (fallback_source expression); faults = trace.faults } in
        elim (cases_Bool (is_fallback trace.value.content)) [
          | inl is ↦ ap (λ (b : Bool). let t : Trace = cond b shown further in list_all test t.faults) is ∙ first
          | inr is ↦
              ap (λ (b : Bool). let t : Trace = cond b shown further in list_all test t.faults) is
              ∙ function_holds bound expression (Some trace.value) trace.faults expression.function holds first
        ]

    -- of an expression
    pub expression_holds : (for_operand for_options : List Bound) (expression : Expression) → of_bound test for_operand ≡ true → of_bound test for_options ≡ true →
        list_all test (expression_under meaning arguments for_operand for_options node expression).faults ≡ true
    expression_holds for_operand for_options expression operand_holds_too options_hold_too =
        after_holds for_options expression (operand_trace meaning arguments for_operand node expression.operand) options_hold_too (operand_holds for_operand expression.operand operand_holds_too)
