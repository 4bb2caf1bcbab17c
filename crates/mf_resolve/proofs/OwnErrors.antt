-- The errors that a trace has at its node, part by part: no two are the same.
use Rattle.std.proofs.Common.{◌≡◌, ◌+◌, ◌||◌, nat_lt, ℕ, Bool, true, false, not, cond, List, [], ◌∷◌, ◌++◌, Option, Some, None, refl, sym, ap, subst, ◌∙◌, inl, inr, arith}
use Rattle.std.proofs.lemmas.Bool.{cases_Bool, lt-ltb, ltb-true, le-ltb}
use Rattle.std.specs.List.{list_all}
use Rattle.mf_text.specs.Arguments.{argument_named}
use Rattle.mf_text.specs.declared.arguments.Argued.{Argued}
use Rattle.mf_tree.specs.Faults.{variable_text}
use Rattle.mf_tree.specs.declared.expression.Call.{Call}
use Rattle.mf_tree.specs.declared.expression.Expression.{Expression}
use Rattle.mf_tree.specs.declared.expression.Operand.{Operand}
use Rattle.mf_tree.specs.declared.expression.Operand.TheVariants as operand
use Rattle.mf_tree.specs.declared.expression.OptionNode.{OptionNode}
use Rattle.mf_tree.specs.declared.expression.OptionValue.{OptionValue}
use Rattle.mf_tree.specs.declared.expression.OptionValue.TheVariants as option
use Rattle.mf_tree.specs.declared.fault.Kind.TheVariants.{BadOperand, BadOption, UnresolvedVariable}
use Rattle.mf_tree.specs.declared.name.Name.{Name}
use Rattle.mf_value.specs.ErrorLists.{is_same_node}
use Rattle.mf_value.specs.Meaning.{Meaning}
use Rattle.mf_value.specs.Traces.{Bound, Handed, Node, Optioned, Outcome, Owner, Placed, Spot, Trace, argued_faults, at_operand, at_option, bad_operand, bad_option, binding, bound_faults, call_trace, directed, expression_under, fallback, fallback_source, function_trace, after_operand, given_options, given_trace, handed, handed_by, handed_from, identified, is_fallback, is_refused, of_function, operand_spot, operand_trace, option_faults, option_outcome, option_traces, option_traces_from, option_value_trace, optioned, passed_over, refusals_from, unknown_function, variable_trace}
use Rattle.mf_value.specs.Values.{option_text}
use Rattle.mf_value.specs.declared.called.CallFault.{CallFault}
use Rattle.mf_value.specs.declared.called.Called.{Called}
use Rattle.mf_value.specs.declared.value.Value.{Value}
use Rattle.mf_resolve.specs.Resolving.{trace_faults}
use Rattle.mf_resolve.proofs.Adding.{all_append, all_from, and_both, or_right}
use Rattle.mf_resolve.proofs.Own.{AreDistinct, if_own}
use Rattle.mf_resolve.proofs.Distinct.{AreApart, apart_both, apart_by, classes_apart, distinct_append, foreign_distinct, foreign_own, is_class, spot_number, spots_apart, spots_apart_too, stands_before, stands_from}
use Rattle.mf_resolve.proofs.Tracing.{binding_holds, of_bound}

-- one error
one_own : (node : Node) (test : Placed → Bool) (fault : Placed) → test fault ≡ true → list_all (if_own node test) (fault ∷ []) ≡ true
one_own node test fault is = and_both _ _ (or_right _ _ is) refl

one_distinct : (node : Node) (fault : Placed) → AreDistinct node (fault ∷ [])
one_distinct node fault = ((λ own. refl), tt)

own_from : (node : Node) (one other : Placed → Bool) → ((fault : Placed) → one fault ≡ true → other fault ≡ true) → (faults : List Placed) → list_all (if_own node one) faults ≡ true → list_all (if_own node other) faults ≡ true
own_from node one other follows faults is =
    all_from (if_own node one) (if_own node other) (λ fault holds. elim (cases_Bool (is_same_node fault.node node)) [
      | inl own ↦ ap (λ b. not b || other fault) own ∙ follows fault (sym (ap (λ b. not b || one fault) own) ∙ holds)
      | inr elsewhere ↦ ap (λ b. not b || other fault) elsewhere
    ]) faults is

-- spots of options
stands_there : (place : ℕ) → not (nat_lt (place + 2) (place + 2)) ≡ true
stands_there place = ap not (le-ltb (place + 2) (place + 2) (omega arith))

stands_next : (place : ℕ) → nat_lt (place + 2) (place + 1 + 2) ≡ true
stands_next place = lt-ltb (place + 2) (place + 1 + 2) (omega arith)

later_from : (place : ℕ) (fault : Placed) → stands_from (place + 1 + 2) fault ≡ true → stands_from (place + 2) fault ≡ true
later_from place fault is = elim (cases_Bool (stands_before (place + 2) fault)) [
  | inl before ↦
      let less = ltb-true _ _ before in
      let clash : true ≡ false = sym is ∙ ap not (lt-ltb _ (place + 1 + 2) (omega arith)) in
      cc
  | inr from ↦ ap not from
]

-- what the errors of options and of their refusals are, from a place on
record Facts (node : Node) (place : ℕ) (faults refusals : List Placed) : Type 0 where
  faults_from : list_all (if_own node (stands_from (place + 2))) faults ≡ true
  refusals_from_there : list_all (if_own node (stands_from (place + 2))) refusals ≡ true
  faults_distinct : AreDistinct node faults
  refusals_distinct : AreDistinct node refusals
  apart : AreApart node faults refusals

-- the errors of an option's variable: at the option alone
record OfValue (node : Node) (place : ℕ) (faults : List Placed) : Type 0 where
  from : list_all (if_own node (stands_from (place + 2))) faults ≡ true
  before : list_all (if_own node (stands_before (place + 1 + 2))) faults ≡ true
  unresolved : list_all (if_own node (is_class UnresolvedVariable)) faults ≡ true
  distinct : AreDistinct node faults

-- an option with these errors stands before others that are as said
plain : (node : Node) (place : ℕ) (own faults refusals : List Placed) →
    list_all (if_own node (stands_from (place + 2))) own ≡ true → list_all (if_own node (stands_before (place + 1 + 2))) own ≡ true → AreDistinct node own →
    Facts node (place + 1) faults refusals → Facts node place (own ++ faults) refusals
plain node place own faults refusals from before distinct rest = record {
  faults_from = all_append (if_own node (stands_from (place + 2))) own faults from (own_from node _ _ (later_from place) faults rest.faults_from);
  refusals_from_there = own_from node _ _ (later_from place) refusals rest.refusals_from_there;
  faults_distinct = distinct_append node own faults distinct rest.faults_distinct
      (apart_by node _ _ (spots_apart (place + 1 + 2)) own faults before rest.faults_from);
  refusals_distinct = rest.refusals_distinct;
  apart = all_append _ own faults (apart_by node _ _ (spots_apart (place + 1 + 2)) own refusals before rest.refusals_from_there) rest.apart;
}

refused : (node : Node) (place : ℕ) (own faults refusals : List Placed) (bad : Placed) →
    stands_from (place + 2) bad ≡ true → stands_before (place + 1 + 2) bad ≡ true → is_class BadOption bad ≡ true → OfValue node place own →
    Facts node (place + 1) faults refusals → Facts node place (own ++ faults) (bad ∷ refusals)
refused node place own faults refusals bad from before class value rest =
    let others = plain node place own faults refusals value.from value.before value.distinct rest in
    record {
      faults_from = others.faults_from;
      refusals_from_there = and_both _ _ (or_right _ _ from) others.refusals_from_there;
      faults_distinct = others.faults_distinct;
      refusals_distinct = distinct_append node (bad ∷ []) refusals (one_distinct node bad) rest.refusals_distinct
          (apart_by node _ _ (spots_apart (place + 1 + 2)) (bad ∷ []) refusals (one_own node (stands_before (place + 1 + 2)) bad before) rest.refusals_from_there);
      apart = apart_both node (own ++ faults) (bad ∷ []) refusals
          (all_append _ own faults
          (apart_by node _ _ (classes_apart UnresolvedVariable BadOption refl) own (bad ∷ []) value.unresolved (one_own node (is_class BadOption) bad class))
          (apart_by node _ _ (spots_apart_too (place + 1 + 2)) faults (bad ∷ []) rest.faults_from (one_own node (stands_before (place + 1 + 2)) bad before)))
          others.apart;
    }

-- one option: its own refusal stands behind the errors of its variable
module _ (node : Node) (place : ℕ) (node_option : OptionNode) (own : List Placed) (value : OfValue node place own) where
  bad_from : stands_from (place + 2) (bad_option node place node_option.name) ≡ true
  bad_from = stands_there place

  bad_before : stands_before (place + 1 + 2) (bad_option node place node_option.name) ≡ true
  bad_before = stands_next place

  option_step : (faults : List CallFault) (j : ℕ) (others : List Placed) (rest : List Handed) (outcome : Option Outcome) →
      ((i : ℕ) → Facts node (place + 1) others (refusals_from i node faults rest)) →
      let done : Optioned = optioned (bad_option node place node_option.name) own outcome in
      Facts node place (done.faults ++ others) (refusals_from j node faults (handed_by place done.outcome ++ rest))
  option_step faults j others rest None facts =
      let bad : Placed = bad_option node place node_option.name in
      plain node place (own ++ bad ∷ []) others _
      (all_append _ own (bad ∷ []) value.from (one_own node (stands_from (place + 2)) bad bad_from))
      (all_append _ own (bad ∷ []) value.before (one_own node (stands_before (place + 1 + 2)) bad bad_before))
      (distinct_append node own (bad ∷ []) value.distinct (one_distinct node bad)
      (apart_by node _ _ (classes_apart UnresolvedVariable BadOption refl) own (bad ∷ []) value.unresolved (one_own node (is_class BadOption) bad refl)))
      (facts j)
  option_step faults j others rest (Some (directed dir)) facts = plain node place own others _ value.from value.before value.distinct (facts j)
  option_step faults j others rest (Some (identified id)) facts = plain node place own others _ value.from value.before value.distinct (facts j)
  option_step faults j others rest (Some passed_over) facts = plain node place own others _ value.from value.before value.distinct (facts j)
  option_step faults j others rest (Some (handed given)) facts = elim (cases_Bool (is_refused faults j)) [
    | inl is ↦
        subst (Facts node place (own ++ others)) (sym (ap (λ b. cond b (bad_option node place given.name ∷ refusals_from (j + 1) node faults rest) (refusals_from (j + 1) node faults rest)) is))
        (refused node place own others (refusals_from (j + 1) node faults rest) (bad_option node place given.name) (stands_there place) (stands_next place) refl value (facts (j + 1)))
    | inr is ↦
        subst (Facts node place (own ++ others)) (sym (ap (λ b. cond b (bad_option node place given.name ∷ refusals_from (j + 1) node faults rest) (refusals_from (j + 1) node faults rest)) is))
        (plain node place own others (refusals_from (j + 1) node faults rest) value.from value.before value.distinct (facts (j + 1)))
  ]

module _ (node : Node) (meaning : Meaning) (arguments : List (List ℕ × Argued)) (bound : List Bound) (free : of_bound (λ fault. not (is_same_node fault.node node)) bound ≡ true) where
  -- a variable: errors of other nodes, or one that it is nothing
  argued_own : (test : Placed → Bool) (spot : Spot) (name : Name) (argued : Option Argued) →
      test (record { node = node; spot = spot; kind = UnresolvedVariable; of = variable_text name }) ≡ true → list_all (if_own node test) (argued_faults node spot name argued) ≡ true
  argued_own test spot name None is = one_own node test _ is
  argued_own test spot name (Some argued) is = refl

  found_own : (test : Placed → Bool) (spot : Spot) (name : Name) (found : Option Trace) → binding bound name ≡ found →
      test (record { node = node; spot = spot; kind = UnresolvedVariable; of = variable_text name }) ≡ true → list_all (if_own node test) (bound_faults meaning arguments node spot name found) ≡ true
  found_own test spot name None at is = argued_own test spot name (argument_named arguments name.value) is
  found_own test spot name (Some trace) at is = foreign_own node test trace.faults (binding_holds (λ fault. not (is_same_node fault.node node)) bound name trace free at)

  variable_own : (test : Placed → Bool) (spot : Spot) (name : Name) →
      test (record { node = node; spot = spot; kind = UnresolvedVariable; of = variable_text name }) ≡ true → list_all (if_own node test) (variable_trace meaning arguments bound node spot name).faults ≡ true
  variable_own test spot name is = found_own test spot name (binding bound name) refl is

  argued_distinct : (spot : Spot) (name : Name) (argued : Option Argued) → AreDistinct node (argued_faults node spot name argued)
  argued_distinct spot name None = ((λ own. refl), tt)
  argued_distinct spot name (Some argued) = tt

  found_distinct : (spot : Spot) (name : Name) (found : Option Trace) → binding bound name ≡ found → AreDistinct node (bound_faults meaning arguments node spot name found)
  found_distinct spot name None at = argued_distinct spot name (argument_named arguments name.value)
  found_distinct spot name (Some trace) at = foreign_distinct node trace.faults (binding_holds (λ fault. not (is_same_node fault.node node)) bound name trace free at)

  pub variable_distinct : (spot : Spot) (name : Name) → AreDistinct node (variable_trace meaning arguments bound node spot name).faults
  variable_distinct spot name = found_distinct spot name (binding bound name) refl

  value_facts : (place : ℕ) (value : OptionValue) → OfValue node place (option_value_trace meaning arguments bound node place value).faults
  value_facts place (option.Literal text) = record { from = refl; before = refl; unresolved = refl; distinct = tt }
  value_facts place (option.Variable name) = record {
    from = variable_own (stands_from (place + 2)) (at_option place) name (stands_there place);
    before = variable_own (stands_before (place + 1 + 2)) (at_option place) name (stands_next place);
    unresolved = variable_own (is_class UnresolvedVariable) (at_option place) name refl;
    distinct = variable_distinct (at_option place) name;
  }

  options_facts : (owner : Owner) (faults : List CallFault) (options : List OptionNode) (place j : ℕ) →
      Facts node place (option_faults (option_traces_from meaning arguments owner bound node place options))
      (refusals_from j node faults (handed_from place (option_traces_from meaning arguments owner bound node place options)))
  options_facts owner faults [] place j = record { faults_from = refl; refusals_from_there = refl; faults_distinct = tt; refusals_distinct = tt; apart = refl }
  options_facts owner faults (option ∷ options) place j =
      let trace : Trace = option_value_trace meaning arguments bound node place option.value in
      option_step node place option trace.faults (value_facts place option.value) faults j
      (option_faults (option_traces_from meaning arguments owner bound node (place + 1) options))
      (handed_from (place + 1) (option_traces_from meaning arguments owner bound node (place + 1) options))
      (option_outcome owner option (option_text trace.value.content))
      (λ i. options_facts owner faults options (place + 1) i)

  -- the errors of markup
  pub options_distinct : (owner : Owner) (options : List OptionNode) → AreDistinct node (option_faults (option_traces meaning arguments owner bound node options))
  options_distinct owner options = let facts = options_facts owner [] options 0 0 in facts.faults_distinct

  -- the errors of an operand
  record OfOperand (faults : List Placed) : Type 0 where
    start : list_all (if_own node (stands_before 1)) faults ≡ true
    before : list_all (if_own node (stands_before 2)) faults ≡ true
    unresolved : list_all (if_own node (is_class UnresolvedVariable)) faults ≡ true
    distinct : AreDistinct node faults

  spot_of_operand : (operand : Operand) → nat_lt (spot_number (operand_spot operand)) 2 ≡ true
  spot_of_operand (operand.Literal text) = refl
  spot_of_operand (operand.Variable name) = refl
  spot_of_operand operand.Absent = refl

  given_distinct : (expression : Expression) (before faults : List Placed) (options : List Optioned) (refused : List CallFault) (value : Option Value) →
      OfOperand before → Facts node 0 faults (refusals_from 0 node refused (handed_from 0 options)) →
      AreDistinct node (given_trace node expression (before ++ faults) options refused value).faults
  given_distinct expression before faults options refused None first facts =
      let bad : Placed = bad_operand node expression in
      distinct_append node (before ++ faults) (bad ∷ [])
      (distinct_append node before faults first.distinct facts.faults_distinct (apart_by node (stands_before 2) (stands_from 2) (spots_apart 2) before faults first.before facts.faults_from))
      (one_distinct node bad)
      (all_append _ before faults
      (apart_by node (is_class UnresolvedVariable) (is_class BadOperand) (classes_apart UnresolvedVariable BadOperand refl) before (bad ∷ []) first.unresolved (one_own node (is_class BadOperand) bad refl))
      (apart_by node (stands_from 2) (stands_before 2) (spots_apart_too 2) faults (bad ∷ []) facts.faults_from (one_own node (stands_before 2) bad (spot_of_operand expression.operand))))
  given_distinct expression before faults options refused (Some value) first facts =
      let refusals : List Placed = refusals_from 0 node refused (handed_from 0 options) in
      distinct_append node (before ++ faults) refusals
      (distinct_append node before faults first.distinct facts.faults_distinct (apart_by node (stands_before 2) (stands_from 2) (spots_apart 2) before faults first.before facts.faults_from))
      facts.refusals_distinct
      (all_append _ before faults
      (apart_by node (stands_before 2) (stands_from 2) (spots_apart 2) before refusals first.before facts.refusals_from_there)
      facts.apart)

  function_distinct : (expression : Expression) (value : Option Value) (before : List Placed) (function : Option Call) → OfOperand before →
      AreDistinct node (function_trace meaning arguments bound node expression value before function).faults
  function_distinct expression value before None first = first.distinct
  function_distinct expression value before (Some function) first =
      let options : List Optioned = option_traces meaning arguments of_function bound node function.options in
      let called : Called = meaning.called function.name value (given_options options) in
      let known : Trace = call_trace meaning arguments node expression function.name value before options in
      let bad : Placed = unknown_function node function.name in
      let unknown : Trace = record { value = fallback (fallback_source expression); faults = before ++ bad ∷ [] } in
      elim (cases_Bool (meaning.known function.name)) [
        | inl is ↦
            subst (λ (b : Bool). let t : Trace = cond b known unknown in AreDistinct node t.faults) (sym is)
            (given_distinct expression before (option_faults options) options called.faults called.value first
            (options_facts of_function called.faults function.options 0 0))
        | inr is ↦
            subst (λ (b : Bool). let t : Trace = cond b known unknown in AreDistinct node t.faults) (sym is)
            (distinct_append node before (bad ∷ []) first.distinct (one_distinct node bad)
            (apart_by node (stands_before 1) (stands_from 1) (spots_apart 1) before (bad ∷ []) first.start (one_own node (stands_from 1) bad refl)))
      ]

-- the operand of an expression may be looked up elsewhere than its options
module _ (node : Node) (meaning : Meaning) (arguments : List (List ℕ × Argued)) (for_operand for_options : List Bound)
    (operand_free : of_bound (λ fault. not (is_same_node fault.node node)) for_operand ≡ true)
    (options_free : of_bound (λ fault. not (is_same_node fault.node node)) for_options ≡ true) where
  operand_facts : (operand : Operand) → OfOperand node meaning arguments for_options options_free (trace_faults (operand_trace meaning arguments for_operand node operand))
  operand_facts operand.Absent = record { start = refl; before = refl; unresolved = refl; distinct = tt }
  operand_facts (operand.Literal text) = record { start = refl; before = refl; unresolved = refl; distinct = tt }
  operand_facts (operand.Variable name) = record {
    start = variable_own node meaning arguments for_operand operand_free (stands_before 1) at_operand name refl;
    before = variable_own node meaning arguments for_operand operand_free (stands_before 2) at_operand name refl;
    unresolved = variable_own node meaning arguments for_operand operand_free (is_class UnresolvedVariable) at_operand name refl;
    distinct = variable_distinct node meaning arguments for_operand operand_free at_operand name;
  }

  after_distinct : (expression : Expression) (operand : Option Trace) → OfOperand node meaning arguments for_options options_free (trace_faults operand) →
      AreDistinct node (after_operand meaning arguments for_options node expression operand).faults
  after_distinct expression None first = function_distinct node meaning arguments for_options options_free expression None [] expression.function first
  after_distinct expression (Some trace) first =
      let further : Trace = function_trace meaning arguments for_options node expression (Some trace.value) trace.faults expression.function in
      let shown : Trace = record { value = fallback (fallback_source expression); faults = trace.faults } in
      elim (cases_Bool (is_fallback trace.value.content)) [
        | inl is ↦ subst (λ (b : Bool). let t : Trace = cond b shown further in AreDistinct node t.faults) (sym is) first.distinct
        | inr is ↦
            subst (λ (b : Bool). let t : Trace = cond b shown further in AreDistinct node t.faults) (sym is)
            (function_distinct node meaning arguments for_options options_free expression (Some trace.value) trace.faults expression.function first)
      ]

  pub expression_distinct : (expression : Expression) → AreDistinct node (expression_under meaning arguments for_operand for_options node expression).faults
  expression_distinct expression = after_distinct expression (operand_trace meaning arguments for_operand node expression.operand) (operand_facts expression.operand)
