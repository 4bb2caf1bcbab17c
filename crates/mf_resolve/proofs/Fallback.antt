-- What stands before a call in an expression's trace.
use Rattle.std.proofs.Common.{◌≡◌, ℕ, Bool, true, false, cond, List, [], ◌∷◌, ◌++◌, Option, Some, None, refl, sym, ap, ◌∙◌, inl, inr}
use Rattle.std.proofs.lemmas.List.{append-nil, append_assoc}
use Rattle.std.proofs.lemmas.Bool.{cases_Bool}
use Rattle.mf_text.specs.declared.arguments.Argued.{Argued}
use Rattle.mf_tree.specs.declared.expression.Call.{Call}
use Rattle.mf_tree.specs.declared.expression.Expression.{Expression}
use Rattle.mf_value.specs.Meaning.{Meaning}
use Rattle.mf_value.specs.Traces.{Bound, Node, Optioned, Placed, Trace, after_operand, call_trace, fallback, fallback_source, function_trace, given_options, given_trace, of_function, option_faults, option_traces, unknown_function}
use Rattle.mf_value.specs.declared.called.CallFault.{CallFault}
use Rattle.mf_value.specs.declared.called.Called.{Called}
use Rattle.mf_value.specs.declared.value.Value.{Value}
use Rattle.mf_resolve.specs.Resolving.{is_fallback_value, trace_faults, trace_value}

module _ (meaning : Meaning) (arguments : List (List ℕ × Argued)) (bound : List Bound) (node : Node) (expression : Expression) where
  -- an operand that is a fallback
  pub shown_for : (operand : Option Trace) → is_fallback_value (trace_value operand) ≡ true →
      (let t : Trace = after_operand meaning arguments bound node expression operand in (t.faults ≡ trace_faults operand) × (t.value ≡ fallback (fallback_source expression)))
  shown_for None is = cc
  shown_for (Some trace) is =
      let further : Trace = function_trace meaning arguments bound node expression (Some trace.value) trace.faults expression.function in
      let shown : Trace = record { value = fallback (fallback_source expression); faults = trace.faults } in
      (ap (λ (b : Bool). let t : Trace = cond b shown further in t.faults) is, ap (λ (b : Bool). let t : Trace = cond b shown further in t.value) is)

  -- one that isn't
  pub called_for : (operand : Option Trace) → is_fallback_value (trace_value operand) ≡ false →
      after_operand meaning arguments bound node expression operand
      ≡ function_trace meaning arguments bound node expression (trace_value operand) (trace_faults operand) expression.function
  called_for None is = refl
  called_for (Some trace) is =
      let further : Trace = function_trace meaning arguments bound node expression (Some trace.value) trace.faults expression.function in
      let shown : Trace = record { value = fallback (fallback_source expression); faults = trace.faults } in
      ap (λ (b : Bool). cond b shown further) is

  pub given_behind : (before options_faults : List Placed) (options : List Optioned) (faults : List CallFault) (value : Option Value) →
      (let t : Trace = given_trace node expression (before ++ options_faults) options faults value in
      let u : Trace = given_trace node expression options_faults options faults value in
      (t.faults ≡ before ++ u.faults) × (t.value ≡ u.value))
  given_behind before options_faults options faults None = (append_assoc before options_faults _, refl)
  given_behind before options_faults options faults (Some value) = (append_assoc before options_faults _, refl)

  -- the errors of a function stand behind those before it
  pub behind_operand : (operand : Option Value) (before : List Placed) (function : Option Call) →
      (let t : Trace = function_trace meaning arguments bound node expression operand before function in
      let u : Trace = function_trace meaning arguments bound node expression operand [] function in
      (t.faults ≡ before ++ u.faults) × (t.value ≡ u.value))
  behind_operand operand before None = (sym (append-nil before), refl)
  behind_operand operand before (Some function) =
      let options : List Optioned = option_traces meaning arguments of_function bound node function.options in
      let called : Called = meaning.called function.name operand (given_options options) in
      let known : List Placed → Trace = λ front. call_trace meaning arguments node expression function.name operand front options in
      let unknown : List Placed → Trace = λ front. record { value = fallback (fallback_source expression); faults = front ++ unknown_function node function.name ∷ [] } in
      let chosen : Bool → List Placed → Trace = λ b front. cond b (known front) (unknown front) in
      elim (cases_Bool (meaning.known function.name)) [
        | inl is ↦
            let behind = given_behind before (option_faults options) options called.faults called.value in (
              ap (λ b. (chosen b before).faults) is ∙ behind.0 ∙ ap (λ b. before ++ (chosen b []).faults) (sym is),
              ap (λ b. (chosen b before).value) is ∙ behind.1 ∙ ap (λ b. (chosen b []).value) (sym is),
            )
        | inr is ↦ (
          ap (λ b. (chosen b before).faults) is ∙ ap (λ b. before ++ (chosen b []).faults) (sym is),
          ap (λ b. (chosen b before).value) is ∙ ap (λ b. (chosen b []).value) (sym is),
        )
      ]
