-- An expression: its operand, then its function.
use Rattle.std.proofs.Common.{◌≡◌, ℕ, true, false, List, [], ◌++◌, Option, Some, None, refl, sym, ap, ◌∙◌}
use Rattle.std.proofs.lemmas.List.{append-nil}
use Rattle.mf_tree.specs.declared.expression.Call.{Call}
use Rattle.mf_tree.specs.declared.expression.Expression.{Expression}
use Rattle.mf_tree.specs.declared.expression.Operand.TheVariants as node_operand
use Rattle.mf_tree.specs.declared.name.Name.{Name}
use Rattle.mf_value.specs.Meaning.{Meaning}
use Rattle.mf_value.specs.Traces.{Node, Trace, after_operand, at_operand, fallback, fallback_source, function_trace, operand_or, operand_trace, plain_text, variable_value}
use Rattle.mf_value.specs.declared.value.Value.{Value}
use Rattle.mf_resolve.specs.Resolving.{Evaluates, IsHeld, Keeps, ResolvesOperand, ScopeState, Steps, Uses, bound_below, call_below, expression_below, is_fallback_value, operand_of, trace_faults, trace_value}
use Rattle.mf_resolve.specs.Sources.{kept_value, source_value}
use Rattle.mf_resolve.specs.declared.expression.Resolved.{Resolved}
use Rattle.mf_resolve.specs.declared.expression.Resolved.TheVariants as resolved
use Rattle.mf_resolve.specs.declared.variable.Source.{Source}
use Rattle.mf_resolve.proofs.Fallback.{behind_operand, called_for, shown_for}
use Rattle.mf_resolve.proofs.Optioning.{rebased}
use Rattle.mf_resolve.proofs.Steps.{both, nothing, told, traced}

-- Operands.

pub literal_operand : (meaning : Meaning) (inner limit : ℕ) (scope : ScopeState) (text : List ℕ) (value : Value) → value ≡ plain_text text →
    ResolvesOperand meaning inner limit scope scope (node_operand.Literal text) (resolved.Made value)
literal_operand meaning inner limit scope text value is = nothing meaning limit scope (λ node. Some value ≡ Some (plain_text text)) (λ node. ap Some is)

-- a variable whose value was made
pub made_operand : (meaning : Meaning) (inner limit : ℕ) (old new : ScopeState) (name : Name) (found : Source) (value : Value) →
    source_value meaning.direction new.resolved name found ≡ Some value → Uses meaning inner limit old new name at_operand found →
    ResolvesOperand meaning inner limit old new (node_operand.Variable name) (resolved.Made value)
made_operand meaning inner limit old new name found value is uses =
    told meaning limit old new _ (λ node. source_value meaning.direction new.resolved name found ≡ Some (variable_value meaning old.arguments (bound_below meaning old inner) name)) _
    (λ node says. sym is ∙ says) uses

-- what is held stays held, with its value
pub held_operand : (limit : ℕ) (old new : ScopeState) (operand : Resolved) → Keeps limit old new → IsHeld old.resolved operand → operand_of new.resolved operand ≡ operand_of old.resolved operand
held_operand limit old new resolved.Absent keeps held = refl
held_operand limit old new (resolved.Kept place) keeps held =
    ap kept_value (keeps.kept place held.0 held.1) ∙ sym (ap kept_value held.1)
held_operand limit old new (resolved.Made value) keeps held = refl

-- Expressions.

module _ (meaning : Meaning) (inner limit : ℕ) (old mid : ScopeState) (expression : Expression) (operand : Resolved)
    (first : ResolvesOperand meaning inner limit old mid expression.operand operand) where
  abbrev trace_at : Node → Option Trace
  trace_at node = operand_trace meaning old.arguments (bound_below meaning old inner) node expression.operand

  abbrev after : Node → Trace
  after node = after_operand meaning old.arguments (bound_below meaning old limit) node expression (trace_at node)

  abbrev Said : Node → Type 0
  Said node = operand_of mid.resolved operand ≡ trace_value (trace_at node)

  pub evaluated_fallback : (value : Value) → is_fallback_value (operand_of mid.resolved operand) ≡ true → value ≡ fallback (fallback_source expression) →
      Evaluates meaning limit old mid (expression_below meaning inner limit old expression) value
  evaluated_fallback value is value_is =
      let shown = λ (node : Node) (said : Said node). shown_for meaning old.arguments (bound_below meaning old limit) node expression (trace_at node) (ap is_fallback_value (sym said) ∙ is) in
      told meaning limit old mid (λ node. (after node).faults) Said (λ node. value ≡ (after node).value) (λ node said. value_is ∙ sym (shown node said).1)
      (traced meaning limit old mid (λ node. trace_faults (trace_at node)) (λ node. (after node).faults) Said (λ node said. sym (shown node said).0) first)

  -- what comes behind the operand
  abbrev behind : Node → Option Call → Trace
  behind node function = function_trace meaning old.arguments (bound_below meaning old limit) node expression (operand_of mid.resolved operand) [] function

  after_is : (node : Node) (function : Option Call) → is_fallback_value (operand_of mid.resolved operand) ≡ false → expression.function ≡ function → Said node →
      ((after node).faults ≡ trace_faults (trace_at node) ++ (behind node function).faults) × ((after node).value ≡ (behind node function).value)
  after_is node function is at said =
      let called : after node ≡ function_trace meaning old.arguments (bound_below meaning old limit) node expression (trace_value (trace_at node)) (trace_faults (trace_at node)) expression.function =
      called_for meaning old.arguments (bound_below meaning old limit) node expression (trace_at node) (ap is_fallback_value (sym said) ∙ is) in
      let same : after node ≡ function_trace meaning old.arguments (bound_below meaning old limit) node expression (operand_of mid.resolved operand) (trace_faults (trace_at node)) function =
      called
      ∙ ap (λ v. function_trace meaning old.arguments (bound_below meaning old limit) node expression v (trace_faults (trace_at node)) expression.function) (sym said)
      ∙ ap (function_trace meaning old.arguments (bound_below meaning old limit) node expression (operand_of mid.resolved operand) (trace_faults (trace_at node))) at in
      let parts = behind_operand meaning old.arguments (bound_below meaning old limit) node expression (operand_of mid.resolved operand) (trace_faults (trace_at node)) function in
      (ap (λ (t : Trace). t.faults) same ∙ parts.0, ap (λ (t : Trace). t.value) same ∙ parts.1)

  pub evaluated_call : (new : ScopeState) (call : Call) (value : Value) → is_fallback_value (operand_of mid.resolved operand) ≡ false → expression.function ≡ Some call →
      Evaluates meaning limit mid new (call_below meaning limit mid expression call (operand_of mid.resolved operand)) value →
      Evaluates meaning limit old new (expression_below meaning inner limit old expression) value
  evaluated_call new call value is at evaluates =
      let P : Node → Type 0 = λ node. Said node × (value ≡ (behind node (Some call)).value) in
      let two : Steps meaning limit old new (λ node. trace_faults (trace_at node) ++ (behind node (Some call)).faults) P =
      both meaning limit old mid new (λ node. trace_faults (trace_at node)) (λ node. (behind node (Some call)).faults) Said (λ node. value ≡ (behind node (Some call)).value)
      first
      (rebased meaning limit limit old mid first.keeps
      (λ arguments bound. Steps meaning limit mid new
      (λ node. let t : Trace = function_trace meaning arguments bound node expression (operand_of mid.resolved operand) [] (Some call) in t.faults)
      (λ node. let t : Trace = function_trace meaning arguments bound node expression (operand_of mid.resolved operand) [] (Some call) in value ≡ t.value))
      evaluates) in
      told meaning limit old new (λ node. (after node).faults) P (λ node. value ≡ (after node).value) (λ node said. said.1 ∙ sym (after_is node (Some call) is at said.0).1)
      (traced meaning limit old new (λ node. trace_faults (trace_at node) ++ (behind node (Some call)).faults) (λ node. (after node).faults) P
      (λ node said. sym (after_is node (Some call) is at said.0).0) two)

  pub evaluated_operand : (value : Value) → is_fallback_value (operand_of mid.resolved operand) ≡ false → expression.function ≡ None →
      value ≡ operand_or (fallback_source expression) (operand_of mid.resolved operand) →
      Evaluates meaning limit old mid (expression_below meaning inner limit old expression) value
  evaluated_operand value is at value_is =
      told meaning limit old mid (λ node. (after node).faults) Said (λ node. value ≡ (after node).value) (λ node said. value_is ∙ sym (after_is node None is at said).1)
      (traced meaning limit old mid (λ node. trace_faults (trace_at node)) (λ node. (after node).faults) Said
      (λ node said. sym ((after_is node None is at said).0 ∙ append-nil (trace_faults (trace_at node)))) first)
