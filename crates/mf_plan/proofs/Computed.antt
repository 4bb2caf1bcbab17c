-- What is computed for a source is what it compiles to, and nothing else is.
use Rattle.std.proofs.Common.{◌≡◌, ◌≤◌, ℕ, Option, Some, None, List, [], ◌∷◌, length, refl, sym, ◌∙◌, subst, inl, inr}
use Rattle.std.proofs.lemmas.Bool.{cases_Bool, cond-true, cond-false, leb-true, leb-false}
use Rattle.std.specs.Prelude.{nat_le, codes}
use Rattle.std.specs.Str.{chars}
use Rattle.mf_tree.specs.declared.message.Message.{Message}
use Rattle.mf_tree.specs.declared.fault.Fault.{Fault}
use Rattle.mf_tree.specs.declared.fault.Kind.TheVariants as kind
use Rattle.mf_tree.specs.Compiled.{Compilation, Compiled, most_declarations, compiled_to_nothing, compiled_past_the_limit, compiled_with_faults, compiled_to_a_message}
use Rattle.mf_tree.specs.Compiled as compiled
use Rattle.mf_tree.specs.Faults.{faults}
use Rattle.mf_tree.specs.Grammar.{SpellsMessage}
use Rattle.mf_parse.specs.Computed.{message_of}
use Rattle.mf_parse.proofs.Messages.{none_spelled}
use Rattle.mf_parse.proofs.SoundMessages.{message_sound}
use Rattle.mf_tree.specs.Nodes.{IsMessage}
use Rattle.mf_tree.proofs.Nodes.{message as spelled_node}
use Rattle.mf_plan.specs.declared.plan.Plan.{Plan}
use Rattle.mf_plan.specs.Computed.{checked, invalid, plan_from, plan_of, with_faults}
use Rattle.mf_plan.specs.Plans.{compilation, IsNode}

some : (fault : Fault) (more : List Fault) → fault ∷ more ≡ [] → ⊥
some fault more same = cc

module _ (source : List ℕ) (message : Message) (spelled : SpellsMessage message source) where
  of_faults : length message.declarations ≤ most_declarations → (found : List Fault) → faults message ≡ found → Compiled source (compilation (with_faults message found))
  of_faults few [] is = compiled_to_a_message message spelled few is
  of_faults few (fault ∷ more) is =
      subst (λ found. Compiled source (compiled.Invalid found)) is
      (compiled_with_faults message spelled few (λ none. some fault more (sym is ∙ none)))

  of_message : Compiled source (compilation (checked message))
  of_message =
      elim (cases_Bool (nat_le (length message.declarations) most_declarations)) [
        | inl few ↦
            subst (λ plan. Compiled source (compilation plan))
            (sym (cond-true (nat_le (length message.declarations) most_declarations) (with_faults message (faults message)) (invalid kind.Limit (codes "declarations")) few))
            (of_faults (leb-true (length message.declarations) most_declarations few) (faults message) refl)
        | inr many ↦
            subst (λ plan. Compiled source (compilation plan))
            (sym (cond-false (nat_le (length message.declarations) most_declarations) (with_faults message (faults message)) (invalid kind.Limit (codes "declarations")) many))
            (compiled_past_the_limit message spelled (leb-false (length message.declarations) most_declarations many))
      ]

of_found : (source : List ℕ) (found : Option Message) → message_of source ≡ found → Compiled source (compilation (plan_from found))
of_found source None is = compiled_to_nothing (λ message. none_spelled source message is)
of_found source (Some message) is = of_message source message (message_sound source message is)

-- what is computed for a source is what it compiles to
pub plan_compiles : (source : List ℕ) → Compiled source (compilation (plan_of source))
plan_compiles source = of_found source (message_of source) refl

pub plan_compiled : (source : List ℕ) (plan : Plan) → plan ≡ plan_of source → Compiled source (compilation plan)
plan_compiled source plan is = subst (λ plan. Compiled source (compilation plan)) (sym is) (plan_compiles source)

faults_node : (message : Message) (found : List Fault) → IsMessage message → IsNode (with_faults message found)
faults_node message [] node = node
faults_node message (fault ∷ more) node = tt

checked_node : (message : Message) → IsMessage message → IsNode (checked message)
checked_node message node =
    elim (cases_Bool (nat_le (length message.declarations) most_declarations)) [
      | inl few ↦ subst IsNode (sym (cond-true (nat_le (length message.declarations) most_declarations) _ (invalid kind.Limit (codes "declarations")) few)) (faults_node message (faults message) node)
      | inr many ↦ subst IsNode (sym (cond-false (nat_le (length message.declarations) most_declarations) (with_faults message (faults message)) _ many)) tt
    ]

found_node : (source : List ℕ) (found : Option Message) → message_of source ≡ found → IsNode (plan_from found)
found_node source None is = tt
found_node source (Some message) is = checked_node message (spelled_node message source (message_sound source message is))

-- the message of what is computed is a node
pub plan_node : (source : List ℕ) (plan : Plan) → plan ≡ plan_of source → IsNode plan
plan_node source plan is = subst IsNode (sym is) (found_node source (message_of source) refl)

pub limit_text : chars (codes "declarations") ≡ codes "declarations"
unfolding chars
limit_text = refl
