-- A source compiles to one thing.
use Rattle.std.proofs.Common.{◌≡◌, ◌≢◌, ◌<◌, ◌≤◌, ℕ, Option, Some, None, List, [], ◌∷◌, length, refl, ap, sym, ◌∙◌}
use Rattle.std.proofs.lemmas.Bool.{cond-true, cond-false, le-leb, lt-leb}
use Rattle.std.specs.Prelude.{nat_le, codes}
use Rattle.mf_tree.specs.declared.message.Message.{Message}
use Rattle.mf_tree.specs.declared.fault.Fault.{Fault}
use Rattle.mf_tree.specs.declared.fault.Kind.TheVariants as kind
use Rattle.mf_tree.specs.Compiled.{Compilation, Compiled, most_declarations, compiled_to_nothing, compiled_past_the_limit, compiled_with_faults, compiled_to_a_message}
use Rattle.mf_tree.specs.Compiled as compiled
use Rattle.mf_tree.specs.Faults.{faults}
use Rattle.mf_tree.specs.Grammar.{SpellsMessage}
use Rattle.mf_parse.specs.Computed.{message_of}
use Rattle.mf_parse.proofs.Messages.{message_complete}
use Rattle.mf_parse.proofs.SoundMessages.{message_sound}
use Rattle.mf_plan.specs.Computed.{checked, invalid, plan_from, plan_of, with_faults}
use Rattle.mf_plan.specs.Plans.{compilation}
use Rattle.mf_plan.specs.declared.plan.Plan.{Plan}
use Rattle.mf_plan.specs.declared.plan.Plan.TheVariants as plan

-- what a source without a message compiles to
nothing : (source : List ℕ) → ((message : Message) → SpellsMessage message source → ⊥) → (found : Option Message) → message_of source ≡ found
    → compiled.Invalid (record { kind = kind.Syntax; of = [] } ∷ []) ≡ compilation (plan_from found)
nothing source unspelled None is = refl
nothing source unspelled (Some message) is = absurd (unspelled message (message_sound source message is))

some_faults : (message : Message) (found : List Fault) → found ≢ [] → compiled.Invalid found ≡ compilation (with_faults message found)
some_faults message [] some = absurd (some refl)
some_faults message (fault ∷ more) some = refl

module _ (source : List ℕ) (message : Message) (spelled : SpellsMessage message source) where
  of_message : plan_of source ≡ checked message
  of_message = ap plan_from (message_complete source message spelled)

  few_planned : length message.declarations ≤ most_declarations → checked message ≡ with_faults message (faults message)
  few_planned few = cond-true (nat_le (length message.declarations) most_declarations) _ _ (le-leb (length message.declarations) most_declarations few)

  many_planned : most_declarations < length message.declarations → checked message ≡ invalid kind.Limit (codes "declarations")
  many_planned many = cond-false (nat_le (length message.declarations) most_declarations) _ _ (lt-leb (length message.declarations) most_declarations many)

-- what a source compiles to is what is computed
is_planned : (source : List ℕ) (result : Compilation) → Compiled source result → result ≡ compilation (plan_of source)
is_planned source result (compiled_to_nothing unspelled) = nothing source unspelled (message_of source) refl
is_planned source result (compiled_past_the_limit message spelled many) =
    ap compilation (sym (of_message source message spelled ∙ many_planned source message spelled many))
is_planned source result (compiled_with_faults message spelled few some) =
    some_faults message (faults message) some ∙ ap compilation (sym (of_message source message spelled ∙ few_planned source message spelled few))
is_planned source result (compiled_to_a_message message spelled few without) =
    ap (λ found. compilation (with_faults message found)) (sym without) ∙ ap compilation (sym (of_message source message spelled ∙ few_planned source message spelled few))

pub compiled_once : (source : List ℕ) (one other : Compilation) → Compiled source one → Compiled source other → one ≡ other
compiled_once source one other is is_too = is_planned source one is ∙ sym (is_planned source other is_too)

same_plan : (one other : Plan) → compilation one ≡ compilation other → one ≡ other
same_plan (plan.Valid message) (plan.Valid other) same = cc
same_plan (plan.Valid message) (plan.Invalid faults) same = cc
same_plan (plan.Invalid faults) (plan.Valid message) same = cc
same_plan (plan.Invalid faults) (plan.Invalid others) same = cc

-- so a plan that says what a source compiles to is the computed one
pub planned : (source : List ℕ) (plan : Plan) → Compiled source (compilation plan) → plan ≡ plan_of source
planned source plan is = same_plan plan (plan_of source) (is_planned source (compilation plan) is)
