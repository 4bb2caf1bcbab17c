-- What is said of a source is what is computed, and is said of its canonical source again.
use Rattle.std.proofs.Common.{◌≡◌, ℕ, List, refl, ap, sym, ◌∙◌, subst}
use Rattle.mf_tree.specs.declared.message.Message.{Message}
use Rattle.mf_tree.specs.declared.fault.Fault.{Fault}
use Rattle.mf_tree.specs.Canonical.{canonical}
use Rattle.mf_tree.specs.Compiled as compiled
use Rattle.mf_tree.specs.Compiled.{Compilation, Compiled, compiled_to_nothing, compiled_past_the_limit, compiled_with_faults, compiled_to_a_message}
use Rattle.mf_tree.specs.Grammar.{SpellsMessage}
use Rattle.mf_tree.proofs.Nodes.{message as spelled_node}
use Rattle.mf_print.proofs.Messages.{message as canonical_spells}
use Rattle.mf_plan.specs.declared.plan.Plan.{Plan}
use Rattle.mf_plan.specs.declared.plan.Plan.TheVariants as plan
use Rattle.mf_plan.specs.Computed.{plan_of}
use Rattle.mf_plan.specs.Plans.{compilation}
use Rattle.mf_plan.proofs.Computed.{plan_compiles}
use Rattle.mf_plan.proofs.Once.{planned}
use Rattle.mf_lint.specs.declared.linting.Linted.{Linted}
use Rattle.mf_lint.specs.declared.linting.Linted.TheVariants.{Valid, Invalid}
use Rattle.mf_lint.specs.Computed.{lint_from, lint_of}
use Rattle.mf_lint.specs.Lint.{Lints}

pub valid_lints : (source : List ℕ) (message : Message) (printed : List ℕ) → Compiled source (compiled.Valid message) → printed ≡ canonical message → Lints source (Valid printed)
valid_lints source message printed is same = (message, is, same)

pub valid_computed : (source : List ℕ) (message : Message) (printed : List ℕ) → Compiled source (compiled.Valid message) → printed ≡ canonical message → Valid printed ≡ lint_of source
valid_computed source message printed is same = ap Valid same ∙ ap lint_from (planned source (plan.Valid message) is)

pub invalid_computed : (source : List ℕ) (faults : List Fault) → Compiled source (compiled.Invalid faults) → Invalid faults ≡ lint_of source
invalid_computed source faults is = ap lint_from (planned source (plan.Invalid faults) is)

lint_of_plan : (source : List ℕ) (plan : Plan) → Compiled source (compilation plan) → Lints source (lint_from plan)
lint_of_plan source (plan.Valid message) is = (message, is, refl)
lint_of_plan source (plan.Invalid faults) is = is

lints_computed : (source : List ℕ) → Lints source (lint_of source)
lints_computed source = lint_of_plan source (plan_of source) (plan_compiles source)

pub computed : (source : List ℕ) (linted : Linted) → Lints source linted → linted ≡ lint_of source
computed source (Valid printed) is = valid_computed source is.0 printed is.1 is.2
computed source (Invalid faults) is = invalid_computed source faults is

pub computed_lints : (source : List ℕ) (linted : Linted) → linted ≡ lint_of source → Lints source linted
computed_lints source linted is = subst (Lints source) (sym is) (lints_computed source)

pub lints_once : (source : List ℕ) (one other : Linted) → Lints source one → Lints source other → one ≡ other
lints_once source one other is is_too = computed source one is ∙ sym (computed source other is_too)

valid_message : (one other : Message) → compiled.Valid one ≡ compiled.Valid other → one ≡ other
valid_message one other same = cc

-- the canonical source of what a source compiles to compiles to it too
again : (source : List ℕ) (message : Message) (result : Compilation) → Compiled source result → result ≡ compiled.Valid message → Compiled (canonical message) (compiled.Valid message)
again source message result (compiled_to_nothing unspelled) is = cc
again source message result (compiled_past_the_limit other spelled many) is = cc
again source message result (compiled_with_faults other spelled few some) is = cc
again source message result (compiled_to_a_message other spelled few none) is =
    subst (λ message. Compiled (canonical message) (compiled.Valid message)) (valid_message other message is)
    (compiled_to_a_message other (canonical_spells other (spelled_node other source spelled)) few none)

pub stable : (source printed : List ℕ) → Lints source (Valid printed) → Lints printed (Valid printed)
stable source printed is =
    (is.0, subst (λ text. Compiled text (compiled.Valid is.0)) (sym is.2) (again source is.0 (compiled.Valid is.0) is.1 refl), is.2)
