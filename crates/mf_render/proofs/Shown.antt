-- A message that is formatted: the pattern that is found, its parts, and the errors that were gathered.
use Rattle.std.proofs.Common.{◌≡◌, ◌∙◌, ℕ, List, [], ◌∷◌, ◌++◌, refl, sym, subst}
use Rattle.mf_text.specs.declared.arguments.Argued.{Argued}
use Rattle.mf_text.specs.declared.direction.Direction.{Direction}
use Rattle.mf_locale.specs.declared.record.LocaleRecord.{LocaleRecord}
use Rattle.mf_tree.specs.Compiled.{Compiled, compiled_to_a_message, Valid}
use Rattle.mf_tree.specs.Faults.{faults}
use Rattle.mf_tree.specs.declared.fault.Fault.{Fault}
use Rattle.mf_tree.specs.declared.message.Body.{Body}
use Rattle.mf_tree.specs.declared.message.Body.TheVariants as body
use Rattle.mf_tree.specs.declared.message.Message.{Message}
use Rattle.mf_tree.specs.declared.pattern.Piece.{Piece}
use Rattle.mf_value.specs.ErrorLists.{error_list, no_calls}
use Rattle.mf_value.specs.Meaning.{Meaning}
use Rattle.mf_value.specs.Traces.{Bound, bound_variables}
use Rattle.mf_parts.specs.Isolation.{isolated, isolated_part}
use Rattle.mf_parts.specs.declared.part.Part.{Part}
use Rattle.mf_parts.specs.declared.part.Part.TheVariants as part
use Rattle.mf_resolve.specs.Gathering.{Gathers, Opens}
use Rattle.mf_resolve.specs.Resolving.{ScopeState, bound_of}
use Rattle.mf_select.proofs.Valid.{can_choose}
use Rattle.mf_answer.specs.Messages.{replacement, ShowsMessage, ShowsPattern}
use Rattle.mf_answer.specs.Parts.{after_pattern, pattern_parts}
use Rattle.mf_render.specs.Showing.{CanShow, Finds, GivesParts}
use Rattle.mf_render.proofs.Pieces.{append_nothing, same_bound}

-- the parts of a message that isn't valid
pub one_fallback : (dir : Direction) (source : List ℕ) (before parts : List Part) → before ≡ [] → source ≡ replacement
    → parts ≡ before ++ isolated_part dir (part.Fallback source) → parts ≡ isolated dir (part.Fallback replacement ∷ [])
one_fallback dir source before parts none is made =
    made
    ∙ (λ i. none i ++ isolated_part dir (part.Fallback (is i)))
    ∙ sym (append_nothing (isolated_part dir (part.Fallback replacement)))

-- a message without check errors can be shown
pub can_show : (message : Message) (shape : Body) → message.body ≡ shape → faults message ≡ [] → CanShow shape
can_show message (body.Pattern pattern) is none = tt
can_show message (body.Match selectors variants) is none = can_choose message selectors variants is none

pub valid_can_show : (source : List ℕ) (message : Message) → Compiled source (Valid message) → CanShow message.body
valid_can_show source message (compiled_to_a_message _ spelled few none) = can_show message message.body refl none

pub shown_message : (locale : LocaleRecord) (meaning : Meaning) (arguments : List (List ℕ × Argued)) (message : Message) (opened found ended : ScopeState)
    (pattern : List Piece) (parts : List Part) (errors : List Fault) → Opens opened message.declarations arguments → Finds meaning opened found message.body pattern →
    GivesParts locale meaning found ended pattern parts → errors ≡ ended.faults → ShowsMessage locale meaning arguments message (record { parts = parts; faults = errors })
shown_message locale meaning arguments message opened found ended pattern parts errors opens finds gives listed =
    let bound : bound_of meaning opened ≡ bound_variables meaning arguments message.declarations = λ i. bound_variables meaning (opens.arguments_are i) (opens.declarations_are i) in
    let given : found.arguments ≡ arguments = finds.advances.arguments ∙ opens.arguments_are in
    let known : bound_of meaning found ≡ bound_variables meaning arguments message.declarations =
    same_bound meaning opened found finds.advances.arguments finds.advances.declarations ∙ bound in
    let calls = finds.after no_calls in
    let gathered : Gathers meaning found calls = finds.advances.gathers no_calls (opens.gathers meaning) in
    let last = gives.advances.gathers calls gathered in
    let shown_parts : parts ≡ isolated locale.dir (pattern_parts meaning arguments (bound_variables meaning arguments message.declarations) locale calls pattern) =
    gives.parts_are calls gathered ∙ (λ i. isolated locale.dir (pattern_parts meaning (given i) (known i) locale calls pattern)) in
    let shown_errors : errors ≡ error_list (after_pattern meaning arguments (bound_variables meaning arguments message.declarations) pattern calls).joined =
    listed ∙ last.faults ∙ (λ i. error_list (after_pattern meaning (given i) (known i) pattern calls).joined) in
    record {
      pattern = pattern;
      calls = calls;
      shows = subst (λ (b : List Bound). ShowsPattern locale meaning arguments b message.body pattern calls) bound
          (subst (λ (a : List (List ℕ × Argued)). ShowsPattern locale meaning a (bound_of meaning opened) message.body pattern calls) opens.arguments_are (finds.shows locale));
      is = λ i. record { parts = shown_parts i; faults = shown_errors i };
    }
