-- The options of a call, one after the other.
use Rattle.std.proofs.Common.{◌≡◌, ◌+◌, ℕ, Bool, true, false, List, [], ◌∷◌, ◌++◌, take, length, Option, Some, None, refl, sym, ap, subst, ◌∙◌, arith}
use Rattle.std.proofs.lemmas.List.{append-nil, append_assoc}
use Rattle.std.proofs.lemmas.Grind.{flat_map-append}
use Rattle.mf_text.specs.declared.arguments.Argued.{Argued}
use Rattle.mf_tree.specs.Faults.{identifier_text}
use Rattle.mf_tree.specs.declared.expression.OptionNode.{OptionNode}
use Rattle.mf_tree.specs.declared.expression.OptionValue.TheVariants as option
use Rattle.mf_tree.specs.declared.fault.Kind.TheVariants.{BadOption}
use Rattle.mf_tree.specs.declared.name.Name.{Name}
use Rattle.mf_value.specs.Meaning.{Meaning}
use Rattle.mf_value.specs.Traces.{Bound, Node, Optioned, Outcome, Owner, Placed, Trace, at_option, bad_option, bound_variables, option_faults, option_outcome, option_trace, option_traces, option_traces_from, option_value_trace, optioned, variable_value}
use Rattle.mf_value.specs.Values.{option_text}
use Rattle.mf_value.specs.declared.value.Value.{Value}
use Rattle.mf_text.specs.declared.direction.Direction.{Direction}
use Rattle.mf_resolve.specs.Resolving.{Keeps, ResolvesOption, ResolvesOptions, ScopeState, Steps, Uses, bound_below, with_error}
use Rattle.mf_resolve.specs.Settings.{Takes, no_settings, owner_of, settings_after, settings_from}
use Rattle.mf_resolve.specs.Sources.{source_value}
use Rattle.mf_resolve.specs.declared.settings.Settings.{Settings}
use Rattle.mf_resolve.specs.declared.variable.Source.{Source}
use Rattle.mf_resolve.proofs.Adding.{and_both, same_node}
use Rattle.mf_resolve.proofs.Steps.{both, owned, told, traced}

-- a state that is kept has the same variables
pub rebased : (meaning : Meaning) (limit inner : ℕ) (old mid : ScopeState) → Keeps limit old mid → (P : List (List ℕ × Argued) → List Bound → Type 0) →
    P mid.arguments (bound_below meaning mid inner) → P old.arguments (bound_below meaning old inner)
rebased meaning limit inner old mid keeps P held =
    subst (λ arguments. P arguments (take inner (bound_variables meaning arguments old.declarations))) keeps.arguments
    (subst (λ declarations. P mid.arguments (take inner (bound_variables meaning mid.arguments declarations))) keeps.declarations held)

-- an option's value that is a variable
pub option_used : (meaning : Meaning) (limit : ℕ) (old new : ScopeState) (name : Name) (place : ℕ) (found : Source) (text : Option (List ℕ)) →
    Uses meaning limit limit old new name (at_option place) found →
    ((dir : Direction) (own : Name) (value : Value) → source_value dir new.resolved own found ≡ Some value → text ≡ option_text value.content) →
    ResolvesOption meaning limit old new (option.Variable name) place text
option_used meaning limit old new name place found text uses is =
    told meaning limit old new _ _ _ (λ node says. is meaning.direction name (variable_value meaning old.arguments (bound_below meaning old limit) name) says) uses

-- one option more

traces_more : (meaning : Meaning) (arguments : List (List ℕ × Argued)) (owner : Owner) (bound : List Bound) (node : Node) (options : List OptionNode) (place : ℕ) (last : OptionNode) →
    option_traces_from meaning arguments owner bound node place (options ++ last ∷ [])
    ≡ option_traces_from meaning arguments owner bound node place options ++ option_trace meaning arguments owner bound node (place + length options) last ∷ []
traces_more meaning arguments owner bound node [] place last =
    ap (λ at. option_trace meaning arguments owner bound node at last ∷ []) (let same : place ≡ place + 0 = omega arith in same)
traces_more meaning arguments owner bound node (option ∷ options) place last =
    ap (λ traces. option_trace meaning arguments owner bound node place option ∷ traces)
    (traces_more meaning arguments owner bound node options (place + 1) last
    ∙ ap (λ at. option_traces_from meaning arguments owner bound node (place + 1) options ++ option_trace meaning arguments owner bound node at last ∷ [])
    (let same : place + 1 + length options ≡ place + length (option ∷ options) = omega arith in same))

settings_more : (options : List Optioned) (before : Settings) (last : Optioned) → settings_from before (options ++ last ∷ []) ≡ settings_after (settings_from before options) last.outcome
settings_more [] before last = refl
settings_more (option ∷ options) before last = settings_more options (settings_after before option.outcome) last

record Taken (old new : Settings) (outcome : Option Outcome) : Type 0 where
  is : Outcome
  given : outcome ≡ Some is
  after : new ≡ settings_after old is

taken_yes : (old new : Settings) (outcome : Option Outcome) → Takes old new outcome true → Taken old new outcome
taken_yes old new None takes = let clash : true ≡ false = takes.0 in cc
taken_yes old new (Some outcome) takes = record { is = outcome; given = refl; after = takes.1 }

taken_no : (old new : Settings) (outcome : Option Outcome) → Takes old new outcome false → (outcome ≡ None) × (new ≡ old)
taken_no old new None takes = (refl, takes.1)
taken_no old new (Some outcome) takes = let clash : false ≡ true = takes.0 in cc

module _ (meaning : Meaning) (limit : ℕ) (old : ScopeState) (directs : Bool) (before : List OptionNode) (last : OptionNode) where
  abbrev bound : List Bound
  bound = bound_below meaning old limit

  abbrev traces : List OptionNode → Node → List Optioned
  traces options node = option_traces meaning old.arguments (owner_of directs) bound node options

  abbrev value_trace : Node → Trace
  value_trace node = option_value_trace meaning old.arguments bound node (0 + length before) last.value

  abbrev last_trace : Node → Optioned
  last_trace node = option_trace meaning old.arguments (owner_of directs) bound node (0 + length before) last

  abbrev outcome_of : Option (List ℕ) → Option Outcome
  outcome_of text = option_outcome (owner_of directs) last text

  abbrev bad : Node → Placed
  bad node = bad_option node (0 + length before) last.name

  -- the traces with the last one
  with_last : (node : Node) → traces (before ++ last ∷ []) node ≡ traces before node ++ last_trace node ∷ []
  with_last node = traces_more meaning old.arguments (owner_of directs) bound node before 0 last

  faults_with_last : (node : Node) → option_faults (traces (before ++ last ∷ []) node) ≡ option_faults (traces before node) ++ (last_trace node).faults
  faults_with_last node =
      ap option_faults (with_last node)
      ∙ flat_map-append (λ (option : Optioned). option.faults) (traces before node) (last_trace node ∷ [])
      ∙ ap (λ back. option_faults (traces before node) ++ back) (append-nil (last_trace node).faults)

  settings_with_last : (node : Node) → settings_from no_settings (traces (before ++ last ∷ []) node) ≡ settings_after (settings_from no_settings (traces before node)) (last_trace node).outcome
  settings_with_last node = ap (settings_from no_settings) (with_last node) ∙ settings_more (traces before node) no_settings (last_trace node)

  module _ (first second : ScopeState) (settings : Settings) (text : Option (List ℕ))
      (done : ResolvesOptions meaning limit old first directs before settings)
      (value : ResolvesOption meaning limit first second last.value (0 + length before) text) where
    abbrev Said : Node → Type 0
    Said node = (settings ≡ settings_from no_settings (traces before node)) × (text ≡ option_text (value_trace node).value.content)

    two : Steps meaning limit old second (λ node. option_faults (traces before node) ++ (value_trace node).faults) Said
    two = both meaning limit old first second
        (λ node. option_faults (traces before node)) (λ node. (value_trace node).faults)
        (λ node. settings ≡ settings_from no_settings (traces before node)) (λ node. text ≡ option_text (value_trace node).value.content)
        done
        (rebased meaning limit limit old first done.keeps
        (λ arguments bound. Steps meaning limit first second
        (λ node. (option_value_trace meaning arguments bound node (0 + length before) last.value).faults)
        (λ node. text ≡ option_text (option_value_trace meaning arguments bound node (0 + length before) last.value).value.content))
        value)

    -- what the last one comes to
    last_is : (node : Node) → Said node → (outcome : Option Outcome) → outcome_of text ≡ outcome → last_trace node ≡ optioned (bad node) (value_trace node).faults outcome
    last_is node said outcome is =
        ap (λ t. optioned (bad node) (value_trace node).faults (outcome_of t)) (sym said.1)
        ∙ ap (optioned (bad node) (value_trace node).faults) is

    -- it is taken
    pub one_taken : (after : Settings) → Takes settings after (outcome_of text) true → ResolvesOptions meaning limit old second directs (before ++ last ∷ []) after
    one_taken after takes =
        let taken = taken_yes settings after (outcome_of text) takes in
        told meaning limit old second _ Said _
        (λ node said.
        taken.after
        ∙ ap (λ s. settings_after s taken.is) said.0
        ∙ ap (λ (t : Optioned). settings_after (settings_from no_settings (traces before node)) t.outcome) (sym (last_is node said (Some taken.is) taken.given))
        ∙ sym (settings_with_last node))
        (traced meaning limit old second _ (λ node. option_faults (traces (before ++ last ∷ []) node)) Said
        (λ node said.
        ap (λ (t : Optioned). option_faults (traces before node) ++ t.faults) (sym (last_is node said (Some taken.is) taken.given))
        ∙ sym (faults_with_last node))
        two)

    -- it is refused
    pub one_refused : (after : Settings) (of : List ℕ) → of ≡ identifier_text last.name → Takes settings after (outcome_of text) false →
        ResolvesOptions meaning limit old (with_error second (record { kind = BadOption; of = of })) directs (before ++ last ∷ []) after
    one_refused after of of_is takes =
        let taken = taken_no settings after (outcome_of text) takes in
        let third : ScopeState = with_error second (record { kind = BadOption; of = of }) in
        let All : Node → Type 0 = λ node. Said node × Unit {0} in
        let three = both meaning limit old second third
        (λ node. option_faults (traces before node) ++ (value_trace node).faults) (λ node. bad node ∷ []) Said (λ node. Unit {0})
        two
        (owned meaning limit second (record { kind = BadOption; of = of } ∷ []) (λ node. bad node ∷ []) (λ node. Unit {0})
        (λ node. and_both _ _ (same_node node) refl)
        (λ node. ap (λ t. record { kind = BadOption; of = t } ∷ []) of_is)
        (λ node. tt)) in
        told meaning limit old third _ All _
        (λ node said.
        taken.1
        ∙ said.0.0
        ∙ ap (λ (t : Optioned). settings_after (settings_from no_settings (traces before node)) t.outcome) (sym (last_is node said.0 None taken.0))
        ∙ sym (settings_with_last node))
        (traced meaning limit old third _ (λ node. option_faults (traces (before ++ last ∷ []) node)) All
        (λ node said.
        append_assoc (option_faults (traces before node)) (value_trace node).faults (bad node ∷ [])
        ∙ ap (λ (t : Optioned). option_faults (traces before node) ++ t.faults) (sym (last_is node said.0 None taken.0))
        ∙ sym (faults_with_last node))
        three)
