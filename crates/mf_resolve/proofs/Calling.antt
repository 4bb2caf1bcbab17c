-- The call of a function, behind its options.
use Rattle.std.proofs.Common.{◌≡◌, ◌+◌, ℕ, Bool, true, false, cond, List, [], ◌∷◌, ◌++◌, map, Option, Some, None, refl, sym, ap, ◌∙◌, inl, inr}
use Rattle.std.proofs.Math.Seq.{append_snoc}
use Rattle.std.proofs.lemmas.List.{append-nil}
use Rattle.std.proofs.lemmas.Bool.{cases_Bool}
use Rattle.std.specs.List.{list_all}
use Rattle.mf_tree.specs.Faults.{identifier_text}
use Rattle.mf_tree.specs.declared.expression.Call.{Call}
use Rattle.mf_tree.specs.declared.expression.Expression.{Expression}
use Rattle.mf_tree.specs.declared.fault.Fault.{Fault}
use Rattle.mf_tree.specs.declared.fault.Kind.TheVariants.{BadOperand, BadOption, UnknownFunction}
use Rattle.mf_value.specs.ErrorLists.{is_same_node, without_place}
use Rattle.mf_value.specs.Meaning.{Meaning}
use Rattle.mf_value.specs.Selection.{markup_option}
use Rattle.mf_value.specs.Traces.{Handed, Node, Optioned, Outcome, Placed, Trace, at_option, call_trace, called_trace, direction_after, direction_set, directed, fallback, fallback_source, function_source, given_options, given_trace, handed, handed_by, handed_from, id_after, id_set, identified, is_refused, of_function, option_faults, option_traces, passed_over, refusals_from, unknown_function, value_after, with_direction}
use Rattle.mf_value.specs.declared.called.CallFault.{CallFault}
use Rattle.mf_value.specs.declared.called.Called.{Called}
use Rattle.mf_value.specs.declared.given.Given.{Given}
use Rattle.mf_value.specs.declared.value.Value.{Value}
use Rattle.mf_resolve.specs.Refusals.{refused_errors, refused_from}
use Rattle.mf_resolve.specs.Resolving.{Ends, Evaluates, ResolvesOptions, ScopeState, Steps, bound_below, call_below, with_error, with_errors}
use Rattle.mf_resolve.specs.Settings.{named_options, no_settings, settings_after, settings_from}
use Rattle.mf_resolve.specs.declared.settings.Settings.{Settings}
use Rattle.mf_resolve.proofs.Adding.{and_both, same_node}
use Rattle.mf_resolve.proofs.Steps.{owned, then_own, told, traced}
use Rattle.mf_resolve.proofs.Tracing.{given_holds}

-- What options come to, together.

abbrev given_of : Handed → Given
given_of option = option.given

given_step : (place : ℕ) (before : Settings) (outcome : Outcome) (rest : List Given) (others : List Handed) → rest ≡ (settings_after before outcome).given ++ map given_of others →
    rest ≡ before.given ++ map given_of (handed_by place outcome ++ others)
given_step place before (handed given) rest others is = is ∙ append_snoc before.given given (map given_of others)
given_step place before (directed dir) rest others is = is
given_step place before (identified id) rest others is = is
given_step place before passed_over rest others is = is

given_after : (options : List Optioned) (place : ℕ) (before : Settings) → (settings_from before options).given ≡ before.given ++ map given_of (handed_from place options)
given_after [] place before = sym (append-nil before.given)
given_after (option ∷ options) place before =
    given_step place before option.outcome _ (handed_from (place + 1) options) (given_after options (place + 1) (settings_after before option.outcome))

dir_step : (before : Settings) (outcome : Outcome) → (settings_after before outcome).dir ≡ direction_after before.dir outcome
dir_step before (handed given) = refl
dir_step before (directed dir) = refl
dir_step before (identified id) = refl
dir_step before passed_over = refl

dir_after : (options : List Optioned) (before : Settings) → (settings_from before options).dir ≡ direction_set before.dir options
dir_after [] before = refl
dir_after (option ∷ options) before =
    dir_after options (settings_after before option.outcome) ∙ ap (λ dir. direction_set dir options) (dir_step before option.outcome)

id_step : (before : Settings) (outcome : Outcome) → (settings_after before outcome).id ≡ id_after before.id outcome
id_step before (handed given) = refl
id_step before (directed dir) = refl
id_step before (identified id) = refl
id_step before passed_over = refl

id_all : (options : List Optioned) (before : Settings) → (settings_from before options).id ≡ id_set before.id options
id_all [] before = refl
id_all (option ∷ options) before =
    id_all options (settings_after before option.outcome) ∙ ap (λ id. id_set id options) (id_step before option.outcome)

pub given_is : (settings : Settings) (options : List Optioned) → settings ≡ settings_from no_settings options → settings.given ≡ given_options options
given_is settings options is = ap (λ (s : Settings). s.given) is ∙ given_after options 0 no_settings

pub id_is : (settings : Settings) (options : List Optioned) → settings ≡ settings_from no_settings options → settings.id ≡ id_set None options
id_is settings options is = ap (λ (s : Settings). s.id) is ∙ id_all options no_settings

-- the options of markup
named_handed : (options : List Handed) → named_options (map given_of options) ≡ map markup_option options
named_handed [] = refl
named_handed (option ∷ options) = ap (λ pairs. markup_option option ∷ pairs) (named_handed options)

pub named_are : (settings : Settings) (options : List Optioned) → settings ≡ settings_from no_settings options →
    named_options settings.given ≡ map markup_option (handed_from 0 options)
named_are settings options is = ap named_options (given_is settings options is) ∙ named_handed (handed_from 0 options)

value_is : (settings : Settings) (options : List Optioned) (value : Value) → settings ≡ settings_from no_settings options →
    with_direction settings.dir (record value { forced = false; id = settings.id }) ≡ value_after options value
value_is settings options value is =
    ap (λ (s : Settings). with_direction s.dir (record value { forced = false; id = s.id })) is
    ∙ ap (λ dir. with_direction dir (record value { forced = false; id = (settings_from no_settings options).id })) (dir_after options no_settings)
    ∙ ap (λ id. with_direction (direction_set None options) (record value { forced = false; id = id })) (id_all options no_settings)

-- What a call gave.

refused_placed : (node : Node) (faults : List CallFault) (options : List Handed) (place : ℕ) →
    refused_from place faults (map given_of options) ≡ map without_place (refusals_from place node faults options)
refused_placed node faults [] place = refl
refused_placed node faults (option ∷ options) place =
    let front : Fault = record { kind = BadOption; of = identifier_text option.given.name } in
    let rest : List Fault = refused_from (place + 1) faults (map given_of options) in
    let placed : Placed = record { node = node; spot = at_option option.place; kind = BadOption; of = identifier_text option.given.name } in
    let others : List Placed = refusals_from (place + 1) node faults options in
    elim (cases_Bool (is_refused faults place)) [
      | inl is ↦
          ap (λ b. cond b (front ∷ rest) rest) is
          ∙ ap (λ rest. front ∷ rest) (refused_placed node faults options (place + 1))
          ∙ sym (ap (λ b. map without_place (cond b (placed ∷ others) others)) is)
      | inr is ↦
          ap (λ b. cond b (front ∷ rest) rest) is
          ∙ refused_placed node faults options (place + 1)
          ∙ sym (ap (λ b. map without_place (cond b (placed ∷ others) others)) is)
    ]

pub ends_some : (expression : Expression) (old new : ScopeState) (settings : Settings) (called : Called) (value result : Value) → called.value ≡ Some value →
    new ≡ with_errors old (refused_errors called.faults settings.given) → result ≡ with_direction settings.dir (record value { forced = false; id = settings.id }) →
    Ends expression old new settings called result
ends_some expression old new settings called value result found grown is = record {
  added = refused_errors called.faults settings.given;
  grown = grown;
  errors = λ node options settled.
      ap (refused_errors called.faults) (given_is settings options settled)
      ∙ refused_placed node called.faults (handed_from 0 options) 0
      ∙ ap (λ v. let t : Trace = given_trace node expression [] options called.faults v in map without_place t.faults) (sym found);
  value_is = λ node options settled.
      is
      ∙ value_is settings options value settled
      ∙ ap (λ v. let t : Trace = given_trace node expression [] options called.faults v in t.value) (sym found);
}

pub ends_none : (expression : Expression) (old new : ScopeState) (settings : Settings) (called : Called) (of : List ℕ) (result : Value) → called.value ≡ None →
    of ≡ fallback_source expression → new ≡ with_error old (record { kind = BadOperand; of = of }) → result ≡ fallback (fallback_source expression) →
    Ends expression old new settings called result
ends_none expression old new settings called of result found of_is grown is = record {
  added = record { kind = BadOperand; of = of } ∷ [];
  grown = grown;
  errors = λ node options settled.
      ap (λ text. record { kind = BadOperand; of = text } ∷ []) of_is
      ∙ ap (λ v. let t : Trace = given_trace node expression [] options called.faults v in map without_place t.faults) (sym found);
  value_is = λ node options settled. is ∙ ap (λ v. let t : Trace = given_trace node expression [] options called.faults v in t.value) (sym found);
}

-- The whole call.

behind_nothing : (node : Node) (expression : Expression) (before : List Placed) (options : List Optioned) (faults : List CallFault) (value : Option Value) →
    (let t : Trace = given_trace node expression before options faults value in
    let u : Trace = given_trace node expression [] options faults value in
    (t.faults ≡ before ++ u.faults) × (t.value ≡ u.value))
behind_nothing node expression before options faults None = (refl, refl)
behind_nothing node expression before options faults (Some value) = (refl, refl)

module _ (meaning : Meaning) (limit : ℕ) (old : ScopeState) (expression : Expression) (call : Call) (operand : Option Value) where
  abbrev options_at : Node → List Optioned
  options_at node = option_traces meaning old.arguments of_function (bound_below meaning old limit) node call.options

  abbrev called_at : Node → Called
  called_at node = meaning.called call.name operand (given_options (options_at node))

  abbrev known_at : Node → Trace
  known_at node = call_trace meaning old.arguments node expression call.name operand [] (options_at node)

  abbrev unknown_at : Node → Trace
  unknown_at node = record { value = fallback (fallback_source expression); faults = unknown_function node call.name ∷ [] }

  abbrev choose : Node → Bool → Trace
  choose node known = cond known (known_at node) (unknown_at node)

  pub call_unknown : (of : List ℕ) (value : Value) → meaning.known call.name ≡ false → of ≡ function_source call.name → value ≡ fallback (fallback_source expression) →
      Evaluates meaning limit old (with_error old (record { kind = UnknownFunction; of = of })) (call_below meaning limit old expression call operand) value
  call_unknown of value known of_is is =
      owned meaning limit old (record { kind = UnknownFunction; of = of } ∷ [])
      (λ node. let t : Trace = call_below meaning limit old expression call operand node in t.faults)
      (λ node. let t : Trace = call_below meaning limit old expression call operand node in value ≡ t.value)
      (λ node. ap (λ b. list_all (λ (fault : Placed). is_same_node fault.node node) (choose node b).faults) known ∙ and_both _ _ (same_node node) refl)
      (λ node. ap (λ text. record { kind = UnknownFunction; of = text } ∷ []) of_is ∙ ap (λ b. map without_place (choose node b).faults) (sym known))
      (λ node. is ∙ ap (λ b. (choose node b).value) (sym known))

  pub call_known : (mid new : ScopeState) (settings : Settings) (called : Called) (value : Value) → meaning.known call.name ≡ true →
      ResolvesOptions meaning limit old mid true call.options settings → called ≡ meaning.called call.name operand settings.given →
      Ends expression mid new settings called value → Evaluates meaning limit old new (call_below meaning limit old expression call operand) value
  call_known mid new settings called value known options called_is ends =
      let P : Node → Type 0 = λ node. settings ≡ settings_from no_settings (options_at node) in
      let g : Node → List Placed = λ node. (called_trace node expression [] (options_at node) (called_at node)).faults in
      let Q : Node → Type 0 = λ node. value ≡ (called_trace node expression [] (options_at node) (called_at node)).value in
      let same : (node : Node) → P node → called ≡ called_at node = λ node settled. called_is ∙ ap (meaning.called call.name operand) (given_is settings (options_at node) settled) in
      let step : Steps meaning limit old new (λ node. option_faults (options_at node) ++ g node) Q =
      then_own meaning limit old mid new (λ node. option_faults (options_at node)) g P Q options ends.added ends.grown
      (λ node settled. (
        given_holds (λ (fault : Placed). is_same_node fault.node node) node (λ spot kind of. same_node node) expression [] (options_at node) (called_at node).faults (called_at node).value refl,
        ends.errors node (options_at node) settled ∙ ap (λ c. map without_place (called_trace node expression [] (options_at node) c).faults) (same node settled),
        ends.value_is node (options_at node) settled ∙ ap (λ c. (called_trace node expression [] (options_at node) c).value) (same node settled),
      )) in
      told meaning limit old new _ Q _
      (λ node says.
      says
      ∙ sym (behind_nothing node expression (option_faults (options_at node)) (options_at node) (called_at node).faults (called_at node).value).1
      ∙ ap (λ b. (choose node b).value) (sym known))
      (traced meaning limit old new (λ node. option_faults (options_at node) ++ g node)
      (λ node. let t : Trace = call_below meaning limit old expression call operand node in t.faults) Q
      (λ node says.
      sym (behind_nothing node expression (option_faults (options_at node)) (options_at node) (called_at node).faults (called_at node).value).0
      ∙ ap (λ b. (choose node b).faults) (sym known))
      step)
