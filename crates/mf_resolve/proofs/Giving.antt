-- What a call on a scope promises.
use Rattle.std.proofs.Common.{◌≡◌, ◌+◌, ℕ, true, false, not, List, [], ◌∷◌, ◌++◌, length, Some, refl, sym, ap, subst, ◌∙◌, inl, inr, arith}
use Rattle.std.proofs.lemmas.Bool.{cases_Bool, eqb-true, lt-ltb, ltb-true}
use Rattle.std.specs.List.{list_all}
use Rattle.mf_tree.specs.declared.expression.Expression.{Expression}
use Rattle.mf_tree.specs.declared.fault.Fault.{Fault}
use Rattle.mf_tree.specs.declared.name.Name.{Name}
use Rattle.mf_tree.specs.declared.pattern.Markup.{Markup}
use Rattle.mf_value.specs.ErrorLists.{Calls, added, after_call, firsts, is_same_node}
use Rattle.mf_value.specs.Meaning.{Meaning}
use Rattle.mf_value.specs.Traces.{Bound, Node, Optioned, Placed, Trace, at_operand, expression_under, of_call, of_declaration, of_markup, option_faults, option_traces, variable_trace, variable_value}
use Rattle.mf_value.specs.declared.value.Value.{Value}
use Rattle.mf_resolve.specs.Gathering.{Adds, Advances, Gathers, Gives, GivesMarkup, expression_at, is_earlier, variable_at}
use Rattle.mf_resolve.specs.Resolving.{Evaluates, ResolvesOptions, ScopeState, Stands, Steps, Uses, behind_at, bound_below, bound_of, expression_below, is_free, with_error}
use Rattle.mf_resolve.specs.Settings.{named_options, no_settings, settings_from}
use Rattle.mf_resolve.specs.Sources.{source_value}
use Rattle.mf_resolve.specs.declared.markup.MarkupValue.{MarkupValue}
use Rattle.mf_resolve.specs.declared.settings.Settings.{Settings}
use Rattle.mf_resolve.specs.declared.variable.Source.{Source}
use Rattle.mf_resolve.proofs.Adding.{all_added, all_from, and_both, firsts_append, same_node}
use Rattle.mf_resolve.proofs.Binding.{bound_all}
use Rattle.mf_resolve.proofs.Calling.{id_is, named_are}
use Rattle.mf_resolve.proofs.Declaring.{all_below, is_declared, outside_bound, stands_below}
use Rattle.mf_resolve.proofs.Own.{AreDistinct, distinct_added}
use Rattle.mf_resolve.proofs.OwnErrors.{expression_distinct, options_distinct, variable_distinct}
use Rattle.mf_resolve.proofs.Steps.{owned, told}
use Rattle.mf_resolve.proofs.Tracing.{expression_holds, of_bound, options_hold, variable_holds}

-- the errors so far stand at no later call
earlier_apart : (count : ℕ) (node : Node) → is_earlier count node ≡ true → is_same_node node (of_call count) ≡ false
earlier_apart count (of_declaration place) is = refl
earlier_apart count (of_call number) is = elim (cases_Bool (is_same_node (of_call number) (of_call count))) [
  | inl same ↦
      let equal = eqb-true number count same in
      let less = ltb-true number count is in
      absurd (omega arith)
  | inr apart ↦ apart
]

free_call : (count : ℕ) (faults : List Placed) → list_all (λ (fault : Placed). is_earlier count fault.node) faults ≡ true → is_free (of_call count) faults ≡ true
free_call count faults is =
    all_from (λ (fault : Placed). is_earlier count fault.node) (λ (fault : Placed). not (is_same_node fault.node (of_call count)))
    (λ fault earlier. ap not (earlier_apart count fault.node earlier)) faults is

earlier_more : (count : ℕ) (node : Node) → is_earlier count node ≡ true → is_earlier (count + 1) node ≡ true
earlier_more count (of_declaration place) is = refl
earlier_more count (of_call number) is = let less = ltb-true number count is in lt-ltb number (count + 1) (omega arith)

declared_earlier : (limit count : ℕ) (node : Node) → is_declared limit node ≡ true → is_earlier count node ≡ true
declared_earlier limit count (of_declaration place) is = refl
declared_earlier limit count (of_call number) is = cc

bound_earlier : (limit count : ℕ) (bound : List Bound) → of_bound (stands_below limit) bound ≡ true → of_bound (λ fault. is_earlier count fault.node) bound ≡ true
bound_earlier limit count bound is =
    all_from (λ (variable : Bound). list_all (stands_below limit) variable.trace.faults) (λ (variable : Bound). list_all (λ (fault : Placed). is_earlier count fault.node) variable.trace.faults)
    (λ variable. all_from (stands_below limit) (λ (fault : Placed). is_earlier count fault.node) (λ fault. declared_earlier limit count fault.node) variable.trace.faults) bound is

-- what a call is handed is gathered at its own place, where its own errors are distinct
advances_of : (meaning : Meaning) (old new : ScopeState) (traced : Node → List Placed) (Says : Node → Type 0) → Steps meaning (length old.declarations) old new traced Says →
    ((count : ℕ) → AreDistinct (of_call count) (traced (of_call count))) →
    ((count : ℕ) → list_all (λ (fault : Placed). is_earlier (count + 1) fault.node) (traced (of_call count)) ≡ true) →
    Advances meaning old new (after_call traced)
advances_of meaning old new traced Says steps distinct earlier = record {
  arguments = steps.keeps.arguments;
  declarations = steps.keeps.declarations;
  gathers = λ calls gathers.
      let node : Node = of_call calls.count in
      let faults : List Placed = traced node in
      let added : behind_at node (firsts calls.joined) faults ≡ firsts (calls.joined ++ faults) =
      distinct_added node faults (firsts calls.joined) (free_call calls.count (firsts calls.joined) gathers.counted) (distinct calls.count)
      ∙ sym (firsts_append calls.joined faults []) in
      let stands : Stands meaning new (length new.declarations) (firsts (calls.joined ++ faults)) =
      subst (λ limit. Stands meaning new limit (firsts (calls.joined ++ faults))) (ap length (sym steps.keeps.declarations))
      (subst (Stands meaning new (length old.declarations)) added (steps.stands node (firsts calls.joined) tt gathers.stands)) in
      record {
        faults = stands.listed;
        stands = stands;
        counted = subst (λ all. list_all (λ (fault : Placed). is_earlier (calls.count + 1) fault.node) all ≡ true) added
            (all_added node (λ fault. is_earlier (calls.count + 1) fault.node) faults (firsts calls.joined)
            (all_from (λ (fault : Placed). is_earlier calls.count fault.node) (λ (fault : Placed). is_earlier (calls.count + 1) fault.node) (λ fault. earlier_more calls.count fault.node) (firsts calls.joined) gathers.counted)
            (earlier calls.count));
      };
}

-- what is evaluated there
gives_of : (meaning : Meaning) (old new : ScopeState) (traced : Node → Trace) (value : Value) → Evaluates meaning (length old.declarations) old new traced value →
    ((count : ℕ) → AreDistinct (of_call count) (traced (of_call count)).faults) →
    ((count : ℕ) → list_all (λ (fault : Placed). is_earlier (count + 1) fault.node) (traced (of_call count)).faults ≡ true) →
    Gives meaning old new traced value
gives_of meaning old new traced value evaluates distinct earlier = record {
  advances = advances_of meaning old new (λ node. (traced node).faults) (λ node. value ≡ (traced node).value) evaluates distinct earlier;
  value_is = λ calls gathers. evaluates.says (of_call calls.count) (firsts calls.joined) tt gathers.stands;
}

own_earlier : (count : ℕ) → is_earlier (count + 1) (of_call count) ≡ true
own_earlier count = lt-ltb count (count + 1) (omega arith)

-- an error that is added
pub adds : (old : ScopeState) (fault : Fault) → Adds old (with_error old fault) fault
adds old fault meaning =
    advances_of meaning old (with_error old fault) (added fault) (λ node. Unit {0})
    (owned meaning (length old.declarations) old (fault ∷ []) (added fault) (λ node. Unit {0})
    (λ node. and_both _ _ (same_node node) refl) (λ node. refl) (λ node. tt))
    (λ count. ((λ own. refl), tt))
    (λ count. and_both _ _ (own_earlier count) refl)

module _ (meaning : Meaning) (old new : ScopeState) where
  abbrev limit : ℕ
  limit = length old.declarations

  abbrev bound : List Bound
  bound = bound_below meaning old limit

  all_is : bound ≡ bound_of meaning old
  all_is = bound_all meaning old.arguments old.declarations

  below : of_bound (stands_below limit) bound ≡ true
  below = all_below meaning old.arguments old.declarations limit

  -- an expression
  pub expression_gives : (expression : Expression) (value : Value) → Evaluates meaning limit old new (expression_below meaning limit limit old expression) value →
      Gives meaning old new (expression_at meaning old expression) value
  expression_gives expression value evaluates =
      subst (λ (b : List Bound). Gives meaning old new (λ node. expression_under meaning old.arguments b b node expression) value) all_is
      (gives_of meaning old new (expression_below meaning limit limit old expression) value evaluates
      (λ count. let free = outside_bound limit (of_call count) bound tt below in expression_distinct (of_call count) meaning old.arguments bound bound free free expression)
      (λ count. let early = bound_earlier limit (count + 1) bound below in
      expression_holds (λ fault. is_earlier (count + 1) fault.node) (of_call count) (λ spot kind of. own_earlier count) meaning old.arguments bound bound expression early early))

  -- a variable
  pub variable_gives : (name : Name) (found : Source) (value : Value) → Uses meaning limit limit old new name at_operand found →
      ((known : Value) → source_value meaning.direction new.resolved name found ≡ Some known → value ≡ known) →
      Gives meaning old new (variable_at meaning old name) value
  variable_gives name found value uses is =
      subst (λ (b : List Bound). Gives meaning old new (λ node. variable_trace meaning old.arguments b node at_operand name) value) all_is
      (gives_of meaning old new (λ node. variable_trace meaning old.arguments bound node at_operand name) value
      (told meaning limit old new (λ node. (variable_trace meaning old.arguments bound node at_operand name).faults)
      (λ node. source_value meaning.direction new.resolved name found ≡ Some (variable_value meaning old.arguments bound name))
      (λ node. value ≡ variable_value meaning old.arguments bound name)
      (λ node says. is (variable_value meaning old.arguments bound name) says) uses)
      (λ count. let free = outside_bound limit (of_call count) bound tt below in variable_distinct (of_call count) meaning old.arguments bound free at_operand name)
      (λ count. let early = bound_earlier limit (count + 1) bound below in
      variable_holds (λ fault. is_earlier (count + 1) fault.node) (of_call count) (λ spot kind of. own_earlier count) meaning old.arguments bound at_operand name early))

  -- markup
  abbrev options_at : Markup → Node → List Optioned
  options_at markup node = option_traces meaning old.arguments of_markup (bound_of meaning old) node markup.options

  pub markup_gives : (markup : Markup) (settings : Settings) (value : MarkupValue) → ResolvesOptions meaning limit old new false markup.options settings →
      value.options ≡ named_options settings.given → value.id ≡ settings.id → GivesMarkup meaning old new markup value
  markup_gives markup settings value resolves options_is id_is_too =
      let Says : Node → Type 0 = λ node. settings ≡ settings_from no_settings (options_at markup node) in
      let everywhere : of_bound (stands_below limit) (bound_of meaning old) ≡ true = subst (λ (b : List Bound). of_bound (stands_below limit) b ≡ true) all_is below in
      let steps : Steps meaning limit old new (λ node. option_faults (options_at markup node)) Says =
      subst (λ (b : List Bound). Steps meaning limit old new
      (λ node. option_faults (option_traces meaning old.arguments of_markup b node markup.options))
      (λ node. settings ≡ settings_from no_settings (option_traces meaning old.arguments of_markup b node markup.options))) all_is resolves in
      let says : (calls : Calls) → Gathers meaning old calls → Says (of_call calls.count) =
      λ calls gathers. steps.says (of_call calls.count) (firsts calls.joined) tt gathers.stands in
      record {
        advances = advances_of meaning old new (λ node. option_faults (options_at markup node)) Says steps
            (λ count. options_distinct (of_call count) meaning old.arguments (bound_of meaning old) (outside_bound limit (of_call count) (bound_of meaning old) tt everywhere) of_markup markup.options)
            (λ count. options_hold (λ fault. is_earlier (count + 1) fault.node) (of_call count) (λ spot kind of. own_earlier count) meaning old.arguments of_markup (bound_of meaning old) 0 markup.options
            (bound_earlier limit (count + 1) (bound_of meaning old) everywhere));
        options_are = λ calls gathers. options_is ∙ named_are settings (options_at markup (of_call calls.count)) (says calls gathers);
        id_is = λ calls gathers. id_is_too ∙ id_is settings (options_at markup (of_call calls.count)) (says calls gathers);
      }
