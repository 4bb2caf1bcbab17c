use Rattle.std.proofs.lemmas.List.{take_more}
use Rattle.std.proofs.lemmas.Option.{slice_get_read}
use Rattle.std.proofs.Common.{◌≡◌, ◌<◌, ◌+◌, ◌++◌, true, Some, None, [], ◌∷◌, length, set, slice_get, take, refl, sym, ap, subst, ◌∙◌, arith}
use Rattle.mf_value.specs.Traces.{at_operand, at_option, argument_value, fallback, option_outcome, plain_text}
use Rattle.mf_resolve.specs.Resolving.{Evaluates, IsThere, ResolvesOperand, ResolvesOption, ResolvesOptions, ScopeState, Uses, call_below, declared_below, expression_below, operand_of}
use Rattle.mf_resolve.specs.Settings.{Takes, owner_of}
use Rattle.mf_resolve.specs.Sources.{source_value}
use Rattle.mf_resolve.specs.declared.expression.Resolved.TheVariants as resolved
use Rattle.mf_resolve.specs.declared.variable.Source.TheVariants as source
use Rattle.mf_resolve.proofs.Calling.{call_known, call_unknown}
use Rattle.mf_resolve.proofs.Evaluating.{evaluated_call, evaluated_fallback, evaluated_operand, held_operand, literal_operand, made_operand}
use Rattle.mf_resolve.proofs.Optioning.{one_refused, one_taken, option_used}
use Rattle.mf_resolve.proofs.Binding.{member_at}
use Rattle.mf_resolve.proofs.Declaring.{declared_same, resolved_before, resolved_now}
use Rattle.mf_resolve.proofs.Using.{HasSource, declared_before, front_length, none_of, ok_map, set_at, set_other, some_of, use_argument, use_declared, use_nothing}
use Rattle.mf_resolve.proofs.scope.Scope.+resolving.Goals as goal
use Rattle.mf_resolve.proofs.scope.Scope.+resolving.Goals.{use_variable-in-Declared+in_ok-resolve_declaration-in-Declared, use_variable-in-Argument, use_variable-in-Nothing+in_ok-variable_text-in-Nothing+in_ok-push_fault-in-Nothing, resolve_options-then-not-branch+in_ok-identifier_text+in_ok-push_fault, resolve_options-else-not-branch}

pub expression_under-returns-then-is_fallback : goal.expression_under-returns-then-is_fallback
expression_under-returns-then-is_fallback g n c =
    evaluated_fallback (g.F.Functions.meaning c.args.functions.now) c.args.operand_limit c.args.limit c.args.self.now c.resolve_operand.new.self c.args.expression.now c.in_ok-operand.operand
    (c.in_ok-operand.ensures.resolved c.args.limit c.requires.operand) c.fallback.result
    (sym c.is_fallback.ensures ∙ c.if-is_fallback.true)
    (c.fallback.ensures ∙ ap fallback c.in_ok-fallback_source.ensures)

pub expression_under-returns-in-Some : goal.expression_under-returns-in-Some
expression_under-returns-in-Some g n c =
    let meaning = g.F.Functions.meaning c.args.functions.now in
    ok_map
    (Evaluates meaning c.args.limit c.resolve_operand.new.self c.resolve_call.new.self
    (call_below meaning c.args.limit c.resolve_operand.new.self c.args.expression.now c.in-Some.call (operand_of c.resolve_operand.new.self.resolved c.in_ok-operand.operand)))
    (Evaluates meaning c.args.limit c.args.self.now c.resolve_call.new.self (expression_below meaning c.args.operand_limit c.args.limit c.args.self.now c.args.expression.now))
    c.resolve_call.result
    (λ value evaluates.
    evaluated_call meaning c.args.operand_limit c.args.limit c.args.self.now c.resolve_operand.new.self c.args.expression.now c.in_ok-operand.operand
    (c.in_ok-operand.ensures.resolved c.args.limit c.requires.operand) c.resolve_call.new.self c.in-Some.call value
    (sym c.is_fallback.ensures ∙ c.if-is_fallback.false) c.in-Some.is evaluates)
    c.resolve_call.ensures

pub expression_under-returns-in-None : goal.expression_under-returns-in-None
expression_under-returns-in-None g n c =
    let meaning = g.F.Functions.meaning c.args.functions.now in
    ok_map _ _ c.operand_or_fallback.result
    (λ value is.
    evaluated_operand meaning c.args.operand_limit c.args.limit c.args.self.now c.resolve_operand.new.self c.args.expression.now c.in_ok-operand.operand
    (c.in_ok-operand.ensures.resolved c.args.limit c.requires.operand) value
    (sym c.is_fallback.ensures ∙ c.if-is_fallback.false) c.in-None.is is)
    c.operand_or_fallback.ensures

pub option_value-returns-in_ok-source-in-Variable : goal.option_value-returns-in_ok-source-in-Variable
option_value-returns-in_ok-source-in-Variable g n c =
    let meaning = g.F.Functions.meaning c.args.functions.now in
    ok_map _ _ c.source_text.result
    (λ text is place.
    subst (λ value. ResolvesOption meaning c.args.limit c.args.self.now c.use_variable.new.self value place text) (sym c.in-Variable.is)
    (option_used meaning c.args.limit c.args.self.now c.use_variable.new.self c.in-Variable.name place c.in_ok-source-in-Variable.source text
    (c.in_ok-source-in-Variable.ensures.used (at_option place) c.args.limit (omega arith)) is))
    c.source_text.ensures

pub resolve_call-returns-then-not-known : goal.resolve_call-returns-then-not-known
resolve_call-returns-then-not-known g n c =
    let meaning = g.F.Functions.meaning c.args.functions.now in
    subst (λ new. Evaluates meaning c.args.limit c.args.self.now new
    (call_below meaning c.args.limit c.args.self.now c.args.expression.now c.args.call.now (operand_of c.args.self.now.resolved c.args.operand.now)) c.fallback.result)
    (sym c.in_ok-push_fault.ensures)
    (call_unknown meaning c.args.limit c.args.self.now c.args.expression.now c.args.call.now (operand_of c.args.self.now.resolved c.args.operand.now)
    c.in_ok-function_source.field-0 c.fallback.result
    (sym c.known.ensures ∙ c.if-not-known.true)
    c.in_ok-function_source.ensures
    (c.fallback.ensures ∙ ap fallback c.in_ok-fallback_source.ensures))

pub resolve_call-returns : goal.resolve_call-returns
resolve_call-returns g n c =
    let meaning = g.F.Functions.meaning c.args.functions.now in
    let old = c.args.self.now in
    let operand = operand_of old.resolved c.args.operand.now in
    let held = held_operand c.args.limit old c.resolve_options.new.self c.args.operand.now c.in_ok-settings.ensures.keeps c.requires.held in
    ok_map _ _ c.called_value.result
    (λ value ends.
    call_known meaning c.args.limit old c.args.expression.now c.args.call.now operand c.resolve_options.new.self c.called_value.new.self c.in_ok-settings.settings c.in_ok-called.called value
    (sym c.known.ensures ∙ c.if-not-known.false)
    (subst (λ options. ResolvesOptions meaning c.args.limit old c.resolve_options.new.self true options c.in_ok-settings.settings) c.as_slice.ensures c.in_ok-settings.ensures)
    (c.in_ok-called.ensures ∙ ap (λ o. meaning.called c.args.call.now.name o c.in_ok-settings.settings.given) (c.operand_value.ensures ∙ held))
    ends)
    c.called_value.ensures

pub resolve_declaration-returns-then-is_some : goal.resolve_declaration-returns-then-is_some
resolve_declaration-returns-then-is_some g n c =
    let meaning = g.F.Functions.meaning c.args.functions.now in
    let old = c.args.self.now in
    let items = c.self.inside.resolved.items in
    let same : length old.resolved ≡ length old.declarations = subst (λ (s : ScopeState). length s.resolved ≡ length s.declarations) c.self.view_is c.self.invariant.1 in
    let within = c.requires.within in
    let read : slice_get old.resolved c.args.place ≡ Some c.index.result.now =
    subst (λ (s : ScopeState). c.args.place < length s.resolved → slice_get s.resolved c.args.place ≡ Some c.index.result.now) c.self.view_is
    (λ below. slice_get_read items (length items) c.args.place c.index.result.now refl below c.index.ensures) (omega arith) in
    let some = some_of c.index.result.now (sym c.is_some.ensures ∙ c.if-is_some.true) in
    let member = member_at old.declarations c.args.place within in
    record {
      kept = (some.0, read ∙ ap Some some.1);
      resolved = λ outer below. resolved_before meaning outer old c.args.place member.0 member.1 below some.0 (read ∙ ap Some some.1);
    }

pub resolve_declaration-returns : goal.resolve_declaration-returns
resolve_declaration-returns g n c =
    let meaning = g.F.Functions.meaning c.args.functions.now in
    let old = c.args.self.now in
    let place = c.args.place in
    let within = c.requires.within in
    let member = member_at old.declarations place within in
    let declaration = c.index-declarations-place.result in
    let items = c.self-2.inside.resolved.items in
    let value = c.in_ok-value.value in
    let view = c.self-2.view_is in
    let mid : ScopeState = record {
      arguments = c.self-2.inside.arguments.now;
      declarations = c.self-2.inside.declarations.now;
      resolved = items;
      faults = c.self-2.inside.faults;
    } in
    let evaluates : Evaluates meaning place old mid (declared_below meaning place old declaration) value =
    subst (λ end. Evaluates meaning place old end (declared_below meaning place old declaration) value) (sym view) c.in_ok-value.ensures in
    let kept_declarations = evaluates.keeps.declarations in
    let room = c.self-2.invariant.1 ∙ ap length kept_declarations in
    let inside : place < length items = omega arith in
    let old_items = c.self.inside.resolved.items in
    let same : length old.resolved ≡ length old.declarations = subst (λ (s : ScopeState). length s.resolved ≡ length s.declarations) c.self.view_is c.self.invariant.1 in
    let read : slice_get old.resolved place ≡ Some c.index.result.now =
    subst (λ (s : ScopeState). place < length s.resolved → slice_get s.resolved place ≡ Some c.index.result.now) c.self.view_is
    (λ below. slice_get_read old_items (length old_items) place c.index.result.now refl below c.index.ensures) (omega arith) in
    let empty : slice_get old.resolved place ≡ Some None = read ∙ ap Some (none_of c.index.result.now (sym c.is_some.ensures ∙ c.if-is_some.false)) in
    let here : slice_get old.declarations place ≡ Some declaration =
    subst (λ (s : ScopeState). place < length s.declarations → slice_get s.declarations place ≡ Some declaration) c.self.view_is
    (λ below. slice_get_read c.self.inside.declarations.now (length c.self.inside.declarations.now) place declaration refl below c.index-declarations-place.is) within in
    record {
      kept = (value, set_at items place (Some value) inside);
      resolved = λ outer below.
          resolved_now meaning outer old place declaration here below empty mid (record mid { resolved = set items place (Some value) }) (declared_below meaning place old declaration) value
          (declared_same meaning place old declaration) evaluates refl refl refl
          (set_at items place (Some value) inside) (λ other apart. set_other items place other (Some value) apart);
    }

pub resolve_operand-returns-in_ok-clone-in-Literal-clause-resolved : goal.resolve_operand-returns-in_ok-clone-in-Literal-clause-resolved
resolve_operand-returns-in_ok-clone-in-Literal-clause-resolved g n c =
    let meaning = g.F.Functions.meaning c.args.functions.now in
    λ outer le.
    subst (λ operand. ResolvesOperand meaning c.args.limit outer c.args.self.now c.args.self.now operand (resolved.Made c.plain_text.result)) (sym c.in-Literal.is)
    (literal_operand meaning c.args.limit outer c.args.self.now c.in-Literal.text c.plain_text.result (c.plain_text.ensures ∙ ap plain_text c.in_ok-clone-in-Literal.ensures.cases))

pub resolve_operand-returns-in-Declared-clause-resolved : goal.resolve_operand-returns-in-Declared-clause-resolved
resolve_operand-returns-in-Declared-clause-resolved g n c =
    let meaning = g.F.Functions.meaning c.args.functions.now in
    λ outer le.
    subst (λ operand. ResolvesOperand meaning c.args.limit outer c.args.self.now c.use_variable.new.self operand (resolved.Kept c.in-Declared.place)) (sym c.in-Variable.is)
    (subst (λ found. Uses meaning c.args.limit outer c.args.self.now c.use_variable.new.self c.in-Variable.name at_operand found) c.in-Declared.is
    (c.in_ok-place-in-Variable.ensures.used at_operand outer le))

pub resolve_operand-returns-in-Declared-clause-held : goal.resolve_operand-returns-in-Declared-clause-held
resolve_operand-returns-in-Declared-clause-held g n c = subst (IsThere c.use_variable.new.self.resolved) c.in-Declared.is c.in_ok-place-in-Variable.ensures.there

pub resolve_operand-returns-in_ok-argument_value-in-Argument-clause-resolved : goal.resolve_operand-returns-in_ok-argument_value-in-Argument-clause-resolved
resolve_operand-returns-in_ok-argument_value-in-Argument-clause-resolved g n c =
    let meaning = g.F.Functions.meaning c.args.functions.now in
    λ outer le.
    subst (λ operand. ResolvesOperand meaning c.args.limit outer c.args.self.now c.use_variable.new.self operand (resolved.Made c.in_ok-argument_value-in-Argument.field-0)) (sym c.in-Variable.is)
    (made_operand meaning c.args.limit outer c.args.self.now c.use_variable.new.self c.in-Variable.name c.in_ok-place-in-Variable.field-0 c.in_ok-argument_value-in-Argument.field-0
    (ap (source_value meaning.direction c.use_variable.new.self.resolved c.in-Variable.name) c.in-Argument.is
    ∙ ap (λ dir. Some (argument_value dir c.in-Argument.argued.now)) (sym c.direction.ensures)
    ∙ ap Some (sym c.in_ok-argument_value-in-Argument.ensures))
    (c.in_ok-place-in-Variable.ensures.used at_operand outer le))

pub resolve_operand-returns-in_ok-variable_text-in-Nothing-clause-resolved : goal.resolve_operand-returns-in_ok-variable_text-in-Nothing-clause-resolved
resolve_operand-returns-in_ok-variable_text-in-Nothing-clause-resolved g n c =
    let meaning = g.F.Functions.meaning c.args.functions.now in
    λ outer le.
    subst (λ operand. ResolvesOperand meaning c.args.limit outer c.args.self.now c.use_variable.new.self operand (resolved.Made c.fallback.result)) (sym c.in-Variable.is)
    (made_operand meaning c.args.limit outer c.args.self.now c.use_variable.new.self c.in-Variable.name c.in_ok-place-in-Variable.field-0 c.fallback.result
    (ap (source_value meaning.direction c.use_variable.new.self.resolved c.in-Variable.name) c.in-Nothing.is
    ∙ ap (λ text. Some (fallback text)) (sym c.in_ok-variable_text-in-Nothing.ensures)
    ∙ ap Some (sym c.fallback.ensures))
    (c.in_ok-place-in-Variable.ensures.used at_operand outer le))

pub resolve_options-loop-option-preserved : goal.resolve_options-loop-option-preserved
resolve_options-loop-option-preserved g n c =
    let meaning = g.F.Functions.meaning c.args.functions.now in
    let limit = c.args.limit in
    let old = c.args.self.now in
    let options = c.args.options.now in
    let i = c.loop-option.option-index in
    let before = take i options in
    let last = c.option-item.result in
    let place : i ≡ 0 + length before = front_length options i c.loop-option-test.true in
    let value = c.in_ok-text.ensures (0 + length before) in
    let more : take (i + 1) options ≡ before ++ last ∷ [] = take_more options i last c.loop-option-test.true ∙ ap (λ o. before ++ o ∷ []) (sym c.option-item.is) in
    subst (λ front. ResolvesOptions meaning limit old c.if-not-branch.self c.args.directs front c.take.new.self) (sym more)
    (elim c.if-not-branch.branch [
      | resolve_options-then-not-branch+in_ok-identifier_text+in_ok-push_fault w ↦
          subst (λ new. ResolvesOptions meaning limit old new c.args.directs (before ++ last ∷ []) c.take.new.self) (sym (w.self-is ∙ w.in_ok-push_fault.ensures))
          (one_refused meaning limit old c.args.directs before last c.loop-option.self c.option_value.new.self c.loop-option.settings c.in_ok-text.text c.loop-option.invariant value c.take.new.self
          w.in_ok-identifier_text.field-0 w.in_ok-identifier_text.ensures
          (subst (Takes c.loop-option.settings c.take.new.self (option_outcome (owner_of c.args.directs) last c.in_ok-text.text)) w.if-not-branch.true c.in_ok-take.ensures))
      | resolve_options-else-not-branch w ↦
          subst (λ new. ResolvesOptions meaning limit old new c.args.directs (before ++ last ∷ []) c.take.new.self) (sym w.self-is)
          (one_taken meaning limit old c.args.directs before last c.loop-option.self c.option_value.new.self c.loop-option.settings c.in_ok-text.text c.loop-option.invariant value c.take.new.self
          (subst (Takes c.loop-option.settings c.take.new.self (option_outcome (owner_of c.args.directs) last c.in_ok-text.text)) w.if-not-branch.false c.in_ok-take.ensures))
    ])

pub use_variable-returns-clause-used : goal.use_variable-returns-clause-used
use_variable-returns-clause-used g n c =
    let meaning = g.F.Functions.meaning c.args.functions.now in
    let inner = c.args.limit in
    let old = c.args.self.now in
    let name = c.args.name.now in
    let is = c.source-source.ensures in
    λ spot outer le.
    elim c.match-source.branch [
      | use_variable-in-Declared+in_ok-resolve_declaration-in-Declared w ↦
          let here = subst (HasSource meaning inner old name) w.in-Declared.is is in
          let below = declared_before meaning inner old name w.in-Declared.place here in
          subst (λ found. Uses meaning inner outer old c.match-source.self name spot found) (sym w.in-Declared.is)
          (subst (λ new. Uses meaning inner outer old new name spot (source.Declared w.in-Declared.place)) (sym w.self-is)
          (use_declared meaning inner old name outer w.resolve_declaration.new.self spot w.in-Declared.place here
          (w.in_ok-resolve_declaration-in-Declared.ensures.resolved outer (omega arith))))
      | use_variable-in-Argument w ↦
          let here = subst (HasSource meaning inner old name) w.in-Argument.is is in
          subst (λ found. Uses meaning inner outer old c.match-source.self name spot found) (sym w.in-Argument.is)
          (subst (λ new. Uses meaning inner outer old new name spot (source.Argument w.in-Argument.field-0)) (sym w.self-is)
          (use_argument meaning inner old name outer spot w.in-Argument.field-0 here))
      | use_variable-in-Nothing+in_ok-variable_text-in-Nothing+in_ok-push_fault-in-Nothing w ↦
          let here = subst (HasSource meaning inner old name) w.in-Nothing.is is in
          subst (λ found. Uses meaning inner outer old c.match-source.self name spot found) (sym w.in-Nothing.is)
          (subst (λ new. Uses meaning inner outer old new name spot source.Nothing) (sym (w.self-is ∙ w.in_ok-push_fault-in-Nothing.ensures))
          (use_nothing meaning inner old name outer spot w.in_ok-variable_text-in-Nothing.field-0 w.in_ok-variable_text-in-Nothing.ensures here))
    ]

pub use_variable-returns-clause-there : goal.use_variable-returns-clause-there
use_variable-returns-clause-there g n c =
    elim c.match-source.branch [
      | use_variable-in-Declared+in_ok-resolve_declaration-in-Declared w ↦
          subst (IsThere c.match-source.self.resolved) (sym w.in-Declared.is)
          (subst (λ (s : ScopeState). IsThere s.resolved (source.Declared w.in-Declared.place)) (sym w.self-is) w.in_ok-resolve_declaration-in-Declared.ensures.kept)
      | use_variable-in-Argument w ↦ subst (IsThere c.match-source.self.resolved) (sym w.in-Argument.is) tt
      | use_variable-in-Nothing+in_ok-variable_text-in-Nothing+in_ok-push_fault-in-Nothing w ↦ subst (IsThere c.match-source.self.resolved) (sym w.in-Nothing.is) tt
    ]
