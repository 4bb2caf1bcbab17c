use Rattle.std.proofs.Common.{◌≡◌, None, refl, sym, ap, subst, ◌∙◌}
use Rattle.std.specs.Option.{option_copied}
use Rattle.mf_text.specs.Arguments.{argument_named}
use Rattle.mf_resolve.specs.Resolving.{ScopeState}
use Rattle.mf_resolve.specs.Sources.{IsSource, Key, place_below, place_from}
use Rattle.mf_resolve.specs.declared.variable.Source.TheVariants as source
use Rattle.mf_resolve.proofs.Places.{below_none, below_past, source_argument, source_declared, source_nothing}
use Rattle.mf_resolve.proofs.scope.Scope.source.Goals as goal
use Rattle.mf_resolve.proofs.scope.Scope.source.Goals.{in_default-via-in-Some+else-place-limit, in_default-via-in_default}

pub returns-in-Some : goal.returns-in-Some
returns-in-Some c =
    let name = c.args.name.now in
    let key : Key = record { ref_ptr = (0, 0); now = name.value } in
    let found = sym (c.self.invariant.0.each name key refl) ∙ sym c.get.ensures.value ∙ ap option_copied c.in-Some.is in
    subst (λ (s : ScopeState). IsSource (place_below c.args.limit (place_from 0 name s.declarations)) (argument_named s.arguments name.value) (source.Declared c.in-Some.place.now)) c.self.view_is
    (source_declared c.args.limit (place_from 0 name c.self.inside.declarations.now) (argument_named c.self.inside.arguments.now name.value) c.in-Some.place.now found c.if-place-limit.true)

pub returns-in-Some-find : goal.returns-in-Some-find
returns-in-Some-find c =
    let name = c.args.name.now in
    let key : Key = record { ref_ptr = (0, 0); now = name.value } in
    let found = sym (c.self.invariant.0.each name key refl) ∙ sym c.get.ensures.value in
    let below : place_below c.args.limit (place_from 0 name c.self.inside.declarations.now) ≡ None = elim c.in_default.branch [
      | in_default-via-in-Some+else-place-limit w ↦ below_past c.args.limit _ w.in-Some.place.now (found ∙ ap option_copied w.in-Some.is) w.if-place-limit.false
      | in_default-via-in_default w ↦ below_none c.args.limit _ (found ∙ ap option_copied w.in_default.is)
    ] in
    subst (λ (s : ScopeState). IsSource (place_below c.args.limit (place_from 0 name s.declarations)) (argument_named s.arguments name.value) (source.Argument c.in-Some-find.argued)) c.self.view_is
    (source_argument _ _ c.in-Some-find.argued below (sym c.find.ensures.value ∙ ap option_copied c.in-Some-find.is))

pub returns-in-None : goal.returns-in-None
returns-in-None c =
    let name = c.args.name.now in
    let key : Key = record { ref_ptr = (0, 0); now = name.value } in
    let found = sym (c.self.invariant.0.each name key refl) ∙ sym c.get.ensures.value in
    let below : place_below c.args.limit (place_from 0 name c.self.inside.declarations.now) ≡ None = elim c.in_default.branch [
      | in_default-via-in-Some+else-place-limit w ↦ below_past c.args.limit _ w.in-Some.place.now (found ∙ ap option_copied w.in-Some.is) w.if-place-limit.false
      | in_default-via-in_default w ↦ below_none c.args.limit _ (found ∙ ap option_copied w.in_default.is)
    ] in
    subst (λ (s : ScopeState). IsSource (place_below c.args.limit (place_from 0 name s.declarations)) (argument_named s.arguments name.value) source.Nothing) c.self.view_is
    (source_nothing _ _ below (sym c.find.ensures.value ∙ ap option_copied c.in-None.is))
