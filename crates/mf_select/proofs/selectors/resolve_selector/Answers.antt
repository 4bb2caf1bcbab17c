use Rattle.std.proofs.Common.{sym, subst, ◌∙◌}
use Rattle.mf_resolve.specs.Resolving.{ScopeState}
use Rattle.mf_select.specs.Stepping.{ResolvesSelector}
use Rattle.mf_select.proofs.Advancing.{selector_bad, selector_good}
use Rattle.mf_select.proofs.selectors.resolve_selector.Goals as goal
use Rattle.mf_select.proofs.selectors.resolve_selector.Goals.{then-selects_nothing+in_ok-variable_text+in_ok-add, else-selects_nothing}

pub returns : goal.returns
returns g c =
    let meaning = g.F.Functions.meaning c.args.functions.now in
    let old = c.args.scope.now in
    let mid = c.resolve_variable.new.self in
    let name = c.args.name.now in
    let value = c.in_ok-value.value in
    elim c.if-selects_nothing.branch [
      | then-selects_nothing+in_ok-variable_text+in_ok-add w ↦
          subst (λ (new : ScopeState). ResolvesSelector meaning old new name value) (sym w.scope-is)
          (selector_bad meaning old mid name value c.in_ok-value.ensures w.add.new.self w.in_ok-variable_text.field-0 w.in_ok-variable_text.ensures
          (sym c.selects_nothing.ensures ∙ w.if-selects_nothing.true) w.in_ok-add.ensures)
      | else-selects_nothing w ↦
          subst (λ (new : ScopeState). ResolvesSelector meaning old new name value) (sym w.scope-is)
          (selector_good meaning old mid name value c.in_ok-value.ensures (sym c.selects_nothing.ensures ∙ w.if-selects_nothing.false))
    ]
