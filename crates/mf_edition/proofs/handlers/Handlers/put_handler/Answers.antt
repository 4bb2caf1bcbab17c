use Rattle.std.proofs.Common.{◌≡◌, set, ◌∙◌, subst, sym}
use Rattle.std.specs.List.{insert}
use Rattle.mf_edition.specs.Handlers.{put_handler, AreInNameOrder, IsHandlerAt, IsHandlerGap}
use Rattle.mf_edition.specs.declared.handler.Handler.{Handler}
use Rattle.mf_edition.proofs.HandlerSearch.{ascending_put, put_between, put_there}
use Rattle.mf_edition.proofs.handlers.Handlers.put_handler.Goals as goal
use Rattle.mf_edition.proofs.handlers.Handlers.put_handler.Goals.{After-search}

-- the search is for the name of the new handler
there : (c : After-search) (at : _) → IsHandlerAt c.deref.result.now c.as_handler.result.now.name at
    → set c.self.inside.by_name.items at c.in_ok-new.new ≡ put_handler c.self.inside.by_name.items c.in_ok-new.new
there c at found =
    put_there c.self.inside.by_name.items c.in_ok-new.new at
    (subst (λ handlers. IsHandlerAt handlers c.in_ok-new.new.name at) c.deref.ensures.value
    (subst (λ (handler : Handler). IsHandlerAt c.deref.result.now handler.name at) c.as_handler.ensures found))

between : (c : After-search) (at : _) → IsHandlerGap c.deref.result.now c.as_handler.result.now.name at
    → insert c.self.inside.by_name.items at c.in_ok-new.new ≡ put_handler c.self.inside.by_name.items c.in_ok-new.new
between c at gap =
    put_between c.self.inside.by_name.items c.in_ok-new.new at
    (subst (λ handlers. IsHandlerGap handlers c.in_ok-new.new.name at) c.deref.ensures.value
    (subst (λ (handler : Handler). IsHandlerGap c.deref.result.now handler.name at) c.as_handler.ensures gap))

pub returns-in-Ok-clause-ok : goal.returns-in-Ok-clause-ok
returns-in-Ok-clause-ok c =
    there (goal.at.returns-in-Ok-clause-ok c).After-search c.in-Ok.at c.in-Ok.ensures
    ∙ λ i. put_handler (c.self.view_is i) (c.in_ok-new.ensures.cases i)

pub returns-in_ok-insert-in-Err-clause-ok : goal.returns-in_ok-insert-in-Err-clause-ok
returns-in_ok-insert-in-Err-clause-ok c =
    c.in_ok-insert-in-Err.ensures.items
    ∙ between (goal.at.returns-in_ok-insert-in-Err-clause-ok c).After-search c.in-Err.at c.in-Err.ensures
    ∙ λ i. put_handler (c.self.view_is i) (c.in_ok-new.ensures.cases i)

pub invariant_of-self : goal.invariant_of-self
invariant_of-self c =
    subst (λ handlers. AreInNameOrder handlers) (sym (there (goal.at.invariant_of-self c).After-search c.in-Ok.at c.in-Ok.ensures))
    (ascending_put c.in_ok-new.new c.self.inside.by_name.items c.self.invariant)

pub invariant_of-self-in-Continue-branch-2 : goal.invariant_of-self-in-Continue-branch-2
invariant_of-self-in-Continue-branch-2 c =
    subst (λ handlers. AreInNameOrder handlers)
    (sym (c.in_ok-insert-in-Err.ensures.items
    ∙ between (goal.at.invariant_of-self-in-Continue-branch-2 c).After-search c.in-Err.at c.in-Err.ensures))
    (ascending_put c.in_ok-new.new c.self.inside.by_name.items c.self.invariant)
