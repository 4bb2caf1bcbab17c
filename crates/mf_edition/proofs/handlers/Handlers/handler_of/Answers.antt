use Rattle.std.proofs.Common.{Some, ap, sym, subst, ◌∙◌}
use Rattle.mf_edition.specs.Handlers.{handler_of, IsHandlerAt, IsHandlerGap}
use Rattle.mf_edition.specs.declared.handler.Handler.{Handler}
use Rattle.mf_edition.proofs.HandlerSearch.{def_none, def_there}
use Rattle.mf_edition.proofs.handlers.Handlers.handler_of.Goals as goal

pub returns-in-Ok : goal.returns-in-Ok
returns-in-Ok c =
    let handlers = c.self.inside.by_name.items in
    let found = subst (λ handlers. IsHandlerAt handlers c.args.name.now c.in-Ok.at) c.deref.ensures.value c.in-Ok.ensures in
    ap (λ (handler : Handler). Some handler.def) (c.as_handler.ensures ∙ c.index.ensures)
    ∙ sym (def_there handlers c.args.name.now c.in-Ok.at _ found)
    ∙ ap (λ handlers. handler_of handlers c.args.name.now) c.self.view_is

pub returns-in-Err : goal.returns-in-Err
returns-in-Err c =
    let gap = subst (λ handlers. IsHandlerGap handlers c.args.name.now c.in-Err.field-0) c.deref.ensures.value c.in-Err.ensures in
    sym (def_none c.self.inside.by_name.items c.args.name.now c.in-Err.field-0 gap)
    ∙ ap (λ handlers. handler_of handlers c.args.name.now) c.self.view_is
