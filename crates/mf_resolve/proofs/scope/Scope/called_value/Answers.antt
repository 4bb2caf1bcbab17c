use Rattle.std.proofs.Common.{ap, ◌∙◌}
use Rattle.mf_resolve.specs.Refusals.{refused_errors}
use Rattle.mf_resolve.specs.Resolving.{ScopeState, with_errors}
use Rattle.mf_resolve.proofs.Calling.{ends_some}
use Rattle.mf_resolve.proofs.scope.Scope.called_value.Goals as goal

pub returns-in_ok-add_refusals-in-Some : goal.returns-in_ok-add_refusals-in-Some
returns-in_ok-add_refusals-in-Some c =
    let view : ScopeState = record {
      arguments = c.self.inside.arguments.now;
      declarations = c.self.inside.declarations.now;
      resolved = c.self.inside.resolved.items;
      faults = c.self.inside.faults;
    } in
    let errors = refused_errors c.args.called.faults c.args.settings.given in
    ends_some c.args.expression.now c.args.self.now _ c.args.settings c.args.called c.in-Some.value c.put_on.result c.in-Some.is
    (ap (λ faults. record view { faults = faults }) c.in_ok-add_refusals-in-Some.ensures ∙ ap (λ s. with_errors s errors) c.self.view_is)
    c.put_on.ensures
