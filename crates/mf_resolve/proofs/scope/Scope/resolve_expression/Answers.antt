use Rattle.std.proofs.Common.{length, subst}
use Rattle.mf_resolve.specs.Gathering.{Gives, expression_at}
use Rattle.mf_resolve.specs.Resolving.{Evaluates, ScopeState, expression_below}
use Rattle.mf_resolve.proofs.Giving.{expression_gives}
use Rattle.mf_resolve.proofs.Using.{ok_map}
use Rattle.mf_resolve.proofs.scope.Scope.resolve_expression.Goals as goal

pub returns : goal.returns
returns g c =
    let meaning = g.F.Functions.meaning c.args.functions.now in
    let old = c.args.self.now in
    let new = c.expression_under.new.self in
    let expression = c.args.expression.now in
    let limit = length c.self.inside.declarations.now in
    ok_map (Evaluates meaning limit old new (expression_below meaning limit limit old expression)) (Gives meaning old new (expression_at meaning old expression)) c.expression_under.result
    (λ value evaluates.
    expression_gives meaning old new expression value
    (subst (λ (s : ScopeState). Evaluates meaning (length s.declarations) old new (expression_below meaning (length s.declarations) (length s.declarations) old expression) value) c.self.view_is evaluates))
    c.expression_under.ensures
