use Rattle.std.proofs.Common.{length, subst, arith}
use Rattle.mf_value.specs.Traces.{at_operand}
use Rattle.mf_resolve.specs.Gathering.{Gives, variable_at}
use Rattle.mf_resolve.specs.Resolving.{ScopeState, Uses}
use Rattle.mf_resolve.proofs.Giving.{variable_gives}
use Rattle.mf_resolve.proofs.Using.{ok_map}
use Rattle.mf_resolve.proofs.scope.Scope.resolve_variable.Goals as goal

pub returns : goal.returns
returns g c =
    let meaning = g.F.Functions.meaning c.args.functions.now in
    let old = c.args.self.now in
    let new = c.use_variable.new.self in
    let name = c.args.name.now in
    let limit = length c.self.inside.declarations.now in
    let found = c.in_ok-source.source in
    let uses = subst (λ (s : ScopeState). Uses meaning (length s.declarations) (length s.declarations) old new name at_operand found) c.self.view_is (c.in_ok-source.ensures.used at_operand limit (omega arith)) in
    ok_map _ (Gives meaning old new (variable_at meaning old name)) c.source_value.result
    (λ value is. variable_gives meaning old new name found value uses is)
    c.source_value.ensures
