use Rattle.std.proofs.Common.{◌≡◌, sym, subst}
use Rattle.mf_resolve.specs.Gathering.{Adds}
use Rattle.mf_resolve.specs.Resolving.{ScopeState, with_error}
use Rattle.mf_resolve.proofs.Giving.{adds}
use Rattle.mf_resolve.proofs.Using.{ok_map}
use Rattle.mf_resolve.proofs.scope.Scope.add.Goals as goal

pub returns : goal.returns
returns c =
    let old = c.args.self.now in
    let new = c.push_fault.new.self in
    ok_map (λ done. new ≡ with_error old c.args.fault) (λ done. Adds old new c.args.fault) c.push_fault.result
    (λ done is. subst (λ (end : ScopeState). Adds old end c.args.fault) (sym is) (adds old c.args.fault))
    c.push_fault.ensures
