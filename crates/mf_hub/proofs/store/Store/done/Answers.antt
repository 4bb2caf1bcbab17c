use Rattle.std.proofs.Common.{◌≡◌, Some, None, refl, sym, subst}
use Rattle.std.specs.Arc.{arc_value}
use Rattle.mf_edition.specs.Edition.{edition_of}
use Rattle.mf_turn.specs.Account.{Changes}
use Rattle.mf_hub.specs.Desks.{IsPlanAt}
use Rattle.mf_hub.specs.Stores.{account_of, world_of, Stored}
use Rattle.mf_hub.proofs.Accounts.{stored}
use Rattle.mf_hub.proofs.Claims.{finishes}
use Rattle.mf_hub.proofs.Storing.{claim_within, stored_done}
use Rattle.mf_hub.proofs.store.Store.done.Goals as goal

pub invariant_of-self : goal.invariant_of-self
invariant_of-self c = let s = c.self.inside in let n = c.args.caller in let spent = c.args.spent in
    let claim = subst (λ (z : Stored). ((world_of z).caller n).claim ≡ Some spent) (sym c.self.view_is) c.requires.claim in
    let plan = subst (λ (z : Stored). IsPlanAt (edition_of (world_of z).log spent.0) spent.1 (arc_value c.args.plan)) (sym c.self.view_is) c.requires.plan in
    stored_done s.board c.done.new.self s.newest s.given n spent.0 spent.1 c.self.invariant c.done.ensures.kept c.args.plan _ c.done.ensures.plans
    claim c.done.ensures.step (claim_within s.board n spent c.self.invariant.kept.valid claim) plan

pub returns-clause-done : goal.returns-clause-done
returns-clause-done c = let s = c.self.inside in let n = c.args.caller in
    let claim = subst (λ (z : Stored). ((world_of z).caller n).claim ≡ Some c.args.spent) (sym c.self.view_is) c.requires.claim in
    subst (λ (z : Stored). Changes n ((world_of z).caller n).pinned None 0 (account_of z) (account_of (stored c.done.new.self s.given))) c.self.view_is
    (finishes (stored s.board s.given) (stored c.done.new.self s.given) n c.args.spent _ c.self.invariant.kept.valid claim c.done.ensures.step refl)
