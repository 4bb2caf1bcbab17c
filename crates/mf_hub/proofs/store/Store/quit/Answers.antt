use Rattle.std.proofs.Common.{◌≡◌, Some, None, sym, subst, arith}
use Rattle.mf_turn.specs.Account.{Changes}
use Rattle.mf_hub.specs.Stores.{account_of, world_of, Stored}
use Rattle.mf_hub.proofs.Accounts.{stored}
use Rattle.mf_hub.proofs.Claims.{gives_back}
use Rattle.mf_hub.proofs.Storing.{stored_quit}
use Rattle.mf_hub.proofs.store.Store.quit.Goals as goal

pub invariant_of-self : goal.invariant_of-self
invariant_of-self c = let s = c.self.inside in let n = c.args.caller in let ticket = c.args.ticket in
    let claim = subst (λ (z : Stored). ((world_of z).caller n).claim ≡ Some ticket) (sym c.self.view_is) c.requires.claim in
    stored_quit s.board c.quit.new.self s.newest s.given n ticket.0 ticket.1 c.self.invariant c.quit.ensures.kept _ c.saturating_add-self-inside.result
    c.quit.ensures.plans claim c.quit.ensures.step (λ few. let h = c.saturating_add-self-inside.ensures in grind (arith, h, few))

pub returns-clause-quits : goal.returns-clause-quits
returns-clause-quits c = let s = c.self.inside in let n = c.args.caller in
    let claim = subst (λ (z : Stored). ((world_of z).caller n).claim ≡ Some c.args.ticket) (sym c.self.view_is) c.requires.claim in
    let after = c.saturating_add-self-inside.result in
    subst (λ (z : Stored). Changes n ((world_of z).caller n).pinned None 1 (account_of z) (account_of (stored c.quit.new.self after))) c.self.view_is
    (gives_back (stored s.board s.given) (stored c.quit.new.self after) n c.args.ticket _ c.self.invariant.kept.valid claim c.quit.ensures.step
    (let h = c.saturating_add-self-inside.ensures in grind (arith, h)))
