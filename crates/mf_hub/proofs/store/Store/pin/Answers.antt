use Rattle.std.proofs.Common.{◌≡◌, refl, sym, subst, None, Some}
use Rattle.mf_core.specs.Kept.{board_world}
use Rattle.mf_core.specs.Steps.{row}
use Rattle.mf_core.specs.declared.event.Event.TheVariants.{Pin}
use Rattle.mf_turn.specs.Account.{Changes}
use Rattle.mf_hub.specs.Stores.{account_of, world_of, Stored}
use Rattle.mf_hub.proofs.Accounts.{pins, stored}
use Rattle.mf_hub.proofs.Storing.{stored_still}
use Rattle.mf_hub.proofs.store.Store.pin.Goals as goal

pub invariant_of-self : goal.invariant_of-self
invariant_of-self c = let s = c.self.inside in
    stored_still s.board c.pin.new.self s.newest s.given c.self.invariant c.pin.ensures.kept c.pin.ensures.plans
    (row (board_world s.board) (Pin c.args.caller)).1 c.pin.ensures.step.changes refl refl

pub returns-clause-pins : goal.returns-clause-pins
returns-clause-pins c = let s = c.self.inside in let n = c.args.caller in
    let free = subst (λ (z : Stored). ((world_of z).caller n).claim ≡ None) (sym c.self.view_is) c.requires.free in
    subst (λ (z : Stored). Changes n (Some c.pin.result) None 0 (account_of z) (account_of (stored c.pin.new.self s.given))) c.self.view_is
    (pins (stored s.board s.given) (stored c.pin.new.self s.given) n c.pin.result c.pin.ensures.step refl free)
