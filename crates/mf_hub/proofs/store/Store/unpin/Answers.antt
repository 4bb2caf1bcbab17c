use Rattle.std.proofs.Common.{◌≡◌, refl, sym, subst, None}
use Rattle.mf_core.specs.Kept.{board_world}
use Rattle.mf_core.specs.Steps.{row}
use Rattle.mf_core.specs.declared.event.Event.TheVariants.{Unpin}
use Rattle.mf_turn.specs.Account.{Changes}
use Rattle.mf_hub.specs.Stores.{account_of, world_of, Stored}
use Rattle.mf_hub.proofs.Accounts.{unpins, stored}
use Rattle.mf_hub.proofs.Storing.{stored_still}
use Rattle.mf_hub.proofs.store.Store.unpin.Goals as goal

pub invariant_of-self : goal.invariant_of-self
invariant_of-self c = let s = c.self.inside in
    stored_still s.board c.unpin.new.self s.newest s.given c.self.invariant c.unpin.ensures.kept c.unpin.ensures.plans
    (row (board_world s.board) (Unpin c.args.caller)).1 c.unpin.ensures.step.changes refl refl

pub returns-clause-unpins : goal.returns-clause-unpins
returns-clause-unpins c = let s = c.self.inside in let n = c.args.caller in
    let free = subst (λ (z : Stored). ((world_of z).caller n).claim ≡ None) (sym c.self.view_is) c.requires.free in
    subst (λ (z : Stored). Changes n None None 0 (account_of z) (account_of (stored c.unpin.new.self s.given))) c.self.view_is
    (unpins (stored s.board s.given) (stored c.unpin.new.self s.given) n _ c.unpin.ensures.step refl free)
