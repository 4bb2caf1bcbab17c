use Rattle.std.proofs.Common.{refl, subst}
use Rattle.mf_core.specs.Kept.{board_world}
use Rattle.mf_core.specs.Steps.{row}
use Rattle.mf_core.specs.declared.event.Event.TheVariants.{Leave}
use Rattle.mf_turn.specs.Account.{Leaves}
use Rattle.mf_hub.specs.Stores.{account_of, Stored}
use Rattle.mf_hub.proofs.Accounts.{leaves, stored}
use Rattle.mf_hub.proofs.Storing.{stored_still}
use Rattle.mf_hub.proofs.store.Store.leave.Goals as goal

pub invariant_of-self : goal.invariant_of-self
invariant_of-self c = let s = c.self.inside in
    stored_still s.board c.leave.new.self s.newest s.given c.self.invariant c.leave.ensures.kept c.leave.ensures.plans
    (row (board_world s.board) (Leave c.args.caller)).1 c.leave.ensures.step.changes refl refl

pub returns-clause-leaves : goal.returns-clause-leaves
returns-clause-leaves c = let s = c.self.inside in let n = c.args.caller in
    subst (λ (z : Stored). Leaves n (account_of z) (account_of (stored c.leave.new.self s.given))) c.self.view_is
    (leaves (stored s.board s.given) (stored c.leave.new.self s.given) n _ c.leave.ensures.step refl)
