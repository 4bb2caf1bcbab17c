use Rattle.std.proofs.Common.{refl, subst}
use Rattle.mf_turn.specs.Account.{Joins}
use Rattle.mf_hub.specs.Stores.{account_of, Stored}
use Rattle.mf_hub.proofs.Accounts.{joins, stored}
use Rattle.mf_hub.proofs.Storing.{stored_joined}
use Rattle.mf_hub.proofs.store.Store.join.Goals as goal
use Rattle.mf_hub.proofs.store.Store.join.Goals.{in-Ok, in-Err-CallersFull, in-Err}

pub invariant_of-self : goal.invariant_of-self
invariant_of-self c = let s = c.self.inside in
    stored_joined s.board c.join.new.self s.newest s.given c.next_caller-number.result c.join.result c.self.invariant c.join.ensures.kept c.join.ensures.plans
    c.join.ensures.does

pub returns-clause-joins : goal.returns-clause-joins
returns-clause-joins c = let s = c.self.inside in elim c.match-join.branch [
  | in-Ok w ↦ rw w.result-is (subst (λ (z : Stored). Joins (account_of z) (account_of (stored c.join.new.self s.given))) c.self.view_is
      (joins (stored s.board s.given) (stored c.join.new.self s.given) c.next_caller-number.result _ c.next_caller-number.ensures w.in-Ok.ensures.does refl))
  | in-Err-CallersFull w ↦ rw w.result-is tt
  | in-Err w ↦ rw w.result-is tt
]
