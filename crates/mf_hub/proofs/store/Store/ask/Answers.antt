use Rattle.std.proofs.Common.{◌≡◌, ◌∙◌, Some, refl, ap, sym, subst}
use Rattle.std.specs.Option.{option_copied}
use Rattle.std.specs.Prelude.{IfNone, IfOk, IfSome}
use Rattle.mf_core.specs.Steps.{Step}
use Rattle.mf_core.specs.declared.event.Event.TheVariants.{Ask}
use Rattle.mf_core.specs.Boards.{told_asked, TicketIs}
use Rattle.mf_flight.specs.declared.flights.Asked.{Asked}
use Rattle.mf_hub.specs.Stores.{world_of, GetsOf, Stands, Stored}
use Rattle.mf_hub.specs.declared.got.Got.TheVariants as got
use Rattle.mf_hub.proofs.Accounts.{stored}
use Rattle.mf_hub.proofs.Claims.{found_busy, got_claimed, got_ready}
use Rattle.mf_hub.proofs.Storing.{stored_asked}
use Rattle.mf_hub.proofs.store.Store.ask.Goals as goal
use Rattle.mf_hub.proofs.store.Store.ask.Goals.{in-Busy, in-Claimed}

pub returns-in-Some-clause-got : goal.returns-in-Some-clause-got
returns-in-Some-clause-got c = let s = c.self.inside in
    subst (λ (z : Stored). GetsOf c.args.caller c.args.edition c.args.index z z (got.Ready c.in_ok-shared.field-0)) c.self.view_is
    (got_ready (stored s.board s.given) c.args.caller c.args.edition c.args.index c.in-Some.plan.now c.in_ok-shared.field-0 c.self.invariant.plans
    (sym c.plan.ensures ∙ ap option_copied c.in-Some.is) c.in_ok-shared.ensures.cases)

pub invariant_of-self-2 : goal.invariant_of-self-2
invariant_of-self-2 c = let s = c.self.inside in
    let pin = subst (λ (z : Stored). ((world_of z).caller c.args.caller).pinned ≡ Some c.args.edition) (sym c.self.view_is) c.requires.pinned in
    stored_asked s.board c.ask.new.self s.newest s.given c.args.caller c.args.edition c.args.index c.self.invariant c.ask.ensures.kept
    c.ask.ensures.plans pin c.ask.result c.ask.ensures.step c.ask.ensures.err

pub returns-clause-got : goal.returns-clause-got
returns-clause-got c = let s = c.self.inside in let n = c.args.caller in let e = c.args.edition in let i = c.args.index in
    let pin = subst (λ (z : Stored). ((world_of z).caller n).pinned ≡ Some e) (sym c.self.view_is) c.requires.pinned in
    elim c.match-branch-3.branch [
      | in-Claimed w ↦
          subst (λ r. IfOk r (λ found. IfSome found (GetsOf n e i c.args.self.now (stored c.ask.new.self s.given)))) (sym w.result-is)
          (subst (λ (z : Stored). GetsOf n e i z (stored c.ask.new.self s.given) (got.Claimed w.in-Claimed.ticket)) c.self.view_is
          (got_claimed (stored s.board s.given) (stored c.ask.new.self s.given) n e i w.in-Claimed.ticket pin
          (subst (λ (asked : Asked). Step (world_of (stored s.board s.given)) (Ask n i) (told_asked asked) (world_of (stored c.ask.new.self s.given)))
          w.in-Claimed.is c.in_ok-ticket.ensures.step)
          refl
          (subst (λ (asked : Asked). TicketIs ((world_of (stored c.ask.new.self s.given)).caller n).claim asked) w.in-Claimed.is c.in_ok-ticket.ensures.ticket)))
      | in-Busy w ↦ subst (λ r. IfOk r (λ found. IfSome found (GetsOf n e i c.args.self.now (stored c.ask.new.self s.given)))) (sym w.result-is) tt
    ]

pub returns-clause-busy : goal.returns-clause-busy
returns-clause-busy c = let s = c.self.inside in let n = c.args.caller in let e = c.args.edition in let i = c.args.index in
    let pin = subst (λ (z : Stored). ((world_of z).caller n).pinned ≡ Some e) (sym c.self.view_is) c.requires.pinned in
    elim c.match-branch-3.branch [
      | in-Claimed w ↦ subst (λ r. IfOk r (λ found. IfNone found (Stands c.args.self.now (stored c.ask.new.self s.given)))) (sym w.result-is) tt
      | in-Busy w ↦
          subst (λ r. IfOk r (λ found. IfNone found (Stands c.args.self.now (stored c.ask.new.self s.given)))) (sym w.result-is)
          (subst (λ (z : Stored). Stands z (stored c.ask.new.self s.given)) c.self.view_is
          (found_busy (stored s.board s.given) (stored c.ask.new.self s.given) n e i c.self.invariant.kept.valid pin
          (subst (λ (asked : Asked). Step (world_of (stored s.board s.given)) (Ask n i) (told_asked asked) (world_of (stored c.ask.new.self s.given)))
          w.in-Busy.is c.in_ok-ticket.ensures.step)
          refl))
    ]
