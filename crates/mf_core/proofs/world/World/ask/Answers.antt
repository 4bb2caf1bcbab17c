use Rattle.std.proofs.Common.{◌≡◌, ◌∙◌, ◌<◌, ℕ, Some, None, ap, sym, subst, arith}
use Rattle.std.specs.Prelude.{◌||◌, not}
use Rattle.std.specs.Option.{is_some}
use Rattle.mf_edition.specs.Edition.{newest_edition}
use Rattle.mf_core.specs.Boards.{told_asked, TicketIs}
use Rattle.mf_core.specs.declared.caller.CallerState.{CallerState}
use Rattle.mf_core.specs.declared.event.Event.TheVariants.{Ask}
use Rattle.mf_core.specs.declared.event.Told.{Told}
use Rattle.mf_core.specs.declared.event.Told.TheVariants.{Claimed}
use Rattle.mf_core.specs.Kept.{board_world}
use Rattle.mf_core.specs.Running.{world_of}
use Rattle.mf_core.specs.Steps.{is_past, IsYours, Step}
use Rattle.mf_core.specs.Valid.{Valid}
use Rattle.mf_core.specs.Worlds.{World}
use Rattle.mf_core.proofs.Events.{has_seat, nothing_world}
use Rattle.mf_core.proofs.Puts.{neither, not_true}
use Rattle.mf_core.proofs.Steps.{no_some}
use Rattle.mf_core.proofs.Wholes.{ask_keeps, ask_leaves, ask_stays, busy_claims_nothing, put_claims, ready_claims_nothing, whole_same}
use Rattle.mf_core.proofs.world.World.ask.Goals as goal

may : (w : World) (n i : ℕ) → Valid w → IsYours w (Ask n i) → (n < w.next) × ((w.caller n).claim ≡ None)
may w n i v yours =
    let s : CallerState = w.caller n in
    let a = neither (not s.joined || not (is_some s.pinned) || is_some s.claim) (is_past w s.pinned i) yours in
    let b = neither (not s.joined || not (is_some s.pinned)) (is_some s.claim) a.0 in
    let d = neither (not s.joined) (not (is_some s.pinned)) b.0 in
    (has_seat w v n (not_true s.joined d.0), no_some s.claim b.1)

-- an ask that claims nothing leaves the World
stays : (w v : World) (n i : ℕ) (told : Told) → Valid w → Step w (Ask n i) told v → (told ≡ Claimed → ⊥) → v ≡ w
stays w v n i told valid step other = ask_keeps w v n i told step other ∙ sym (nothing_world w w valid (λ k. w))

pub returns-in_err-ask-clause-whole : goal.returns-in_err-ask-clause-whole
returns-in_err-ask-clause-whole c = whole_same c.args.self.now c.ask.new.self c.requires.whole c.in_err-ask.ensures.kept c.in_err-ask.ensures.err

pub returns-in-Ready-clause-whole : goal.returns-in-Ready-clause-whole
returns-in-Ready-clause-whole c =
    whole_same c.args.self.now c.ask.new.self c.requires.whole c.in_ok-ask.ensures.kept
    (stays (world_of c.args.self.now) (board_world c.ask.new.self) c.args.caller c.args.index (told_asked c.in_ok-ask.field-0)
    c.requires.whole.kept.valid c.in_ok-ask.ensures.step (λ is. ready_claims_nothing (sym (ap told_asked c.in-Ready.is) ∙ is)))

pub returns-in-Busy-clause-whole : goal.returns-in-Busy-clause-whole
returns-in-Busy-clause-whole c =
    whole_same c.args.self.now c.ask.new.self c.requires.whole c.in_ok-ask.ensures.kept
    (stays (world_of c.args.self.now) (board_world c.ask.new.self) c.args.caller c.args.index (told_asked c.in_ok-ask.field-0)
    c.requires.whole.kept.valid c.in_ok-ask.ensures.step (λ is. busy_claims_nothing (sym (ap told_asked c.in-Busy.is) ∙ is)))

pub put_ticket-requires-clause-there : goal.put_ticket-requires-clause-there
put_ticket-requires-clause-there c =
    let less = (may (world_of c.args.self.now) c.args.caller c.args.index c.requires.whole.kept.valid c.requires.yours).0 in
    let many = c.requires.whole.many in omega arith

pub put_ticket-requires-clause-free : goal.put_ticket-requires-clause-free
put_ticket-requires-clause-free c =
    c.requires.whole.tickets c.args.caller ∙ (may (world_of c.args.self.now) c.args.caller c.args.index c.requires.whole.kept.valid c.requires.yours).1

pub returns-in-Claimed-clause-whole : goal.returns-in-Claimed-clause-whole
returns-in-Claimed-clause-whole c =
    let w : World = world_of c.args.self.now in
    let v : World = board_world c.ask.new.self in
    let told = told_asked c.in_ok-ask.field-0 in
    let same = ask_stays w v c.args.caller c.args.index told c.in_ok-ask.ensures.step in
    record {
      kept = c.in_ok-ask.ensures.kept;
      newest = c.requires.whole.newest ∙ ap newest_edition (sym same.0);
      many = c.put_ticket.ensures.many ∙ c.requires.whole.many ∙ sym same.1;
      tickets = put_claims w v c.args.caller (Some c.in-Claimed.ticket) c.args.self.now.tickets.items c.put_ticket.new.tickets.items
          c.requires.whole.tickets c.put_ticket.ensures
          (subst (λ a. TicketIs (v.caller c.args.caller).claim a) c.in-Claimed.is c.in_ok-ask.ensures.ticket)
          (ask_leaves w v c.args.caller c.args.index told c.in_ok-ask.ensures.step);
    }
