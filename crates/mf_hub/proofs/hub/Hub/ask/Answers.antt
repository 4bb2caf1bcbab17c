use Rattle.std.proofs.Common.{◌∙◌, None, refl, subst}
use Rattle.std.specs.Prelude.{IfNone}
use Rattle.mf_hub.specs.Held.{IsSeat}
use Rattle.mf_hub.proofs.Growing.{grows_itself, grows_through, keeps_through}
use Rattle.mf_hub.proofs.Seats.{grown, message_stays}
use Rattle.mf_hub.proofs.hub.Hub.ask.Goals as goal

pub loop-init : goal.loop-init
loop-init g c = (refl, c.requires.seat, grows_itself c.args.seat.now.view, record { given = refl; ended = refl }, refl)

pub ask_once-requires-clause-own : goal.ask_once-requires-clause-own
ask_once-requires-clause-own g c = c.loop.invariant.0 ∙ c.requires.own

pub ask_once-requires-clause-seat : goal.ask_once-requires-clause-seat
ask_once-requires-clause-seat g c = c.loop.invariant.1

pub ask_once-requires-clause-message : goal.ask_once-requires-clause-message
ask_once-requires-clause-message g c = let i = c.loop.invariant in
    message_stays c.editions_stay.ensures c.args.seat.now.view c.loop.seat.view c.args.edition c.args.index (grown _ _ i.2) i.4 c.requires.message

pub returns-in_err-got-clause-own : goal.returns-in_err-got-clause-own
returns-in_err-got-clause-own g c = c.ask_once.ensures.own ∙ c.loop.invariant.0

pub returns-in_err-got-clause-grows : goal.returns-in_err-got-clause-grows
returns-in_err-got-clause-grows g c = grows_through _ _ _ c.loop.invariant.2 c.ask_once.ensures.grows

pub returns-in_err-got-clause-keeps : goal.returns-in_err-got-clause-keeps
returns-in_err-got-clause-keeps g c = keeps_through _ _ _ c.loop.invariant.3 c.ask_once.ensures.keeps

pub returns-in_err-got-clause-pin : goal.returns-in_err-got-clause-pin
returns-in_err-got-clause-pin g c = c.ask_once.ensures.pin ∙ c.loop.invariant.4

pub returns-in-Some-2-clause-own : goal.returns-in-Some-2-clause-own
returns-in-Some-2-clause-own g c = c.ask_once.ensures.own ∙ c.loop.invariant.0

pub returns-in-Some-2-clause-grows : goal.returns-in-Some-2-clause-grows
returns-in-Some-2-clause-grows g c = grows_through _ _ _ c.loop.invariant.2 c.ask_once.ensures.grows

pub returns-in-Some-2-clause-keeps : goal.returns-in-Some-2-clause-keeps
returns-in-Some-2-clause-keeps g c = keeps_through _ _ _ c.loop.invariant.3 c.ask_once.ensures.keeps

pub returns-in-Some-2-clause-pin : goal.returns-in-Some-2-clause-pin
returns-in-Some-2-clause-pin g c = c.ask_once.ensures.pin ∙ c.loop.invariant.4

pub loop-preserved : goal.loop-preserved
loop-preserved g c = let i = c.loop.invariant in let o = c.ask_once.ensures in (
  o.own ∙ i.0,
  subst (λ found. IfNone found (IsSeat c.ask_once.new.seat c.args.number None)) c.in-None-2.is c.in_ok-got.ensures.busy,
  grows_through _ _ _ i.2 o.grows,
  keeps_through _ _ _ i.3 o.keeps,
  o.pin ∙ i.4,
)
