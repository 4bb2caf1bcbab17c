use Rattle.std.proofs.Common.{◌∙◌, arith, ap}
use Rattle.std.proofs.lemmas.Result.{IfOk-weaker, on_err_weaker}
use Rattle.mf_edition.proofs.EditionLaws.{newest_number}
use Rattle.mf_edition.specs.Edition.{EditionState}
use Rattle.mf_hub.proofs.Seats.{grown, longer}
use Rattle.mf_session.proofs.Shows.{misses_through, pinned_newest, shows_through}
use Rattle.mf_session.proofs.sentences.format_shared.Goals as goal

pub format_pinned-reply-requires-clause-pinned : goal.format_pinned-reply-requires-clause-pinned
format_pinned-reply-requires-clause-pinned g c =
    pinned_newest c.deref.result.now c.pin.new.pass.view (c.deref.ensures ∙ c.in_ok-edition.ensures.edition) c.in_ok-edition.ensures.pinned

pub returns-clause-ok : goal.returns-clause-ok
returns-clause-ok g c =
    let p = c.pin.new.pass.view in let q = c.format_pinned-reply.new.pass.view in let before = c.args.pass.now.view in
    let edition = c.deref.result.now in
    let is = c.deref.ensures ∙ c.in_ok-edition.ensures.edition in
    IfOk-weaker c.format_pinned-reply.result _ _
    (λ reply shows. shows_through c.args.tag.now c.args.id.now c.args.arguments.now c.args.since reply edition p
    (pinned_newest edition p is c.in_ok-edition.ensures.pinned) c.editions_stay.ensures before q c.unpin.new.pass.view
    c.pin.ensures.grows c.pin.ensures.keeps c.unpin.ensures.grows c.unpin.ensures.keeps
    (let n = ap (λ (e : EditionState). e.number) is ∙ newest_number p.log in let l = longer before.log p.log (grown before p c.pin.ensures.grows) in omega arith)
    shows)
    c.format_pinned-reply.ensures.ok

pub returns-clause-err : goal.returns-clause-err
returns-clause-err g c =
    on_err_weaker c.format_pinned-reply.result
    (λ misses. misses_through 1 c.args.pass.now.view c.pin.new.pass.view c.format_pinned-reply.new.pass.view c.unpin.new.pass.view
    c.pin.ensures.grows c.pin.ensures.keeps misses c.unpin.ensures.grows c.unpin.ensures.keeps)
    c.format_pinned-reply.ensures.err
