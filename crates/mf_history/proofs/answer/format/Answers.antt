use Rattle.std.proofs.Common.{◌∙◌, ap, sym, subst}
use Rattle.std.specs.Option.{option_copied}
use Rattle.mf_answer.specs.Answers.{IsAnswerOf}
use Rattle.mf_plan.specs.Plans.{CompilesTo}
use Rattle.mf_render.specs.Showing.{shown_of}
use Rattle.mf_session.proofs.Answering.{formatted_reply}
use Rattle.mf_transcript.specs.Replies.{IsFormatReply}
use Rattle.mf_wire.specs.declared.reply.Reply.TheVariants.{Formatted}
use Rattle.mf_history.proofs.answer.format.Goals as goal

pub returns-in-Ok : goal.returns-in-Ok
returns-in-Ok c =
    let edition = c.args.edition.now in
    let arguments = c.args.arguments.now in
    let found = c.args.found in
    let formatted = c.in-Ok.field-0 in
    subst (λ number. IsFormatReply (IsAnswerOf arguments edition found) edition.number (Formatted number found.tag formatted.parts formatted.faults)) (sym c.number.ensures)
    (formatted_reply arguments edition found c.in-Some.item.now c.in_ok-plan.plan (shown_of formatted) (sym c.item.ensures ∙ ap option_copied c.in-Some.is)
    (subst (λ source. CompilesTo source c.in_ok-plan.plan) c.source.ensures.characters c.in_ok-plan.ensures.compiled)
    c.in-Ok.ensures.ok c.in-Ok.ensures.fits)
