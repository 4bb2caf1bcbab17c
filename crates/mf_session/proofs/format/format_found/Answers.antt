use Rattle.std.proofs.Common.{◌∙◌, ap, subst, sym}
use Rattle.std.specs.Arc.{arc_value}
use Rattle.mf_answer.specs.Answers.{IsAnswerOf}
use Rattle.mf_edition.specs.Edition.{newest_edition, EditionState}
use Rattle.mf_render.specs.Rendering.{Renders}
use Rattle.mf_render.specs.Showing.{shown_of}
use Rattle.mf_transcript.specs.Replies.{IsFormatReply}
use Rattle.mf_wire.specs.declared.reply.Reply.TheVariants.{Formatted}
use Rattle.mf_session.proofs.Answering.{formatted_reply}
use Rattle.mf_session.proofs.format.format_found.Goals as goal

pub returns-in-Ok-clause-reply : goal.returns-in-Ok-clause-reply
returns-in-Ok-clause-reply c =
    let edition = newest_edition c.args.desk.now.log in
    let arguments = c.args.arguments.now in
    let found = c.args.found in
    let formatted = c.in-Ok.field-0 in
    let plan = arc_value c.in_ok-plan.plan in
    let is = c.edition-edition.ensures ∙ ap newest_edition c.in_ok-plan.ensures.ok.log in
    subst (λ number. IsFormatReply (IsAnswerOf arguments edition found) edition.number (Formatted number found.tag formatted.parts formatted.faults))
    (sym (c.number.ensures ∙ ap (λ (edition : EditionState). edition.number) is))
    (formatted_reply arguments edition found c.in_ok-plan.ensures.plan.item plan (shown_of formatted)
    c.in_ok-plan.ensures.plan.there c.in_ok-plan.ensures.plan.compiles
    (subst (λ plan. Renders edition found.tag arguments plan (shown_of formatted)) c.deref.ensures
    (subst (λ edition. Renders edition found.tag arguments c.deref.result.now (shown_of formatted)) is c.in-Ok.ensures.ok)) c.in-Ok.ensures.fits)
