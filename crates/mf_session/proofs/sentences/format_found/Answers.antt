use Rattle.std.proofs.Common.{subst, sym}
use Rattle.std.specs.Arc.{arc_value}
use Rattle.mf_answer.specs.Answers.{IsAnswerOf}
use Rattle.mf_render.specs.Rendering.{Renders}
use Rattle.mf_render.specs.Showing.{shown_of}
use Rattle.mf_transcript.specs.Replies.{IsFormatReply}
use Rattle.mf_wire.specs.declared.reply.Reply.TheVariants.{Formatted}
use Rattle.mf_session.proofs.Answering.{formatted_reply}
use Rattle.mf_session.proofs.Shows.{pinned_plan, pinned_served}
use Rattle.mf_session.proofs.sentences.format_found.Goals as goal

pub returns-in-Ok-clause-ok : goal.returns-in-Ok-clause-ok
returns-in-Ok-clause-ok g c =
    let edition = c.args.edition.now in
    let arguments = c.args.arguments.now in
    let found = c.args.found in
    let formatted = c.in-Ok.field-0 in
    let plan = arc_value c.in_ok-plan.plan in
    let p = c.args.pass.now.view in
    let q = c.plan_at.new.pass.view in
    let gets = c.in_ok-plan.ensures.gets in
    let is = pinned_plan c.editions_stay.ensures edition found.index plan p q c.requires.pinned c.plan_at.ensures.grows gets in
    record {
      replied =
          subst (λ number. IsFormatReply (IsAnswerOf arguments edition found) edition.number (Formatted number found.tag formatted.parts formatted.faults))
          (sym c.number.ensures)
          (formatted_reply arguments edition found is.item plan (shown_of formatted) is.there is.compiles
          (subst (λ plan. Renders edition found.tag arguments plan (shown_of formatted)) c.deref.ensures c.in-Ok.ensures.ok) c.in-Ok.ensures.fits);
      served = pinned_served edition found.index plan p q c.requires.pinned gets;
      grows = c.plan_at.ensures.grows;
      keeps = record { given = gets.given; ended = c.plan_at.ensures.ended };
    }
