use Rattle.std.proofs.Common.{◌≡◌, ◌∙◌, ◌<◌, ◌≤◌, ℕ, [], ◌∷◌, Some, length, ap, refl, subst, sym}
use Rattle.std.proofs.lemmas.Result.{IfOk-weaker, on_err_weaker, on_ok_weaker}
use Rattle.mf_answer.specs.Answers.{IsAnswerIn}
use Rattle.mf_edition.proofs.EditionLaws.{newest_number}
use Rattle.mf_edition.specs.Edition.{found_along, newest_edition, EditionState}
use Rattle.mf_hub.specs.Desks.{Forgoes, Gains}
use Rattle.mf_locale.specs.Chain.{chain_of}
use Rattle.mf_transcript.specs.Replies.{IsFormatReply}
use Rattle.mf_transcript.specs.Served.{served_to}
use Rattle.mf_wire.specs.declared.reply.Reply.TheVariants.{NoMessage, NotYet}
use Rattle.mf_session.proofs.Answering.{found_reply, newest_reply, none_reply, old_reply, served_early, served_found}
use Rattle.mf_session.proofs.Turning.{same_gains}
use Rattle.mf_session.proofs.format.format.Goals as goal

abbrev number_of : EditionState → ℕ
number_of edition = edition.number

pub returns-then-number-since-clause-reply : goal.returns-then-number-since-clause-reply
returns-then-number-since-clause-reply c =
    let log = c.args.desk.now.log in
    let edition = newest_edition log in
    let number = c.number-number.ensures ∙ ap number_of c.edition-edition.ensures in
    newest_reply log edition c.args.tag.now c.args.id.now c.args.arguments.now c.args.since _ refl
    (subst (λ n. IsFormatReply (IsAnswerIn edition.number edition c.args.tag.now c.args.id.now c.args.arguments.now c.args.since) edition.number (NotYet n c.args.since))
    (sym number)
    (old_reply edition.number edition c.args.tag.now c.args.id.now c.args.arguments.now c.args.since (subst (λ n. n < c.args.since) number c.if-number-since.true)))

pub returns-then-number-since-clause-ok : goal.returns-then-number-since-clause-ok
returns-then-number-since-clause-ok c =
    let log = c.args.desk.now.log in
    let number = c.number-number.ensures ∙ ap number_of c.edition-edition.ensures ∙ newest_number log in
    subst (λ served. Gains c.args.desk.now served c.args.desk.now)
    (sym (served_early log c.args.tag.now c.args.id.now c.args.since (subst (λ n. n < c.args.since) number c.if-number-since.true)))
    (same_gains c.args.desk.now)

-- What is known of a message that was found.
module _ (c : goal.After-format_found) where
  found_is : found_along (newest_edition c.args.desk.now.log).items c.args.id.now (chain_of c.args.tag.now) ≡ Some c.in-Some.found
  found_is =
      ap (λ (edition : EditionState). found_along edition.items c.args.id.now (chain_of c.args.tag.now)) (sym c.edition-edition.ensures)
      ∙ ap (λ tags. found_along c.edition-edition.result.now.items c.args.id.now tags) (sym c.in_ok-chain.ensures)
      ∙ sym c.find_along.ensures.found
      ∙ c.in-Some.is

  served_is : served_to c.args.desk.now.log (length c.args.desk.now.log) c.args.tag.now c.args.id.now c.args.since ≡ c.in-Some.found.index ∷ []
  served_is =
      served_found c.args.desk.now.log c.args.tag.now c.args.id.now c.args.since
      (subst (λ n. c.args.since ≤ n) (c.number-number.ensures ∙ ap number_of c.edition-edition.ensures ∙ newest_number c.args.desk.now.log) c.if-number-since.false)
      (Some c.in-Some.found) found_is

pub returns-in-Some-clause-reply : goal.returns-in-Some-clause-reply
returns-in-Some-clause-reply c =
    let log = c.args.desk.now.log in
    let edition = newest_edition log in
    let number = c.number-number.ensures ∙ ap number_of c.edition-edition.ensures in
    IfOk-weaker c.format_found.result _ _
    (λ reply answered. newest_reply log edition c.args.tag.now c.args.id.now c.args.arguments.now c.args.since reply refl
    (found_reply edition c.args.tag.now c.args.id.now c.args.arguments.now c.args.since edition.number
    (subst (λ n. c.args.since ≤ n) number c.if-number-since.false) c.in-Some.found reply (found_is c) answered))
    c.format_found.ensures.reply

pub returns-in-Some-clause-ok : goal.returns-in-Some-clause-ok
returns-in-Some-clause-ok c =
    on_ok_weaker c.format_found.result
    (subst (λ served. Gains c.args.desk.now served c.format_found.new.desk) (sym (served_is c)))
    c.format_found.ensures.ok

pub returns-in-Some-clause-err : goal.returns-in-Some-clause-err
returns-in-Some-clause-err c =
    on_err_weaker c.format_found.result
    (subst (λ served. Forgoes c.args.desk.now served c.format_found.new.desk) (sym (served_is c)))
    c.format_found.ensures.err

pub returns-in-None-clause-reply : goal.returns-in-None-clause-reply
returns-in-None-clause-reply c =
    let log = c.args.desk.now.log in
    let edition = newest_edition log in
    let number = c.number-number.ensures ∙ ap number_of c.edition-edition.ensures in
    let found =
    ap (λ (edition : EditionState). found_along edition.items c.args.id.now (chain_of c.args.tag.now)) (sym c.edition-edition.ensures)
    ∙ ap (λ tags. found_along c.edition-edition.result.now.items c.args.id.now tags) (sym c.in_ok-chain.ensures)
    ∙ sym c.find_along.ensures.found
    ∙ c.in-None.is in
    newest_reply log edition c.args.tag.now c.args.id.now c.args.arguments.now c.args.since _ refl
    (subst (λ n. IsFormatReply (IsAnswerIn edition.number edition c.args.tag.now c.args.id.now c.args.arguments.now c.args.since) edition.number (NoMessage n))
    (sym number)
    (none_reply edition c.args.tag.now c.args.id.now c.args.arguments.now c.args.since edition.number
    (subst (λ n. c.args.since ≤ n) number c.if-number-since.false) found))
