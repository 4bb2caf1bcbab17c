-- How a line turns the desk of one caller.
use Rattle.std.proofs.Common.{◌≡◌, ◌≢◌, ◌∙◌, ℕ, Bool, true, false, ◌||◌, List, [], Option, Some, None, Ok, Err, refl, ap, sym, subst}
use Rattle.std.proofs.Math.Seq.{take-length}
use Rattle.mf_edition.specs.Sizes.{refusal_of, refused, IsDue}
use Rattle.mf_edition.specs.declared.change.Change.{Change}
use Rattle.mf_edition.specs.declared.error.PublishError.{PublishError}
use Rattle.mf_edition.specs.declared.error.PublishError.TheVariants.{OutOfMemory}
use Rattle.mf_edition.specs.declared.error.Refusal.{Refusal}
use Rattle.mf_hub.specs.Desks.{is_among, Gains}
use Rattle.mf_session.specs.Publishing.{Publishes, PublishesUnless}
use Rattle.mf_session.specs.Publishing as publishing
use Rattle.mf_session.specs.Turns.{Turn}
use Rattle.mf_session.specs.Turns as turns
use Rattle.mf_transcript.specs.Asked.{asked_checked, publication, reason_against, request_of}
use Rattle.mf_transcript.specs.Replies.{refusal_reply}
use Rattle.mf_transcript.specs.Sole.{Desk}
use Rattle.mf_transcript.specs.Steps.{ApartFor}
use Rattle.mf_wire.specs.Replies.{reply_line}
use Rattle.mf_wire.specs.Requests.{line_request}
use Rattle.mf_wire.specs.declared.reply.Reason.{Reason}
use Rattle.mf_wire.specs.declared.reply.Reply.{Reply}
use Rattle.mf_wire.specs.declared.request.Request.TheVariants.{Publish}

-- a publication that there is no room for
pub refused_line : (before after : Desk) (change : Change) (error : PublishError) (reply : Reply) (line : List ℕ)
    → ((refusal : Refusal) → error ≡ refused refusal → reply ≡ refusal_reply refusal) → error ≢ OutOfMemory → after ≡ before
    → line ≡ reply_line reply → IsDue (refusal_of before.log change) error → Publishes change line before after
refused_line before after change error reply line told cause same is due = by (refusal_of before.log change) refl due
  where
    by : (due : Option Refusal) → refusal_of before.log change ≡ due → IsDue due error → Publishes change line before after
    by None none out = absurd (cause out)
    by (Some refusal) some because = publishing.refuses refusal some (is ∙ ap reply_line (told refusal because)) same

-- a line that publishes a change
module _ (line said : List ℕ) (before after : Desk) (change : Change) (asked : line_request line ≡ Ok (Publish change)) where
  asks : (reason : Option Reason) → reason_against change ≡ reason → request_of line ≡ publication change reason
  asks reason is = ap asked_checked asked ∙ ap (publication change) is

  turns_when : (reason : Option Reason) → reason_against change ≡ reason → PublishesUnless reason change said before after → Turn line said before after
  turns_when (Some reason) is (written, same) =
      turns.stands_apart (subst (λ asked. ApartFor asked said) (sym (asks (Some reason) is)) written) same
  turns_when None is (publishing.accepts written none new) =
      turns.is_accepted change (record { asked = asks None is; replied = written }) none new
  turns_when None is (publishing.refuses refusal due written same) =
      turns.is_refused
      (record {
        change = change;
        refusal = refusal;
        asked = asks None is;
        due = ap (λ log. refusal_of log change) (take-length before.log) ∙ due;
        replied = written;
      })
      same

  pub publishes : PublishesUnless (reason_against change) change said before after → Turn line said before after
  publishes done = turns_when (reason_against change) refl done

-- a line that makes no request
pub refuses : (line said : List ℕ) (before after : Desk) (refusal : Reply) → line_request line ≡ Err refusal → said ≡ reply_line refusal → after ≡ before
    → Turn line said before after
refuses line said before after refusal asked written same =
    turns.stands_apart (subst (λ asked. ApartFor asked said) (sym (ap asked_checked asked)) written) same

or_none : (b : Bool) → b ≡ (b || false)
or_none true = refl
or_none false = refl

-- a desk that nothing happened to has gained nothing
pub same_gains : (desk : Desk) → Gains desk [] desk
same_gains desk = record { log = refl; quits = refl; ready = λ i. or_none (is_among desk.ready i) }
