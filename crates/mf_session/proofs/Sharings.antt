-- What a line does to what a caller knows.
use Rattle.std.proofs.Common.{◌≡◌, ◌≢◌, ◌∙◌, ℕ, List, false, Contains, Option, Some, None, Ok, Err, refl, ap, sym, subst, arith}
use Rattle.std.specs.List.{AllByRecursion}
use Rattle.std.proofs.Math.Seq.{take-length}
use Rattle.mf_edition.specs.Sizes.{refusal_of, refused, IsDue}
use Rattle.mf_edition.specs.declared.change.Change.{Change}
use Rattle.mf_edition.specs.declared.error.PublishError.{PublishError}
use Rattle.mf_edition.specs.declared.error.PublishError.TheVariants.{OutOfMemory}
use Rattle.mf_edition.specs.declared.error.Refusal.{Refusal}
use Rattle.mf_hub.specs.Passes.{Grows, Keeps, Known, Tells}
use Rattle.mf_hub.specs.declared.stat.Stat.{Stat}
use Rattle.mf_text.specs.declared.arguments.Argued.{Argued}
use Rattle.mf_legal.specs.Calls.{one_if}
use Rattle.mf_session.specs.Sharing.{accepts, refuses, Call, GivesAtMost, Misses, SharesChange, SharesUnless, Shows}
use Rattle.mf_session.specs.Sharing as calls
use Rattle.mf_session.specs.Turns.{stat_reply}
use Rattle.mf_transcript.proofs.Shown.{others_show}
use Rattle.mf_transcript.specs.Asked.{asked_checked, publication, reason_against, request_of}
use Rattle.mf_transcript.specs.Lines.{asks_format, ShowsAtMost}
use Rattle.mf_transcript.specs.Replies.{lint_reply, refusal_reply, shows_counts, IsLintReply}
use Rattle.mf_transcript.specs.Served.{served_for, with_edition}
use Rattle.mf_transcript.specs.Steps.{ApartFor}
use Rattle.mf_lint.specs.declared.linting.Linted.{Linted}
use Rattle.mf_lint.specs.declared.linting.Linted.TheVariants.{Invalid, Valid}
use Rattle.mf_wire.specs.Replies.{memory_line, reply_line}
use Rattle.mf_wire.specs.Requests.{line_request}
use Rattle.mf_wire.specs.declared.reply.Reason.{Reason}
use Rattle.mf_wire.specs.declared.reply.Reply.{Reply}
use Rattle.mf_wire.specs.declared.reply.Reply.TheVariants as reply
use Rattle.mf_wire.specs.declared.request.Request.TheVariants.{Format, Lint, Publish, Stat as AskStat}

-- a publication that there is no room for
pub refused_line : (p q : Known) (change : Change) (error : PublishError) (reply : Reply) (line : List ℕ)
    → ((refusal : Refusal) → error ≡ refused refusal → reply ≡ refusal_reply refusal) → error ≢ OutOfMemory → Grows p q → Keeps p q
    → line ≡ reply_line reply → IsDue (refusal_of q.log change) error → SharesChange change line p q
refused_line p q change error reply line told cause grows keeps is due = by (refusal_of q.log change) refl due
  where
    by : (due : Option Refusal) → refusal_of q.log change ≡ due → IsDue due error → SharesChange change line p q
    by None none out = absurd (cause out)
    by (Some refusal) some because = refuses refusal some (is ∙ ap reply_line (told refusal because)) grows keeps

none_gives : (many : ℕ) (p q : Known) → Keeps p q → GivesAtMost many p q
none_gives many p q keeps = let same = keeps.given in record { ended = keeps.ended; least = omega arith; most = omega arith }

-- a line that publishes a change
module _ (line said : List ℕ) (p q : Known) (change : Change) (asked : line_request line ≡ Ok (Publish change)) where
  asks : (reason : Option Reason) → reason_against change ≡ reason → request_of line ≡ publication change reason
  asks reason is = ap asked_checked asked ∙ ap (publication change) is

  calls_when : (reason : Option Reason) → reason_against change ≡ reason → SharesUnless reason change said p q → Call line said p q
  calls_when (Some reason) is (written, same) =
      calls.stands_apart (subst (λ asked. ApartFor asked said) (sym (asks (Some reason) is)) written)
      (λ most. subst (ShowsAtMost most) (sym written) (others_show (reply.BadHandler reason) refl most)) same
  calls_when None is (accepts k written publishes keeps) =
      calls.is_accepted change k (record { asked = asks None is; replied = written }) publishes keeps
  calls_when None is (refuses refusal due written grows keeps) =
      calls.is_refused
      (record {
        change = change;
        refusal = refusal;
        asked = asks None is;
        due = ap (λ log. refusal_of log change) (take-length q.log) ∙ due;
        replied = written;
      })
      grows keeps

  pub publishes : SharesUnless (reason_against change) change said p q → Call line said p q
  publishes done = calls_when (reason_against change) refl done

-- a line without memory
pub forgoes : (line : List ℕ) (many : ℕ) (p q : Known) → Grows p q → GivesAtMost many p q → many ≡ one_if (asks_format (request_of line))
    → Call line memory_line p q
forgoes line many p q grows gives is = calls.no_memory refl grows (subst (λ (m : ℕ). GivesAtMost m p q) is gives)

pub forgoes_none : (line : List ℕ) (p q : Known) → Grows p q → Keeps p q → Call line memory_line p q
forgoes_none line p q grows keeps = calls.no_memory refl grows (none_gives _ p q keeps)

-- a line that asks for a sentence
module _ (line : List ℕ) (p q : Known) (tag id : List ℕ) (arguments : List (List ℕ × Argued)) (since : ℕ)
    (asked : line_request line ≡ Ok (Format tag id arguments since)) where
  asks_sentence : request_of line ≡ Ok (Format tag id arguments since)
  asks_sentence = ap asked_checked asked

  pub shows : (reply : Reply) (said : List ℕ) → said ≡ reply_line reply → Shows tag id arguments since reply p q → Call line said p q
  shows reply said is done =
      calls.is_answered done.k
      (record {
        tag = tag;
        id = id;
        arguments = arguments;
        since = since;
        asked = asks_sentence;
        replied = record { reply = reply; due = done.replied; written = is };
      })
      done.from done.within
      (subst (λ (indexes : List ℕ). AllByRecursion (Contains q.served) (with_edition done.k indexes))
      (sym (ap (served_for q.log done.k) asks_sentence)) done.served)
      done.grows done.keeps

  pub shows_no : Misses 1 p q → Call line memory_line p q
  shows_no misses = forgoes line 1 p q misses.grows misses.gives (sym (ap (λ asked. one_if (asks_format asked)) asks_sentence))

-- a line that asks for the counts
pub counts : (line said : List ℕ) (p q : Known) (stat : Stat) → line_request line ≡ Ok AskStat → said ≡ reply_line (stat_reply stat) → Tells stat q
    → Grows p q → Keeps p q → Call line said p q
counts line said p q stat asked is tells grows keeps = calls.is_counted stat (ap asked_checked asked) is tells grows keeps

lint_plain : (linted : Linted) → shows_counts (lint_reply linted) ≡ false
lint_plain (Valid printed) = refl
lint_plain (Invalid faults) = refl

-- a line that asks what there is to say of a source
pub lints : (line said source : List ℕ) (p : Known) (reply : Reply) → line_request line ≡ Ok (Lint source) → IsLintReply source reply
    → said ≡ reply_line reply → Call line said p p
lints line said source p reply asked due is =
    calls.stands_apart
    (subst (λ asked. ApartFor asked said) (sym (ap asked_checked asked)) (record { reply = reply; due = due; written = is }))
    (λ most. subst (ShowsAtMost most) (sym (is ∙ ap reply_line due.is)) (others_show (lint_reply due.linted) (lint_plain due.linted) most))
    refl

-- a line that makes no request
pub refuses_line : (line said : List ℕ) (p : Known) (refusal : Reply) → line_request line ≡ Err refusal → shows_counts refusal ≡ false
    → said ≡ reply_line refusal → Call line said p p
refuses_line line said p refusal asked plain is =
    calls.stands_apart (subst (λ asked. ApartFor asked said) (sym (ap asked_checked asked)) is)
    (λ most. subst (ShowsAtMost most) (sym is) (others_show refusal plain most)) refl
