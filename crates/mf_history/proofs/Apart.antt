-- Lines that are apart from the log.
use Rattle.std.proofs.Common.{◌≡◌, ◌≢◌, ◌∙◌, ℕ, false, List, Ok, Err, refl, ap, sym, subst}
use Rattle.mf_edition.specs.declared.change.Entry.{Entry}
use Rattle.mf_lint.proofs.Lints.{lints_once}
use Rattle.mf_lint.specs.declared.linting.Linted.{Linted}
use Rattle.mf_lint.specs.declared.linting.Linted.TheVariants.{Invalid, Valid}
use Rattle.mf_transcript.proofs.Fixed.{kind}
use Rattle.mf_transcript.specs.Asked.{request_of}
use Rattle.mf_transcript.specs.Lines.{ShowsAtMost}
use Rattle.mf_transcript.specs.Replies.{IsLintReply, lint_reply, shows_counts}
use Rattle.mf_transcript.specs.Steps.{no_memory, stands_apart, ApartFor, Standing}
use Rattle.mf_wire.specs.Replies.{memory_line, reply_line}
use Rattle.mf_wire.specs.declared.reply.Reply.{Reply}
use Rattle.mf_wire.specs.declared.request.Request.TheVariants.{Lint}
use Rattle.mf_history.specs.Places.{Goes, IsStuck, StandsAs}
use Rattle.mf_history.specs.declared.place.Place.{Place}
use Rattle.mf_history.proofs.Cases.{apart}
use Rattle.mf_transcript.proofs.Shown.{memory_shows, others_show}

plain : (linted : Linted) → shows_counts (lint_reply linted) ≡ false
plain (Valid printed) = refl
plain (Invalid faults) = refl

module _ (most : ℕ) (log : List Entry) (caller : ℕ) (line said : List ℕ) (old : Place) (before : Standing) (stands : StandsAs log old before) where
  -- a line that found no memory
  pub memory_goes : said ≡ memory_line → Goes most log caller line said before old
  memory_goes is = record { after = before; step = no_memory is; quits = subst (ShowsAtMost most) (sym is) (memory_shows most); stands = stands }

  -- a line that is refused
  pub refusal_goes : (refusal : Reply) → request_of line ≡ Err refusal → shows_counts refusal ≡ false → said ≡ reply_line refusal → Goes most log caller line said before old
  refusal_goes refusal asked none is = record {
    after = before;
    step = stands_apart (subst (λ r. ApartFor r said) (sym asked) is);
    quits = subst (ShowsAtMost most) (sym is) (others_show refusal none most);
    stands = stands;
  }

  pub refusal_stuck : said ≢ memory_line → (refusal : Reply) → request_of line ≡ Err refusal → (said ≡ reply_line refusal → ⊥) → IsStuck most log caller line said before
  refusal_stuck loud refusal asked other after step shows =
      apart log caller line said before ⊥ loud (ap kind asked) (λ is. other (subst (λ r. ApartFor r said) asked is)) after step

  -- a source that is linted
  pub lint_goes : (source : List ℕ) (reply : Reply) → request_of line ≡ Ok (Lint source) → IsLintReply source reply → said ≡ reply_line reply
      → Goes most log caller line said before old
  lint_goes source reply asked due is = record {
    after = before;
    step = stands_apart (subst (λ r. ApartFor r said) (sym asked) (record { reply = reply; due = due; written = is }));
    quits = subst (ShowsAtMost most) (sym (is ∙ ap reply_line due.is)) (others_show (lint_reply due.linted) (plain due.linted) most);
    stands = stands;
  }

  pub lint_stuck : said ≢ memory_line → (source : List ℕ) (reply : Reply) → request_of line ≡ Ok (Lint source) → IsLintReply source reply
      → (said ≡ reply_line reply → ⊥) → IsStuck most log caller line said before
  lint_stuck loud source reply asked due other after step shows =
      apart log caller line said before ⊥ loud (ap kind asked)
      (λ is.
      let written = subst (λ r. ApartFor r said) asked is in
      let same = lints_once source written.due.linted due.linted written.due.lints due.lints in
      other (written.written ∙ ap reply_line (written.due.is ∙ ap lint_reply same ∙ sym due.is)))
      after step
