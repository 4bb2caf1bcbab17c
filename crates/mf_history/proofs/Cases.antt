-- What a line and its reply may do, by what the line asks for.
use Rattle.std.proofs.Common.{◌≡◌, ◌≢◌, ◌∙◌, ℕ, ◌<◌, ◌≤◌, List, Some, Result, Ok, length, take, ap, sym, subst, arith}
use Rattle.mf_text.specs.declared.arguments.Argued.{Argued}
use Rattle.mf_answer.specs.Answers.{IsAnswer}
use Rattle.mf_edition.specs.declared.change.Change.{Change}
use Rattle.mf_edition.specs.declared.change.Entry.{Entry}
use Rattle.mf_edition.specs.Sizes.{refusal_of}
use Rattle.mf_legal.specs.Calls.{entry_at}
use Rattle.mf_transcript.proofs.Fixed.{accepted_kind, answered_kind, apart_kind, counted_kind, kind, refused_kind, same_change}
use Rattle.mf_transcript.specs.Asked.{request_of}
use Rattle.mf_transcript.specs.Replies.{IsFormatReply, IsLineOf}
use Rattle.mf_transcript.specs.Served.{in_edition}
use Rattle.mf_transcript.specs.Steps.{no_memory, stands_apart, is_accepted, is_refused, is_answered, is_counted, next_entry, Counts, IsApart, Standing, Step}
use Rattle.mf_wire.specs.Replies.{memory_line, op_of, reply_line}
use Rattle.mf_wire.specs.declared.reply.Reply.{Reply}
use Rattle.mf_wire.specs.declared.reply.Reply.TheVariants as reply
use Rattle.mf_wire.specs.declared.request.Request.{Request}
use Rattle.mf_wire.specs.declared.request.Request.TheVariants.{Format, Publish, Stat}
use Rattle.mf_history.specs.Places.{IsRefusedAt}

module _ (log : List Entry) (caller : ℕ) (line said : List ℕ) (before : Standing) (R : Type 0) (loud : said ≢ memory_line) where
  -- a publication is accepted or refused
  pub published : (change : Change) → request_of line ≡ Ok (Publish change)
      → ((k : ℕ) → said ≡ reply_line (reply.Accepted k (op_of change)) → before.edition < k → k ≤ length log → entry_at log k ≡ Some (next_entry caller before.made change) → R)
      → ((k : ℕ) → IsRefusedAt log change said k → before.edition ≤ k → k ≤ length log → R)
      → (after : Standing) → Step log caller line said before after → R
  published change asked accepts refuses after (no_memory is) = absurd (loud is)
  published change asked accepts refuses after (stands_apart is) = absurd (omega (arith, apart_kind (request_of line) said is, ap kind asked))
  published change asked accepts refuses after (is_accepted another k is above within entry) =
      let same = same_change (request_of line) another change is.asked asked in
      accepts k (is.replied ∙ ap (λ c. reply_line (reply.Accepted k (op_of c))) same) above within (entry ∙ ap (λ c. Some (next_entry caller before.made c)) same)
  published change asked accepts refuses after (is_refused k is from within) =
      let same = same_change (request_of line) is.change change is.asked asked in
      refuses k (record { refusal = is.refusal; due = ap (refusal_of (take k log)) (sym same) ∙ is.due; replied = is.replied }) from within
  published change asked accepts refuses after (is_answered k is from within) = absurd (omega (arith, answered_kind log k line said is, ap kind asked))
  published change asked accepts refuses after (is_counted k is from within) = absurd (omega (arith, counted_kind log k _ line said is, ap kind asked))

  same_format : (asked : Result Request Reply) (tag other id another : List ℕ) (arguments more : List (List ℕ × Argued)) (since then : ℕ)
      → asked ≡ Ok (Format tag id arguments since) → asked ≡ Ok (Format other another more then)
      → (tag ≡ other) × (id ≡ another) × (arguments ≡ more) × (since ≡ then)
  same_format asked tag other id another arguments more since then is is_too = (cc, cc, cc, cc)

  -- a request for a sentence is answered
  pub answered : (tag id : List ℕ) (arguments : List (List ℕ × Argued)) (since : ℕ) → request_of line ≡ Ok (Format tag id arguments since)
      → ((k : ℕ) → IsLineOf (IsFormatReply (IsAnswer log k tag id arguments since) k) said → before.edition ≤ k → k ≤ length log → R)
      → (after : Standing) → Step log caller line said before after → R
  answered tag id arguments since asked answers after (no_memory is) = absurd (loud is)
  answered tag id arguments since asked answers after (stands_apart is) = absurd (omega (arith, apart_kind (request_of line) said is, ap kind asked))
  answered tag id arguments since asked answers after (is_accepted another k is above within entry) =
      absurd (omega (arith, accepted_kind line another k said is, ap kind asked))
  answered tag id arguments since asked answers after (is_refused k is from within) = absurd (omega (arith, refused_kind log k line said is, ap kind asked))
  answered tag id arguments since asked answers after (is_answered k is from within) =
      let same = same_format (request_of line) is.tag tag is.id id is.arguments arguments is.since since is.asked asked in
      answers k
      (subst (λ t. IsLineOf (IsFormatReply (IsAnswer log k t id arguments since) k) said) same.0
      (subst (λ i. IsLineOf (IsFormatReply (IsAnswer log k is.tag i arguments since) k) said) same.1
      (subst (λ a. IsLineOf (IsFormatReply (IsAnswer log k is.tag is.id a since) k) said) same.2
      (subst (λ n. IsLineOf (IsFormatReply (IsAnswer log k is.tag is.id is.arguments n) k) said) same.3 is.replied))))
      from within
  answered tag id arguments since asked answers after (is_counted k is from within) = absurd (omega (arith, counted_kind log k _ line said is, ap kind asked))

  -- a request for the counts has them
  pub counted : request_of line ≡ Ok Stat
      → ((k : ℕ) → Counts log k (in_edition k before.served) line said → before.edition ≤ k → k ≤ length log → R)
      → (after : Standing) → Step log caller line said before after → R
  counted asked counts after (no_memory is) = absurd (loud is)
  counted asked counts after (stands_apart is) = absurd (omega (arith, apart_kind (request_of line) said is, ap kind asked))
  counted asked counts after (is_accepted another k is above within entry) = absurd (omega (arith, accepted_kind line another k said is, ap kind asked))
  counted asked counts after (is_refused k is from within) = absurd (omega (arith, refused_kind log k line said is, ap kind asked))
  counted asked counts after (is_answered k is from within) = absurd (omega (arith, answered_kind log k line said is, ap kind asked))
  counted asked counts after (is_counted k is from within) = counts k is from within

  -- what is apart from the log has its line
  pub apart : kind (request_of line) ≡ 3 → (IsApart line said → R) → (after : Standing) → Step log caller line said before after → R
  apart asked stands after (no_memory is) = absurd (loud is)
  apart asked stands after (stands_apart is) = stands is
  apart asked stands after (is_accepted another k is above within entry) = absurd (omega (arith, accepted_kind line another k said is, asked))
  apart asked stands after (is_refused k is from within) = absurd (omega (arith, refused_kind log k line said is, asked))
  apart asked stands after (is_answered k is from within) = absurd (omega (arith, answered_kind log k line said is, asked))
  apart asked stands after (is_counted k is from within) = absurd (omega (arith, counted_kind log k _ line said is, asked))
