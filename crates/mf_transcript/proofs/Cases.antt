-- No two cases hold of one line and its reply.
use Rattle.std.proofs.Common.{◌≡◌, ◌∙◌, ℕ, List, Result, Ok, Err, refl, sym, arith}
use Rattle.mf_edition.specs.declared.change.Entry.{Entry}
use Rattle.mf_wire.specs.Replies.{memory_line, op_of}
use Rattle.mf_wire.specs.declared.reply.Reply.{Reply}
use Rattle.mf_wire.specs.declared.reply.Reply.TheVariants as reply
use Rattle.mf_wire.specs.declared.request.Request.{Request}
use Rattle.mf_wire.specs.declared.request.Request.TheVariants.{Format, Lint, Publish, Stat}
use Rattle.mf_transcript.specs.Asked.{request_of}
use Rattle.mf_transcript.specs.Laws.{OneCaseHolds}
use Rattle.mf_transcript.specs.Replies.{refusal_reply}
use Rattle.mf_transcript.specs.Served.{in_edition}
use Rattle.mf_transcript.specs.Steps.{case_of, no_memory, stands_apart, is_accepted, is_refused, is_answered, is_counted, ApartFor, IsApart, Standing, Step}
use Rattle.mf_transcript.proofs.Fixed.{accepted_kind, accepted_or_refused, answered_kind, apart_kind, counted_kind, refused_kind}
use Rattle.mf_transcript.proofs.Written.{replies_differ}

apart_answers : (asked : Result Request Reply) (said : List ℕ) → ApartFor asked said → said ≡ memory_line → ⊥
apart_answers (Ok (Publish change)) said is memory = is
apart_answers (Ok (Format tag id arguments since)) said is memory = is
apart_answers (Ok Stat) said is memory = is
apart_answers (Ok (Lint source)) said is memory = replies_differ is.reply (sym is.written ∙ memory)
apart_answers (Err refusal) said is memory = replies_differ refusal (sym is ∙ memory)

module _ (log : List Entry) (caller : ℕ) (line said : List ℕ) (before : Standing) where
  memory_case : (after : Standing) → said ≡ memory_line → (step : Step log caller line said before after) → 1 ≡ case_of step
  memory_case after memory (no_memory is) = refl
  memory_case after memory (stands_apart is) = absurd (apart_answers (request_of line) said is memory)
  memory_case after memory (is_accepted change k is above inside entry) = absurd (replies_differ (reply.Accepted k (op_of change)) (sym is.replied ∙ memory))
  memory_case after memory (is_refused k is from inside) = absurd (replies_differ (refusal_reply is.refusal) (sym is.replied ∙ memory))
  memory_case after memory (is_answered k is from inside) = absurd (replies_differ is.replied.reply (sym is.replied.written ∙ memory))
  memory_case after memory (is_counted k is from inside) = absurd (replies_differ (reply.Stat k is.starts is.quits) (sym is.replied ∙ memory))

  apart_case : (after : Standing) → IsApart line said → (step : Step log caller line said before after) → 2 ≡ case_of step
  apart_case after apart (no_memory is) = absurd (apart_answers (request_of line) said apart is)
  apart_case after apart (stands_apart is) = refl
  apart_case after apart (is_accepted change k is above inside entry) = absurd (omega (arith, apart_kind (request_of line) said apart, accepted_kind line change k said is))
  apart_case after apart (is_refused k is from inside) = absurd (omega (arith, apart_kind (request_of line) said apart, refused_kind log k line said is))
  apart_case after apart (is_answered k is from inside) = absurd (omega (arith, apart_kind (request_of line) said apart, answered_kind log k line said is))
  apart_case after apart (is_counted k is from inside) = absurd (omega (arith, apart_kind (request_of line) said apart, counted_kind log k (in_edition k before.served) line said is))

  case_same : (one other : Standing) (step : Step log caller line said before one) (another : Step log caller line said before other) → case_of step ≡ case_of another
  case_same one other (no_memory is) another = memory_case other is another
  case_same one other (stands_apart is) another = apart_case other is another
  case_same one other step (no_memory is) = sym (memory_case one is step)
  case_same one other step (stands_apart is) = sym (apart_case one is step)
  case_same one other (is_accepted change j is above inside entry) (is_accepted another k is_too more near next) = refl
  case_same one other (is_accepted change j is above inside entry) (is_refused k is_too least near) = absurd (accepted_or_refused log change j k line said is is_too)
  case_same one other (is_accepted change j is above inside entry) (is_answered k is_too least near) = absurd (omega (arith, accepted_kind line change j said is, answered_kind log k line said is_too))
  case_same one other (is_accepted change j is above inside entry) (is_counted k is_too least near) = absurd (omega (arith, accepted_kind line change j said is, counted_kind log k (in_edition k before.served) line said is_too))
  case_same one other (is_refused j is from inside) (is_accepted another k is_too more near next) = absurd (accepted_or_refused log another k j line said is_too is)
  case_same one other (is_refused j is from inside) (is_refused k is_too least near) = refl
  case_same one other (is_refused j is from inside) (is_answered k is_too least near) = absurd (omega (arith, refused_kind log j line said is, answered_kind log k line said is_too))
  case_same one other (is_refused j is from inside) (is_counted k is_too least near) = absurd (omega (arith, refused_kind log j line said is, counted_kind log k (in_edition k before.served) line said is_too))
  case_same one other (is_answered j is from inside) (is_accepted another k is_too more near next) = absurd (omega (arith, answered_kind log j line said is, accepted_kind line another k said is_too))
  case_same one other (is_answered j is from inside) (is_refused k is_too least near) = absurd (omega (arith, answered_kind log j line said is, refused_kind log k line said is_too))
  case_same one other (is_answered j is from inside) (is_answered k is_too least near) = refl
  case_same one other (is_answered j is from inside) (is_counted k is_too least near) = absurd (omega (arith, answered_kind log j line said is, counted_kind log k (in_edition k before.served) line said is_too))
  case_same one other (is_counted j is from inside) (is_accepted another k is_too more near next) = absurd (omega (arith, counted_kind log j (in_edition j before.served) line said is, accepted_kind line another k said is_too))
  case_same one other (is_counted j is from inside) (is_refused k is_too least near) = absurd (omega (arith, counted_kind log j (in_edition j before.served) line said is, refused_kind log k line said is_too))
  case_same one other (is_counted j is from inside) (is_answered k is_too least near) = absurd (omega (arith, counted_kind log j (in_edition j before.served) line said is, answered_kind log k line said is_too))
  case_same one other (is_counted j is from inside) (is_counted k is_too least near) = refl

pub one_case : OneCaseHolds
one_case log caller line said before one other step another = case_same log caller line said before one other step another
