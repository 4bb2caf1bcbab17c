use Rattle.std.proofs.Common.{◌≡◌, ◌∙◌, ◌↔◌, ℕ, Bool, true, false, List, Ok, Err, ◌<◌, ◌++◌, refl, ap, sym, subst, encode_utf8_all}
use Rattle.std.specs.Prelude.{IfSome, IsTrue}
use Rattle.std.specs.Result.{IfOk}
use Rattle.std.proofs.lemmas.Bool.{true≢false}
use Rattle.std.proofs.lemmas.Result.{IfOk-weaker}
use Rattle.mf_history.proofs.Results.{IfOk-both}
use Rattle.mf_transcript.specs.Asked.{request_of}
use Rattle.mf_transcript.specs.Replies.{IsLintReply}
use Rattle.mf_wire.specs.Replies.{reply_line}
use Rattle.mf_history.specs.Asking.{ShowsNoCounts}
use Rattle.mf_history.specs.Places.{listed, IsNamed, IsStuck, Reads}
use Rattle.mf_history.specs.Served.{IsServed}
use Rattle.mf_wire.specs.declared.request.Request.TheVariants.{Format, Lint}
use Rattle.mf_history.proofs.Apart.{lint_goes, lint_stuck, memory_goes, refusal_goes, refusal_stuck}
use Rattle.mf_history.proofs.Sentences.{sentence_goes, sentence_other, sentence_stuck}
use Rattle.mf_history.proofs.reading.read.Goals as goal

pub returns-then-is_memory : goal.returns-then-is_memory
returns-then-is_memory c = λ before stands.
    memory_goes c.args.most c.args.log.now c.args.caller c.args.exchange.now.request (encode_utf8_all c.args.exchange.now.reply) c.args.place.now before stands
    (sym c.as_str-said.ensures.bytes ∙ c.is_memory.ensures.0 c.if-is_memory.true)

pub returns-in-Ok-Stat : goal.returns-in-Ok-Stat
returns-in-Ok-Stat c =
    let asked = ap request_of (sym c.as_slice.ensures) ∙ sym c.in_ok-refusal.ensures.asked ∙ c.in-Ok-Stat.is ∙ ap Ok c.in-Ok-Stat.field-0-is in
    subst (λ said. IfOk c.count.result (Reads c.args.most c.args.log.now c.args.caller c.args.exchange.now.request said c.args.place.now c.count.new.place))
    c.as_str-said.ensures.bytes
    (IfOk-weaker c.count.result _ _
    (λ fits reads. reads c.args.caller c.args.exchange.now.request asked (λ memory. true≢false (sym (c.is_memory.ensures.1 memory) ∙ c.if-is_memory.false))) c.count.ensures)

pub returns-in-Ok-Publish : goal.returns-in-Ok-Publish
returns-in-Ok-Publish c =
    let asked = ap request_of (sym c.as_slice.ensures) ∙ sym c.in_ok-refusal.ensures.asked ∙ c.in-Ok-Publish.is ∙ ap Ok c.in-Ok-Publish.field-0-is in
    subst (λ said. IfOk c.publish.result (Reads c.args.most c.args.log.now c.args.caller c.args.exchange.now.request said c.args.place.now c.publish.new.place))
    c.as_str-said.ensures.bytes
    (IfOk-weaker c.publish.result _ _
    (λ fits reads. reads c.args.most c.args.exchange.now.request asked (λ memory. true≢false (sym (c.is_memory.ensures.1 memory) ∙ c.if-is_memory.false))) c.publish.ensures)

pub returns-in-Err : goal.returns-in-Err
returns-in-Err c =
    subst (λ said. IfOk c.is_line.result (Reads c.args.most c.args.log.now c.args.caller c.args.exchange.now.request said c.args.place.now c.args.place.now))
    c.as_str-said.ensures.bytes
    (IfOk-weaker c.is_line.result _ _ by c.is_line.ensures)
  where
    asked : request_of c.args.exchange.now.request ≡ Err c.in-Err.refusal
    asked = ap request_of (sym c.as_slice.ensures) ∙ sym c.in_ok-refusal.ensures.asked ∙ c.in-Err.is

    by : (fits : Bool) → IsTrue fits ↔ (c.as_str-said.result.now ≡ reply_line c.in-Err.refusal)
        → Reads c.args.most c.args.log.now c.args.caller c.args.exchange.now.request c.as_str-said.result.now c.args.place.now c.args.place.now fits
    by true is before stands =
        refusal_goes c.args.most c.args.log.now c.args.caller c.args.exchange.now.request c.as_str-said.result.now c.args.place.now before stands c.in-Err.refusal asked
        (subst ShowsNoCounts c.in-Err.is c.in_ok-refusal.ensures.plain) (is.0 refl)
    by false is before stands =
        refusal_stuck c.args.most c.args.log.now c.args.caller c.args.exchange.now.request c.as_str-said.result.now c.args.place.now before stands
        (λ memory. true≢false (sym (c.is_memory.ensures.1 memory) ∙ c.if-is_memory.false)) c.in-Err.refusal asked (λ same. true≢false (sym (is.1 same)))

pub returns-in_ok-reply-in-Ok-Lint : goal.returns-in_ok-reply-in-Ok-Lint
returns-in_ok-reply-in-Ok-Lint c =
    subst (λ said. IfOk c.is_line-in-Ok-Lint.result (Reads c.args.most c.args.log.now c.args.caller c.args.exchange.now.request said c.args.place.now c.args.place.now))
    c.as_str-said.ensures.bytes
    (IfOk-weaker c.is_line-in-Ok-Lint.result _ _ by c.is_line-in-Ok-Lint.ensures)
  where
    asked : request_of c.args.exchange.now.request ≡ Ok (Lint c.in-Ok-Lint.source)
    asked = ap request_of (sym c.as_slice.ensures) ∙ sym c.in_ok-refusal.ensures.asked ∙ c.in-Ok-Lint.is ∙ ap Ok c.in-Ok-Lint.field-0-is

    due : IsLintReply c.in-Ok-Lint.source c.in_ok-reply-in-Ok-Lint.reply
    due = subst (λ source. IsLintReply source c.in_ok-reply-in-Ok-Lint.reply) c.as_str.ensures.characters c.in_ok-reply-in-Ok-Lint.ensures

    by : (fits : Bool) → IsTrue fits ↔ (c.as_str-said.result.now ≡ reply_line c.in_ok-reply-in-Ok-Lint.reply)
        → Reads c.args.most c.args.log.now c.args.caller c.args.exchange.now.request c.as_str-said.result.now c.args.place.now c.args.place.now fits
    by true is before stands =
        lint_goes c.args.most c.args.log.now c.args.caller c.args.exchange.now.request c.as_str-said.result.now c.args.place.now before stands
        c.in-Ok-Lint.source c.in_ok-reply-in-Ok-Lint.reply asked due (is.0 refl)
    by false is before stands =
        lint_stuck c.args.most c.args.log.now c.args.caller c.args.exchange.now.request c.as_str-said.result.now c.args.place.now before stands
        (λ memory. true≢false (sym (c.is_memory.ensures.1 memory) ∙ c.if-is_memory.false)) c.in-Ok-Lint.source c.in_ok-reply-in-Ok-Lint.reply asked due
        (λ same. true≢false (sym (is.1 same)))

pub returns-then-not-branch : goal.returns-then-not-branch
returns-then-not-branch c = λ before stands.
    subst (λ said. IsStuck c.args.most c.args.log.now c.args.caller c.args.exchange.now.request said before) c.as_str-said.ensures.bytes
    (sentence_stuck c.args.most c.args.log.now c.args.caller c.args.exchange.now.request c.as_str-said.result.now
    c.in-Ok-Format.tag c.in-Ok-Format.id c.in-Ok-Format.arguments c.in-Ok-Format.since
    (ap request_of (sym c.as_slice.ensures) ∙ sym c.in_ok-refusal.ensures.asked ∙ c.in-Ok-Format.is ∙ ap Ok c.in-Ok-Format.field-0-is)
    c.args.place.now before stands
    (λ memory. true≢false (sym (c.is_memory.ensures.1 memory) ∙ c.if-is_memory.false))
    (subst (IsNamed c.args.log.now c.as_str-said.result.now c.args.place.now c.go_to_named.new.place) c.if-not-branch.true c.in_ok-go_to_named-in-Ok-Format.ensures))

pub returns-in_ok-answered-in-Ok-Format : goal.returns-in_ok-answered-in-Ok-Format
returns-in_ok-answered-in-Ok-Format c =
    subst (λ said. IfOk c.take_answer.result (Reads c.args.most c.args.log.now c.args.caller c.args.exchange.now.request said c.args.place.now c.take_answer.new.place))
    c.as_str-said.ensures.bytes
    (IfOk-weaker c.take_answer.result _ _ by (IfOk-both c.take_answer.result _ _ c.take_answer.ensures.is c.take_answer.ensures.served))
  where
    asked : request_of c.args.exchange.now.request ≡ Ok (Format c.in-Ok-Format.tag c.in-Ok-Format.id c.in-Ok-Format.arguments c.in-Ok-Format.since)
    asked = ap request_of (sym c.as_slice.ensures) ∙ sym c.in_ok-refusal.ensures.asked ∙ c.in-Ok-Format.is ∙ ap Ok c.in-Ok-Format.field-0-is

    named : IsNamed c.args.log.now c.as_str-said.result.now c.args.place.now c.go_to_named.new.place true
    named = subst (IsNamed c.args.log.now c.as_str-said.result.now c.args.place.now c.go_to_named.new.place) c.if-not-branch.false c.in_ok-go_to_named-in-Ok-Format.ensures

    by : (fits : Bool)
        → (IsTrue fits ↔ (c.as_str-said.result.now ≡ reply_line c.in_ok-answered-in-Ok-Format.answered.reply))
        × ((indexes : List ℕ) (items : ℕ) → IsTrue fits → IsServed c.go_to_named.new.place.served indexes items
        → IfSome c.in_ok-answered-in-Ok-Format.answered.served (λ index. index < items)
        → IsServed c.take_answer.new.place.served (indexes ++ listed c.in_ok-answered-in-Ok-Format.answered.served) items)
        → Reads c.args.most c.args.log.now c.args.caller c.args.exchange.now.request c.as_str-said.result.now c.args.place.now c.take_answer.new.place fits
    by true is before stands =
        sentence_goes c.args.most c.args.log.now c.args.caller c.args.exchange.now.request c.as_str-said.result.now
        c.in-Ok-Format.tag c.in-Ok-Format.id c.in-Ok-Format.arguments c.in-Ok-Format.since asked c.args.place.now before stands
        c.go_to_named.new.place named.0 c.go_to_named.new.place.front.edition.number refl
        c.take_answer.new.place c.in_ok-answered-in-Ok-Format.answered.reply (listed c.in_ok-answered-in-Ok-Format.answered.served)
        c.in_ok-answered-in-Ok-Format.ensures.reply (is.0.0 refl) c.in_ok-answered-in-Ok-Format.ensures.served
        c.take_answer.ensures.front c.take_answer.ensures.made
        (λ served. is.1 _ _ refl served c.in_ok-answered-in-Ok-Format.ensures.inside)
    by false is before stands =
        sentence_other c.args.most c.args.log.now c.args.caller c.args.exchange.now.request c.as_str-said.result.now
        c.in-Ok-Format.tag c.in-Ok-Format.id c.in-Ok-Format.arguments c.in-Ok-Format.since asked c.args.place.now before stands
        c.go_to_named.new.place named.0 c.go_to_named.new.place.front.edition.number refl
        (λ memory. true≢false (sym (c.is_memory.ensures.1 memory) ∙ c.if-is_memory.false)) named.1
        c.in_ok-answered-in-Ok-Format.answered.reply c.in_ok-answered-in-Ok-Format.ensures.reply
        (λ same. true≢false (sym (is.0.1 same)))
