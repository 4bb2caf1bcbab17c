use Rattle.std.proofs.Common.{◌∙◌, length, refl, ap, sym, subst, arith}
use Rattle.std.proofs.lemmas.List.{take_all}
use Rattle.std.proofs.lemmas.Option.{slice_get_read}
use Rattle.mf_transcript.specs.Transcripts.{stands_at}
use Rattle.mf_history.specs.Records.{said_by}
use Rattle.mf_history.specs.Walks.{Stops, Walked, Walks}
use Rattle.mf_history.proofs.Walks.{one_unclaimed, passes_on, passes_over, stops_in}
use Rattle.mf_history.proofs.walking.first_unfit.Goals as goal

pub loop-transcript-preserved-then-transcript-caller : goal.loop-transcript-preserved-then-transcript-caller
loop-transcript-preserved-then-transcript-caller c =
    passes_over c.args.most c.args.log.now c.args.caller c.args.transcripts.now c.loop-transcript.transcript-index c.transcript-item.result
    (slice_get_read c.args.transcripts.now (length c.args.transcripts.now) c.loop-transcript.transcript-index c.transcript-item.result refl c.loop-transcript-test.true c.transcript-item.is)
    c.if-transcript-caller.true c.loop-transcript.place c.loop-transcript.passed c.loop-transcript.invariant.0 c.loop-transcript.invariant.1

pub returns-in-Some : goal.returns-in-Some
returns-in-Some c =
    let walked = c.loop-transcript.invariant.1 in
    stops_in c.args.most c.args.log.now c.args.caller c.args.transcripts.now c.loop-transcript.transcript-index c.transcript-item.result
    (slice_get_read c.args.transcripts.now (length c.args.transcripts.now) c.loop-transcript.transcript-index c.transcript-item.result refl c.loop-transcript-test.true c.transcript-item.is)
    c.requires.log c.if-transcript-caller.false c.loop-transcript.place walked c.loop-transcript.passed c.in-Some.more c.loop-transcript.invariant.0
    (subst (λ lines. Stops c.args.most c.args.log.now c.args.caller lines walked.after c.in-Some.more) c.as_slice-lines.ensures
    (subst (Walks c.args.most c.args.log.now c.args.caller c.as_slice-lines.result.now c.loop-transcript.place c.walk.new.place) c.in-Some.is c.in_ok-more.ensures
    walked.after walked.stands))
    c.in_ok-sum.field-0 (omega (arith, c.in_ok-sum.ensures, c.in_ok-unfit.ensures))

pub loop-transcript-preserved : goal.loop-transcript-preserved
loop-transcript-preserved c =
    let walked = c.loop-transcript.invariant.1 in
    passes_on c.args.most c.args.log.now c.args.caller c.args.transcripts.now c.loop-transcript.transcript-index c.transcript-item.result
    (slice_get_read c.args.transcripts.now (length c.args.transcripts.now) c.loop-transcript.transcript-index c.transcript-item.result refl c.loop-transcript-test.true c.transcript-item.is)
    c.if-transcript-caller.false c.loop-transcript.place c.walk.new.place c.loop-transcript.passed c.in_ok-passed.passed c.loop-transcript.invariant.0
    (omega (arith, c.in_ok-passed.ensures, ap length c.as_slice-lines.ensures)) walked
    (subst (λ lines. Walked c.args.most c.args.log.now c.args.caller lines walked.after c.walk.new.place) c.as_slice-lines.ensures
    (subst (Walks c.args.most c.args.log.now c.args.caller c.as_slice-lines.result.now c.loop-transcript.place c.walk.new.place) c.in_default.is c.in_ok-more.ensures
    walked.after walked.stands))

pub returns : goal.returns
returns c =
    let all = take_all c.loop-transcript.transcript-index c.args.transcripts.now (omega (arith, c.loop-transcript-test.false)) in
    let walked = subst (λ l. Walked c.args.most c.args.log.now c.args.caller (said_by c.args.caller l) (stands_at c.args.caller c.args.log.now 0) c.loop-transcript.place) all
    c.loop-transcript.invariant.1 in
    one_unclaimed c.args.most c.args.log.now c.args.caller c.requires.log (said_by c.args.caller c.args.transcripts.now) c.loop-transcript.place walked
    (λ same. c.if-place-entries_of.false (same ∙ sym c.entries_of.ensures))
    c.in_ok-sum-2.field-0 (omega (arith, c.in_ok-sum-2.ensures, c.loop-transcript.invariant.0, ap (λ l. length (said_by c.args.caller l)) all))
