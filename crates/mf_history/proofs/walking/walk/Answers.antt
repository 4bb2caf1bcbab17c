use Rattle.std.proofs.Common.{arith, ◌∙◌, take, slice_get, length, refl, ap, sym, subst, encode_utf8_all}
use Rattle.std.specs.Bool.{MatchBool}
use Rattle.std.proofs.lemmas.Option.{slice_get_read}
use Rattle.mf_history.specs.Places.{Goes, IsStuck}
use Rattle.mf_history.specs.Verdicts.{Takes}
use Rattle.mf_history.proofs.Walks.{is_place, walk_more}
use Rattle.mf_history.proofs.walking.walk.Goals as goal

pub read-requires-clause-place : goal.read-requires-clause-place
read-requires-clause-place c =
    let walked = c.loop-exchange.invariant.1 c.requires.place.standing c.requires.place.stands in
    is_place c.args.log.now c.loop-exchange.place walked.after walked.stands

pub returns-then-not-branch : goal.returns-then-not-branch
returns-then-not-branch c = λ before stands.
    let walked = c.loop-exchange.invariant.1 before stands in
    record {
      between = walked.after;
      takes = subst (λ n. Takes c.args.most c.args.log.now c.args.caller (take n c.args.lines.now) before walked.after) (sym c.loop-exchange.invariant.0) walked.takes;
      next = c.exchange-item.result;
      there = ap (slice_get c.args.lines.now) c.loop-exchange.invariant.0
          ∙ slice_get_read c.args.lines.now (length c.args.lines.now) c.loop-exchange.exchange-index c.exchange-item.result refl c.loop-exchange-test.true c.exchange-item.is;
      stuck = subst (λ fits. MatchBool fits (Goes c.args.most c.args.log.now c.args.caller c.exchange-item.result.request (encode_utf8_all c.exchange-item.result.reply) walked.after c.read.new.place)
          (IsStuck c.args.most c.args.log.now c.args.caller c.exchange-item.result.request (encode_utf8_all c.exchange-item.result.reply) walked.after))
          c.if-not-branch.true (c.in_ok-read.ensures walked.after walked.stands);
    }

pub loop-exchange-preserved : goal.loop-exchange-preserved
loop-exchange-preserved c = (
  omega (arith, c.loop-exchange.invariant.0),
  λ before stands.
      let walked = c.loop-exchange.invariant.1 before stands in
      walk_more c.args.most c.args.log.now c.args.caller c.args.lines.now c.loop-exchange.exchange-index c.exchange-item.result
      (slice_get_read c.args.lines.now (length c.args.lines.now) c.loop-exchange.exchange-index c.exchange-item.result refl c.loop-exchange-test.true c.exchange-item.is)
      before c.loop-exchange.place c.read.new.place walked
      (subst (λ fits. MatchBool fits (Goes c.args.most c.args.log.now c.args.caller c.exchange-item.result.request (encode_utf8_all c.exchange-item.result.reply) walked.after c.read.new.place)
      (IsStuck c.args.most c.args.log.now c.args.caller c.exchange-item.result.request (encode_utf8_all c.exchange-item.result.reply) walked.after))
      c.if-not-branch.false (c.in_ok-read.ensures walked.after walked.stands)),
)
