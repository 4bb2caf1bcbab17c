use Rattle.std.proofs.Common.{ap, sym, ◌∙◌}
use Rattle.mf_tree.specs.declared.pattern.Piece.TheVariants as Pieces
use Rattle.mf_parse.specs.Computed.{made, onto, pattern_at, text_ends}
use Rattle.mf_parse.proofs.Texts.{passed_nothing, passed_run, passed_escape, passed_stop, passed_some, passed_wrong}
use Rattle.mf_parse.proofs.pattern.text.Goals as goal

pub loop-c-init : goal.loop-c-init
loop-c-init c =
    let start = c.args.cursor.now.left in
    let empty = c.new-text.result in record {
      passed =
          passed_run empty c.push_plain.new.text start start c.push_plain.new.cursor.left
          (passed_nothing empty start c.new-text.ensures) c.in_ok-push_plain.ensures.gained c.in_ok-push_plain.ensures.left;
      end = c.in_ok-push_plain.ensures.end;
    }

pub loop-c-preserved : goal.loop-c-preserved
loop-c-preserved c =
    let start = c.args.cursor.now.left in
    let longer = c.push.new.self in record {
      passed =
          passed_run longer c.push_plain-in-Some.new.text start c.escape.new.self.left c.push_plain-in-Some.new.cursor.left
          (passed_escape c.in-Some.c c.loop-c.text longer start c.loop-c.cursor.left c.escape.new.self.left
          c.loop-c.invariant.passed c.in-Some.ensures.computed c.in_ok-push.ensures.ok)
          c.in_ok-push_plain-2.ensures.gained c.in_ok-push_plain-2.ensures.left;
      end = c.in_ok-push_plain-2.ensures.end;
    }

pub returns-then-not-ends_text-clause-none : goal.returns-then-not-ends_text-clause-none
returns-then-not-ends_text-clause-none c is =
    passed_wrong c.loop-c.text c.args.cursor.now.left c.loop-c.cursor.left c.loop-c.invariant.passed c.loop-c.invariant.end
    (ap text_ends (sym c.in_default.ensures.computed.1) ∙ sym c.ends_text.ensures ∙ c.if-not-ends_text.true) c.in_default.ensures.computed.0

pub returns-clause-found : goal.returns-clause-found
returns-clause-found c =
    let text = c.loop-c.text in
    let left = c.in_default.ensures.computed.1 in
    let ends = ap text_ends (sym left) ∙ sym c.ends_text.ensures ∙ c.if-not-ends_text.false in
    let some = passed_some text c.args.cursor.now.left c.loop-c.cursor.left c.loop-c.invariant.passed ends c.requires in
    passed_stop text c.args.cursor.now.left c.loop-c.cursor.left c.loop-c.invariant.passed ends some.0
    ∙ ap (λ cs. made (onto (Pieces.Text text)) (pattern_at cs)) (sym left)
