use Rattle.std.proofs.Common.{ap, ◌∙◌}
use Rattle.mf_lex.specs.Cursor.{Place}
use Rattle.mf_lex.specs.Computed.{gathered}
use Rattle.mf_lex.proofs.Gathering.{gathered_nothing, with_escape}
use Rattle.mf_lex.proofs.literal.read_quoted.Goals as goal

pub loop-cursor-init : goal.loop-cursor-init
loop-cursor-init c = record {
  same =
      c.in_ok-push_plain.ensures.gathered
      ∙ ap (λ cs. gathered cs c.args.cursor.now.left) c.new-value.ensures
      ∙ gathered_nothing c.args.cursor.now.left;
  end = c.in_ok-push_plain.ensures.end;
  whole = c.in_ok-push_plain.ensures.whole;
}

pub loop-cursor-preserved : goal.loop-cursor-preserved
loop-cursor-preserved c = record {
  same =
      c.in_ok-push_plain-2.ensures.gathered
      ∙ with_escape c.args.cursor.now.left c.loop-cursor.cursor.left c.pass_escape.new.cursor.left c.pass_one.new.cursor.left
      c.loop-cursor.value c.push.new.self c.in-Some.c
      c.loop-cursor.invariant.same c.in-Some.ensures.computed
      (ap (λ (p : Place). p.left) c.loop-cursor-test.ensures.passed)
      c.in_ok-push.ensures.ok;
  end = c.in_ok-push_plain-2.ensures.end;
  whole =
      c.in_ok-push_plain-2.ensures.whole
      ∙ c.in-Some.ensures.whole
      ∙ c.pass_one.ensures.whole
      ∙ c.loop-cursor.invariant.whole;
}
