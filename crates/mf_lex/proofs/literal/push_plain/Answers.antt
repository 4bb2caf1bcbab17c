use Rattle.std.proofs.Common.{ap, ◌∙◌, chars}
use Rattle.std.proofs.lemmas.Result.{on_ok_weaker}
use Rattle.mf_text.specs.Characters.{is_quoted}
use Rattle.mf_lex.specs.Computed.{is_next}
use Rattle.mf_lex.proofs.Gathering.{run_stops, run_shortens, with_plain}
use Rattle.mf_lex.proofs.literal.push_plain.Goals as goal

pub returns-clause-gathered : goal.returns-clause-gathered
returns-clause-gathered c =
    on_ok_weaker c.push_str.result
    (with_plain c.args.cursor.now.left c.take_run-plain.new.cursor.left (chars c.take_run-plain.result.now)
    c.args.value.now c.push_str.new.self
    c.take_run-plain.ensures.taken c.take_run-plain.ensures.run)
    c.push_str.ensures.ok

pub returns-clause-end : goal.returns-clause-end
returns-clause-end c = ap (is_next is_quoted) c.take_run-plain.ensures.run ∙ run_stops is_quoted c.args.cursor.now.left

pub returns-clause-shorter : goal.returns-clause-shorter
returns-clause-shorter c = rw c.take_run-plain.ensures.run (run_shortens is_quoted c.args.cursor.now.left)
