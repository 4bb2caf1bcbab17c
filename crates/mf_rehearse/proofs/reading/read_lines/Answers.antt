use Rattle.mf_rehearse.proofs.Copying.{reads_lines, stops_at}
use Rattle.mf_rehearse.specs.Rehearsals.{rehearse_caps}
use Rattle.mf_rehearse.proofs.reading.read_lines.Goals as goal

pub returns-in-Ended-2-clause-whole : goal.returns-in-Ended-2-clause-whole
returns-in-Ended-2-clause-whole g c =
    reads_lines rehearse_caps _ c.answer_input.new.desk _ _ _ _ c.new.ensures.items c.if-copied.false c.in-Ended-2.ensures.outcome

pub returns-in_default : goal.returns-in_default
returns-in_default g c = record {
  whole = tt;
  stopped = stops_at rehearse_caps _ c.answer_input.new.desk _ _ _ _ c.answer_input.result _ _ c.in_default.not-Ended c.answer_input.ensures.write_fault
      c.answer_input.ensures.outcome;
  read_fault = c.answer_input.ensures.read_fault;
  source_count = c.answer_input.ensures.source_count;
}
