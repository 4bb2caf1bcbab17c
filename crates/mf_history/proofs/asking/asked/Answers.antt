use Rattle.std.proofs.Common.{ap, sym}
use Rattle.mf_transcript.specs.Asked.{asked_checked}
use Rattle.mf_wire.specs.Requests.{line_request}
use Rattle.mf_history.proofs.asking.asked.Goals as goal

pub returns-in_ok-refusal-in-Err-clause-asked : goal.returns-in_ok-refusal-in-Err-clause-asked
returns-in_ok-refusal-in-Err-clause-asked c =
    sym (ap asked_checked (c.in_ok-refusal-in-Err.ensures.due (line_request c.args.line.now) c.in-Err.ensures.refused))

pub returns-in_ok-refusal-in-Err-clause-plain : goal.returns-in_ok-refusal-in-Err-clause-plain
returns-in_ok-refusal-in-Err-clause-plain c = c.in_ok-refusal-in-Err.ensures.plain
