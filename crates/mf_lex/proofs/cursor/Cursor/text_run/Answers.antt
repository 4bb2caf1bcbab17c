use Rattle.std.proofs.Common.{ap, ◌∙◌}
use Rattle.mf_text.specs.Characters.{is_text}
use Rattle.mf_lex.specs.Computed.{is_next}
use Rattle.mf_lex.proofs.Gathering.{run_shortens, run_stops}
use Rattle.mf_lex.proofs.cursor.Cursor.text_run.Goals as goal

pub returns-clause-longest : goal.returns-clause-longest
returns-clause-longest c = ap (is_next is_text) c.take_run.ensures.run ∙ run_stops is_text c.args.self.now.left

pub returns-clause-no_longer : goal.returns-clause-no_longer
returns-clause-no_longer c = rw c.take_run.ensures.run (run_shortens is_text c.args.self.now.left)
