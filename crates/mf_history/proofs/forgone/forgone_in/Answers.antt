use Rattle.std.proofs.Common.{◌∙◌, ap, arith}
use Rattle.std.proofs.lemmas.List.{drop_all}
use Rattle.mf_history.specs.Forgone.{forgone_total}
use Rattle.mf_history.proofs.Sums.{total_is}
use Rattle.mf_history.proofs.forgone.forgone_in.Goals as goal

pub returns-clause-count : goal.returns-clause-count
returns-clause-count c =
    let rest = ap forgone_total (drop_all c.loop-transcript.transcript-index c.args.transcripts.now (omega (arith, c.loop-transcript-test.false))) in
    omega (arith, rest, c.loop-transcript.invariant) ∙ total_is c.args.transcripts.now
