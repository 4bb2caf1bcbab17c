use Rattle.std.proofs.Common.{Some, ap, ◌∙◌}
use Rattle.mf_history.proofs.Lines.{store_line}
use Rattle.mf_history.proofs.numbers.used_named.Goals as goal

pub returns-in_err-rest : goal.returns-in_err-rest
returns-in_err-rest c = λ used size small little is. absurd (c.in_err-rest.ensures size _ little (is ∙ store_line used size))

pub returns-in_err-used : goal.returns-in_err-used
returns-in_err-used c =
    λ used size small little is.
    let first = c.in_ok-rest.ensures size _ little (is ∙ store_line used size) in
    absurd (c.in_err-used.ensures used _ small first.1)

pub returns : goal.returns
returns c =
    λ used size small little is.
    let first = c.in_ok-rest.ensures size _ little (is ∙ store_line used size) in
    ap Some (c.in_ok-used.ensures used _ small first.1).0
