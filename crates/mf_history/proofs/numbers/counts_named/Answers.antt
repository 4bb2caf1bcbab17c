use Rattle.std.proofs.Common.{Some, ◌∙◌}
use Rattle.mf_transcript.proofs.Shown.{stat_line}
use Rattle.mf_history.proofs.numbers.counts_named.Goals as goal

pub returns-in_err-edition : goal.returns-in_err-edition
returns-in_err-edition c = λ k starts quits small low little is. absurd (c.in_err-edition.ensures k _ small (is ∙ stat_line k starts quits))

pub returns-in_err-quits : goal.returns-in_err-quits
returns-in_err-quits c =
    λ k starts quits small low little is.
    let first = c.in_ok-edition.ensures k _ small (is ∙ stat_line k starts quits) in
    absurd (c.in_err-quits.ensures quits _ little first.1)

pub returns-in_err-starts : goal.returns-in_err-starts
returns-in_err-starts c =
    λ k starts quits small low little is.
    let first = c.in_ok-edition.ensures k _ small (is ∙ stat_line k starts quits) in
    let second = c.in_ok-quits.ensures quits _ little first.1 in
    absurd (c.in_err-starts.ensures starts _ low second.1)

pub returns : goal.returns
returns c =
    λ k starts quits small low little is.
    let first = c.in_ok-edition.ensures k _ small (is ∙ stat_line k starts quits) in
    let second = c.in_ok-quits.ensures quits _ little first.1 in
    let third = c.in_ok-starts.ensures starts _ low second.1 in
    λ i. Some (record { edition = first.0 i; starts = third.0 i; quits = second.0 i })
