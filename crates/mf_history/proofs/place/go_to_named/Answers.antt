use Rattle.std.proofs.Common.{◌∙◌, sym, arith}
use Rattle.std.proofs.lemmas.Option.{same_Some}
use Rattle.mf_history.proofs.place.go_to_named.Goals.{then-k-number-via-then-k-number, then-k-number-via-else-k-number+then-k-len}
use Rattle.mf_history.proofs.place.go_to_named.Goals as goal

pub returns-then-k-number : goal.returns-then-k-number
returns-then-k-number c =
    λ k from within names.
    let same = same_Some c.in-Some.k k (sym c.in-Some.is ∙ c.edition_named.ensures k (omega (arith, within, c.requires.log.few)) names) in
    elim c.then-k-number.branch [
      | then-k-number-via-then-k-number w ↦ omega (arith, same, from, w.if-k-number.true, c.number.ensures)
      | then-k-number-via-else-k-number+then-k-len w ↦ omega (arith, same, within, w.if-k-len.true, w.len.ensures.len)
    ]

pub returns : goal.returns
returns c = (
  c.in_ok-go_to.ensures.moves,
  λ k within names.
      c.in_ok-go_to.ensures.there ∙ same_Some c.in-Some.k k (sym c.in-Some.is ∙ c.edition_named.ensures k (omega (arith, within, c.requires.log.few)) names),
)
