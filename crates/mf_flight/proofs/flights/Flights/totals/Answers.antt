use Rattle.std.proofs.Common.{ℕ, subst}
use Rattle.mf_flight.specs.Sums.{IsSum}
use Rattle.mf_flight.proofs.Puts.{among}
use Rattle.mf_flight.proofs.flights.Flights.totals.Goals as goal

pub returns-in-Some-clause-quits : goal.returns-in-Some-clause-quits
returns-in-Some-clause-quits g c =
    let same = among c.args.self.now.sheets.entries c.args.edition c.in-Some.sheet.now c.in-Some.ensures.value in
    let P : (ℕ → ℕ) → Type 0 = λ f. IsSum f c.totals.result.1 in
    subst P (λ k i. (same i k).quits) c.totals.ensures.quits
