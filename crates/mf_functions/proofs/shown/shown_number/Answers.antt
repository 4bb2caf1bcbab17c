use Rattle.std.proofs.Common.{ap, ◌∙◌}
use Rattle.mf_decimal.specs.declared.shown.Digits.{Digits}
use Rattle.mf_meaning.specs.Numbers.{round}
use Rattle.mf_meaning.proofs.Numbers.{rounded}
use Rattle.mf_functions.proofs.shown.shown_number.Goals as goal

pub returns : goal.returns
returns c =
    let amount = c.args.amount.now in
    let digits = c.digits_of in
    rounded amount digits.result c.round.result digits.ensures.in_range c.round.ensures ∙ ap (λ (d : Digits). round amount d) digits.ensures.digits
