use Rattle.mf_decimal.specs.Amount.{shown_amount, shifted, amount}
use Rattle.mf_decimal.proofs.Tens.{ten_pos}
use Rattle.mf_decimal.proofs.Showing.{rounds_same, least_same}
use Rattle.mf_decimal.proofs.decimal.Decimal.round.Goals as goal

pub returns : goal.returns
returns c =
    let y = shown_amount c.shown.result in
    let v = shifted c.rounded-coefficient.result.0 c.rounded-coefficient.result.1 in
    record {
      rounded = rounds_same (amount c.args.self.now) y v c.args.digits (ten_pos c.rounded-coefficient.result.1) c.shown.ensures.amount c.rounded-coefficient.ensures.rounded;
      least = c.least_fraction-least.result;
      is_least = least_same y v c.args.digits c.least_fraction-least.result (ten_pos c.rounded-coefficient.result.1) (ten_pos c.shown.result.fraction_len) c.shown.ensures.amount c.least_fraction-least.ensures.least;
      shortest = c.shown.ensures.shortest;
      sign = c.shown.ensures.sign;
    }
