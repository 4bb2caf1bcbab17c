use Rattle.std.proofs.Common.{ℕ, ◌<◌, length, get_or, arith}
use Rattle.std.specs.Int.{IsInRange}
use Rattle.std.proofs.lemmas.Str.Parse.{numerals_by_value, tells_by_index}
use Rattle.std.proofs.lemmas.Grind.{common_steps}
use Rattle.mf_decimal.proofs.parts.split_digits.Goals as goal

pub returns-clause-digits : goal.returns-clause-digits
returns-clause-digits c =
    let each : (i : ℕ) → i < length c.split_at.result.0.now → IsInRange 48 57 (get_or c.split_at.result.0.now i 0) =
    λ i h. grind (arith, common_steps, c.digits_len-len.ensures.digits i) in
    (numerals_by_value _ tells_by_index).to _ each
