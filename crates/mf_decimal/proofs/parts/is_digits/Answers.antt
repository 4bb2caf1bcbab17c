use Rattle.std.proofs.Common.{sym, ◌∙◌}
use Rattle.mf_decimal.proofs.Spelling.{digits_alone}
use Rattle.mf_decimal.proofs.parts.is_digits.Goals as goal

pub returns-then-not-is_empty : goal.returns-then-not-is_empty
returns-then-not-is_empty c =
    let d = c.split_digits in
    digits_alone c.args.bytes.now d.result.0.now d.result.1.now c.is_empty-then-not-is_empty.result d.ensures.parts d.ensures.digits d.ensures.longest
    (sym c.if-not-is_empty.true ∙ c.is_empty.ensures) c.is_empty-then-not-is_empty.ensures
