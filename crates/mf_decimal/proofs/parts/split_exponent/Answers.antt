use Rattle.std.proofs.Common.{◌≡◌, ◌⊎◌, inl, inr, arith}
use Rattle.mf_decimal.proofs.Spelling.{exponent_spelled}
use Rattle.mf_decimal.proofs.parts.split_exponent.Goals as goal
use Rattle.mf_decimal.proofs.parts.split_exponent.Goals.{else-mark-ne101-via-then-mark-ne101+else-mark-ne69, else-mark-ne101-via-else-mark-ne101}

pub returns-then-is_digits-clause-spelled : goal.returns-then-is_digits-clause-spelled
returns-then-is_digits-clause-spelled c =
    let mark : (c.in-Some.mark.now ≡ 101) ⊎ (c.in-Some.mark.now ≡ 69) =
    elim c.else-mark-ne101.branch [
      | else-mark-ne101-via-then-mark-ne101+else-mark-ne69 w ↦ inr (omega arith)
      | else-mark-ne101-via-else-mark-ne101 w ↦ inl (omega arith)
    ] in
    exponent_spelled c.args.bytes.now c.in-Some.mark.now c.in-Some.signed.now c.split_exponent_sign-minus.result.1.now c.split_exponent_sign-minus.result.0
    c.in-Some.ensures.cases.0 mark c.split_exponent_sign-minus.ensures.rest c.split_exponent_sign-minus.ensures.minus (c.is_digits.ensures.0 c.if-is_digits.true)
