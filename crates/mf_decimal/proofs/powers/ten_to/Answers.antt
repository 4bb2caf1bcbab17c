use Rattle.std.proofs.Common.{◌^◌, refl, ◌∙◌, arith}
use Rattle.std.proofs.Math.Nat.{one-mul}
use Rattle.mf_decimal.specs.declared.powers.TheConstants.{POWERS}
use Rattle.mf_decimal.proofs.Tens.{ten_pos, power_at}
use Rattle.mf_decimal.proofs.powers.ten_to.Goals as goal

pub returns-clause-value : goal.returns-clause-value
returns-clause-value c = power_at POWERS 1 c.args.k refl (omega arith) ∙ one-mul (10 ^ c.args.k)

pub returns-clause-some : goal.returns-clause-some
returns-clause-some c =
    let at = power_at POWERS 1 c.args.k refl (omega arith) in
    let some = ten_pos c.args.k in
    omega arith
