use Rattle.std.proofs.Common.{sym, subst, arith}
use Rattle.mf_decimal.specs.declared.shown.Digits.{Digits}
use Rattle.mf_decimal.specs.Dropping.{IsDrop}
use Rattle.mf_decimal.proofs.Dropped.{fraction_drop, significant_drop, digits_short}
use Rattle.mf_decimal.proofs.decimal.Decimal.drop_count.Goals as goal

pub returns-in-Fraction-clause-drop : goal.returns-in-Fraction-clause-drop
returns-in-Fraction-clause-drop c =
    let f = c.in-Fraction in
    let P : Digits → Type 0 = λ d. IsDrop c.args.self.now d c.saturating_sub.result in
    subst P (sym f.is) (fraction_drop c.args.self.now f.min f.max c.saturating_sub.result c.saturating_sub.ensures)

pub returns-in-Significant-clause-drop : goal.returns-in-Significant-clause-drop
returns-in-Significant-clause-drop c =
    let s = c.in-Significant in
    let result = c.saturating_sub-in-Significant in
    let P : Digits → Type 0 = λ d. IsDrop c.args.self.now d result.result in
    subst P (sym s.is) (significant_drop c.args.self.now s.min s.max c.digit_count.result result.result c.digit_count.ensures result.ensures)

pub returns-in-Significant-clause-within : goal.returns-in-Significant-clause-within
returns-in-Significant-clause-within c =
    let few = digits_short c.args.self.now.coefficient c.digit_count.result c.digit_count.ensures c.args.self.now.short in
    omega arith
