use Rattle.std.proofs.Common.{◌≡◌, ℕ, ◌+◌, ◌*◌, ◌^◌, length, arith, rules, refl, ap, ◌∙◌}
use Rattle.mf_decimal.specs.declared.decimal.Decimal.{Decimal}
use Rattle.mf_decimal.specs.Amount.{shifted}
use Rattle.mf_decimal.specs.Grammar.{IsWide, IsValue, literal_amount, raised_by, lowered_by}
use Rattle.mf_decimal.specs.Parts.{literal}
use Rattle.mf_decimal.specs.Significand.{IsPlaced}
use Rattle.mf_decimal.proofs.Values.{wide_whole, wide_all, all_value, zero_value, wide_exponent, placed_value, placed_wide, minus_moves, plus_moves}
use Rattle.mf_decimal.proofs.reading.value.Goals as goal
use Rattle.mf_decimal.proofs.reading.value.Goals.{then-parts, else-parts}

pub returns-in_err-with_digits-clause-wide : goal.returns-in_err-with_digits-clause-wide
returns-in_err-with_digits-clause-wide c =
    let number = literal c.args.parts.now in
    let wide : IsWide (literal_amount number) = wide_whole number _ c.requires.digits.fraction (omega arith) c.in_err-with_digits.ensures.long in
    search rules

pub returns-in_err-number-clause-wide : goal.returns-in_err-number-clause-wide
returns-in_err-number-clause-wide c =
    let number = literal c.args.parts.now in
    let wide : IsWide (literal_amount number) = wide_all number _ (omega (arith, c.in_ok-with_digits.ensures.value)) c.in_err-number.ensures.long in
    search rules

pub returns-then-number-eq0-clause-value : goal.returns-then-number-eq0-clause-value
returns-then-number-eq0-clause-value c =
    let number = literal c.args.parts.now in
    let all = all_value number _ _ (omega (arith, c.in_ok-with_digits.ensures.value)) c.in_ok-number.ensures.value in
    zero_value number _ c.in_ok-number.number.digits c.in_ok-number.number.zeros all (omega arith) refl refl

pub returns-in_err-power-clause-wide : goal.returns-in_err-power-clause-wide
returns-in_err-power-clause-wide c =
    let number = literal c.args.parts.now in
    let n = c.in_ok-number.number in
    let all = all_value number _ _ (omega (arith, c.in_ok-with_digits.ensures.value)) c.in_ok-number.ensures.value in
    let wide : IsWide (literal_amount number) =
    wide_exponent number n.digits n.zeros all (n.last (omega arith)) (omega (arith, c.in_ok-number.ensures.zeros, c.in_ok-with_digits.ensures.zeros)) (omega (arith, c.requires.room)) c.in_err-power.ensures.far in
    search rules

pub returns-clause-value : goal.returns-clause-value
returns-clause-value c =
    let number = literal c.args.parts.now in
    let n = c.in_ok-number.number in
    let power = c.in_ok-power in
    let moved : (c.if-parts.raised.0 ≡ raised_by number) × (c.if-parts.raised.1 ≡ lowered_by number) =
    elim c.if-parts.branch [
      | then-parts w ↦ let to = minus_moves number power.power w.if-parts.true power.ensures.value in (ap (λ (p : ℕ × ℕ). p.0) w.raised-is ∙ to.0, ap (λ (p : ℕ × ℕ). p.1) w.raised-is ∙ to.1)
      | else-parts w ↦ let to = plus_moves number power.power w.if-parts.false power.ensures.value in (ap (λ (p : ℕ × ℕ). p.0) w.raised-is ∙ to.0, ap (λ (p : ℕ × ℕ). p.1) w.raised-is ∙ to.1)
    ] in
    let all = all_value number _ _ (omega (arith, c.in_ok-with_digits.ensures.value)) c.in_ok-number.ensures.value in
    let each : (x : Decimal) → IsPlaced x number.minus (shifted (n.digits * 10 ^ (n.zeros + c.if-parts.raised.0)) (length number.fraction + c.if-parts.raised.1)) → IsValue number x =
    λ x p. placed_value number x n.digits n.zeros c.if-parts.raised.0 c.if-parts.raised.1 all moved.0 moved.1 p in
    search (rules, each)

pub returns-clause-wide : goal.returns-clause-wide
returns-clause-wide c =
    let number = literal c.args.parts.now in
    let n = c.in_ok-number.number in
    let power = c.in_ok-power in
    let moved : (c.if-parts.raised.0 ≡ raised_by number) × (c.if-parts.raised.1 ≡ lowered_by number) =
    elim c.if-parts.branch [
      | then-parts w ↦ let to = minus_moves number power.power w.if-parts.true power.ensures.value in (ap (λ (p : ℕ × ℕ). p.0) w.raised-is ∙ to.0, ap (λ (p : ℕ × ℕ). p.1) w.raised-is ∙ to.1)
      | else-parts w ↦ let to = plus_moves number power.power w.if-parts.false power.ensures.value in (ap (λ (p : ℕ × ℕ). p.0) w.raised-is ∙ to.0, ap (λ (p : ℕ × ℕ). p.1) w.raised-is ∙ to.1)
    ] in
    let all = all_value number _ _ (omega (arith, c.in_ok-with_digits.ensures.value)) c.in_ok-number.ensures.value in
    let each : IsWide (shifted (n.digits * 10 ^ (n.zeros + c.if-parts.raised.0)) (length number.fraction + c.if-parts.raised.1)) → IsWide (literal_amount number) =
    λ w. placed_wide number n.digits n.zeros c.if-parts.raised.0 c.if-parts.raised.1 all moved.0 moved.1 w in
    search (rules, each)
