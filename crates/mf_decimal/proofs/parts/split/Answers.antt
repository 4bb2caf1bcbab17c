use Rattle.std.proofs.Common.{sym, ◌∙◌, rules}
use Rattle.std.proofs.lemmas.Bool.{false≢true}
use Rattle.mf_decimal.specs.Grammar.{IsNumber}
use Rattle.mf_decimal.proofs.Spelling.{spelled_by_parts, no_whole, no_fraction, no_exponent_left}
use Rattle.mf_decimal.proofs.parts.split.Goals as goal

pub returns-then-not-is_whole-clause-refused : goal.returns-then-not-is_whole-clause-refused
returns-then-not-is_whole-clause-refused c n =
    let d = c.split_digits in
    let whole = no_whole c.args.text.now c.split_minus-minus.result.1.now d.result.0.now d.result.1.now n c.split_minus-minus.ensures.rest d.ensures.parts d.ensures.digits d.ensures.longest in
    false≢true (sym c.if-not-is_whole.true ∙ c.is_whole.ensures.1 whole)

pub returns-in_err-fraction-clause-refused : goal.returns-in_err-fraction-clause-refused
returns-in_err-fraction-clause-refused c =
    let d = c.split_digits in
    let refused : IsNumber c.args.text.now → ⊥ = λ n.
    no_fraction c.args.text.now c.split_minus-minus.result.1.now d.result.0.now d.result.1.now n c.split_minus-minus.ensures.rest d.ensures.parts d.ensures.digits d.ensures.longest c.in_err-fraction.ensures.refused in
    search rules

pub returns-in_err-exponent_minus-clause-refused : goal.returns-in_err-exponent_minus-clause-refused
returns-in_err-exponent_minus-clause-refused c =
    let d = c.split_digits in
    let f = c.in_ok-fraction in
    let refused : IsNumber c.args.text.now → ⊥ = λ n.
    c.in_err-exponent_minus.ensures.refused
    (no_exponent_left c.args.text.now c.split_minus-minus.result.1.now d.result.0.now d.result.1.now f.fraction.now f.rest.now n c.split_minus-minus.ensures.rest d.ensures.parts d.ensures.digits d.ensures.longest f.ensures.split) in
    search rules

pub returns-clause-spelled : goal.returns-clause-spelled
returns-clause-spelled c =
    let d = c.split_digits in
    let f = c.in_ok-fraction in
    spelled_by_parts c.args.text.now d.result.1.now f.rest.now _ c.split_minus-minus.ensures.minus (sym c.split_minus-minus.ensures.rest ∙ d.ensures.parts) (c.is_whole.ensures.0 c.if-not-is_whole.false) f.ensures.split c.in_ok-exponent_minus.ensures.spelled
