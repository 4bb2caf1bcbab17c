use Rattle.std.proofs.Common.{None, Some, ◌≡◌, ◌∙◌, sym, ap}
use Rattle.std.specs.Result.{result_ok}
use Rattle.std.proofs.lemmas.Fmt.{parse-decimal}
use Rattle.std.proofs.lemmas.Option.{none-some, same_Some}
use Rattle.mf_history.proofs.Digits.{after_words, split_digits}
use Rattle.mf_history.proofs.numbers.number_after.Goals as goal

pub returns-in_err-digits : goal.returns-in_err-digits
returns-in_err-digits c =
    λ n rest small is.
    let strips = c.in_ok-strip_prefix.ensures.cases in
    let left = after_words c.args.words.now c.args.line.now c.in_ok-strip_prefix.field-0.now _ strips.0 strips.1 strips.2 is in
    absurd (split_digits c.args.end n rest c.requires small c.in_ok-strip_prefix.field-0.now None c.in_err-digits.ensures.cases left)

pub returns-in_err-number : goal.returns-in_err-number
returns-in_err-number c =
    λ n rest small is.
    let strips = c.in_ok-strip_prefix.ensures.cases in
    let left = after_words c.args.words.now c.args.line.now c.in_ok-strip_prefix.field-0.now _ strips.0 strips.1 strips.2 is in
    let parts = split_digits c.args.end n rest c.requires small c.in_ok-strip_prefix.field-0.now (Some (c.in_ok-digits.digits, c.in_ok-digits.rest)) c.in_ok-digits.ensures.cases left in
    let read = parse-decimal 64 n c.in_ok-digits.digits.now c.parse.result small small parts.0 c.parse.ensures.value.0 in
    let none : None ≡ Some n = sym c.in_err-number.was ∙ c.ok.ensures.value ∙ ap result_ok read in
    absurd (none-some n none)

pub returns : goal.returns
returns c =
    λ n rest small is.
    let strips = c.in_ok-strip_prefix.ensures.cases in
    let left = after_words c.args.words.now c.args.line.now c.in_ok-strip_prefix.field-0.now _ strips.0 strips.1 strips.2 is in
    let parts = split_digits c.args.end n rest c.requires small c.in_ok-strip_prefix.field-0.now (Some (c.in_ok-digits.digits, c.in_ok-digits.rest)) c.in_ok-digits.ensures.cases left in
    let read = parse-decimal 64 n c.in_ok-digits.digits.now c.parse.result small small parts.0 c.parse.ensures.value.0 in
    (same_Some c.in_ok-number.number n (sym c.in_ok-number.was ∙ c.ok.ensures.value ∙ ap result_ok read), parts.1)
