use Rattle.std.proofs.Common.{refl}
use Rattle.mf_decimal.specs.Parts.{literal}
use Rattle.mf_decimal.proofs.Texts.{no_number, spelled_chars, spelled_digits, read_value, read_number, read_wide}
use Rattle.mf_decimal.proofs.reading.read.Goals as goal

pub returns-in_default-clause-not_a_number : goal.returns-in_default-clause-not_a_number
returns-in_default-clause-not_a_number c =
    (λ same. no_number c.as_bytes.result.now c.args.text.now c.as_bytes.ensures.value c.utf8.text c.in_default.ensures.refused, λ none. refl)

pub returns-in_default-clause-too_wide : goal.returns-in_default-clause-too_wide
returns-in_default-clause-too_wide c = (
  λ h. cc,
  λ wide. absurd
      (no_number c.as_bytes.result.now c.args.text.now c.as_bytes.ensures.value c.utf8.text c.in_default.ensures.refused
      (record { number = wide.number; spelled = wide.spelled })),
)

pub returns-clause-value : goal.returns-clause-value
returns-clause-value c =
    let number = literal c.in-Some.parts in
    let spelled = spelled_chars c.as_bytes.result.now c.args.text.now number c.as_bytes.ensures.value c.utf8.text c.in-Some.ensures.spelled in
    read_value _ number c.value.result c.ok_or.result spelled c.value.ensures.value c.ok_or.ensures.value

pub returns-clause-not_a_number : goal.returns-clause-not_a_number
returns-clause-not_a_number c =
    let number = literal c.in-Some.parts in
    let spelled = spelled_chars c.as_bytes.result.now c.args.text.now number c.as_bytes.ensures.value c.utf8.text c.in-Some.ensures.spelled in
    read_number _ number c.value.result c.ok_or.result spelled c.ok_or.ensures.value

pub returns-clause-too_wide : goal.returns-clause-too_wide
returns-clause-too_wide c =
    let number = literal c.in-Some.parts in
    let spelled = spelled_chars c.as_bytes.result.now c.args.text.now number c.as_bytes.ensures.value c.utf8.text c.in-Some.ensures.spelled in
    read_wide _ number c.value.result c.ok_or.result spelled c.value.ensures.value c.value.ensures.wide c.ok_or.ensures.value

pub value-requires-clause-digits : goal.value-requires-clause-digits
value-requires-clause-digits c = spelled_digits c.as_bytes.result.now (literal c.in-Some.parts) c.in-Some.ensures.spelled
