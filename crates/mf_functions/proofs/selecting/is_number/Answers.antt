use Rattle.std.proofs.Common.{ℕ, List, ap, ◌∙◌}
use Rattle.std.specs.Prelude.{Result}
use Rattle.mf_decimal.specs.declared.decimal.Decimal.{Decimal}
use Rattle.mf_decimal.specs.declared.reading.NumberError.{NumberError}
use Rattle.mf_meaning.specs.Numbers.{is_literal, is_number}
use Rattle.mf_meaning.proofs.Numbers.{read_of}
use Rattle.mf_functions.proofs.selecting.is_number.Goals as goal

pub returns : goal.returns
returns c =
    let r = c.read.ensures in
    c.is_literal.ensures
    ∙ ap (λ (r : Result Decimal NumberError). is_literal r) (read_of _ c.read.result r.value r.not_a_number r.too_wide)
    ∙ ap (λ (t : List ℕ). is_number t) c.as_str.ensures.characters
