use Rattle.std.proofs.Common.{ℕ, List, ap, ◌∙◌}
use Rattle.std.specs.Prelude.{Result}
use Rattle.std.specs.Result.{result_ok}
use Rattle.mf_decimal.specs.declared.decimal.Decimal.{Decimal}
use Rattle.mf_decimal.specs.declared.reading.NumberError.{NumberError}
use Rattle.mf_meaning.specs.Numbers.{number_of}
use Rattle.mf_meaning.proofs.Numbers.{read_of}
use Rattle.mf_functions.proofs.number.number_of.Goals as goal

pub returns : goal.returns
returns c =
    let r = c.read.ensures in
    c.ok.ensures.value
    ∙ ap (λ (r : Result Decimal NumberError). result_ok r) (read_of _ c.read.result r.value r.not_a_number r.too_wide)
    ∙ ap (λ (t : List ℕ). number_of t) c.as_str.ensures.characters
