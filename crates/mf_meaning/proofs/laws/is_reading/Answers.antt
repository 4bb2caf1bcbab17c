use Rattle.mf_meaning.proofs.Numbers.{read_decimal, decimal_read}
use Rattle.mf_meaning.proofs.laws.is_reading.Goals as goal

pub returns : goal.returns
returns c = λ text x. (decimal_read text x, read_decimal text x)
