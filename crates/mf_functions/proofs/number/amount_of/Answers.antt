use Rattle.std.proofs.Common.{◌≡◌, sym, subst}
use Rattle.mf_value.specs.declared.number_option.NumberFunction.{NumberFunction}
use Rattle.mf_meaning.specs.Functions.{amount_of}
use Rattle.mf_meaning.proofs.Numbers.{cut_to}
use Rattle.mf_functions.proofs.number.amount_of.Goals as goal

pub returns-in-Integer : goal.returns-in-Integer
returns-in-Integer c =
    let P : NumberFunction → Type 0 = λ f. c.cut.result ≡ amount_of f c.args.amount in
    subst P (sym c.in-Integer.is) (cut_to c.args.amount c.cut.result c.cut.ensures)
