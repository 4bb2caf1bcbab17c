use Rattle.mf_select.proofs.Valid.{one_chosen}
use Rattle.mf_select.proofs.laws.one_variant_is_chosen.Goals as goal

pub returns : goal.returns
returns c = λ meaning values variants place other first second. one_chosen meaning values variants place other first second
