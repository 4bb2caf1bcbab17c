use Rattle.mf_select.proofs.Telling.{rank_tells}
use Rattle.mf_select.proofs.laws.ranks_tell_keys_apart.Goals as goal

pub returns : goal.returns
returns c = λ locale. rank_tells locale
