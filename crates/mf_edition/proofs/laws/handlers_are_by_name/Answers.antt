use Rattle.mf_edition.proofs.HandlerSearch.{by_name}
use Rattle.mf_edition.proofs.laws.handlers_are_by_name.Goals as goal

pub returns : goal.returns
returns c = by_name
