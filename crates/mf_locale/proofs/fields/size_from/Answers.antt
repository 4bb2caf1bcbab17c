use Rattle.mf_locale.proofs.Read.{size_is}
use Rattle.mf_locale.proofs.fields.size_from.Goals as goal

pub returns-then-is_size : goal.returns-then-is_size
returns-then-is_size c = size_is c.args.number _
