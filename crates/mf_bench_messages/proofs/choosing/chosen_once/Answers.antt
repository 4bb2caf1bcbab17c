use Rattle.mf_select.proofs.Valid.{can_choose}
use Rattle.mf_bench_messages.proofs.choosing.chosen_once.Goals as goal

pub choose-requires : goal.choose-requires
choose-requires c = record { fit = can_choose c.args.message.now c.in-Match.selectors c.in-Match.variants c.in-Match.is c.requires.valid }
