use Rattle.mf_select.proofs.Valid.{can_choose}
use Rattle.mf_select.proofs.laws.valid_messages_can_be_chosen_from.Goals as goal

pub returns : goal.returns
returns c = λ message selectors variants is none. can_choose message selectors variants is none
