use Rattle.mf_parse.proofs.Messages.{message_once}
use Rattle.mf_parse.proofs.laws.each_text_spells_one_message.Goals as goal

pub returns : goal.returns
returns c = message_once
