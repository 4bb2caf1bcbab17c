use Rattle.mf_parse.proofs.Messages.{message_complete}
use Rattle.mf_parse.proofs.SoundMessages.{message_sound}
use Rattle.mf_parse.proofs.laws.messages_are_computed.Goals as goal

pub returns : goal.returns
returns c text message = (message_sound text message, message_complete text message)
