-- What the parser promises.
use Rattle.std.specs.Prelude.{◌≡◌, ◌↔◌, ℕ, List, Some}
use Rattle.mf_tree.specs.Grammar.{SpellsMessage}
use Rattle.mf_tree.specs.declared.message.Message.{Message}
use Rattle.mf_parse.specs.Computed.{message_of}

-- the text spells some message
pub record IsSource (text : List ℕ) : Type 0 where
  pub message : Message
  pub spelled : SpellsMessage message text

-- each text spells at most one message
abbrev pub IsSpelledByOne : Type 0
IsSpelledByOne = (text : List ℕ) (message other : Message) → SpellsMessage message text → SpellsMessage other text → message ≡ other

-- `message_of` gives a message exactly where the text spells it
abbrev pub IsComputed : Type 0
IsComputed = (text : List ℕ) (message : Message) → (message_of text ≡ Some message) ↔ SpellsMessage message text
