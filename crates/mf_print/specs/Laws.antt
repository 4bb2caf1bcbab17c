-- What holds of canonical sources.
use Rattle.mf_tree.specs.declared.message.Message.{Message}
use Rattle.mf_tree.specs.Nodes.{IsMessage}
use Rattle.mf_tree.specs.Grammar.{SpellsMessage}
use Rattle.mf_tree.specs.Canonical.{canonical}

-- the canonical source of a node spells it
abbrev pub CanonicalSpells : Type 0
CanonicalSpells = (message : Message) → IsMessage message → SpellsMessage message (canonical message)
