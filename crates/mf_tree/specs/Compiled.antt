-- What a source compiles to: the message that it spells, or the errors that make it invalid.
use Rattle.std.specs.Prelude.{◌≢◌, ◌≡◌, ◌<◌, ◌≤◌, ℕ, List, [], ◌∷◌, length, codes}
use Rattle.mf_tree.specs.declared.message.Message.{Message}
use Rattle.mf_tree.specs.declared.fault.Fault.{Fault}
use Rattle.mf_tree.specs.declared.fault.Kind.TheVariants as Kinds
use Rattle.mf_tree.specs.Grammar.{SpellsMessage}
use Rattle.mf_tree.specs.Faults.{faults}

pub data Compilation : Type 0 where
  Invalid : List Fault → Compilation
  Valid : Message → Compilation

-- the most declarations that a message may have
abbrev pub most_declarations : ℕ
most_declarations = 256

pub data Compiled (source : List ℕ) : Compilation → Type 0 where
  -- the source spells no message
  compiled_to_nothing : ((message : Message) → SpellsMessage message source → ⊥) →
      Compiled source (Invalid (record { kind = Kinds.Syntax; of = [] } ∷ []))
  -- the message has too many declarations
  compiled_past_the_limit : (message : Message) → SpellsMessage message source → most_declarations < length message.declarations →
      Compiled source (Invalid (record { kind = Kinds.Limit; of = codes "declarations" } ∷ []))
  -- the message has errors
  compiled_with_faults : (message : Message) → SpellsMessage message source → length message.declarations ≤ most_declarations → faults message ≢ [] →
      Compiled source (Invalid (faults message))
  -- the message has none
  compiled_to_a_message : (message : Message) → SpellsMessage message source → length message.declarations ≤ most_declarations → faults message ≡ [] →
      Compiled source (Valid message)
