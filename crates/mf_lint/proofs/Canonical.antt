-- Canonical sources read again.
use Rattle.std.proofs.Common.{◌≡◌, ℕ, List, ap, sym, subst}
use Rattle.std.specs.Prelude.{◌↔◌}
use Rattle.mf_tree.specs.declared.message.Message.{Message}
use Rattle.mf_tree.specs.Canonical.{canonical}
use Rattle.mf_tree.specs.Nodes.{IsMessage}
use Rattle.mf_tree.specs.Grammar.{SpellsMessage}
use Rattle.mf_tree.proofs.Nodes.{message as spelled_node}
use Rattle.mf_parse.proofs.Messages.{message_once}
use Rattle.mf_print.proofs.Messages.{message as canonical_spells}

pub spelled_back : (message other : Message) → IsMessage message → SpellsMessage other (canonical message) ↔ (other ≡ message)
spelled_back message other node = (
  (λ spelled. message_once (canonical message) other message spelled (canonical_spells message node)),
  (λ same. subst (λ other. SpellsMessage other (canonical message)) (sym same) (canonical_spells message node)),
)

pub stable : (text : List ℕ) (message again : Message) → SpellsMessage message text → SpellsMessage again (canonical message) → canonical again ≡ canonical message
stable text message again spelled read = ap canonical ((spelled_back message again (spelled_node message text spelled)).0 read)

pub tells : (text others : List ℕ) (message other : Message) → SpellsMessage message text → SpellsMessage other others
    → (message ≡ other) ↔ (canonical message ≡ canonical other)
tells text others message other spelled spelled_too = (
  (λ same. ap canonical same),
  (λ same. message_once (canonical message) message other
      (canonical_spells message (spelled_node message text spelled))
      (subst (SpellsMessage other) (sym same) (canonical_spells other (spelled_node other others spelled_too)))),
)
