-- What holds of canonical sources.
use Rattle.std.specs.Prelude.{◌≡◌, ◌↔◌, ℕ, List}
use Rattle.mf_tree.specs.declared.message.Message.{Message}
use Rattle.mf_tree.specs.Canonical.{canonical}
use Rattle.mf_tree.specs.Nodes.{IsMessage}
use Rattle.mf_tree.specs.Grammar.{SpellsMessage}
use Rattle.mf_lint.specs.declared.linting.Linted.{Linted}
use Rattle.mf_lint.specs.declared.linting.Linted.TheVariants.{Valid}
use Rattle.mf_lint.specs.Computed.{lint_of}
use Rattle.mf_lint.specs.Lint.{Lints}

-- the canonical source of a message spells that message, and no other
abbrev pub CanonicalIsSpelledBack : Type 0
CanonicalIsSpelledBack = (message other : Message) → IsMessage message → SpellsMessage other (canonical message) ↔ (other ≡ message)

-- what the canonical source of a text's message spells has that canonical source
abbrev pub CanonicalIsStable : Type 0
CanonicalIsStable =
    (text : List ℕ) (message again : Message) → SpellsMessage message text → SpellsMessage again (canonical message) → canonical again ≡ canonical message

-- two texts spell one message exactly where their canonical sources are equal
abbrev pub CanonicalTellsNodes : Type 0
CanonicalTellsNodes =
    (text others : List ℕ) (message other : Message) → SpellsMessage message text → SpellsMessage other others
    → (message ≡ other) ↔ (canonical message ≡ canonical other)

-- the canonical form of a source has itself as its canonical form
abbrev pub LintIsStable : Type 0
LintIsStable = (source printed : List ℕ) → Lints source (Valid printed) → Lints printed (Valid printed)

-- one thing is said of a source
abbrev pub LintsOne : Type 0
LintsOne = (source : List ℕ) (one other : Linted) → Lints source one → Lints source other → one ≡ other

-- what is said of a source is what is computed
abbrev pub LintIsComputed : Type 0
LintIsComputed = (source : List ℕ) (linted : Linted) → (linted ≡ lint_of source) ↔ Lints source linted
