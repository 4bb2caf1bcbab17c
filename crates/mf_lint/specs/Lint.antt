-- What is said of a source: its canonical form, or the errors that make it invalid.
use Rattle.std.specs.Prelude.{◌≡◌, ℕ, List}
use Rattle.mf_tree.specs.declared.message.Message.{Message}
use Rattle.mf_tree.specs.Canonical.{canonical}
use Rattle.mf_tree.specs.Compiled as compiled
use Rattle.mf_tree.specs.Compiled.{Compiled}
use Rattle.mf_lint.specs.declared.linting.Linted.{Linted}
use Rattle.mf_lint.specs.declared.linting.Linted.TheVariants.{Valid, Invalid}
pub use Rattle.mf_lint.specs.Computed.{lint_of}

-- a source that compiles to a message is valid, and has the canonical source of that message; another has its errors
abbrev pub Lints : List ℕ → Linted → Type 0
Lints source (Valid printed) = (message : Message) × Compiled source (compiled.Valid message) × (printed ≡ canonical message)
Lints source (Invalid faults) = Compiled source (compiled.Invalid faults)
