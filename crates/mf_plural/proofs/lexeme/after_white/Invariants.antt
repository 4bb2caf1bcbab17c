-- Only white space is passed.
use Rattle.std.proofs.Common.{◌≡◌, ◌≤◌, length}
use Rattle.mf_plural.specs.Computed.{lexemes}
use Rattle.mf_plural.proofs.lexeme.after_white.Given as goal

abbrev pub invariant-loop-first : goal.invariant-loop-first
invariant-loop-first l = record { same : lexemes l.rest ≡ lexemes l.fn.text; shorter : length l.rest ≤ length l.fn.text }

abbrev pub decreases-loop-first : goal.decreases-loop-first
decreases-loop-first l = length l.rest
