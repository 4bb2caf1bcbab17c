-- For private clauses: lines that are copied.
use Rattle.std.specs.Prelude.{◌≡◌, ◌++◌, ℕ, false, List}
use Rattle.mf_lines.specs.Served.{ended}
use Rattle.mf_rehearse.specs.declared.reading.Copied.{Copied}

-- the line is copied, unless one was lost
abbrev pub Copies : Copied → List ℕ → List ℕ → Copied → Type 0
Copies before line said after = after.is_lost ≡ false → (before.is_lost ≡ false) × (after.lines.items ≡ before.lines.items ++ ended line)
