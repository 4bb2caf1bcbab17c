-- The caps of a session.
use Rattle.std.specs.Prelude.{◌≤◌}
use Rattle.mf_io.specs.declared.bounds.Caps.{Caps}

-- a line may have from 1 to 1,048,576 bytes, and an input at least one
pub record IsCaps (caps : Caps) : Type 0 where
  pub some_line : 1 ≤ caps.line
  pub short_line : caps.line ≤ 1048576
  pub some_input : 1 ≤ caps.input
