-- The sizes of a layout's groups.
use Rattle.std.specs.Prelude.{ℕ, ◌&&◌, Bool, nat_le}

-- a size is from 1 to 9 digits
abbrev pub is_size : ℕ → Bool
is_size digits = nat_le 1 digits && nat_le digits 9
