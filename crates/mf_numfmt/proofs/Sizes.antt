-- The sizes of a layout.
use Rattle.std.proofs.Common.{ℕ, ◌≤◌, arith}
use Rattle.std.specs.Prelude.{IsTrue}
use Rattle.std.proofs.lemmas.Bool.Decides.{nat_tests}
use Rattle.mf_numfmt.specs.Sizes.{is_size}

pub size_some : (digits : ℕ) → IsTrue (is_size digits) → 1 ≤ digits
size_some digits fits = grind (arith, nat_tests, fits)
