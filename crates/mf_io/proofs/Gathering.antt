-- An input that is read in several calls.
use Rattle.std.proofs.Common.{◌≡◌, ℕ, ◌+◌, ◌≤◌, List, ◌++◌, Option, Result, Ok, Err, sym, length, length-append, subst, arith}
use Rattle.std.specs.Io.KnownBytes.{Consumes}
use Rattle.std.proofs.KnownBytes.{Consumes-trans}
use Rattle.std.specs.Prelude.{OnErr}
use Rattle.mf_io.specs.Known.{ConsumesAtMost, ConsumesBelow}

-- what was read so far, no more than the cap, was consumed
pub record Gathering (old now : Option (List ℕ)) (input : List ℕ) (cap : ℕ) : Type 0 where
  pub consumed : Consumes old now input
  pub within : length input ≤ cap

pub step : (a b c : Option (List ℕ)) (input part next : List ℕ) (cap : ℕ) → Gathering a b input cap → Consumes b c part
    → length input + length part ≤ cap → next ≡ input ++ part → Gathering a c next cap
step a b c input part next cap so more fits joined = record {
  consumed = subst (Consumes a c) (sym joined) (Consumes-trans a b c input part so.consumed more);
  within = rw (joined, length-append) fits;
}

pub at_most : {T E : Type 0} (n : ℕ) (a b : Option (List ℕ)) (result : Result T E) → OnErr result (ConsumesBelow n a b) → OnErr result (ConsumesAtMost n a b)
at_most n a b (Ok value) below = tt
at_most n a b (Err error) below = record { bytes = below.bytes; count = omega (arith, below.count); consumed = below.consumed }
