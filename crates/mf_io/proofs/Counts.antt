-- How a count of faults goes on over several calls.
use Rattle.std.proofs.Common.{ℕ, ◌≤◌, ◌<◌, ◌^◌, inl, inr, arith, Result, Ok, Err}
use Rattle.mf_io.specs.Faults.{HasCause, Rose}

-- it rose in the last of two calls
pub Rose-after : (a b c : ℕ) → a ≤ b → Rose b c → Rose a c
Rose-after a b c fell (inl more) = inl (omega arith)
Rose-after a b c fell (inr last) = inr last

-- it rose in the first of two calls, and is still the count of a u64
pub Rose-before : (a b c : ℕ) → Rose a b → b ≤ c → c < 2 ^ 64 → Rose a c
Rose-before a b c (inl more) later fits = inl (omega arith)
Rose-before a b c (inr last) later fits = inr (omega arith)

-- a call that came after others has its cause over all of them
pub HasCause-after : {T E : Type 0} (a b c : ℕ) (result : Result T E) → a ≤ b → HasCause b c result → HasCause a c result
HasCause-after a b c (Ok value) before call = record { later = omega (arith, call.later); cause = tt }
HasCause-after a b c (Err error) before call = record { later = omega (arith, call.later); cause = Rose-after a b c before call.cause }
