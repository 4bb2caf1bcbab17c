-- How many sessions ended in which way.
use Rattle.std.specs.Prelude.{ℕ, ◌+◌, ◌-◌, ◌^◌, ◌<◌}
use Rattle.mf_io.specs.declared.statuses.Status.{Status}
use Rattle.mf_io.specs.declared.statuses.Status.TheVariants.{Ended, OutOfMemory}
use Rattle.mf_serve.specs.declared.tallies.Tally.{Tally}

abbrev pub no_sessions : Tally
no_sessions = record { ended = 0; faulted = 0; refused = 0 }

-- one more session: it ended, found no memory to begin with, or else was stopped by a fault or a cap
abbrev pub counted : Status → Tally → Tally
counted Ended tally = record tally { ended = tally.ended + 1 }
counted OutOfMemory tally = record tally { refused = tally.refused + 1 }
counted status tally = record tally { faulted = tally.faulted + 1 }

-- the sessions of two tallies
abbrev pub added : Tally → Tally → Tally
added more tally = record {
  ended = tally.ended + more.ended;
  faulted = tally.faulted + more.faulted;
  refused = tally.refused + more.refused;
}

-- how many sessions there were
abbrev pub sessions : Tally → ℕ
sessions tally = tally.ended + tally.faulted + tally.refused

-- one more session of any kind can be counted
pub record HasRoom (tally : Tally) : Type 0 where
  pub ended : tally.ended < 2 ^ 64 - 1
  pub faulted : tally.faulted < 2 ^ 64 - 1
  pub refused : tally.refused < 2 ^ 64 - 1

-- no sum with the other's sessions passes the last value of a u64
pub record HasRoomFor (more tally : Tally) : Type 0 where
  pub ended : tally.ended + more.ended < 2 ^ 64
  pub faulted : tally.faulted + more.faulted < 2 ^ 64
  pub refused : tally.refused + more.refused < 2 ^ 64
