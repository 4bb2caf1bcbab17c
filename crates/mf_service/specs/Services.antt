-- What serving connections over a hub does.
use Rattle.std.specs.Prelude.{◌^◌, ℕ, List, Option}
use Rattle.std.specs.Io.KnownBytes.{Appends}
use Rattle.mf_io.specs.Known.{TakesFront}
use Rattle.mf_io.specs.declared.bounds.Caps.{Caps}
use Rattle.mf_io.specs.declared.statuses.Status.{Status}
use Rattle.mf_io.specs.declared.statuses.Status.TheVariants.{Ended, InputFull, LineTooLong, ListenFault, OutOfMemory, ReadFault, Usage, WriteFault}
use Rattle.mf_lines.specs.Served.{ended}
use Rattle.mf_serve.specs.Serving.{HasGiven, Stops}
use Rattle.mf_serve.specs.Tallies.{sessions}
use Rattle.mf_serve.specs.declared.tallies.Tally.{Tally}
use Rattle.mf_service.specs.Summaries.{summary}

-- a line of a connection has at most 1,048,576 bytes, and its input fewer than 4,294,967,296
abbrev pub connection_caps : Caps
connection_caps = record { line = 2 ^ 20; input = 2 ^ 32 }

module _ (limit : ℕ) (left left' : Option ℕ) (taken taken' : Option (List ℕ)) where
  -- connections were served: as many as the listener gave in this call, no more than the limit, and all of them unless it failed; and
  -- the line that sums them up was written
  pub record ServesUntil (status : Status) (Sent : List ℕ → Type 0) : Type 0 where
    pub tally : Tally
    pub given : HasGiven (sessions tally) left left'
    pub stops : Stops limit (sessions tally) left status
    pub sent : Sent (ended (summary tally))

  -- by the status: where there was no memory no connection was taken in, and where the listener failed the line was written as far as
  -- it could be
  abbrev pub ServesHub : Status → (Unlistened Unwritten : Type 0) → Type 0
  ServesHub Ended Unlistened Unwritten = ServesUntil Ended (Appends taken taken')
  ServesHub WriteFault Unlistened Unwritten = ServesUntil Ended (TakesFront taken taken')
  ServesHub ListenFault Unlistened Unwritten = ServesUntil ListenFault (TakesFront taken taken')
  ServesHub OutOfMemory Unlistened Unwritten = Unlistened × Unwritten
  ServesHub ReadFault Unlistened Unwritten = ⊥
  ServesHub LineTooLong Unlistened Unwritten = ⊥
  ServesHub InputFull Unlistened Unwritten = ⊥
  ServesHub Usage Unlistened Unwritten = ⊥
