-- How serving ends.
use Rattle.std.proofs.Common.{◌≡◌, ℕ, List, Option, Result, Ok, Err, OnErr, OnOk, refl, subst}
use Rattle.std.specs.Io.KnownBytes.{Appends}
use Rattle.mf_io.proofs.Told.{TakesFront-whole}
use Rattle.mf_io.specs.Known.{TakesFront}
use Rattle.mf_io.specs.declared.statuses.Status.{Status}
use Rattle.mf_io.specs.declared.statuses.Status.TheVariants.{Ended, InputFull, LineTooLong, ListenFault, OutOfMemory, ReadFault, Usage, WriteFault}
use Rattle.mf_lines.specs.Served.{ended}
use Rattle.mf_serve.specs.Serving.{HasGiven, Stops, tally_of}
use Rattle.mf_serve.specs.Tallies.{sessions}
use Rattle.mf_serve.specs.declared.connections.Served.{Served}
use Rattle.mf_service.specs.Services.{ServesUntil}
use Rattle.mf_service.specs.Summaries.{summary}

-- it stops at a fault of the listener, or it ended
pub ended_is : (limit count : ℕ) (left : Option ℕ) (status : Status) → Stops limit count left status → (status ≡ ListenFault → ⊥) → status ≡ Ended
ended_is limit count left Ended stops other = refl
ended_is limit count left ListenFault stops other = absurd (other refl)
ended_is limit count left Usage stops other = absurd stops
ended_is limit count left ReadFault stops other = absurd stops
ended_is limit count left WriteFault stops other = absurd stops
ended_is limit count left LineTooLong stops other = absurd stops
ended_is limit count left OutOfMemory stops other = absurd stops
ended_is limit count left InputFull stops other = absurd stops

module _ (limit : ℕ) (left left' : Option ℕ) (taken taken' : Option (List ℕ)) (served : Served)
    (given : HasGiven (sessions (tally_of served)) left left') (stops : Stops limit (sessions (tally_of served)) left served.status) where
  pub until : (status : Status) (Sent : List ℕ → Type 0) → served.status ≡ status → Sent (ended (summary (tally_of served)))
      → ServesUntil limit left left' taken taken' status Sent
  until status Sent is sent = record {
    tally = tally_of served;
    given = given;
    stops = subst (Stops limit (sessions (tally_of served)) left) is stops;
    sent = sent;
  }

-- whatever came of writing, a front was written
pub front_of : {A E : Type 0} (taken taken' : Option (List ℕ)) (bytes : List ℕ) (result : Result A E) → OnOk result (Appends taken taken' bytes)
    → OnErr result (TakesFront taken taken' bytes) → TakesFront taken taken' bytes
front_of taken taken' bytes (Ok done) all front = TakesFront-whole taken taken' bytes all
front_of taken taken' bytes (Err error) all front = front
