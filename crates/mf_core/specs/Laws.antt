-- What holds of every list of events.
use Rattle.std.specs.Prelude.{◌≡◌, ◌≤◌, ◌<◌, ◌==◌, ◌++◌, ℕ, List, [], ◌∷◌, Result, Ok, Err, Some, length, if◌then◌else◌}
use Rattle.std.specs.List.{AllByRecursion}
use Rattle.mf_edition.specs.declared.change.Change.{Change}
use Rattle.mf_edition.specs.declared.change.Entry.{Entry}
use Rattle.mf_core.specs.declared.event.Event.{Event}
use Rattle.mf_core.specs.declared.event.Event.TheVariants.{Publish, Pin, Ask}
use Rattle.mf_core.specs.declared.event.Told.{Told}
use Rattle.mf_core.specs.declared.event.Told.TheVariants.{Joined, Published, Pinned, Ready, Claimed, Busy, Ended}
use Rattle.mf_core.specs.declared.error.CoreError.{CoreError}
use Rattle.mf_core.specs.Worlds.{World, new_world}
use Rattle.mf_core.specs.Runs.{after, answer, dones_from, Run, world_after}

-- the edition that an answer tells, if it tells one
abbrev pub edition_told : Result Told CoreError → ℕ
edition_told (Ok Joined) = 0
edition_told (Ok (Published edition)) = edition
edition_told (Ok (Pinned edition)) = edition
edition_told (Ok Ready) = 0
edition_told (Ok Claimed) = 0
edition_told (Ok Busy) = 0
edition_told (Ok Ended) = 0
edition_told (Err error) = 0

-- each Pinned number is the log's length at that point, so it is at least every number told before to any caller
abbrev pub PinsAreNewest : Type 0
PinsAreNewest = (events : List Event) (n k : ℕ) → answer (world_after new_world events) (Pin n) ≡ Ok (Pinned k)
    → (k ≡ length (world_after new_world events).log) × AllByRecursion (λ told. edition_told told ≤ k) (Run events)

-- the changes of a caller's entries, in their order
abbrev pub changes_of : ℕ → List Entry → List Change
changes_of n [] = []
changes_of n (entry ∷ log) = if entry.caller == n then entry.change ∷ changes_of n log else changes_of n log

-- the change of an event that is an accepted publication of a caller
abbrev pub change_accepted : ℕ → Event → Result Told CoreError → List Change
change_accepted n (Publish m change) (Ok told) = if m == n then change ∷ [] else []
change_accepted n event told = []

-- the changes of a caller's accepted publications, in their order
abbrev pub changes_accepted : ℕ → World → List Event → List Change
changes_accepted n w [] = []
changes_accepted n w (event ∷ events) = change_accepted n event (answer w event) ++ changes_accepted n (after w event) events

-- the entries of a caller are its accepted publications, each once, in order
abbrev pub EntriesAreAccepted : Type 0
EntriesAreAccepted = (events : List Event) (n : ℕ)
    → changes_of n (world_after new_world events).log ≡ changes_accepted n new_world events

-- Ready on an entry has an earlier Done on it
abbrev pub ReadyWasDone : Type 0
ReadyWasDone = (events : List Event) (n e i : ℕ) → ((world_after new_world events).caller n).pinned ≡ Some e
    → answer (world_after new_world events) (Ask n i) ≡ Ok Ready → 0 < dones_from new_world e i events
