-- Lists of events from the new World, their answers, and counts of these.
use Rattle.std.specs.Prelude.{◌≤◌, ◌+◌, ◌==◌, ◌&&◌, ℕ, Bool, false, Result, Ok, Err, List, [], ◌∷◌, Option, None, Some}
use Rattle.mf_legal.specs.Calls.{one_if}
use Rattle.mf_core.specs.declared.event.Event.{Event}
use Rattle.mf_core.specs.declared.event.Event.TheVariants.{Ask, Done, Quit}
use Rattle.mf_core.specs.declared.event.Told.{Told}
use Rattle.mf_core.specs.declared.event.Told.TheVariants.{Claimed}
use Rattle.mf_core.specs.declared.error.CoreError.{CoreError}
use Rattle.mf_core.specs.Worlds.{World, new_world, is_at, swept}
use Rattle.mf_core.specs.Steps.{refusal, row}

-- the answer to an event, which is refused or has its row
abbrev pub answer_by : Option CoreError → Told → Result Told CoreError
answer_by None told = Ok told
answer_by (Some error) told = Err error

abbrev pub answer : World → Event → Result Told CoreError
answer w event = answer_by (refusal w event) (row w event).0

-- the World after an event: where it is refused, as before
abbrev pub after_by : Option CoreError → World → World → World
after_by None w v = swept v
after_by (Some error) w v = w

abbrev pub after : World → Event → World
after w event = after_by (refusal w event) w (row w event).1

-- the answers to events, one after the other
abbrev pub answers : World → List Event → List (Result Told CoreError)
answers w [] = []
answers w (event ∷ events) = answer w event ∷ answers (after w event) events

-- the World after events
abbrev pub world_after : World → List Event → World
world_after w [] = w
world_after w (event ∷ events) = world_after (after w event) events

-- the answers to events from the new World
abbrev pub Run : List Event → List (Result Told CoreError)
Run events = answers new_world events

-- whether an option is this entry
abbrev pub is_entry : ℕ → ℕ → Option (ℕ × ℕ) → Bool
is_entry e i None = false
is_entry e i (Some place) = (place.0 == e) && (place.1 == i)

-- whether an event is answered Claimed on an entry
abbrev pub is_start : World → ℕ → ℕ → Event → Result Told CoreError → Bool
is_start w e i (Ask n j) (Ok Claimed) = is_at e (w.caller n).pinned && (j == i)
is_start w e i event told = false

-- whether an event is an accepted Quit on an entry
abbrev pub is_quit : World → ℕ → ℕ → Event → Result Told CoreError → Bool
is_quit w e i (Quit n) (Ok told) = is_entry e i (w.caller n).claim
is_quit w e i event told = false

-- whether an event is an accepted Done on an entry
abbrev pub is_done : World → ℕ → ℕ → Event → Result Told CoreError → Bool
is_done w e i (Done n) (Ok told) = is_entry e i (w.caller n).claim
is_done w e i event told = false

-- the numbers of those among events
abbrev pub starts_from : World → ℕ → ℕ → List Event → ℕ
starts_from w e i [] = 0
starts_from w e i (event ∷ events) = one_if (is_start w e i event (answer w event)) + starts_from (after w event) e i events

abbrev pub quits_from : World → ℕ → ℕ → List Event → ℕ
quits_from w e i [] = 0
quits_from w e i (event ∷ events) = one_if (is_quit w e i event (answer w event)) + quits_from (after w event) e i events

abbrev pub dones_from : World → ℕ → ℕ → List Event → ℕ
dones_from w e i [] = 0
dones_from w e i (event ∷ events) = one_if (is_done w e i event (answer w event)) + dones_from (after w event) e i events

-- the numbers of answers Claimed, and of accepted Quits, on an entry in a run
abbrev pub Starts : ℕ → ℕ → List Event → ℕ
Starts e i events = starts_from new_world e i events

abbrev pub Quits : ℕ → ℕ → List Event → ℕ
Quits e i events = quits_from new_world e i events

-- no message is begun more than once, but for those that were given back
abbrev pub OncePlusQuits : Type 0
OncePlusQuits = (events : List Event) (e i : ℕ) → Starts e i events ≤ 1 + Quits e i events
