-- What an event is told and what it changes, and which events are refused.
use Rattle.std.specs.Prelude.{◌≡◌, ◌+◌, ◌==◌, ◌++◌, ◌||◌, ℕ, Bool, true, false, not, [], ◌∷◌, length, nat_le, Option, None, Some, if◌then◌else◌}
use Rattle.std.specs.Option.{is_some}
use Rattle.mf_edition.specs.declared.error.PublishError.{PublishError}
use Rattle.mf_edition.specs.declared.error.PublishError.TheVariants as unmade
use Rattle.mf_edition.specs.declared.error.Refusal.{Refusal}
use Rattle.mf_edition.specs.declared.error.Refusal.TheVariants as full
use Rattle.mf_edition.specs.Edition.{edition_of}
use Rattle.mf_edition.specs.Sizes.{refusal_of}
use Rattle.mf_flight.specs.declared.slot.State.{State}
use Rattle.mf_flight.specs.declared.slot.State.TheVariants as state
use Rattle.mf_flight.specs.Slots.{claimed, done, quit}
use Rattle.mf_core.specs.declared.caller.CallerState.{CallerState}
use Rattle.mf_core.specs.declared.event.Event.{Event}
use Rattle.mf_core.specs.declared.event.Event.TheVariants.{Join, Publish, Pin, Ask, Done, Quit, Unpin, Leave}
use Rattle.mf_core.specs.declared.event.Told.{Told}
use Rattle.mf_core.specs.declared.event.Told.TheVariants.{Joined, Published, Pinned, Ready, Claimed, Busy, Ended}
use Rattle.mf_core.specs.declared.error.CoreError.{CoreError}
use Rattle.mf_core.specs.declared.error.CoreError.TheVariants.{NotYours, CallersFull, EditionsFull, StoreFull, OutOfMemory}
use Rattle.mf_core.specs.Worlds.{away, World, with_caller, with_slot, swept}

-- the most callers that may join: the first one, and a million after it
abbrev pub most_callers : ℕ
most_callers = 1000001

-- who makes an event
abbrev pub maker : Event → ℕ
maker (Join n) = n
maker (Publish n change) = n
maker (Pin n) = n
maker (Ask n i) = n
maker (Done n) = n
maker (Quit n) = n
maker (Unpin n) = n
maker (Leave n) = n

-- the index isn't one of a message of the pinned edition
abbrev pub is_past : World → Option ℕ → ℕ → Bool
is_past w None i = true
is_past w (Some e) i = nat_le (length (edition_of w.log e).items) i

-- whether an event isn't one that its maker may make: Join by a caller that is or was joined, or whose number isn't the next one; any
-- other event by a caller that isn't joined; Pin with a claim; Ask without a pin, with a claim, or past the edition's messages; Done or
-- Quit without a claim; Unpin without a pin or with a claim; Leave with a pin or a claim
abbrev pub is_not_yours : World → Event → CallerState → Bool
is_not_yours w (Join n) s = not (n == w.next)
is_not_yours w (Publish n change) s = not s.joined
is_not_yours w (Pin n) s = not s.joined || is_some s.claim
is_not_yours w (Ask n i) s = not s.joined || not (is_some s.pinned) || is_some s.claim || is_past w s.pinned i
is_not_yours w (Done n) s = not s.joined || not (is_some s.claim)
is_not_yours w (Quit n) s = not s.joined || not (is_some s.claim)
is_not_yours w (Unpin n) s = not s.joined || not (is_some s.pinned) || is_some s.claim
is_not_yours w (Leave n) s = not s.joined || is_some s.pinned || is_some s.claim

-- the error of a log's refusal
abbrev pub log_error : Option Refusal → Option CoreError
log_error None = None
log_error (Some (full.EditionsFull entries)) = Some (EditionsFull entries)
log_error (Some (full.StoreFull used size)) = Some (StoreFull used size)

-- the error of a publication that isn't made
abbrev pub error_of : PublishError → CoreError
error_of (unmade.EditionsFull entries) = EditionsFull entries
error_of (unmade.StoreFull used size) = StoreFull used size
error_of unmade.OutOfMemory = OutOfMemory

-- the limit that an event meets, if it meets one
abbrev pub limit : World → Event → Option CoreError
limit w (Join n) = if nat_le most_callers w.next then Some CallersFull else None
limit w (Publish n change) = log_error (refusal_of w.log change)
limit w (Pin n) = None
limit w (Ask n i) = None
limit w (Done n) = None
limit w (Quit n) = None
limit w (Unpin n) = None
limit w (Leave n) = None

-- why an event is refused, if it is
abbrev pub refusal : World → Event → Option CoreError
refusal w event =
    if is_not_yours w event (w.caller (maker event)) then Some (NotYours (w.caller (maker event))) else limit w event

-- the error of an event that isn't carried out: the refusal, where there is one, and else want of memory
abbrev pub IsDue : Option CoreError → CoreError → Type 0
IsDue None error = error ≡ OutOfMemory
IsDue (Some refused) error = error ≡ refused

-- the event is one that its maker may make
abbrev pub IsYours : World → Event → Type 0
IsYours w event = is_not_yours w event (w.caller (maker event)) ≡ false

-- what an ask for an entry is told, by the entry's state, and what changes
abbrev pub asked_row : World → ℕ → ℕ → ℕ → State (Unit {0}) → Told × World
asked_row w n e i state.Idle =
    (Claimed, with_slot (with_caller w n (record (w.caller n) { claim = Some (e, i) })) e i (claimed (w.slot e i)))
asked_row w n e i state.Claimed = (Busy, w)
asked_row w n e i (state.Ready plan) = (Ready, w)

-- the same, by the caller's pin
abbrev pub ask_row : World → ℕ → ℕ → Option ℕ → Told × World
ask_row w n i None = (Busy, w)
ask_row w n i (Some e) = asked_row w n e i (w.slot e i).state

-- the caller's claimed entry is ready
abbrev pub done_row : World → ℕ → Option (ℕ × ℕ) → Told × World
done_row w n None = (Ended, w)
done_row w n (Some (e, i)) = (Ended, with_slot (with_caller w n (record (w.caller n) { claim = None })) e i (done (w.slot e i) tt))

-- the caller's claimed entry is idle, and its quits is one more
abbrev pub quit_row : World → ℕ → Option (ℕ × ℕ) → Told × World
quit_row w n None = (Ended, w)
quit_row w n (Some (e, i)) = (Ended, with_slot (with_caller w n (record (w.caller n) { claim = None })) e i (quit (w.slot e i)))

-- what an event that isn't refused is told, and what changes
abbrev pub row : World → Event → Told × World
row w (Join n) =
    (Joined, with_caller (record w { next = w.next + 1 }) n (record away { joined = true; seen = length w.log }))
row w (Publish n change) = (
  Published (length w.log + 1),
  with_caller (record w { log = w.log ++ record { caller = n; nth = (w.caller n).made + 1; change = change } ∷ [] }) n
      (record (w.caller n) { made = (w.caller n).made + 1; seen = length w.log + 1 }),
)
row w (Pin n) =
    (Pinned (length w.log), with_caller w n (record (w.caller n) { pinned = Some (length w.log); seen = length w.log }))
row w (Ask n i) = ask_row w n i (w.caller n).pinned
row w (Done n) = done_row w n (w.caller n).claim
row w (Quit n) = quit_row w n (w.caller n).claim
row w (Unpin n) = (Ended, with_caller w n (record (w.caller n) { pinned = None }))
row w (Leave n) = (Ended, with_caller w n away)

-- an event is told this and leaves this World: its row, after which the entries of editions that aren't live are gone
pub record Step (w : World) (event : Event) (told : Told) (after : World) : Type 0 where
  pub allowed : refusal w event ≡ None
  pub answers : told ≡ (row w event).0
  pub changes : after ≡ swept (row w event).1
