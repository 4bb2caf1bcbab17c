-- The World that a running one is.
use Rattle.std.specs.Prelude.{◌≡◌, ◌==◌, ℕ, List, length, slice_get, Option, None, Some, if◌then◌else◌}
use Rattle.mf_edition.specs.Edition.{newest_edition}
use Rattle.mf_core.specs.declared.world.World.{World as Running}
use Rattle.mf_core.specs.Worlds.{World}
use Rattle.mf_core.specs.Kept.{board_world, IsKept}

abbrev pub world_of : Running → World
world_of running = board_world running.board

-- the ticket that is kept of a caller, if something is kept of it
abbrev pub ticket_of : Option (Option (ℕ × ℕ)) → Option (ℕ × ℕ)
ticket_of None = None
ticket_of (Some ticket) = ticket

abbrev pub ticket_at : List (Option (ℕ × ℕ)) → ℕ → Option (ℕ × ℕ)
ticket_at tickets n = ticket_of (slice_get tickets n)

-- one caller's ticket is this one, and every other is as it was
pub record PutsTicket (old new : List (Option (ℕ × ℕ))) (n : ℕ) (ticket : Option (ℕ × ℕ)) : Type 0 where
  pub many : length new ≡ length old
  pub tickets : (m : ℕ) → ticket_at new m ≡ (if m == n then ticket else ticket_at old m)

-- a World is one that events lead to, and what is kept beside its board is right: the newest edition, and of each claim its ticket
pub record IsWhole (running : Running) : Type 0 where
  pub kept : IsKept running.board
  pub newest : running.newest ≡ newest_edition running.board.log
  pub many : length running.tickets.items ≡ length running.board.callers.items
  pub tickets : (n : ℕ) → ticket_at running.tickets.items n ≡ ((world_of running).caller n).claim
