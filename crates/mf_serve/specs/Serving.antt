-- What is promised of all connections that a listener gave.
use Rattle.std.specs.Prelude.{◌≡◌, ℕ, ◌-◌, ◌≤◌, min, Option, None, Some, ⊤}
use Rattle.mf_io.specs.Faults.{Rose}
use Rattle.mf_io.specs.declared.statuses.Status.{Status}
use Rattle.mf_io.specs.declared.statuses.Status.TheVariants.{Ended, ListenFault}
use Rattle.mf_serve.specs.declared.tallies.Tally.{Tally}
use Rattle.mf_serve.specs.declared.connections.Served.{Served}

-- the three numbers of what was served
abbrev pub tally_of : Served → Tally
tally_of served = record {
  ended = served.ended;
  faulted = served.faulted;
  refused = served.refused;
}

-- so many connections were given, where the listener tells how many are left, as it goes on to do
abbrev pub HasGiven : ℕ → Option ℕ → Option ℕ → Type 0
HasGiven count None now = ⊤
HasGiven count (Some before) now = (count ≤ before) × (now ≡ Some (before - count))

-- all that there were, or as many as the limit allows, where the listener tells how many there were
abbrev pub IsAllServed : ℕ → ℕ → Option ℕ → Type 0
IsAllServed limit count None = ⊤
IsAllServed limit count (Some before) = count ≡ min limit before

-- no more than the limit were served, and all of them unless the listener failed
abbrev pub Stops : ℕ → ℕ → Option ℕ → Status → Type 0
Stops limit count before Ended = (count ≤ limit) × IsAllServed limit count before
Stops limit count before ListenFault = count ≤ limit
Stops limit count before status = ⊥

-- what serving so many connections does with the listener, and why it stops:
-- at a fault only where the count of faults rose
pub record Serves (limit count : ℕ) (status : Status)
    (left_before left_now : Option ℕ) (faults_before faults_now : ℕ) : Type 0 where
  pub given : HasGiven count left_before left_now
  pub stops : Stops limit count left_before status
  pub later : faults_before ≤ faults_now
  pub cause : status ≡ ListenFault → Rose faults_before faults_now
