-- What holds between any two steps, of the count, the value, the seat that holds the turn and the views of all seats.
use Rattle.std.specs.Prelude.{◌≡◌, ◌≢◌, ℕ, ◌+◌, ◌<◌, ◌≤◌, List, [], ◌++◌, map, length, true, Option, Some, None}
use mathlib.Core.Option.{some}
use lib.ListN.{get_elem?}
use Rattle.mf_turn.specs.declared.view.Ended.{Ended}
use Rattle.mf_turn.specs.declared.view.View.{View}
use Rattle.mf_turn.specs.Account.{Account, entries_by, IsNumbered}
use Rattle.mf_turn.specs.Sums.{times, once_below, total, Each, listed, StartsWith}

abbrev pub ended_caller : Ended → ℕ
ended_caller e = e.caller

abbrev pub ended_given : Ended → ℕ
ended_given e = e.given

module _ {E : Type 0} where
  abbrev pub first_view : View E
  first_view = record {
    number = Some 0;
    log = [];
    told = [];
    made = 0;
    pin = None;
    claim = None;
    given = 0;
    known = 0;
    heard = 0;
    served = [];
    ended = [];
    raised = None;
    leaving = None;
  }

  -- the callers that a view speaks for: its own number and those that left into it
  abbrev pub numbers : View E → List ℕ
  numbers v = listed v.number ++ map ended_caller v.ended

  -- how many tickets these callers gave back
  abbrev pub given_by : View E → ℕ
  given_by v = v.given + total ended_given v.ended

  -- of a pair that was served: its edition is no later than the newest, and where it is the newest its plan is there
  abbrev pub IsServed : ℕ → Account E → ℕ × ℕ → Type 0
  IsServed newest x pair = (pair.0 ≤ newest) × (pair.0 ≡ newest → x.ready pair.0 pair.1 ≡ true)

  module _ (caller : E → ℕ) where
    -- of a caller that has left: the history has its entries, and it is joined only while its leave is in hand
    abbrev pub HasEnded : List E → Account E → Option ℕ → Ended → Type 0
    HasEnded history x leaving e = (entries_by caller e.caller history ≡ e.made) × (x.present e.caller ≡ true → leaving ≡ Some e.caller)

    -- what holds of one seat, where so many tickets were given back by all
    pub record SeatRule (history : List E) (holder : Option ℕ) (pending : Option E) (given : ℕ) (x : Account E) (seat : ℕ) (v : View E) : Type 0 where
      -- what it has seen and was told begins the history
      pub seen : StartsWith history v.log
      pub told : StartsWith history v.told
      -- the holder has seen all of it, and nobody else has fixed a place
      pub sees_all : holder ≡ Some seat → v.log ≡ history
      pub fixed : holder ≡ Some seat → v.raised ≡ pending
      pub quiet : holder ≢ Some seat → v.raised ≡ None
      pub known : v.known < x.joined
      -- a caller is joined, with the pin and the claim that it knows, and has seen its entries, which are all that it made
      pub present : (n : ℕ) → v.number ≡ Some n → x.present n ≡ true
      pub pin : (n : ℕ) → v.number ≡ Some n → x.pin n ≡ v.pin
      pub claim : (n : ℕ) → v.number ≡ Some n → x.claim n ≡ v.claim
      pub made : (n : ℕ) → v.number ≡ Some n → entries_by caller n history ≡ v.made
      pub own : (n : ℕ) → v.number ≡ Some n → entries_by caller n v.log ≡ v.made
      -- without a number nobody has left into it, and it gave nothing back
      pub alone : v.number ≡ None → (v.ended ≡ []) × (v.given ≡ 0)
      pub heard : v.heard ≤ given
      pub served : Each (IsServed (length history) x) v.served
      pub ended : Each (HasEnded history x v.leaving) v.ended
      -- a caller whose leave is in hand has left into it, and is joined, without a pin and a claim
      pub leaving : (n : ℕ) → v.leaving ≡ Some n → (x.present n ≡ true) × (x.pin n ≡ None) × (x.claim n ≡ None) × (0 < times n (map ended_caller v.ended))

    module _ (nth : E → ℕ) where
      pub record TurnRule (count : ℕ) (x : Account E) (holder : Option ℕ) (views : List (View E)) : Type 0 where
        -- the entries that are in the log, and the one whose place is fixed
        pub history : List E
        pub pending : Option E
        pub counted : count ≡ length history
        pub logged : x.log ++ listed pending ≡ history
        pub settled : holder ≡ None → pending ≡ None
        pub numbered : IsNumbered caller nth history
        -- each number below the next one is that of one seat, or of a caller that has left into one seat
        pub owned : (n : ℕ) → total (λ v. times n (numbers v)) views ≡ once_below n x.joined
        -- nobody has made an entry who hasn't joined
        pub fresh : (n : ℕ) → x.joined ≤ n → entries_by caller n history ≡ 0
        pub quits : x.quits ≤ total given_by views
        pub each : (seat : ℕ) (v : View E) → get_elem? views seat ≡ some v → SeatRule history holder pending (total given_by views) x seat v
