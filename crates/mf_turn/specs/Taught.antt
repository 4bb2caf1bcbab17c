-- What a seat learns.
use Rattle.std.specs.Prelude.{◌≡◌, ℕ, ◌<◌, ◌≤◌, length, true, Some, None}
use Rattle.mf_turn.specs.declared.view.View.{View}
use Rattle.mf_turn.specs.Account.{Account, entries_by, IsNumbered}
use Rattle.mf_turn.specs.Acts.{with_log}
use Rattle.mf_turn.specs.Rule.{numbers, given_by, IsServed, HasEnded}
use Rattle.mf_turn.specs.Sums.{times, once_below, Each, StartsWith}

module _ {E : Type 0} (caller : E → ℕ) where
  -- where no caller but the seat's own is joined, it speaks for all callers that there were
  pub record Settles (x : Account E) (v : View E) : Type 0 where
    pub each_once : (n : ℕ) → times n (numbers v) ≡ once_below n x.joined
    pub quits : x.quits ≤ given_by v
    pub heard : v.heard ≤ given_by v

  -- what a seat with the view v learns that takes the value
  pub record Teaches (nth : E → ℕ) (x : Account E) (v : View E) : Type 0 where
    pub seen : StartsWith x.log v.log
    pub told : StartsWith x.log v.told
    pub numbered : IsNumbered caller nth x.log
    pub strangers : (n : ℕ) → x.joined ≤ n → entries_by caller n x.log ≡ 0
    pub quiet : v.raised ≡ None
    pub known : v.known < x.joined
    pub present : (n : ℕ) → v.number ≡ Some n → x.present n ≡ true
    pub pin : (n : ℕ) → v.number ≡ Some n → x.pin n ≡ v.pin
    pub claim : (n : ℕ) → v.number ≡ Some n → x.claim n ≡ v.claim
    pub made : (n : ℕ) → v.number ≡ Some n → entries_by caller n x.log ≡ v.made
    pub own : (n : ℕ) → v.number ≡ Some n → entries_by caller n v.log ≡ v.made
    pub served : Each (IsServed (length x.log) x) v.served
    pub once : (n : ℕ) → times n (numbers v) ≤ 1
    pub below : (n : ℕ) → 0 < times n (numbers v) → n < x.joined
    pub ended : Each (HasEnded caller x.log x v.leaving) v.ended
    pub leaving : (n : ℕ) → v.leaving ≡ Some n → (x.present n ≡ true) × (x.pin n ≡ None) × (x.claim n ≡ None)
    pub settles : ((n : ℕ) → x.present n ≡ true → v.number ≡ Some n) → Settles x v

  -- what a seat learns that finds this count: it has seen the whole history, and all that it was told
  pub record Counted (count : ℕ) (v w : View E) : Type 0 where
    pub kept : w ≡ with_log v w.log
    pub long : length w.log ≡ count
    pub seen : StartsWith w.log v.log
    pub told : StartsWith w.log v.told
    pub made : (n : ℕ) → v.number ≡ Some n → entries_by caller n w.log ≡ v.made
    pub own : (n : ℕ) → v.number ≡ Some n → entries_by caller n v.log ≡ v.made
