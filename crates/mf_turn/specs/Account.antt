-- What the rule reads of the value that callers share.
use Rattle.std.specs.Prelude.{◌≡◌, ◌≢◌, ℕ, ◌+◌, ◌≤◌, List, [], ◌∷◌, ◌++◌, map, length, Bool, true, false, Option, None}
use Rattle.mf_turn.specs.Sums.{times}

-- An edition and an index name an entry that is compiled once.
pub record Account (E : Type 0) : Type 0 where
  pub log : List E
  -- how many callers have joined, and so the next one's number
  pub joined : ℕ
  -- whether the caller has joined, and hasn't left
  pub present : ℕ → Bool
  -- the edition that the caller has pinned
  pub pin : ℕ → Option ℕ
  -- the edition and index that the caller has claimed
  pub claim : ℕ → Option (ℕ × ℕ)
  -- how many tickets were given back, over all entries
  pub quits : ℕ
  -- whether the entry of an edition and an index is compiled
  pub ready : ℕ → ℕ → Bool

module _ {E : Type 0} where
  -- the log is empty, and caller 0 alone has joined, without a pin and a claim
  pub record IsNew (x : Account E) : Type 0 where
    pub log : x.log ≡ []
    pub joined : x.joined ≡ 1
    pub present : x.present 0 ≡ true
    pub pin : x.pin 0 ≡ None
    pub claim : x.claim 0 ≡ None
    pub quits : x.quits ≡ 0

  -- what is compiled of the newest edition stays so
  abbrev pub StaysReady : Account E → Account E → Type 0
  StaysReady x y = (index : ℕ) → x.ready (length x.log) index ≡ true → y.ready (length x.log) index ≡ true

  -- nothing changes, but that entries may be gone whose edition isn't the newest
  pub record IsAlike (x y : Account E) : Type 0 where
    pub log : y.log ≡ x.log
    pub joined : y.joined ≡ x.joined
    pub present : (n : ℕ) → y.present n ≡ x.present n
    pub pin : (n : ℕ) → y.pin n ≡ x.pin n
    pub claim : (n : ℕ) → y.claim n ≡ x.claim n
    pub quits : y.quits ≤ x.quits
    pub ready : StaysReady x y

  -- the same, but that this caller now has this pin and this claim, and gave back so many tickets
  pub record Changes (n : ℕ) (pinned : Option ℕ) (claimed : Option (ℕ × ℕ)) (given : ℕ) (x y : Account E) : Type 0 where
    pub log : y.log ≡ x.log
    pub joined : y.joined ≡ x.joined
    pub present : (m : ℕ) → y.present m ≡ x.present m
    pub pin_now : y.pin n ≡ pinned
    pub pin : (m : ℕ) → m ≢ n → y.pin m ≡ x.pin m
    pub claim_now : y.claim n ≡ claimed
    pub claim : (m : ℕ) → m ≢ n → y.claim m ≡ x.claim m
    pub quits : y.quits ≤ x.quits + given
    pub ready : StaysReady x y

  -- the next caller joins, without a pin and a claim
  pub record Joins (x y : Account E) : Type 0 where
    pub log : y.log ≡ x.log
    pub joined : y.joined ≡ x.joined + 1
    pub present_now : y.present x.joined ≡ true
    pub present : (m : ℕ) → m ≢ x.joined → y.present m ≡ x.present m
    pub pin_now : y.pin x.joined ≡ None
    pub pin : (m : ℕ) → m ≢ x.joined → y.pin m ≡ x.pin m
    pub claim_now : y.claim x.joined ≡ None
    pub claim : (m : ℕ) → m ≢ x.joined → y.claim m ≡ x.claim m
    pub quits : y.quits ≤ x.quits
    pub ready : StaysReady x y

  -- this caller leaves
  pub record Leaves (n : ℕ) (x y : Account E) : Type 0 where
    pub log : y.log ≡ x.log
    pub joined : y.joined ≡ x.joined
    pub gone : y.present n ≡ false
    pub present : (m : ℕ) → m ≢ n → y.present m ≡ x.present m
    pub pin : (m : ℕ) → m ≢ n → y.pin m ≡ x.pin m
    pub claim : (m : ℕ) → m ≢ n → y.claim m ≡ x.claim m
    pub quits : y.quits ≤ x.quits
    pub ready : StaysReady x y

  -- the entry is the last of the log, and nothing of the edition that it makes is compiled yet
  pub record Publishes (entry : E) (x y : Account E) : Type 0 where
    pub log : y.log ≡ x.log ++ entry ∷ []
    pub joined : y.joined ≡ x.joined
    pub present : (n : ℕ) → y.present n ≡ x.present n
    pub pin : (n : ℕ) → y.pin n ≡ x.pin n
    pub claim : (n : ℕ) → y.claim n ≡ x.claim n
    pub quits : y.quits ≤ x.quits
    pub unready : (index : ℕ) → x.ready (length y.log) index ≡ false

  module _ (caller : E → ℕ) where
    -- how many entries of the log are this caller's
    abbrev pub entries_by : ℕ → List E → ℕ
    entries_by n log = times n (map caller log)

    module _ (nth : E → ℕ) where
      -- behind these entries each has the number that follows those of its caller
      abbrev pub IsNumberedAfter : List E → List E → Type 0
      IsNumberedAfter before [] = Unit {0}
      IsNumberedAfter before (e ∷ es) = (nth e ≡ entries_by (caller e) before + 1) × IsNumberedAfter (before ++ e ∷ []) es

      -- the entries of each caller are numbered from 1, in order
      abbrev pub IsNumbered : List E → Type 0
      IsNumbered log = IsNumberedAfter [] log
