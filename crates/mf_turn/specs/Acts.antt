-- When a turn may end by an act, and what the seat knows then.
use Rattle.std.specs.Prelude.{◌≡◌, ℕ, ◌+◌, ◌-◌, ◌^◌, ◌<◌, ◌≤◌, List, [], ◌∷◌, ◌++◌, length, max, true, Option, Some, None}
use Rattle.mf_turn.specs.declared.act.Act.{Act}
use Rattle.mf_turn.specs.declared.act.Act.TheVariants.{Same, Join, Leave, Serve, Hear, Publish, Pin, Unpin, Claim, Done, Quit}
use Rattle.mf_turn.specs.declared.view.Ended.{Ended}
use Rattle.mf_turn.specs.declared.view.View.{View}
use Rattle.mf_turn.specs.Account.{Account, IsAlike, Changes, Joins, Leaves, Publishes}
use Rattle.mf_turn.specs.Sums.{listed, HasSome}

module _ {E : Type 0} where
  -- what a seat knows that takes the value
  abbrev pub caught_up : View E → Account E → View E
  caught_up v x = record v { log = x.log; told = []; known = x.joined - 1 }

  -- what it knows that reads the count, the history being this
  abbrev pub with_log : View E → List E → View E
  with_log v log = record v { log = log; told = [] }

  -- what it knows that has fixed the place of its entry
  abbrev pub with_raised : View E → E → View E
  with_raised v entry = record v { log = v.log ++ entry ∷ []; made = v.made + 1; raised = Some entry }

  -- what a seat with no number knows
  abbrev pub unnumbered : List E → ℕ → ℕ → View E
  unnumbered log known heard = record {
    number = None;
    log = log;
    told = [];
    made = 0;
    pin = None;
    claim = None;
    given = 0;
    known = known;
    heard = heard;
    served = [];
    ended = [];
    raised = None;
    leaving = None;
  }

  -- what a seat knows that is split off
  abbrev pub shadow_of : View E → View E
  shadow_of v = unnumbered v.log v.known v.heard

  -- the callers that have left, once this view's own has too
  abbrev pub left_behind : Option ℕ → View E → List Ended
  left_behind None w = w.ended
  left_behind (Some n) w = record { caller = n; made = w.made; given = w.given } ∷ w.ended

  -- what a seat knows that takes in another's view
  abbrev pub joined_with : View E → View E → View E
  joined_with v w = record v {
    told = w.log;
    known = max v.known w.known;
    heard = max v.heard w.heard;
    served = v.served ++ w.served;
    ended = v.ended ++ left_behind w.number w;
    leaving = w.number;
  }

  -- what is left to the other
  abbrev pub spent_view : View E
  spent_view = unnumbered [] 0 0

  -- what a seat knows after its turn, in which it took x
  abbrev pub after : Act → Account E → View E → View E
  after Same x v = v
  after Join x v = record v { number = Some x.joined; made = 0; pin = None; claim = None; given = 0; known = x.joined }
  after Leave x v = record v { leaving = None }
  after (Serve edition index) x v = record v { served = (edition, index) ∷ v.served }
  after (Hear quits) x v = record v { heard = max v.heard quits }
  after Publish x v = record v { raised = None }
  after Pin x v = record v { pin = Some (length x.log) }
  after Unpin x v = record v { pin = None }
  after (Claim edition index) x v = record v { claim = Some (edition, index) }
  after Done x v = record v { claim = None; served = listed v.claim ++ v.served }
  after Quit x v = record v { claim = None; given = v.given + 1 }

  -- what the act asks of the value given, beside that no place is fixed
  abbrev pub Makes : Act → Account E → Account E → View E → Type 0
  Makes Same x y v = IsAlike x y
  Makes Join x y v = (v.number ≡ None) × Joins x y
  Makes Leave x y v = HasSome v.leaving (λ n. Leaves n x y)
  Makes (Serve edition index) x y v = IsAlike x y × (edition ≤ length x.log) × (x.ready edition index ≡ true)
  Makes (Hear quits) x y v = IsAlike x y × (quits ≤ x.quits)
  Makes Publish x y v = HasSome v.raised (λ entry. Publishes entry x y)
  Makes Pin x y v = HasSome v.number (λ n. Changes n (Some (length x.log)) v.claim 0 x y)
  Makes Unpin x y v = HasSome v.number (λ n. Changes n None v.claim 0 x y)
  Makes (Claim edition index) x y v = HasSome v.number (λ n. Changes n v.pin (Some (edition, index)) 0 x y)
  Makes Done x y v = HasSome v.number (λ n. Changes n v.pin None 0 x y)
      × HasSome v.claim (λ pair. (pair.0 ≤ length x.log) × (y.ready pair.0 pair.1 ≡ true))
  Makes Quit x y v = HasSome v.number (λ n. Changes n v.pin None 1 x y)

  -- a place is fixed exactly where the act is a publication
  abbrev pub IsQuiet : Act → View E → Type 0
  IsQuiet Publish v = Unit {0}
  IsQuiet act v = v.raised ≡ None

  abbrev pub MayEnd : Act → Account E → Account E → View E → Type 0
  MayEnd act x y v = IsQuiet act v × Makes act x y v

  -- the seat that took x may fix the place of the entry that y has more
  pub record MayFix (caller nth : E → ℕ) (x y : Account E) (v : View E) : Type 0 where
    pub entry : E
    pub quiet : v.raised ≡ None
    pub log : y.log ≡ x.log ++ entry ∷ []
    pub own : v.number ≡ Some (caller entry)
    pub next : nth entry ≡ v.made + 1
    pub few : length x.log + 1 < 2 ^ 64

  -- the place of the entry that y has more is fixed
  abbrev pub Fixes : Account E → Account E → View E → View E → Type 0
  Fixes x y v w = (entry : E) × (y.log ≡ x.log ++ entry ∷ []) × (w ≡ with_raised v entry)
