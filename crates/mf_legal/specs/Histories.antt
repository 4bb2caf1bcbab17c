-- The one order of the calls of all callers, and the object of one thread that answers them in it.
use Rattle.std.specs.Prelude.{◌≡◌, ◌+◌, ◌==◌, ◌&&◌, ℕ, zero, suc, Bool, true, false, not, List, [], ◌∷◌, ◌++◌, length, map}
use Rattle.std.specs.List.{filter, AllByRecursion}
use Rattle.mf_edition.specs.declared.change.Entry.{Entry}
use Rattle.mf_legal.specs.Calls.{made_by, one_if, Sort, publication, look, apart, Call, calls_of, Exchange, exchange_of, Service}
use Rattle.mf_legal.specs.Transcripts.{answered}

-- whether a call of this sort is an accepted publication
abbrev pub is_publication : Sort → Bool
is_publication (publication change) = true
is_publication look = false
is_publication apart = false

-- the log after a call: an accepted publication is one more entry, with its caller's next number
abbrev pub log_after : List Entry → ℕ → Sort → List Entry
log_after log caller (publication change) = log ++ record { caller = caller; nth = made_by caller log + 1; change = change } ∷ []
log_after log caller look = log
log_after log caller apart = log

-- a call that is apart from all editions stands at the one that its caller has seen
abbrev pub StaysAt : ℕ → Sort → ℕ → Type 0
StaysAt seen (publication change) edition = Unit {0}
StaysAt seen look edition = Unit {0}
StaysAt seen apart edition = edition ≡ seen

module _ {Line Reply : Type 0} where
  -- the accepted publication of an edition among these calls, then the other calls at that edition
  abbrev pub round : List (Call Line Reply) → ℕ → List (Call Line Reply)
  round calls k =
      filter (λ call. (call.edition == k) && is_publication call.sort) calls
      ++ filter (λ call. (call.edition == k) && not (is_publication call.sort)) calls

  -- the rounds of the editions below a number
  abbrev pub rounds : List (Call Line Reply) → ℕ → List (Call Line Reply)
  rounds calls zero = []
  rounds calls (suc k) = rounds calls k ++ round calls k

  -- the calls of the callers below a number, by caller and place
  abbrev pub by_caller : (ℕ → List (Call Line Reply)) → ℕ → List (Call Line Reply)
  by_caller calls zero = []
  by_caller calls (suc n) = by_caller calls n ++ calls n

  -- the history of the calls of so many callers on a log: the rounds of its editions, from 0 on
  abbrev pub history : List Entry → ℕ → (ℕ → List (Call Line Reply)) → List (Call Line Reply)
  history log callers calls = rounds (by_caller calls callers) (suc (length log))

module _ {Line Reply : Type 0} (service : Service Line Reply) where
  -- the object that holds a log gives a call its reply, after these calls
  abbrev pub Gives : List Entry → List (Call Line Reply) → Call Line Reply → Sort → Type 0
  Gives log before call (publication change) = service.Accepts call.line change call.edition call.reply × (call.edition ≡ length log + 1)
  Gives log before call look = service.Looks log (calls_of call.caller before) call.line call.reply × (call.edition ≡ length log)
  Gives log before call apart = service.Apart call.line call.reply × (call.edition ≡ length log)

  -- the object gives each call its reply, one after the other, and has this log at the end
  abbrev pub Answers : List Entry → List (Call Line Reply) → List (Call Line Reply) → List Entry → Type 0
  Answers log before [] end = log ≡ end
  Answers log before (call ∷ calls) end =
      Gives log before call call.sort × Answers (log_after log call.caller call.sort) (before ++ call ∷ []) calls end

  -- the calls that are apart stay at the edition that was seen
  abbrev pub Stays : ℕ → List (Call Line Reply) → Type 0
  Stays seen [] = Unit {0}
  Stays seen (call ∷ calls) = StaysAt seen call.sort call.edition × Stays call.edition calls

  -- how many of these requests for sentences found no memory
  abbrev pub forgone : List (Exchange Line Reply) → ℕ
  forgone [] = 0
  forgone (exchange ∷ exchanges) = one_if (service.is_format exchange.line && service.is_memory exchange.reply) + forgone exchanges

  -- those of the callers below a number together
  abbrev pub all_forgone : (ℕ → List (Exchange Line Reply)) → ℕ → ℕ
  all_forgone exchanges zero = 0
  all_forgone exchanges (suc n) = all_forgone exchanges n + forgone (exchanges n)

  -- no reply shows more quits than this
  abbrev pub ShowAtMost : ℕ → List (Exchange Line Reply) → Type 0
  ShowAtMost quits exchanges = AllByRecursion (λ exchange. service.ShowsAtMost quits exchange.reply) exchanges

  -- a log, and what each of the callers below a number sent and got, make a legal history: the object, started empty, gives every call
  -- its reply and has that log at the end, so that each of its entries is one of the calls; and the calls of each caller stand in its
  -- order
  pub record Legal (log : List Entry) (callers : ℕ) (exchanges : ℕ → List (Exchange Line Reply)) : Type 0 where
    pub calls : ℕ → List (Call Line Reply)
    pub theirs : (caller : ℕ) → map exchange_of (calls caller) ≡ answered service (exchanges caller)
    pub stays : (caller : ℕ) → Stays 0 (calls caller)
    pub replies : Answers [] [] (history log callers calls) log
    pub order : (caller : ℕ) → calls_of caller (history log callers calls) ≡ calls caller
    pub quits : (caller : ℕ) → ShowAtMost (all_forgone exchanges callers) (exchanges caller)

-- the same meanings, but that a reply may show no more quits than this
abbrev pub bounded : {Line Reply : Type 0} → ℕ → Service Line Reply → Service Line Reply
bounded quits service =
    record service { Looks = λ log earlier line reply. service.Looks log earlier line reply × service.ShowsAtMost quits reply }
