-- What the lines and replies of one caller say over a log.
use Rattle.std.specs.Prelude.{◌≡◌, ◌+◌, ◌<◌, ◌≤◌, ℕ, not, List, [], ◌∷◌, ◌++◌, length, take, map, Some}
use Rattle.std.specs.List.{filter}
use Rattle.mf_edition.specs.declared.change.Entry.{Entry}
use Rattle.mf_legal.specs.Calls.{entry_at, made_by, Sort, publication, look, apart, Call, Exchange, exchange_of, Service}

-- how many entries a caller has made after a call of this sort, of these before
abbrev pub made_after : ℕ → Sort → ℕ
made_after made (publication change) = made + 1
made_after made look = made
made_after made apart = made

module _ {Line Reply : Type 0} (service : Service Line Reply) where
  -- a call that its caller may have next, who has seen an edition, has made so many entries, and had these calls: an accepted
  -- publication is the caller's next entry of the log, at a later edition; a look is at an edition from the seen one on; what is apart
  -- from all editions stays at the seen one
  abbrev pub Fits : List Entry → ℕ → List (Call Line Reply) → ℕ → ℕ → Call Line Reply → Sort → Type 0
  Fits log caller earlier seen made call (publication change) =
      service.Accepts call.line change call.edition call.reply × (seen < call.edition)
      × (entry_at log call.edition ≡ Some (record { caller = caller; nth = made + 1; change = change }))
  Fits log caller earlier seen made call look =
      service.Looks (take call.edition log) earlier call.line call.reply × (seen ≤ call.edition) × (call.edition ≤ length log)
  Fits log caller earlier seen made call apart = service.Apart call.line call.reply × (call.edition ≡ seen)

  -- calls of a caller, each of which fits after those before it, lead to an end, which the edition then seen and the entries then made tell
  abbrev pub Leads : (ℕ → ℕ → Type 0) → List Entry → ℕ → List (Call Line Reply) → ℕ → ℕ → List (Call Line Reply) → Type 0
  Leads End log caller earlier seen made [] = End seen made
  Leads End log caller earlier seen made (call ∷ calls) =
      (call.caller ≡ caller) × Fits log caller earlier seen made call call.sort
      × Leads End log caller (earlier ++ call ∷ []) call.edition (made_after made call.sort) calls

  -- the end: an edition of the log, and all entries of the caller
  abbrev pub IsEnd : List Entry → ℕ → ℕ → ℕ → Type 0
  IsEnd log caller seen made = (seen ≤ length log) × (made ≡ made_by caller log)

  -- the exchanges that aren't answered by want of memory
  abbrev pub answered : List (Exchange Line Reply) → List (Exchange Line Reply)
  answered exchanges = filter (λ exchange. not (service.is_memory exchange.reply)) exchanges

  -- what a caller sent and got over a log, from an edition on
  pub record Transcript (caller : ℕ) (log : List Entry) (from : ℕ) (exchanges : List (Exchange Line Reply)) : Type 0 where
    pub calls : List (Call Line Reply)
    pub theirs : map exchange_of calls ≡ answered exchanges
    pub steps : Leads (IsEnd log caller) log caller [] from (made_by caller (take from log)) calls
