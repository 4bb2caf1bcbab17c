-- What the rule of a turn reads of a tally.
use Rattle.std.specs.Prelude.{◌≡◌, ℕ, List, length, Bool, false, Option, Some, None, slice_get}
use Rattle.atomic_table.specs.Seated.{TableId}
use Rattle.mf_turn.specs.Account.{Account}
use Rattle.mf_turn.specs.Standing.{Standing}
use Rattle.mf_turn_rows.specs.declared.tally.Entry.{Entry}
use Rattle.mf_turn_rows.specs.declared.tally.Caller.{Caller}
use Rattle.mf_turn_rows.specs.declared.tally.Tally.{Tally}

abbrev pub caller_of : Entry → ℕ
caller_of e = e.caller

abbrev pub nth_of : Entry → ℕ
nth_of e = e.nth

abbrev pub presence : Option Caller → Bool
presence None = false
presence (Some c) = c.present

-- whether the caller has joined, and hasn't left
abbrev pub is_present : List Caller → ℕ → Bool
is_present callers n = presence (slice_get callers n)

abbrev pub account_of : Tally → Account Entry
account_of t = record {
  log = t.log.items;
  joined = length t.callers.items;
  present = is_present t.callers.items;
  pin = λ n. None;
  claim = λ n. None;
  quits = 0;
  ready = λ edition index. false;
}

-- a seat of this turn, which has taken nothing
abbrev pub IsFree : TableId → Standing Tally Entry → Type 0
IsFree turn seat = (seat.turn ≡ turn) × (seat.taken ≡ None)

-- one of them that has no number, pin and claim, and no leave in hand
abbrev pub IsShadow : TableId → Standing Tally Entry → Type 0
IsShadow turn seat = IsFree turn seat × (seat.view.number ≡ None) × (seat.view.pin ≡ None) × (seat.view.claim ≡ None) × (seat.view.leaving ≡ None)

-- nothing else was learnt than what the log says
abbrev pub SameCaller : Standing Tally Entry → Standing Tally Entry → Type 0
SameCaller s t = (t.turn ≡ s.turn) × (t.view.number ≡ s.view.number) × (t.view.pin ≡ s.view.pin) × (t.view.claim ≡ s.view.claim) × (t.view.leaving ≡ s.view.leaving)
