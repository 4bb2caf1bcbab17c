-- What a caller knows after a turn, after a look at the count, and after it took in what another knew.
use Rattle.std.proofs.Common.{◌≡◌, ◌∙◌, ℕ, ◌+◌, ◌-◌, ◌<◌, ◌≤◌, List, [], ◌∷◌, ◌++◌, length, append_assoc, Contains, Option, Some, refl, ap, sym, subst, arith}
use Rattle.std.specs.Prelude.{Result, Ok, Err, IfOk, OnErr}
use Rattle.std.proofs.lemmas.List.Elements.{Contains-append_left}
use Rattle.mf_edition.specs.declared.change.Change.{Change}
use Rattle.mf_edition.specs.declared.change.Entry.{Entry}
use Rattle.mf_edition.specs.declared.error.PublishError.{PublishError}
use Rattle.mf_io.specs.declared.passes.PassError.{PassError}
use Rattle.mf_io.specs.declared.passes.PassError.TheVariants.{CallersFull, OutOfMemory}
use Rattle.mf_transcript.specs.Steps.{next_entry}
use Rattle.mf_turn.specs.declared.act.Act.TheVariants as act
use Rattle.mf_turn.specs.Account.{Account, entries_by}
use Rattle.mf_turn.specs.Acts.{after, caught_up, joined_with, shadow_of, with_log, with_raised}
use Rattle.mf_turn.specs.Sums.{StartsWith}
use Rattle.mf_turn.specs.Taught.{Counted, Teaches}
use Rattle.mf_turn.proofs.Lists.{append_nil}
use Rattle.mf_turn.proofs.Numbers.{entries_by-append}
use Rattle.mf_hub.specs.Passes.{most_made, Grows, Inherits, IsFresh, IsFull, Keeps, Known, Learns, Publishes, Sees}
use Rattle.mf_hub.specs.Stores.{caller_of, nth_of, IsFullAt}

-- what begins a log, as many of a caller's entries being in either
sees_of : (v : Known) (log : List Entry) → StartsWith log v.log → ((n : ℕ) → v.number ≡ Some n → entries_by caller_of n log ≡ v.made)
    → ((n : ℕ) → v.number ≡ Some n → entries_by caller_of n v.log ≡ v.made) → Sees v log
sees_of v log starts made own = record {
  more = starts.0;
  grown = starts.1;
  others = λ n is.
      let whole = ap (entries_by caller_of n) starts.1 in
      let split = entries_by-append caller_of n v.log starts.0 in
      let a = made n is in
      let b = own n is in
      omega (arith, whole);
}

module _ (x : Account Entry) (v : Known) (t : Teaches caller_of nth_of x v) where
  pub sees : Sees v x.log
  sees = sees_of v x.log t.seen t.made t.own

  pub known_grows : v.known ≤ x.joined - 1
  known_grows = let h = t.known in omega arith

  -- after a turn in which it took x, whatever its pin is
  pub grows : (pin : Option ℕ) → Grows v (record (caught_up v x) { pin = pin })
  grows pin = record {
    log = sees;
    number = refl;
    made = refl;
    known = known_grows;
    heard = omega arith;
    served = λ pair has. has;
  }

  pub publishes : (change : Change) (edition caller : ℕ) (e : Entry) → v.number ≡ Some caller → e ≡ next_entry caller v.made change
      → edition ≡ length (x.log ++ e ∷ []) → Publishes change edition v (after act.Publish x (with_raised (caught_up v x) e))
  publishes change edition caller e own is long = record {
    caller = caller;
    own = own;
    before = x.log;
    log = ap (λ (z : Entry). x.log ++ z ∷ []) is;
    others = sees;
    edition = long;
    same = refl;
    made = refl;
    known = known_grows;
    heard = omega arith;
    served = λ pair has. has;
  }

-- a pass that was split off, and has joined
pub fresh : (x : Account Entry) (v : Known) → Teaches caller_of nth_of x (shadow_of v) → x.joined ≤ most_made
    → IsFresh v (after act.Join x (caught_up (shadow_of v) x))
fresh x v t few = record {
  few = few;
  number = refl;
  made = refl;
  pin = refl;
  given = refl;
  served = refl;
  ended = refl;
  log = t.seen;
}

module _ (v left : Known) where
  inherited : (pair : ℕ × ℕ) → Contains v.served pair → Contains (v.served ++ left.served) pair
  inherited pair has = Contains-append_left v.served left.served pair has

  -- another has left into it
  pub inherits : (x : Account Entry) → Teaches caller_of nth_of x (joined_with v left)
      → Inherits v left (after act.Leave x (caught_up (joined_with v left) x))
  inherits x t = record {
    grows = record {
      log = sees_of v x.log t.seen t.made t.own;
      number = refl;
      made = refl;
      known = let h = t.known in omega arith;
      heard = omega arith;
      served = inherited;
    };
    given = refl;
    pin = refl;
    log = t.told;
    heard = omega arith;
    ended = refl;
  }

  module _ (count : ℕ) (w : Known) (c : Counted caller_of count (joined_with v left) w) where
    -- it took in what another knew, and looked at the count
    pub grows_joined : Grows v w
    grows_joined = subst (Grows v) (sym c.kept) record {
      log = sees_of v w.log c.seen c.made c.own;
      number = refl;
      made = refl;
      known = omega arith;
      heard = omega arith;
      served = inherited;
    }

    pub learns : Learns left w
    learns = subst (Learns left) (sym c.kept) record { log = c.told; known = omega arith; heard = omega arith }

-- nothing happened
pub grows_itself : (v : Known) → Grows v v
grows_itself v = record {
  log = record { more = []; grown = append_nil v.log; others = λ n is. refl };
  number = refl;
  made = refl;
  known = omega arith;
  heard = omega arith;
  served = λ pair has. has;
}

-- it looked at the count
pub grows_counted : (v w : Known) (count : ℕ) → Counted caller_of count v w → Grows v w
grows_counted v w count c = subst (Grows v) (sym c.kept) record {
  log = sees_of v w.log c.seen c.made c.own;
  number = refl;
  made = refl;
  known = omega arith;
  heard = omega arith;
  served = λ pair has. has;
}

-- it has seen more, and more again
sees_through : (p q : Known) (log : List Entry) → q.number ≡ p.number → Sees p q.log → Sees q log → Sees p log
sees_through p q log same a b = record {
  more = a.more ++ b.more;
  grown = sym (append_assoc p.log a.more b.more) ∙ ap (λ (l : List Entry). l ++ b.more) a.grown ∙ b.grown;
  others = λ n is.
      let split = entries_by-append caller_of n a.more b.more in
      let x = a.others n is in
      let y = b.others n (same ∙ is) in
      omega arith;
}

pub grows_through : (p q u : Known) → Grows p q → Grows q u → Grows p u
grows_through p q u a b = record {
  log = sees_through p q u.log a.number a.log b.log;
  number = b.number ∙ a.number;
  made = b.made ∙ a.made;
  known = let x = a.known in let y = b.known in omega arith;
  heard = let x = a.heard in let y = b.heard in omega arith;
  served = λ pair has. b.served pair (a.served pair has);
}

pub keeps_through : (p q u : Known) → Keeps p q → Keeps q u → Keeps p u
keeps_through p q u a b = record { given = b.given ∙ a.given; ended = b.ended ∙ a.ended }

publishes_through : (p q u : Known) (change : Change) (edition : ℕ) → Grows p q → Publishes change edition q u → Publishes change edition p u
publishes_through p q u change edition a b = record {
  caller = b.caller;
  own = sym a.number ∙ b.own;
  before = b.before;
  log = b.log ∙ ap (λ (made : ℕ). b.before ++ next_entry b.caller made change ∷ []) a.made;
  others = sees_through p q b.before a.number a.log b.others;
  edition = b.edition;
  same = b.same ∙ a.number;
  made = b.made ∙ ap (λ (made : ℕ). made + 1) a.made;
  known = let x = a.known in let y = b.known in omega arith;
  heard = let x = a.heard in let y = b.heard in omega arith;
  served = λ pair has. b.served pair (a.served pair has);
}

-- after a first turn, a second one's end
pub ok_through : (p q u : Known) (change : Change) (result : Result ℕ PublishError) → Grows p q → IfOk result (λ edition. Publishes change edition q u)
    → IfOk result (λ edition. Publishes change edition p u)
ok_through p q u change (Ok edition) a b = publishes_through p q u change edition a b
ok_through p q u change (Err error) a b = tt

pub err_through : (p q u : Known) (result : Result ℕ PublishError) → Grows p q → OnErr result (Grows q u) → OnErr result (Grows p u)
err_through p q u (Ok edition) a b = tt
err_through p q u (Err error) a b = grows_through p q u a b

-- where all passes were made that may be, the one that asked for another knows it
pub full : (v left q : Known) (x : Account Entry) (error : PassError) → q ≡ with_log (joined_with v left) q.log → left.known ≡ x.joined - 1
    → v.known < x.joined → IsFullAt x.joined error → IsFull q error
full v left q x (CallersFull made) kept known below limit =
    (let a = limit.0 in let b = limit.1 in omega arith, ap (λ (w : Known). w.known) kept ∙ (let a = limit.0 in omega arith))
full v left q x OutOfMemory kept known below limit = tt
