-- What a seat is after a turn in which its caller asked for a message, or ended its claim.
use Rattle.std.proofs.Common.{◌≡◌, ◌∙◌, ℕ, zero, suc, ◌+◌, ◌==◌, ◌≤◌, List, [], ◌∷◌, ◌++◌, length, length-append, Bool, true, false, max, Contains, Option, Some, None, inr, refl, ap, sym, subst, arith}
use Rattle.std.specs.Prelude.{◌||◌, if◌then◌else◌}
use Rattle.std.specs.declared.alloc.Global.{Global}
use Rattle.std.specs.declared.sync.Arc.{Arc}
use Rattle.std.specs.List.{list_any}
use Rattle.std.specs.Option.{ForSome}
use Rattle.std.proofs.lemmas.Bool.Decides.{nat_tests}
use Rattle.std.proofs.lemmas.List.Elements.{Contains-append_left, Contains-append_right}
use Rattle.mf_edition.specs.Edition.{edition_of, newest_edition, EditionsStay, EditionState}
use Rattle.mf_edition.specs.declared.change.Entry.{Entry}
use Rattle.mf_flight.specs.Sums.{sum_below}
use Rattle.mf_legal.specs.Calls.{one_if}
use Rattle.mf_plan.specs.declared.plan.Plan.{Plan}
use Rattle.mf_transcript.specs.Served.{count_among, in_edition}
use Rattle.mf_turn.specs.declared.act.Act.TheVariants as act
use Rattle.mf_turn.specs.Account.{entries_by, Account, Changes}
use Rattle.mf_turn.specs.Acts.{after, caught_up, MayEnd}
use Rattle.mf_turn.specs.Rule.{IsServed}
use Rattle.mf_turn.specs.Standing.{Standing}
use Rattle.mf_turn.specs.Sums.{listed, Each, HasSome, StartsWith}
use Rattle.mf_turn.specs.Taught.{Teaches}
use Rattle.mf_hub.specs.Desks.{IsPlanAt}
use Rattle.mf_hub.specs.Held.{HoldsPinned, IsMessage, IsPass, IsSeat}
use Rattle.mf_hub.specs.Passes.{Gets, Grows, Known, Tells}
use Rattle.mf_hub.specs.Stores.{account_of, caller_of, nth_of, world_of, IsCount, IsStep, IsTurn, Stands, Stored}
use Rattle.mf_hub.specs.declared.stat.Stat.{Stat}
use Rattle.mf_hub.proofs.Accounts.{alike}
use Rattle.mf_hub.proofs.Growing.{known_grows, sees}
use Rattle.mf_hub.proofs.Turned.{after_end, holds_still, quiet}

pub grown : (v u : Known) → Grows v u → StartsWith u.log v.log
grown v u grows = (grows.log.more, grows.log.grown)

-- what was an edition's is the same edition's of a longer log
pub edition_stays : EditionsStay → (log more : List Entry) (k : ℕ) → StartsWith more log → k ≤ length log → edition_of more k ≡ edition_of log k
edition_stays stay log more k starts within =
    ap (λ (l : List Entry). edition_of l k) (sym starts.1) ∙ stay log starts.0 k within

pub longer : (log more : List Entry) → StartsWith more log → length log ≤ length more
longer log more starts = let a = length-append log starts.0 in let b = ap length starts.1 in omega arith

pub low_max : (a b : ℕ) → a ≤ max a b
low_max a b = grind arith

-- without a claim before, there is none after
pub none_claim : {seat : Standing Stored Entry} {number : ℕ} {claim : Option (ℕ × ℕ)} → claim ≡ None → IsSeat seat number claim → IsSeat seat number None
none_claim {seat} {number} none is = subst (IsSeat seat number) none is

-- a message of the pinned edition stays one
pub message_stays : EditionsStay → (v u : Known) (edition index : ℕ) → StartsWith u.log v.log → u.pin ≡ v.pin → IsMessage edition index v
    → IsMessage edition index u
message_stays stay v u edition index more same is = record {
  pinned = same ∙ is.pinned;
  within = let h = longer v.log u.log more in let l = is.within in omega arith;
  inside = let h = ap (λ (e : EditionState). length e.items) (edition_stays stay v.log u.log edition more is.within) in
      let l = is.inside in omega arith;
}

-- a pass's seat, and a pass whose seat has turned
pub seat_of : (seat : Standing Stored Entry) (number : ℕ) (pinned : Option (Arc EditionState Global)) → IsPass seat number pinned → IsSeat seat number None
seat_of seat number pinned is = record {
  free = is.free;
  number_is = is.number_is;
  told = is.told;
  quiet = is.quiet;
  leaving = is.leaving;
  claim_is = is.claim;
  made = is.made;
}

pub pass_of : (seat u : Standing Stored Entry) (number : ℕ) (pinned : Option (Arc EditionState Global)) → IsPass seat number pinned → IsSeat u number None
    → StartsWith u.view.log seat.view.log → u.view.pin ≡ seat.view.pin → IsPass u number pinned
pass_of seat u number pinned is now more same = record {
  free = now.free;
  number_is = now.number_is;
  told = now.told;
  quiet = now.quiet;
  leaving = now.leaving;
  claim = now.claim_is;
  made = now.made;
  pin = holds_still pinned seat.view u.view more same is.pin;
}

module _ (seat w : Standing Stored Entry) (x : Stored) (t : Teaches caller_of nth_of (account_of x) seat.view) (taken : w.taken ≡ Some x) (caught : w.view ≡ caught_up seat.view (account_of x)) where
  module _ (claim : Option (ℕ × ℕ)) (more : List (ℕ × ℕ)) (given heard : ℕ) (u : Standing Stored Entry) (low : seat.view.heard ≤ heard)
      (same : u.view ≡ record (caught_up seat.view (account_of x)) { claim = claim; served = more ++ seat.view.served; given = given; heard = heard }) where
    -- it has grown
    pub grows_turned : Grows seat.view u.view
    grows_turned = subst (Grows seat.view) (sym same) record {
      log = sees (account_of x) seat.view t;
      number = refl;
      made = refl;
      known = known_grows (account_of x) seat.view t;
      heard = low;
      served = λ pair has. Contains-append_right more seat.view.served pair has;
    }

    pub log_turned : u.view.log ≡ (world_of x).log
    log_turned = ap (λ (v : Known). v.log) same

    pub pin_turned : u.view.pin ≡ seat.view.pin
    pin_turned = ap (λ (v : Known). v.pin) same

    pub ended_turned : u.view.ended ≡ seat.view.ended
    ended_turned = ap (λ (v : Known). v.ended) same

    pub given_turned : u.view.given ≡ given
    given_turned = ap (λ (v : Known). v.given) same

    pub has_turned : (pair : ℕ × ℕ) → Contains more pair → Contains u.view.served pair
    has_turned pair has = subst (λ (v : Known). Contains v.served pair) (sym same) (Contains-append_left more seat.view.served pair has)

    module _ (number : ℕ) (was : Option (ℕ × ℕ)) (is : IsSeat seat number was) where
      pub seat_turned : u.taken ≡ None → IsSeat u number claim
      seat_turned free = record {
        free = free;
        number_is = ap (λ (v : Known). v.number) same ∙ is.number_is;
        told = ap (λ (v : Known). v.told) same;
        quiet = ap (λ (v : Known). v.raised) same ∙ is.quiet;
        leaving = ap (λ (v : Known). v.leaving) same ∙ is.leaving;
        claim_is = ap (λ (v : Known). v.claim) same;
        made = subst (λ (v : Known). entries_by caller_of number v.log ≡ v.made) (sym same) (t.made number is.number_is);
      }

  -- an edition that it has seen is one of the value's
  pub within_taken : (e : ℕ) → e ≤ length seat.view.log → e ≤ length (world_of x).log
  within_taken e within = let a = longer seat.view.log (world_of x).log t.seen in omega arith

  -- the view after an act of that kind
  pub after_same : (u : Standing Stored Entry) → ForSome w.taken (λ z. u.view ≡ after act.Same (account_of z) w.view)
      → u.view ≡ record (caught_up seat.view (account_of x)) { served = [] ++ seat.view.served }
  after_same u ended = after_end w u x act.Same taken ended ∙ caught

  pub after_serve : (u : Standing Stored Entry) (e i : ℕ) → ForSome w.taken (λ z. u.view ≡ after (act.Serve e i) (account_of z) w.view)
      → u.view ≡ record (caught_up seat.view (account_of x)) { served = ((e, i) ∷ []) ++ seat.view.served }
  after_serve u e i ended = after_end w u x (act.Serve e i) taken ended ∙ ap (after (act.Serve e i) (account_of x)) caught

  pub after_claim : (u : Standing Stored Entry) (e i : ℕ) → ForSome w.taken (λ z. u.view ≡ after (act.Claim e i) (account_of z) w.view)
      → u.view ≡ record (caught_up seat.view (account_of x)) { claim = Some (e, i); served = [] ++ seat.view.served }
  after_claim u e i ended = after_end w u x (act.Claim e i) taken ended ∙ ap (after (act.Claim e i) (account_of x)) caught

  pub after_done : (u : Standing Stored Entry) (spent : ℕ × ℕ) → seat.view.claim ≡ Some spent
      → ForSome w.taken (λ z. u.view ≡ after act.Done (account_of z) w.view)
      → u.view ≡ record (caught_up seat.view (account_of x)) { claim = None; served = (spent ∷ []) ++ seat.view.served }
  after_done u spent claim ended =
      after_end w u x act.Done taken ended ∙ ap (after act.Done (account_of x)) caught
      ∙ ap (λ (o : Option (ℕ × ℕ)). record (caught_up seat.view (account_of x)) { claim = None; served = listed o ++ seat.view.served }) claim

  pub after_quit : (u : Standing Stored Entry) → ForSome w.taken (λ z. u.view ≡ after act.Quit (account_of z) w.view)
      → u.view ≡ record (caught_up seat.view (account_of x)) { claim = None; served = [] ++ seat.view.served; given = seat.view.given + 1 }
  after_quit u ended = after_end w u x act.Quit taken ended ∙ ap (after act.Quit (account_of x)) caught

  pub after_hear : (u : Standing Stored Entry) (quits : ℕ) → ForSome w.taken (λ z. u.view ≡ after (act.Hear quits) (account_of z) w.view)
      → u.view ≡ record (caught_up seat.view (account_of x)) { served = [] ++ seat.view.served; heard = max seat.view.heard quits }
  after_hear u quits ended = after_end w u x (act.Hear quits) taken ended ∙ ap (after (act.Hear quits) (account_of x)) caught

  module _ (number : ℕ) (claim : Option (ℕ × ℕ)) (is : IsSeat seat number claim) where
    pub seat_joined : ((world_of x).caller number).joined ≡ true
    seat_joined = t.present number is.number_is

    pub seat_claims : ((world_of x).caller number).claim ≡ claim
    seat_claims = t.claim number is.number_is ∙ is.claim_is

    pub seat_pins : ((world_of x).caller number).pinned ≡ seat.view.pin
    seat_pins = t.pin number is.number_is

    pub seat_numbered : w.view.number ≡ Some number
    seat_numbered = ap (λ (v : Known). v.number) caught ∙ is.number_is

    -- it may end its turn by an act that changes its caller's claim
    pub may_claim : (y : Stored) (e i : ℕ) → seat.view.pin ≡ Some e → Changes number (Some e) (Some (e, i)) 0 (account_of x) (account_of y)
        → HasSome w.taken (λ z. MayEnd (act.Claim e i) (account_of z) (account_of y) w.view)
    may_claim y e i pin changes = (
      x,
      taken,
      (
        quiet seat w x t taken caught,
        (
          number,
          seat_numbered,
          subst (λ (o : Option ℕ). Changes number o (Some (e, i)) 0 (account_of x) (account_of y))
              (sym (ap (λ (v : Known). v.pin) caught ∙ pin)) changes,
        ),
      ),
    )

    pub may_quit : (y : Stored) → Changes number ((world_of x).caller number).pinned None 1 (account_of x) (account_of y)
        → HasSome w.taken (λ z. MayEnd act.Quit (account_of z) (account_of y) w.view)
    may_quit y changes = (
      x,
      taken,
      (
        quiet seat w x t taken caught,
        (
          number,
          seat_numbered,
          subst (λ (o : Option ℕ). Changes number o None 1 (account_of x) (account_of y))
              (seat_pins ∙ sym (ap (λ (v : Known). v.pin) caught)) changes,
        ),
      ),
    )

    pub may_done : (y : Stored) (spent : ℕ × ℕ) → claim ≡ Some spent → spent.0 ≤ length (world_of x).log
        → Changes number ((world_of x).caller number).pinned None 0 (account_of x) (account_of y) → (account_of y).ready spent.0 spent.1 ≡ true
        → HasSome w.taken (λ z. MayEnd act.Done (account_of z) (account_of y) w.view)
    may_done y spent claimed within changes ready = (
      x,
      taken,
      (
        quiet seat w x t taken caught,
        (
          (
            number,
            seat_numbered,
            subst (λ (o : Option ℕ). Changes number o None 0 (account_of x) (account_of y))
                (seat_pins ∙ sym (ap (λ (v : Known). v.pin) caught)) changes,
          ),
          (spent, ap (λ (v : Known). v.claim) caught ∙ is.claim_is ∙ claimed, (within, ready)),
        ),
      ),
    )

  -- it may end its turn by an act that changes nothing
  pub may_serve : (y : Stored) (e i : ℕ) → Stands x y → e ≤ length (world_of x).log → (account_of x).ready e i ≡ true
      → HasSome w.taken (λ z. MayEnd (act.Serve e i) (account_of z) (account_of y) w.view)
  may_serve y e i same within ready = (x, taken, (quiet seat w x t taken caught, (alike x y same, within, ready)))

  pub may_hear : (quits : ℕ) → quits ≤ x.given → HasSome w.taken (λ z. MayEnd (act.Hear quits) (account_of z) (account_of x) w.view)
  may_hear quits few = (x, taken, (quiet seat w x t taken caught, (alike x x (refl, refl), few)))

  pub core_step : (y : Stored) → IsStep (world_of x) (world_of y) → HasSome w.taken (λ z. IsTurn z y)
  core_step y step = (x, taken, inr step)

eqb_is : (a b : ℕ) → (a == b) ≡ true → a ≡ b
eqb_is a b is = grind (arith, nat_tests)

-- the messages that a caller was served from the newest edition are among those that are ready
served_ready : (k : ℕ) (x : Account Entry) (served : List (ℕ × ℕ)) → Each (IsServed k x) served
    → (i : ℕ) → list_any (λ index. index == i) (in_edition k served) ≡ true → x.ready k i ≡ true
served_ready k x [] each i among = cc
served_ready k x (pair ∷ served) each i among = by (served_ready k x served each.1 i) (pair.0 == k) refl among
  where
    first : (list_any (λ index. index == i) (in_edition k served) ≡ true → x.ready k i ≡ true) → pair.0 ≡ k → (b : Bool) → (pair.1 == i) ≡ b
        → (b || list_any (λ index. index == i) (in_edition k served)) ≡ true → x.ready k i ≡ true
    first further here true is among = subst (λ (p : ℕ × ℕ). x.ready p.0 p.1 ≡ true) (λ l. (here l, eqb_is pair.1 i is l)) (each.0.1 here)
    first further here false is among = further among

    by : (list_any (λ index. index == i) (in_edition k served) ≡ true → x.ready k i ≡ true) → (b : Bool) → (pair.0 == k) ≡ b
        → list_any (λ index. index == i) (if b then pair.1 ∷ in_edition k served else in_edition k served) ≡ true → x.ready k i ≡ true
    by further true is among = first further (eqb_is pair.0 k is) (pair.1 == i) refl among
    by further false is among = further among

count_fewer : (indexes : List ℕ) (ready : ℕ → Bool) (n : ℕ) → ((i : ℕ) → list_any (λ index. index == i) indexes ≡ true → ready i ≡ true)
    → count_among indexes n ≤ sum_below (λ i. one_if (ready i)) n
count_fewer indexes ready zero has = omega arith
count_fewer indexes ready (suc n) has =
    let before = count_fewer indexes ready n has in
    let here = at_most (list_any (λ index. index == n) indexes) (ready n) (has n) in
    omega arith
  where
    at_most : (a b : Bool) → (a ≡ true → b ≡ true) → one_if a ≤ one_if b
    at_most true b has = let is = ap one_if (has refl) in omega arith
    at_most false b has = omega arith

-- what a caller is told of the newest edition
pub tells : (x : Stored) (v q : Known) (stat : Stat) → Teaches caller_of nth_of (account_of x) v → IsCount stat x
    → q ≡ record (caught_up v (account_of x)) { served = [] ++ v.served; heard = max v.heard stat.quits } → Tells stat q
tells x v q stat t is same = subst (Tells stat) (sym same) record {
  edition_is = is.edition_is;
  least =
      let k : ℕ = length (world_of x).log in
      let a = count_fewer (in_edition k v.served) (λ i. (account_of x).ready k i) (length (newest_edition (world_of x).log).items)
      (served_ready k (account_of x) v.served t.served) in
      let b = is.least in omega arith;
  most = is.most;
  heard = omega arith;
  small = is.small;
}

-- a pin is on an edition that was seen
pub pin_within : (pinned : Option (Arc EditionState Global)) (v : Known) (e : ℕ) → HoldsPinned pinned v → v.pin ≡ Some e → e ≤ length v.log
pin_within None v e held is = absurd (none_some (sym held ∙ is))
  where
    none_some : None ≡ Some e → ⊥
    none_some same = cc
pin_within (Some edition) v e held is =
    let same : length held.0 ≡ e = some_is (length held.0) e (sym held.2 ∙ is) in
    let more = longer held.0 v.log held.1 in
    omega arith
  where
    some_is : (a b : ℕ) → Some a ≡ Some b → a ≡ b
    some_is a b same = cc

-- what was got is got still, once more has been seen
pub gets_later : EditionsStay → (index : ℕ) (plan : Plan) (p v u : Known) (pinned : Option (Arc EditionState Global)) → HoldsPinned pinned p → Grows p v
    → Gets index plan p v → Grows v u → u.given ≡ v.given → Gets index plan p u
gets_later stay index plan p v u pinned held before gets later given = record {
  pinned_at = gets.pinned_at;
  pinned = gets.pinned;
  plan_is =
      let within = pin_within pinned p gets.pinned_at held gets.pinned in
      let more = longer p.log v.log (grown p v before) in
      subst (λ (e : EditionState). IsPlanAt e index plan) (sym (edition_stays stay v.log u.log gets.pinned_at (grown v u later) (omega arith))) gets.plan_is;
  served = later.served (gets.pinned_at, index) gets.served;
  given = given ∙ gets.given;
}
