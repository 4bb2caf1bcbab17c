-- For private clauses: what a pass holds is what its caller knows.
use Rattle.std.specs.Prelude.{◌≡◌, ◌<◌, ◌≤◌, Contains, slice_get, ℕ, List, [], length, Option, None, Some}
use Rattle.std.specs.Arc.{arc_value}
use Rattle.std.specs.declared.alloc.Global.{Global}
use Rattle.std.specs.declared.sync.Arc.{Arc}
use Rattle.mf_edition.specs.Edition.{edition_of, newest_edition, EditionState}
use Rattle.mf_edition.specs.Items.{Item}
use Rattle.mf_edition.specs.declared.change.Entry.{Entry}
use Rattle.mf_turn.specs.Account.{entries_by}
use Rattle.mf_turn.specs.Standing.{Standing}
use Rattle.mf_turn.specs.Sums.{StartsWith}
use Rattle.mf_turn.specs.declared.view.View.{View}
use Rattle.mf_hub.specs.Desks.{IsPlanAt}
use Rattle.mf_hub.specs.Stores.{caller_of, Stored}
use Rattle.mf_hub.specs.declared.got.Got.{Got}
use Rattle.mf_hub.specs.declared.got.Got.TheVariants.{Claimed, Ready}

-- the edition that is held is the pinned one: the newest of some first entries that the caller has seen
abbrev pub HoldsPinned : Option (Arc EditionState Global) → View Entry → Type 0
HoldsPinned None v = v.pin ≡ None
HoldsPinned (Some edition) v =
    (front : List Entry) × StartsWith v.log front × (v.pin ≡ Some (length front)) × (arc_value edition ≡ newest_edition front)

pub record IsPass (seat : Standing Stored Entry) (number : ℕ) (pinned : Option (Arc EditionState Global)) : Type 0 where
  pub free : seat.taken ≡ None
  pub number_is : seat.view.number ≡ Some number
  pub told : seat.view.told ≡ []
  pub quiet : seat.view.raised ≡ None
  pub leaving : seat.view.leaving ≡ None
  pub claim : seat.view.claim ≡ None
  pub made : entries_by caller_of number seat.view.log ≡ seat.view.made
  pub pin : HoldsPinned pinned seat.view

-- a seat between two turns, which has this claim
pub record IsSeat (seat : Standing Stored Entry) (number : ℕ) (claim : Option (ℕ × ℕ)) : Type 0 where
  pub free : seat.taken ≡ None
  pub number_is : seat.view.number ≡ Some number
  pub told : seat.view.told ≡ []
  pub quiet : seat.view.raised ≡ None
  pub leaving : seat.view.leaving ≡ None
  pub claim_is : seat.view.claim ≡ claim
  pub made : entries_by caller_of number seat.view.log ≡ seat.view.made

-- the message of an edition and an index is one of the pinned edition
pub record IsMessage (edition index : ℕ) (v : View Entry) : Type 0 where
  pub pinned : v.pin ≡ Some edition
  pub within : edition ≤ length v.log
  pub inside : index < length (edition_of v.log edition).items

-- this is the source of the message at an index of an edition
abbrev pub IsSource : List Entry → ℕ → ℕ → List ℕ → Type 0
IsSource log edition index source =
    (item : Item) × (slice_get (edition_of log edition).items index ≡ Some item) × (item.source ≡ source)

-- what was got of a message: its plan, which the caller was served with, or the claim on it
abbrev pub HasGot : ℕ → ℕ → ℕ → Standing Stored Entry → Got → Type 0
HasGot number edition index seat (Ready plan) =
    IsSeat seat number None × IsPlanAt (edition_of seat.view.log edition) index (arc_value plan) × Contains seat.view.served (edition, index)
HasGot number edition index seat (Claimed ticket) = IsSeat seat number (Some (edition, index)) × (ticket ≡ (edition, index))

abbrev pub HasSeen : Standing Stored Entry → ℕ → Type 0
HasSeen seat seen = seen ≡ length seat.view.log

-- a note has no number, and so no pin and no claim
pub record IsNote (seat : Standing Stored Entry) : Type 0 where
  pub free : seat.taken ≡ None
  pub number : seat.view.number ≡ None
  pub pin : seat.view.pin ≡ None
  pub claim : seat.view.claim ≡ None
  pub leaving : seat.view.leaving ≡ None
  pub ended : seat.view.ended ≡ []
