-- What clauses see of a seat.
use Rattle.std.specs.Prelude.{ℕ, Option, Some, None}
use Rattle.atomic_table.specs.Seated.{TableId}
use Rattle.atomic_table.specs.declared.shared.Seat.{Seat as Sat}
use Rattle.mf_queue.specs.declared.parts.Item.{Item}
use Rattle.mf_queue.specs.declared.parts.Knowledge.{Knowledge}
use Rattle.mf_queue.specs.Queue.{taken, view}
use Rattle.mf_turn.specs.declared.act.Act.{Act}
use Rattle.mf_turn.specs.declared.view.View.{View}

-- The turn that it is a seat of, the value that it took and hasn't given back, and what it knows.
pub record Standing (T E : Type 0) : Type 0 where
  pub turn : TableId
  pub taken : Option T
  pub view : View E

module _ {T : Type 0} where
  abbrev pub value_of : Option (T × ℕ) → Option T
  value_of None = None
  value_of (Some x) = Some x.0

module _ {T E : Type 0} where
  abbrev pub standing_of : Sat (Item T Act) (Knowledge T (View E)) → Standing T E
  standing_of seat = record { turn = seat.table_id; taken = value_of (taken seat); view = view seat }
