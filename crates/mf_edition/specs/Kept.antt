-- For private clauses: what an edition keeps of its messages, and the order in which they are searched for.
use Rattle.std.specs.Prelude.{◌<◌, ◌^◌, ℕ, List, length}
use Rattle.std.specs.declared.alloc.Global.{Global}
use Rattle.std.specs.declared.sync.Arc.{Arc}
use Rattle.mf_edition.specs.Items.{Item, item_values}
use Rattle.mf_edition.specs.Edition.{EditionState}
use Rattle.mf_edition.specs.Order.{names_in, IsOrder}
use Rattle.mf_edition.specs.Records.{TaggedRecord}
use Rattle.mf_edition.specs.declared.handler.Handler.{Handler}

-- what callers see
abbrev pub state_of : ℕ → List (Arc Item Global) → List TaggedRecord → List Handler → EditionState
state_of number items records handlers =
    record { number = number; items = item_values items; records = records; handlers = handlers }

-- there are numbers for the messages, and each is in the order
pub record IsKept (items : List (Arc Item Global)) (order : List ℕ) : Type 0 where
  pub few : length items < 2 ^ 32
  pub ordered : IsOrder (names_in items) order
