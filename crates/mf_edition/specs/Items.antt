-- A message with its tag and its id, which stand with its source in one text.
use Rattle.std.specs.Prelude.{◌≤◌, ◌==◌, ℕ, Bool, List, chars, drop, map, take}
use Rattle.std.specs.Arc.{arc_value}
use Rattle.std.specs.Cmp.Lexicographic.{pointwise}
use Rattle.std.specs.List.{slice_range}
use Rattle.std.specs.Ordering.{eq_of_both, on}
use Rattle.std.specs.Str.{IsCharBoundary}
use Rattle.std.specs.declared.alloc.Global.{Global}
use Rattle.std.specs.declared.sync.Arc.{Arc}
use Rattle.mf_text.specs.declared.pair.Pair.{Pair}

-- a message of an edition
pub record Item : Type 0 where
  pub tag : List ℕ
  pub id : List ℕ
  pub source : List ℕ

-- the message that bytes are whose tag and whose id end at these places
abbrev pub item_in : List ℕ → ℕ → ℕ → Item
item_in bytes tag_end id_end = record {
  tag = chars (take tag_end bytes);
  id = chars (slice_range bytes tag_end id_end);
  source = chars (drop id_end bytes);
}

-- the bytes may be cut at these places
pub record AreEnds (bytes : List ℕ) (tag_end id_end : ℕ) : Type 0 where
  pub order : tag_end ≤ id_end
  pub tag : IsCharBoundary bytes tag_end
  pub id : IsCharBoundary bytes id_end

-- the message without its tag
abbrev pub message_of : Item → Pair
message_of item = record { name = item.id; value = item.source }

-- the item that a message makes
abbrev pub item_of : List ℕ → Pair → Item
item_of tag message = record { tag = tag; id = message.name; source = message.value }

-- the messages that shared ones are
abbrev pub item_values : List (Arc Item Global) → List Item
item_values items = map arc_value items

-- two messages have the same tag, id and source
abbrev pub item_eq : Item → Item → Bool
item_eq =
    eq_of_both (on (λ item. item.tag) (pointwise ◌==◌))
    (eq_of_both (on (λ item. item.id) (pointwise ◌==◌)) (on (λ item. item.source) (pointwise ◌==◌)))
