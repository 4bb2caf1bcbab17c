-- For private clauses: the messages of an edition that a caller was answered from.
use Rattle.std.specs.Prelude.{◌≡◌, ◌==◌, ℕ, List}
use Rattle.std.specs.BTreeSet.{BTreeSet, btree_set_len, contains}
use Rattle.std.specs.List.{list_any}
use Rattle.std.specs.Ordering.{nat_cmp}
use Rattle.mf_transcript.specs.Served.{count_among}

-- the set has these indexes, each once, of an edition of so many messages
pub record IsServed (served : BTreeSet ℕ) (indexes : List ℕ) (items : ℕ) : Type 0 where
  pub has : (i : ℕ) → contains nat_cmp served i ≡ list_any (λ index. index == i) indexes
  pub count : btree_set_len served ≡ count_among indexes items
