-- Identifiers and lists of keys that have been seen.
use Rattle.std.proofs.Common.{◌≡◌, ℕ, Bool, List, Option, map}
use Rattle.std.specs.BTreeSet.{BTreeSet}
use Rattle.std.specs.Cmp.Lexicographic.{slice_cmp}
use Rattle.std.specs.Option.{option_cmp}
use Rattle.std.specs.Ordering.{ordering_then}
use Rattle.std.specs.declared.alloc.Global.{Global}
use Rattle.std.specs.declared.cmp.Ordering.{Ordering}
use Rattle.std.specs.declared.vec.Vec.{Vec}
use Rattle.mf_text.specs.Order.{byte_cmp}
use Rattle.mf_tree.specs.declared.name.Identifier.{Identifier}
use Rattle.mf_tree.specs.declared.message.Key.{Key}
use Rattle.mf_check.specs.KeyValues.{key_value}
use Rattle.mf_check.specs.Seen.{value_cmp, AreSeen, AreValuesOf, Values}

abbrev pub values_cmp : Values → Values → Ordering
values_cmp a b = ordering_then (option_cmp value_cmp a.0 b.0) (value_cmp a.1 b.1)

abbrev pub AreIdentifiersSeen : (Identifier → Bool) → BTreeSet Values → Type 0
AreIdentifiersSeen test seen = AreSeen values_cmp AreValuesOf test seen

-- Keys are compared by the list of their values.

abbrev pub KeyValues : Type 0
KeyValues = Vec (Option (List ℕ)) Global

abbrev pub key_values_cmp : KeyValues → KeyValues → Ordering
key_values_cmp a b = slice_cmp (option_cmp byte_cmp) a.items b.items

abbrev pub AreKeyValuesOf : KeyValues → List Key → Type 0
AreKeyValuesOf values keys = values.items ≡ map key_value keys

abbrev pub AreKeysSeen : (List Key → Bool) → BTreeSet KeyValues → Type 0
AreKeysSeen test seen = AreSeen key_values_cmp AreKeyValuesOf test seen
