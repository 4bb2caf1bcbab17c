-- For private clauses: what has been seen, by the keys that it is compared by.
use Rattle.std.specs.Prelude.{◌≡◌, ◌||◌, ℕ, Bool, List, Option}
use Rattle.std.specs.Borrow.{Bor}
use Rattle.std.specs.BTreeSet.{BTreeSet, contains}
use Rattle.std.specs.Option.{option_copied, option_map}
use Rattle.std.specs.declared.cmp.Ordering.{Ordering}
use Rattle.mf_text.specs.Order.{byte_cmp}
use Rattle.mf_tree.specs.declared.name.Name.{Name}
use Rattle.mf_tree.specs.declared.name.Identifier.{Identifier}

-- the set has the keys of what passes the test, and of nothing else
pub record AreSeen {K X : Type 0} (cmp : K → K → Ordering) (IsKeyOf : K → X → Type 0) (test : X → Bool) (seen : BTreeSet K) : Type 0 where
  pub each : (x : X) (key : K) → IsKeyOf key x → contains cmp seen key ≡ test x

-- the set has the keys of what passes the test too, beside those that it had
pub record AreSeenToo {K X : Type 0} (cmp : K → K → Ordering) (IsKeyOf : K → X → Type 0) (test : X → Bool) (old new : BTreeSet K) : Type 0 where
  pub each : (x : X) (key : K) → IsKeyOf key x → contains cmp new key ≡ (test x || contains cmp old key)

-- A name is compared by its value.

abbrev pub Value : Type 0
Value = Bor (List ℕ)

abbrev pub value_cmp : Value → Value → Ordering
value_cmp a b = byte_cmp a.now b.now

abbrev pub IsValueOf : Value → Name → Type 0
IsValueOf value name = value.now ≡ name.value

abbrev pub AreNamesSeen : (Name → Bool) → BTreeSet Value → Type 0
AreNamesSeen test seen = AreSeen value_cmp IsValueOf test seen

abbrev pub AreNamesSeenToo : (Name → Bool) → BTreeSet Value → BTreeSet Value → Type 0
AreNamesSeenToo test old new = AreSeenToo value_cmp IsValueOf test old new

-- An identifier is compared by the values of its namespace and its name.

abbrev pub Values : Type 0
Values = Option Value × Value

pub record AreValuesOf (values : Values) (identifier : Identifier) : Type 0 where
  pub namespace : option_copied values.0 ≡ option_map (λ (name : Name). name.value) identifier.namespace
  pub name : values.1.now ≡ identifier.name.value
