-- When names, identifiers and literal keys are equal: where their values in Normalization Form C are
-- (Unicode TS 35, Part 9, "Names and identifiers", "Literals").
use Rattle.std.specs.Prelude.{◌≡◌, ◌==◌, ◌&&◌, Bool, true, false, Option, Some, None, List, [], ◌∷◌}
use Rattle.std.specs.Cmp.Lexicographic.{pointwise}
use Rattle.std.specs.Option.{option_eq}
use Rattle.unicode_normalization.specs.Forms.{nfc}
use Rattle.mf_tree.specs.declared.name.Name.{Name}
use Rattle.mf_tree.specs.declared.name.Identifier.{Identifier}
use Rattle.mf_tree.specs.declared.message.Key.{Key}
use Rattle.mf_tree.specs.declared.message.Key.TheVariants as Keys

abbrev pub AreSameNames : Name → Name → Type 0
AreSameNames a b = a.value ≡ b.value

abbrev pub AreSameNamespaces : Option Name → Option Name → Type 0
AreSameNamespaces None None = Unit {0}
AreSameNamespaces (Some a) (Some b) = AreSameNames a b
AreSameNamespaces None (Some b) = ⊥
AreSameNamespaces (Some a) None = ⊥

abbrev pub AreSameIdentifiers : Identifier → Identifier → Type 0
AreSameIdentifiers a b = AreSameNamespaces a.namespace b.namespace × AreSameNames a.name b.name

-- the key `*` equals no literal, not even `|*|`
abbrev pub AreSameKeys : Key → Key → Type 0
AreSameKeys Keys.Star Keys.Star = Unit {0}
AreSameKeys (Keys.Literal a) (Keys.Literal b) = nfc a ≡ nfc b
AreSameKeys Keys.Star (Keys.Literal b) = ⊥
AreSameKeys (Keys.Literal a) Keys.Star = ⊥

-- two lists of keys are equal where they are equally long and equal at each place
abbrev pub AreSameKeyLists : List Key → List Key → Type 0
AreSameKeyLists [] [] = Unit {0}
AreSameKeyLists (a ∷ keys) (b ∷ others) = AreSameKeys a b × AreSameKeyLists keys others
AreSameKeyLists [] (b ∷ others) = ⊥
AreSameKeyLists (a ∷ keys) [] = ⊥

-- The same as tests.

abbrev pub is_same_name : Name → Name → Bool
is_same_name a b = pointwise ◌==◌ a.value b.value

abbrev pub is_same_identifier : Identifier → Identifier → Bool
is_same_identifier a b = option_eq is_same_name a.namespace b.namespace && is_same_name a.name b.name

abbrev pub is_star : Key → Bool
is_star Keys.Star = true
is_star (Keys.Literal value) = false

abbrev pub is_same_key : Key → Key → Bool
is_same_key Keys.Star Keys.Star = true
is_same_key (Keys.Literal a) (Keys.Literal b) = pointwise ◌==◌ (nfc a) (nfc b)
is_same_key Keys.Star (Keys.Literal b) = false
is_same_key (Keys.Literal a) Keys.Star = false

abbrev pub is_same_keys : List Key → List Key → Bool
is_same_keys keys others = pointwise is_same_key keys others
