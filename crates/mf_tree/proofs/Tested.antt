-- The tests of equality say what equality is.
use Rattle.std.proofs.Common.{◌≡◌, ◌↔◌, List, [], ◌∷◌, ℕ, IsTrue, Option, Some, None, nat_eq, refl}
use Rattle.std.proofs.lemmas.Bool.{and_parts, false≢true}
use Rattle.std.specs.Cmp.Derive.{both_true}
use Rattle.std.specs.Cmp.Lexicographic.{bytes_decides, pointwise}
use Rattle.std.specs.Option.{option_eq}
use Rattle.unicode_normalization.specs.Forms.{nfc}
use Rattle.mf_tree.specs.declared.name.Name.{Name}
use Rattle.mf_tree.specs.declared.name.Identifier.{Identifier}
use Rattle.mf_tree.specs.declared.message.Key.{Key}
use Rattle.mf_tree.specs.declared.message.Key.TheVariants as Keys
use Rattle.mf_tree.specs.Equality.{is_same_identifier, is_same_key, is_same_keys, is_same_name, AreSameIdentifiers, AreSameKeyLists, AreSameKeys, AreSameNames, AreSameNamespaces}

texts : (a b : List ℕ) → (a ≡ b) ↔ IsTrue (pointwise nat_eq a b)
texts a b = ((bytes_decides a b).1, (bytes_decides a b).0)

pub names : (a b : Name) → AreSameNames a b ↔ IsTrue (is_same_name a b)
names a b = texts a.value b.value

namespaces : (a b : Option Name) → AreSameNamespaces a b ↔ IsTrue (option_eq is_same_name a b)
namespaces None None = (λ _. refl, λ _. tt)
namespaces None (Some b) = (λ never. absurd never, λ never. absurd (false≢true never))
namespaces (Some a) None = (λ never. absurd never, λ never. absurd (false≢true never))
namespaces (Some a) (Some b) = names a b

pub identifiers : (a b : Identifier) → AreSameIdentifiers a b ↔ IsTrue (is_same_identifier a b)
identifiers a b =
    let spaces = namespaces a.namespace b.namespace in
    let bare = names a.name b.name in (
      λ same. both_true (spaces.0 same.0) (bare.0 same.1),
      λ same. let parts = and_parts (option_eq is_same_name a.namespace b.namespace) (is_same_name a.name b.name) same in (spaces.1 parts.0, bare.1 parts.1),
    )

pub keys : (a b : Key) → AreSameKeys a b ↔ IsTrue (is_same_key a b)
keys Keys.Star Keys.Star = (λ _. refl, λ _. tt)
keys Keys.Star (Keys.Literal b) = (λ never. absurd never, λ never. absurd (false≢true never))
keys (Keys.Literal a) Keys.Star = (λ never. absurd never, λ never. absurd (false≢true never))
keys (Keys.Literal a) (Keys.Literal b) = texts (nfc a) (nfc b)

pub key_lists : (some others : List Key) → AreSameKeyLists some others ↔ IsTrue (is_same_keys some others)
key_lists [] [] = (λ _. refl, λ _. tt)
key_lists [] (b ∷ others) = (λ never. absurd never, λ never. absurd (false≢true never))
key_lists (a ∷ some) [] = (λ never. absurd never, λ never. absurd (false≢true never))
key_lists (a ∷ some) (b ∷ others) =
    let first = keys a b in
    let rest = key_lists some others in (
      λ same. both_true (first.0 same.0) (rest.0 same.1),
      λ same. let parts = and_parts (is_same_key a b) (is_same_keys some others) same in (first.1 parts.0, rest.1 parts.1),
    )
