-- What holds of every message that is spelled, and of every name.
use Rattle.std.specs.Prelude.{◌≡◌, ◌↔◌, ℕ, IsTrue, List, filter, not}
use Rattle.mf_text.specs.Characters.{is_bidi}
use Rattle.mf_text.specs.Grammar.{SpellsName}
use Rattle.mf_tree.specs.declared.name.Name.{Name}
use Rattle.mf_tree.specs.declared.name.Identifier.{Identifier}
use Rattle.mf_tree.specs.declared.message.Declaration.{Declaration}
use Rattle.mf_tree.specs.declared.message.Key.{Key}
use Rattle.mf_tree.specs.declared.message.Message.{Message}
use Rattle.mf_tree.specs.Equality.{is_same_identifier, is_same_key, is_same_keys, is_same_name, AreSameIdentifiers, AreSameKeyLists, AreSameKeys, AreSameNames}
use Rattle.mf_tree.specs.Faults.{is_annotated, IsAnnotated}
use Rattle.mf_tree.specs.Nodes.{IsMessage}
use Rattle.mf_tree.specs.Grammar.{SpellsMessage}

-- what a text spells is a node
abbrev pub SpellsNodes : Type 0
SpellsNodes = (message : Message) (text : List ℕ) → SpellsMessage message text → IsMessage message

-- a text without its marks
abbrev pub without_marks : List ℕ → List ℕ
without_marks text = filter (λ c. not (is_bidi c)) text

-- two names are equal where what they are spelled by differs in marks alone
abbrev pub MarksMakeNoDifference : Type 0
MarksMakeNoDifference = (one other : Name) (text others : List ℕ) → SpellsName one.spelled text → SpellsName other.spelled others →
    without_marks text ≡ without_marks others → one ≡ other

-- a variable is annotated where the test that goes from declaration to declaration says so
abbrev pub AnnotationIsTested : Type 0
AnnotationIsTested = (declarations : List Declaration) (name : Name) → IsAnnotated declarations name ↔ IsTrue (is_annotated declarations name)

-- the tests of equality say what equality is
pub record EqualityIsTested : Type 0 where
  pub names : (a b : Name) → AreSameNames a b ↔ IsTrue (is_same_name a b)
  pub identifiers : (a b : Identifier) → AreSameIdentifiers a b ↔ IsTrue (is_same_identifier a b)
  pub keys : (a b : Key) → AreSameKeys a b ↔ IsTrue (is_same_key a b)
  pub key_lists : (keys others : List Key) → AreSameKeyLists keys others ↔ IsTrue (is_same_keys keys others)
