-- For private clauses: what a writer of JSON has after it has written a value, or a member of an object.
use Rattle.std.specs.Prelude.{◌≡◌, ℕ, List, [], ◌∷◌, ◌++◌}
use Rattle.json.specs.Token.{Token, key}
use Rattle.json.specs.Tree.{json_tokens}
use Rattle.json.specs.Written.{Written}
use Rattle.serde_json.specs.Data.{Data, number, string, object, unsigned, Members, member, no_members}
use Rattle.serde_json.specs.Written.{outline}
use Rattle.mf_wire.specs.Parts.{pair_members}
use Rattle.mf_wire.specs.declared.row.Member.{Member}
use Rattle.mf_wire.specs.declared.row.Member.TheVariants.{Number, Text, Texts}

-- the tokens of a value
abbrev pub data_tokens : Data → List Token
data_tokens d = json_tokens (outline d)

-- the value is written whole after the tokens that stood there, and what the buffer held at the start stays
pub record Writes (d : Data) (old new : Written) : Type 0 where
  pub tokens : new.tokens ≡ old.tokens ++ data_tokens d
  pub before : new.before ≡ old.before

-- the same of a member of an object: a key and its value
pub record WritesMember (name : List ℕ) (d : Data) (old new : Written) : Type 0 where
  pub tokens : new.tokens ≡ old.tokens ++ key name ∷ data_tokens d
  pub before : new.before ≡ old.before

-- a member of a row of the writer's table: its name, and its value
abbrev pub member_name : Member → List ℕ
member_name (Number name n) = name.now
member_name (Text name text) = name.now
member_name (Texts name pairs) = name.now

abbrev pub member_value : Member → Data
member_value (Number name n) = number (unsigned n)
member_value (Text name text) = string text.now
member_value (Texts name pairs) = object (pair_members pairs.now)

-- the members that a row names, one after the other
abbrev pub row_members : List Member → Members
row_members [] = no_members
row_members (first ∷ row) = member (member_name first) (member_value first) (row_members row)
