-- The members of an object, one after the other.
use Rattle.std.specs.Prelude.{ℕ, List}
use Rattle.serde_json.specs.Data.{number, string, unsigned, Members, member}

-- a text, and then the others
abbrev pub text_member : List ℕ → List ℕ → Members → Members
text_member name text others = member name (string text) others

-- a number, and then the others
abbrev pub number_member : List ℕ → ℕ → Members → Members
number_member name n others = member name (number (unsigned n)) others
