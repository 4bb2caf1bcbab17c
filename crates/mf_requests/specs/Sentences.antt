-- For private clauses: what was read of a request for a sentence, and the members of the JSON object that it was read of.
use Rattle.std.specs.Prelude.{◌≡◌, ◌<◌, ◌≤◌, ℕ, List, [], Option, Some, None, MatchOption, codes, length, option_map}
use Rattle.std.specs.Borrow.{Bor}
use Rattle.json.specs.Token.{Token}
use Rattle.json.specs.Json as json
use Rattle.serde_json.specs.Data.{Data, Members, no_members, number, object, put, string, unsigned}
use Rattle.serde_json.specs.Find.{get_member}
use Rattle.serde_json.specs.Read.{converted, of_json, of_members}
use Rattle.mf_text.specs.declared.arguments.Argued.{Argued}
use Rattle.mf_wire.specs.Fields.{argued_from, arguments_from}
use Rattle.mf_requests.specs.declared.sentence.Sentence.{Sentence}

-- the tokens begin with this value, which nests no deeper than the number, and the rest follows it
abbrev pub Reads : ℕ → List Token → Data → List Token → Type 0
Reads depth tokens found rest = converted of_json (json.value depth tokens) ≡ Some (found, rest)

-- behind an opening brace: the tokens begin with these members, put among others, and the closing brace
abbrev pub members_read : ℕ → ℕ → Members → List Token → Option (Members × List Token)
members_read depth turns found tokens = converted (λ ms. of_members ms found) (json.members (json.value depth) turns tokens)

-- the tokens begin with the value of an argument
pub record HasArgument (tokens : List Token) (argued : Argued) (rest : List Token) : Type 0 where
  pub found : Data
  pub read : (depth : ℕ) → Reads depth tokens found rest
  pub is : argued_from found ≡ Some argued
  pub shorter : length rest < length tokens

-- behind an opening brace: the tokens begin with members that are these arguments, and the closing brace
pub record HasArguments (tokens : List Token) (arguments : List (List ℕ × Argued)) (rest : List Token) : Type 0 where
  pub members : Members
  pub read : (depth : ℕ) → members_read depth (length tokens) no_members tokens ≡ Some (members, rest)
  pub are : arguments_from members [] ≡ Some arguments
  pub shorter : length rest ≤ length tokens

-- the member of this name is the text, or there is none
abbrev pub ShowsText : List ℕ → Option (Bor (List ℕ)) → Members → Type 0
ShowsText name text members = get_member name members ≡ option_map (λ t. string t.now) text

-- the member of this name is the whole number, or there is none
abbrev pub ShowsNumber : List ℕ → Option ℕ → Members → Type 0
ShowsNumber name whole members = get_member name members ≡ option_map (λ n. number (unsigned n)) whole

-- a value is an object whose members are these arguments
pub record AreArguments (found : Option Data) (arguments : List (List ℕ × Argued)) : Type 0 where
  pub members : Members
  pub is_object : found ≡ Some (object members)
  pub read : arguments_from members [] ≡ Some arguments

-- the member of this name is an object of these arguments, or there is none
abbrev pub ShowsArguments : List ℕ → Option (List (List ℕ × Argued)) → Members → Type 0
ShowsArguments name arguments members =
    MatchOption arguments (get_member name members ≡ None) (λ arguments. AreArguments (get_member name members) arguments)

-- what was read is what the members say
pub record Shows (sentence : Sentence) (members : Members) : Type 0 where
  pub op : ShowsText (codes "op") sentence.op members
  pub locale : ShowsText (codes "locale") sentence.locale members
  pub id : ShowsText (codes "id") sentence.id members
  pub arguments : ShowsArguments (codes "args") sentence.arguments members
  pub since : ShowsNumber (codes "since") sentence.since members

-- the tokens begin with the value of a member, and what was read before, and that value, are what was read after
pub record HasMember (tokens : List Token) (name : List ℕ) (before after : Sentence) (rest : List Token) : Type 0 where
  pub found : Data
  pub read : (depth : ℕ) → 0 < depth → Reads depth tokens found rest
  pub shows : (members : Members) → Shows before members → Shows after (put name found members)
  pub shorter : length rest < length tokens

-- behind an opening brace: the tokens begin with members that show this, and the closing brace
pub record HasMembers (tokens : List Token) (sentence : Sentence) (rest : List Token) : Type 0 where
  pub members : Members
  pub read : members_read 126 (length tokens) no_members tokens ≡ Some (members, rest)
  pub shows : Shows sentence members

-- the tokens are an object that shows this
pub record IsSentence (tokens : List Token) (sentence : Sentence) : Type 0 where
  pub members : Members
  pub read : Reads 127 tokens (object members) []
  pub shows : Shows sentence members
