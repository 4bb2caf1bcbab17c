-- Members that are read one after the other, and what they are as data.
use Rattle.std.proofs.Common.{◌≡◌, ℕ, ◌<◌, ◌≤◌, ◌-◌, List, [], ◌∷◌, length, Option, Some, None, option_and_then, option_map, refl, ap, ◌∙◌}
use Rattle.json.specs.Token as token
use Rattle.json.specs.Token.{Token}
use Rattle.json.specs.Json as json
use Rattle.json.specs.Json.{if_last, members, parse_map, read_key, value}
use Rattle.json.specs.Lex.{tokens}
use Rattle.json.proofs.Grammar.{members_end, members_more, value_is, value-begin_object}
use Rattle.serde_json.specs.Data.{Data, Members, no_members, number, object, put, string, Num}
use Rattle.serde_json.specs.Read.{converted, number_of, of_json, of_members, read}
use Rattle.mf_requests.specs.Sentences.{members_read, Reads}

abbrev pick : {A : Type 0} → A → Option A → A
pick a None = a
pick a (Some b) = b

is_found : {A B : Type 0} (a : A) (r s : List Token) (x : Option B) (b : B)
    → option_map {U = B × List Token} (λ y. (y, r)) x ≡ Some (b, s) → (r ≡ s) × (x ≡ Some b)
is_found a r s None b e = absurd (cc)
is_found a r s (Some y) b e = let same = ap (pick (y, r)) e in (ap (λ p. p.1) same, ap (λ p. Some p.0) same)

-- what was read and converted, before it was converted
converted_some : {A B : Type 0} (f : A → Option B) (o : Option (A × List Token)) (b : B) (r : List Token)
    → converted f o ≡ Some (b, r) → (a : A) × (o ≡ Some (a, r)) × (f a ≡ Some b)
converted_some f None b r e = absurd (cc)
converted_some f (Some p) b r e = let both = is_found p.0 p.1 r (f p.0) b e in (p.0, ap (λ s. Some (p.0, s)) both.0, both.1)

as_object : (r : List Token) (x : Option Members)
    → option_map (λ b. (b, r)) (option_map object x) ≡ parse_map object (option_map (λ a. (a, r)) x)
as_object r None = refl
as_object r (Some a) = refl

converted_object : (o : Option (json.Members × List Token))
    → converted of_json (parse_map json.object o) ≡ parse_map object (converted (λ ms. of_members ms no_members) o)
converted_object None = refl
converted_object (Some p) = as_object p.1 (of_members p.0 no_members)

with_member : (name : List ℕ) (j : json.Json) (d : Data) (found : Members) → of_json j ≡ Some d → (o : Option (json.Members × List Token))
    → converted (λ ms. of_members ms found) (parse_map (json.member name j) o) ≡ converted (λ ms. of_members ms (put name d found)) o
with_member name j d found e None = refl
with_member name j d found e (Some p) = rw e refl

pub reads_text : (text : List ℕ) (rest : List Token) (depth : ℕ) → Reads depth (token.string text ∷ rest) (string text) rest
reads_text text rest depth = ap (converted of_json) (value_is depth _)

pub reads_number : (text : List ℕ) (n : Num) (rest : List Token) → number_of text ≡ Some n → (depth : ℕ)
    → Reads depth (token.number text ∷ rest) (number n) rest
reads_number text n rest e depth = ap (converted of_json) (value_is depth _) ∙ rw e refl

pub reads_object : (found : Members) (inside rest : List Token) (depth : ℕ) → 0 < depth
    → members_read (depth - 1) (length inside) no_members inside ≡ Some (found, rest)
    → Reads depth (token.begin_object ∷ inside) (object found) rest
reads_object found inside rest depth nests e =
    ap (converted of_json) (value-begin_object depth inside nests)
    ∙ converted_object (members (value (depth - 1)) (length inside) inside) ∙ ap (parse_map object) e

-- one more member
pub one_more : (depth turns : ℕ) (found : Members) (name : List ℕ) (tokens inside rest : List Token) (d : Data)
    → 0 < turns → read_key tokens ≡ Some (Some name, inside) → Reads depth inside d rest
    → members_read depth turns found tokens ≡ members_read depth (turns - 1) (put name d found) rest
one_more depth turns found name tokens inside rest d enough key e =
    let j = converted_some of_json (value depth inside) d rest e in
    ap (converted (λ ms. of_members ms found)) (members_more (value depth) turns name tokens inside rest j.0 enough key j.1)
    ∙ with_member name j.0 d found j.2 _

-- the closing brace
pub no_more : (depth turns : ℕ) (found : Members) (tokens rest : List Token) → length tokens ≤ turns → read_key tokens ≡ Some (None, rest)
    → members_read depth turns found tokens ≡ Some (found, rest)
no_more depth turns found tokens rest enough key =
    ap (converted (λ ms. of_members ms found)) (members_end (value depth) turns tokens rest enough key)

-- a whole text
pub whole_read : (text : List ℕ) (d : Data) → Reads 127 (tokens text) d [] → read text ≡ Some d
whole_read text d e =
    let j = converted_some of_json (value 127 (tokens text)) d [] e in
    ap (λ o. option_and_then of_json (option_and_then (λ p. if_last p.0 p.1) o)) j.1 ∙ j.2
