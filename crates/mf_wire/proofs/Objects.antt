-- The members of an object, written one after another between braces.
use Rattle.std.proofs.Common.{◌≡◌, ◌∙◌, ℕ, List, [], ◌∷◌, ◌++◌, Result, Ok, OnOk, ap, append_assoc}
use Rattle.std.proofs.lemmas.Result.{on_ok_weaker}
use Rattle.json.specs.Token.{begin_object, end_object, key}
use Rattle.json.specs.Tree.{members_tokens}
use Rattle.json.specs.Written.{Written}
use Rattle.json.specs.Written as token
use Rattle.serde_json.specs.Data.{Data, object, Members, no_members, member}
use Rattle.serde_json.specs.Written.{members_outline}
use Rattle.mf_wire.specs.Writing.{Writes, WritesMember, data_tokens}

-- these members are written, and the brace that closes their object
pub record WritesRest (members : Members) (old new : Written) : Type 0 where
  pub tokens : new.tokens ≡ old.tokens ++ members_tokens (members_outline members)
  pub before : new.before ≡ old.before

pub next : {name : List ℕ} {value : Data} {members : Members} {old between new : Written}
    → WritesMember name value old between → WritesRest members between new → WritesRest (member name value members) old new
next {name} {value} {members} {old} {between} {new} first others = record {
  tokens =
      others.tokens
      ∙ ap (λ ts. ts ++ members_tokens (members_outline members)) first.tokens
      ∙ append_assoc old.tokens (key name ∷ data_tokens value) (members_tokens (members_outline members));
  before = others.before ∙ first.before;
}

-- a key, and then its value
pub keyed : {E : Type 0} {done : Unit {0}} {name : List ℕ} {value : Data} {old between new : Written}
    → token.Writes {E = E} (Ok done) old between (key name) → Writes value between new → WritesMember name value old new
keyed {E} {done} {name} {value} {old} {between} {new} first wrote = record {
  tokens = wrote.tokens ∙ ap (λ ts. ts ++ data_tokens value) first.ok ∙ append_assoc old.tokens (key name ∷ []) (data_tokens value);
  before = wrote.before ∙ first.room.0;
}

-- the brace that begins an object, its members, and the brace that closes it
pub whole : {E : Type 0} {done : Unit {0}} {closes : Result (Unit {0}) E} {members : Members} {old begun last new : Written}
    → token.Writes {E = E} (Ok done) old begun begin_object → token.Writes closes last new end_object
    → (WritesRest no_members last new → WritesRest members begun new) → OnOk closes (Writes (object members) old new)
whole {E} {done} {closes} {members} {old} {begun} {last} {new} begins ends rest =
    on_ok_weaker closes (λ closed.
    let all = rest (record { tokens = closed; before = ends.room.0 }) in record {
      tokens =
          all.tokens
          ∙ ap (λ ts. ts ++ members_tokens (members_outline members)) begins.ok
          ∙ append_assoc old.tokens (begin_object ∷ []) (members_tokens (members_outline members));
      before = all.before ∙ begins.room.0;
    }) ends.ok
