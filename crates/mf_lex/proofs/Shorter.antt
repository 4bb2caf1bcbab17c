-- What is passed leaves fewer characters.
use Rattle.std.proofs.Common.{◌≡◌, ℕ, ◌<◌, ◌≤◌, Bool, true, false, Option, Some, None, List, [], ◌∷◌, ap, sym, length, inl, inr, length-append, arith, MatchBool}
use Rattle.std.proofs.lemmas.Bool.{false≢true}
use Rattle.mf_text.specs.Characters.{is_ws, is_bidi, is_space}
use Rattle.mf_text.specs.Languages.{Language, Joined, Word, One, Any, Optional, Maybe, Each, Begins, ◌⋅◌}
use Rattle.mf_text.specs.Grammar.{O, S, is_bare_name, is_unquoted, SpellsBareName, SpellsName, SpellsNamespace, SpellsQuotedPart, SpellsQuotedLiteral, SpellsLiteral, SpellsEscapedChar}
use Rattle.mf_lex.specs.declared.ident.Ident.{Ident}
use Rattle.mf_lex.specs.Cursor.{Place}
use Rattle.mf_lex.specs.Computed.{after_space, has_space, escape_at, name_at, identifier_at, literal_at}
use Rattle.mf_lex.specs.Readers.{Finds, Shortens, SpellsIdent}
use Rattle.mf_lex.proofs.Escapes.{escape_found}
use Rattle.mf_lex.proofs.Gathering.{run_shortens}
use Rattle.mf_lex.proofs.Identifiers.{identifier_begins}
use Rattle.mf_lex.proofs.Literals.{literal_begins}
use Rattle.mf_lex.proofs.Names.{name_begins}
use Rattle.mf_lex.proofs.Spaces.{s_found}

-- rules that have no empty text
unfoldable pub HasNoEmpty : Language → Type 0
HasNoEmpty Rule = (text : List ℕ) → Rule text → 0 < length text

front_some : (First Second : Language) → HasNoEmpty First → HasNoEmpty (Joined First Second)
unfolding HasNoEmpty
front_some First Second some text is = let front : 0 < length is.front = some is.front is.first in omega (arith, ap length is.whole, length-append is.front is.back)

back_some : (First Second : Language) → HasNoEmpty Second → HasNoEmpty (Joined First Second)
unfolding HasNoEmpty
back_some First Second some text is = let back : 0 < length is.back = some is.back is.second in omega (arith, ap length is.whole, length-append is.front is.back)

one_some : (p : ℕ → Bool) → HasNoEmpty (One p)
unfolding HasNoEmpty
one_some p text is = omega (arith, ap length is.1)

word_some : (c : ℕ) → HasNoEmpty (Word (c ∷ []))
unfolding HasNoEmpty
word_some c text is = omega (arith, ap length is)

bare_some : (spelled : List ℕ) → is_bare_name spelled ≡ true → 0 < length spelled
bare_some [] is = absurd (false≢true is)
bare_some (c ∷ cs) is = omega arith

unquoted_some : (value : List ℕ) → is_unquoted value ≡ true → 0 < length value
unquoted_some [] is = absurd (false≢true is)
unquoted_some (c ∷ cs) is = omega arith

bare_name_some : (spelled : List ℕ) → HasNoEmpty (SpellsBareName spelled)
unfolding HasNoEmpty
bare_name_some spelled text is = omega (arith, ap length is.0, bare_some spelled is.1)

pub name_some : (spelled : List ℕ) → HasNoEmpty (SpellsName spelled)
name_some spelled =
    back_some (Optional (One is_bidi)) (SpellsBareName spelled ⋅ Optional (One is_bidi))
    (front_some (SpellsBareName spelled) (Optional (One is_bidi)) (bare_name_some spelled))

pub identifier_some : (ident : Ident) → HasNoEmpty (SpellsIdent ident)
identifier_some ident = back_some (Maybe SpellsNamespace ident.namespace) (SpellsName ident.name) (name_some ident.name)

quoted_some : (value : List ℕ) → HasNoEmpty (SpellsQuotedLiteral value)
quoted_some value = front_some (Word (0x7C ∷ [])) (Each SpellsQuotedPart value ⋅ Word (0x7C ∷ [])) (word_some 0x7C)

pub literal_some : (value : List ℕ) → HasNoEmpty (SpellsLiteral value)
unfolding HasNoEmpty
literal_some value text is =
    elim is [
      | inl quoted ↦ quoted_some value text quoted
      | inr unquoted ↦ omega (arith, ap length unquoted.0, unquoted_some value unquoted.1)
    ]

escape_some : (c : ℕ) → HasNoEmpty (SpellsEscapedChar c)
unfolding HasNoEmpty
escape_some c text is = omega (arith, ap length is.0)

s_some : HasNoEmpty S
s_some = back_some (Any is_bidi) (One is_ws ⋅ O) (front_some (One is_ws) O (one_some is_ws))

-- behind such a text fewer characters are left
shorter : (Rule : Language) (cs left : List ℕ) → HasNoEmpty Rule → Begins Rule cs left → length left < length cs
unfolding HasNoEmpty
shorter Rule cs left some begins =
    let taken : 0 < length begins.taken = some begins.taken begins.is in
    omega (arith, ap length begins.whole, length-append begins.taken left)

pub o_no_longer : (cs : List ℕ) → length (after_space cs) ≤ length cs
unfolding after_space
o_no_longer cs = run_shortens is_space cs

pub s_shortens : (passed : Bool) (old new : Place) → passed ≡ has_space old.left → MatchBool passed (new.left ≡ after_space old.left) (new ≡ old) →
    MatchBool passed (length new.left < length old.left) (length new.left ≤ length old.left)
s_shortens true old new has is = omega (arith, ap length is, shorter S old.left (after_space old.left) s_some (s_found old.left (sym has)).begins)
s_shortens false old new none is = omega (arith, ap (λ (p : Place). length p.left) is)

pub escape_shortens : (found : Option ℕ) (old new : List ℕ) → Finds escape_at found old new → Shortens found old new
escape_shortens None old new finds = tt
escape_shortens (Some c) old new finds = shorter (SpellsEscapedChar c) old new (escape_some c) (escape_found c old new finds).begins

pub name_shortens : (found : Option (List ℕ)) (old new : List ℕ) → Finds name_at found old new → Shortens found old new
name_shortens None old new finds = tt
name_shortens (Some name) old new finds = shorter (SpellsName name) old new (name_some name) (name_begins old name new finds)

pub identifier_shortens : (found : Option Ident) (old new : List ℕ) → Finds identifier_at found old new → Shortens found old new
identifier_shortens None old new finds = tt
identifier_shortens (Some ident) old new finds = shorter (SpellsIdent ident) old new (identifier_some ident) (identifier_begins old ident new finds)

pub literal_shortens : (found : Option (List ℕ)) (old new : List ℕ) → Finds literal_at found old new → Shortens found old new
literal_shortens None old new finds = tt
literal_shortens (Some value) old new finds = shorter (SpellsLiteral value) old new (literal_some value) (literal_begins old value new finds)
