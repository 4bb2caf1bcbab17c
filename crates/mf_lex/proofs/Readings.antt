-- What is found by the functions is read by the rules.
use Rattle.std.proofs.Common.{◌≡◌, ℕ, Bool, true, false, Option, Some, None, List, sym, subst, MatchBool}
use Rattle.mf_text.specs.Grammar.{O, S, SpellsEscapedChar, SpellsName, SpellsLiteral}
use Rattle.mf_lex.specs.declared.ident.Ident.{Ident}
use Rattle.mf_lex.specs.Cursor.{Place}
use Rattle.mf_lex.specs.Computed.{after_space, has_space, escape_at, name_at, identifier_at, literal_at}
use Rattle.mf_lex.specs.Readers.{Finds, Reads, Passes, SpellsIdent}
use Rattle.mf_lex.proofs.Escapes.{escape_found, escape_none}
use Rattle.mf_lex.proofs.Identifiers.{identifier_found, identifier_none}
use Rattle.mf_lex.proofs.Literals.{literal_found, literal_none}
use Rattle.mf_lex.proofs.Names.{name_found, name_none}
use Rattle.mf_lex.proofs.Spaces.{o_found, s_found, s_none}

pub o_passes : (old new : List ℕ) → new ≡ after_space old → Passes O true old new
o_passes old new is = subst (Passes O true old) (sym is) (o_found old)

pub s_passes : (passed : Bool) (old new : Place) → passed ≡ has_space old.left → MatchBool passed (new.left ≡ after_space old.left) (new ≡ old) →
    Passes S passed old.left new.left
s_passes true old new has is = subst (Passes S true old.left) (sym is) (s_found old.left (sym has))
s_passes false old new none is = s_none old.left (sym none)

pub escape_reads : (found : Option ℕ) (old new : List ℕ) → Finds escape_at found old new → Reads SpellsEscapedChar found old new
escape_reads None old new finds = escape_none old finds.0
escape_reads (Some c) old new finds = escape_found c old new finds

pub name_reads : (found : Option (List ℕ)) (old new : List ℕ) → Finds name_at found old new → Reads SpellsName found old new
name_reads None old new finds = name_none old finds.0
name_reads (Some name) old new finds = name_found old name new finds

pub identifier_reads : (found : Option Ident) (old new : List ℕ) → Finds identifier_at found old new → Reads SpellsIdent found old new
identifier_reads None old new finds = identifier_none old finds.0
identifier_reads (Some ident) old new finds = identifier_found old ident new finds

pub literal_reads : (found : Option (List ℕ)) (old new : List ℕ) → Finds literal_at found old new → Reads SpellsLiteral found old new
literal_reads None old new finds = literal_none old finds.0
literal_reads (Some value) old new finds = literal_found old value new finds
