-- An identifier is read exactly where the rule of the grammar spells it.
use Rattle.std.proofs.Common.{◌≡◌, ℕ, List, [], ◌∷◌, ◌++◌, Option, None, Some, ap, sym, subst, ◌∙◌, refl}
use Rattle.std.proofs.lemmas.List.{append-nil}
use Rattle.std.specs.Prelude.{slice_get}
use Rattle.std.specs.Option.{option_and_then, option_map}
use Rattle.mf_lex.proofs.Identifiers.{identifier_begins, identifier_whole}
use Rattle.mf_lex.specs.Computed.{identifier_at}
use Rattle.mf_lex.specs.Readers.{SpellsIdent}
use Rattle.mf_lex.specs.declared.ident.Ident.{Ident}
use Rattle.mf_text.specs.Languages.{Begins}
use Rattle.mf_tree.proofs.Marks.{same_name}
use Rattle.mf_tree.specs.Grammar.{SpellsIdentifierNode}
use Rattle.mf_tree.specs.Names.{named}
use Rattle.mf_tree.specs.declared.name.Identifier.{Identifier}
use Rattle.mf_tree.specs.declared.name.Name.{Name}
use Rattle.mf_wire.specs.HandlerFields.{identifier_in, identifier_node, read_whole, IdentifiersAreOfTheGrammar}

-- the identifier, as it is spelled
abbrev ident_of : Identifier → Ident
ident_of identifier = record { namespace = option_map (λ (name : Name). name.spelled) identifier.namespace; name = identifier.name.spelled }

named_again : (name : Name) → named name.spelled ≡ name
named_again name = same_name (named name.spelled) name refl

namespace_again : (namespace : Option Name) → option_map named (option_map (λ (name : Name). name.spelled) namespace) ≡ namespace
namespace_again None = refl
namespace_again (Some name) = ap Some (named_again name)

node_again : (identifier : Identifier) → identifier_node (ident_of identifier) ≡ identifier
node_again identifier =
    let namespace = namespace_again identifier.namespace in
    let name = named_again identifier.name in
    λ i. record { namespace = namespace i; name = name i }

spelled_by : (namespace : Option (List ℕ)) → option_map (λ (name : Name). name.spelled) (option_map named namespace) ≡ namespace
spelled_by None = refl
spelled_by (Some spelled) = refl

ident_again : (ident : Ident) → ident_of (identifier_node ident) ≡ ident
ident_again ident = let namespace = spelled_by ident.namespace in λ i. record { namespace = namespace i; name = ident.name }

whole_is : (ident : Ident) (left : List ℕ) (identifier : Identifier) → read_whole ident left ≡ Some identifier → (left ≡ []) × (identifier_node ident ≡ identifier)
whole_is ident [] identifier is = (refl, cc)
whole_is ident (c ∷ left) identifier is = cc

spelled_whole : (text : List ℕ) (ident : Ident) (left : List ℕ) → Begins (SpellsIdent ident) text left → left ≡ [] → SpellsIdent ident text
spelled_whole text ident left begins none =
    subst (SpellsIdent ident) (sym (begins.whole ∙ ap (λ rest. begins.taken ++ rest) none ∙ append-nil begins.taken)) begins.is

spelled_at : (text : List ℕ) (identifier : Identifier) (found : Option (Ident × List ℕ)) → identifier_at text ≡ found
    → option_and_then (λ found. read_whole found.0 found.1) found ≡ Some identifier → SpellsIdentifierNode identifier text
spelled_at text identifier None at is = cc
spelled_at text identifier (Some found) at is =
    let parts = whole_is found.0 found.1 identifier is in
    let whole = spelled_whole text found.0 found.1 (identifier_begins text found.0 found.1 at) parts.0 in
    subst (λ ident. SpellsIdent ident text) (sym (ident_again found.0) ∙ ap ident_of parts.1) whole

pub of_the_grammar : IdentifiersAreOfTheGrammar
of_the_grammar = record {
  spelled = λ text identifier is. spelled_at text identifier (identifier_at text) refl is;
  found = λ text identifier spells.
      ap (option_and_then (λ found. read_whole found.0 found.1)) (identifier_whole text (ident_of identifier) spells)
      ∙ ap Some (node_again identifier);
}

-- what a reader tells of it

pub read_none : (text : List ℕ) → identifier_at text ≡ None → identifier_in text ≡ None
read_none text none = ap (option_and_then (λ found. read_whole found.0 found.1)) none

pub read_front : (text : List ℕ) (ident : Ident) (left : List ℕ) → identifier_at text ≡ Some (ident, left) → identifier_in text ≡ read_whole ident left
read_front text ident left found = ap (option_and_then (λ found. read_whole found.0 found.1)) found

pub at_end : (ident : Ident) (left : List ℕ) → None ≡ slice_get left 0 → read_whole ident left ≡ Some (identifier_node ident)
at_end ident [] none = refl
at_end ident (c ∷ left) none = cc

pub not_at_end : (ident : Ident) (left : List ℕ) (c : ℕ) → Some c ≡ slice_get left 0 → read_whole ident left ≡ None
not_at_end ident [] c some = cc
not_at_end ident (next ∷ left) c some = refl
