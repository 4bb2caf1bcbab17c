-- What is found where there is a choice, and where nothing is.
use Rattle.std.proofs.Common.{◌≡◌, ℕ, true, Option, Some, None, List, ◌∷◌, refl, ap, sym, ◌∙◌}
use Rattle.std.proofs.lemmas.Bool.{cond-true, eq-eqb}
use Rattle.mf_lex.specs.Computed.{one_at, after_space, name_at}
use Rattle.mf_tree.specs.Names.{named}
use Rattle.mf_tree.specs.declared.name.Name.{Name}
use Rattle.mf_tree.specs.declared.name.Identifier.{Identifier}
use Rattle.mf_tree.specs.declared.message.Key.TheVariants as Keys
use Rattle.mf_lex.specs.declared.ident.Ident.{Ident}
use Rattle.std.specs.Option.{option_map}
use Rattle.mf_lex.specs.Computed.{identifier_at}
use Rattle.mf_parse.specs.Computed.{is_at, identifier_of}
use Rattle.mf_parse.specs.Computed.{identifier_node_at, variable_at, behind_equals, inside, key_at}
use Rattle.mf_lex.proofs.Escapes.{one_next}
use Rattle.mf_parse.proofs.Finding.{behind_by, made_by, made_none, placed_by}

with_parts : Option Name → Name → Identifier
with_parts namespace name = record { namespace = namespace; name = name }

-- a variable's name
pub variable_is : (spelled : List ℕ) (name : Name) (cs p1 left : List ℕ) → one_at 0x24 cs ≡ Some p1 → name_at p1 ≡ Some (spelled, left) → name ≡ named spelled → variable_at cs ≡ Some (name, left)
unfolding variable_at
variable_is spelled name cs p1 left h1 h2 is = behind_by _ _ p1 h1 ∙ made_by _ _ spelled left h2 ∙ ap (λ name. Some (name, left)) (sym is)

pub named_some : (namespace : Option (List ℕ)) (spelled : List ℕ) (name : Name) → namespace ≡ Some spelled → name ≡ named spelled → Some name ≡ option_map named namespace
named_some namespace spelled name some is = ap Some is ∙ ap (option_map named) (sym some)

pub identifier_is : (ident : Ident) (namespace : Option Name) (name : Name) → namespace ≡ option_map named ident.namespace → name ≡ named ident.name →
    ◌≡◌ {A = Identifier} (record { namespace = namespace; name = name }) (identifier_of ident)
unfolding with_parts
identifier_is ident namespace name first second =
    ap (λ (namespace : Option Name). with_parts namespace name) first ∙ ap (λ (name : Name). with_parts (option_map named ident.namespace) name) second

pub identifier_found : (ident : Ident) (node : Identifier) (cs left : List ℕ) → identifier_at cs ≡ Some (ident, left) → node ≡ identifier_of ident → identifier_node_at cs ≡ Some (node, left)
unfolding identifier_node_at
identifier_found ident node cs left h is = made_by _ _ ident left h ∙ ap (λ node. Some (node, left)) (sym is)

pub identifier_none : (cs : List ℕ) → identifier_at cs ≡ None → identifier_node_at cs ≡ None
unfolding identifier_node_at
identifier_none cs h = made_none _ _ h

-- o "=" o, o "}" and "{" o
pub equals_found : (cs a b left : List ℕ) → a ≡ after_space cs → one_at 0x3D a ≡ Some b → left ≡ after_space b → behind_equals cs ≡ Some left
unfolding behind_equals
equals_found cs a b left first sign second = ap (λ cs. option_map after_space (one_at 0x3D cs)) (sym first) ∙ ap (option_map after_space) sign ∙ ap Some (sym second)

pub opening_brace_found : (cs b left : List ℕ) → one_at 0x7B cs ≡ Some b → left ≡ after_space b → inside cs ≡ Some left
unfolding inside
opening_brace_found cs b left sign second = ap (option_map after_space) sign ∙ ap Some (sym second)

-- markup behind its sign, which was passed
sign_is_at : (sign : ℕ) (cs a : List ℕ) → cs ≡ sign ∷ a → is_at sign cs ≡ true
sign_is_at sign cs a at = ap (is_at sign) at ∙ eq-eqb sign sign refl

-- "*"
pub star_found : (cs left : List ℕ) → cs ≡ 0x2A ∷ left → key_at cs ≡ Some (Keys.Star, left)
unfolding key_at
star_found cs left at = cond-true _ _ _ (sign_is_at 0x2A cs left at) ∙ placed_by _ _ left (ap (one_at 0x2A) at ∙ one_next 0x2A left)
