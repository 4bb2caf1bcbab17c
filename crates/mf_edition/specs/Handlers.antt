-- The handlers of an edition, each found by its name.
use Rattle.std.specs.Prelude.{◌≡◌, ◌==◌, ℕ, Bool, Option, Some, List, option_map, if◌then◌else◌}
use Rattle.std.specs.Cmp.{and_equiv, on_equiv, IsEquivalence}
use Rattle.std.specs.Cmp.Lexicographic.{nat_list_eq_equiv, options_equiv, pointwise}
use Rattle.std.specs.List.Sorted.{IsStrictlySortedBy}
use Rattle.std.specs.Option.{option_cmp, option_eq}
use Rattle.std.specs.Ordering.{eq_of_both, on, ordering_then}
use Rattle.std.specs.declared.cmp.Ordering.{Ordering}
use Rattle.mf_text.specs.Order.{byte_cmp}
use Rattle.mf_text.specs.Ordered.{put_ordered, LacksAt, StandsAt}
use Rattle.mf_tree.specs.Equality.{is_same_identifier}
use Rattle.mf_tree.specs.declared.name.Identifier.{Identifier}
use Rattle.mf_tree.specs.declared.name.Name.{Name}
use Rattle.mf_value.specs.contracts.handler.HandlerDefEq.TheImpl.Laws.{laws-law}
use Rattle.mf_value.specs.contracts.handler.HandlerDefPartialEq.TheImpl as def
use Rattle.mf_value.specs.declared.handler.HandlerDef.{HandlerDef}
use Rattle.mf_edition.specs.Lookups.{found_by}
use Rattle.mf_edition.specs.declared.handler.Handler.{Handler}

-- what a handler is found by: the values of its namespace and of its name in Normalization Form C
abbrev pub HandlerKey : Type 0
HandlerKey = Option (List ℕ) × List ℕ

abbrev pub namespace_value : Option Name → Option (List ℕ)
namespace_value namespace = option_map (λ (name : Name). name.value) namespace

abbrev pub key_of : Identifier → HandlerKey
key_of name = (namespace_value name.namespace, name.name.value)

-- names are compared by the bytes of their namespaces, none standing first, then of what follows
abbrev pub key_cmp : HandlerKey → HandlerKey → Ordering
key_cmp a b = ordering_then (option_cmp byte_cmp a.0 b.0) (byte_cmp a.1 b.1)

abbrev pub namespace_cmp : Option Name → Option Name → Ordering
namespace_cmp a b = option_cmp byte_cmp (namespace_value a) (namespace_value b)

abbrev pub handler_cmp : Identifier → Identifier → Ordering
handler_cmp a b = key_cmp (key_of a) (key_of b)

-- the handlers with one more, in the order of their names: it takes the place of that of its name
abbrev pub put_handler : List Handler → Handler → List Handler
put_handler handlers new = put_ordered (λ a b. handler_cmp a.name b.name) new handlers

-- the handler is that of this name
abbrev pub is_handler : Identifier → Handler → Bool
is_handler name handler = is_same_identifier handler.name name

-- what the handler of a name does, if there is one
abbrev pub handler_of : List Handler → Identifier → Option HandlerDef
handler_of handlers name = found_by (is_handler name) (λ (handler : Handler). handler.def) handlers

-- a handler that is put in is that of its name from then on, and every other name keeps its own
abbrev pub HandlersAreByName : Type 0
HandlersAreByName =
    (handlers : List Handler) (new : Handler) (name : Identifier)
    → handler_of (put_handler handlers new) name
    ≡ if is_handler name new then Some new.def else handler_of handlers name

-- Two handlers are the same where their names are spelled alike and they do the same.

abbrev pub name_eq : Name → Name → Bool
name_eq = on (λ name. name.spelled) (pointwise ◌==◌)

abbrev pub identifier_eq : Identifier → Identifier → Bool
identifier_eq =
    eq_of_both (on (λ identifier. identifier.namespace) (option_eq name_eq))
    (on (λ identifier. identifier.name) name_eq)

abbrev pub handler_eq : Handler → Handler → Bool
handler_eq =
    eq_of_both (on (λ handler. handler.name) identifier_eq)
    (on (λ handler. handler.def) def.ghosts.eq)

name_eq_equiv : IsEquivalence name_eq
name_eq_equiv = on_equiv (λ (name : Name). name.spelled) nat_list_eq_equiv

identifier_eq_equiv : IsEquivalence identifier_eq
identifier_eq_equiv =
    and_equiv (on_equiv (λ (identifier : Identifier). identifier.namespace) (options_equiv name_eq_equiv))
    (on_equiv (λ (identifier : Identifier). identifier.name) name_eq_equiv)

pub handler_eq_equiv : IsEquivalence handler_eq
handler_eq_equiv =
    and_equiv (on_equiv (λ (handler : Handler). handler.name) identifier_eq_equiv)
    (on_equiv (λ (handler : Handler). handler.def) laws-law)

-- For private clauses: the order in which handlers are searched for.

abbrev pub AreInNameOrder : List Handler → Type 0
AreInNameOrder handlers = IsStrictlySortedBy (λ a b. handler_cmp a.name b.name) handlers

-- how the name of a handler compares with this one
abbrev pub compared_name : Identifier → Handler → Ordering
compared_name name handler = handler_cmp handler.name name

abbrev pub IsHandlerAt : List Handler → Identifier → ℕ → Type 0
IsHandlerAt handlers name at = StandsAt (compared_name name) handlers at

abbrev pub IsHandlerGap : List Handler → Identifier → ℕ → Type 0
IsHandlerGap handlers name at = LacksAt (compared_name name) handlers at
