-- The handlers of an edition in the order of their names: the laws of Ordered and of Lookups for them.
use Rattle.std.proofs.Common.{◌≡◌, ◌&&◌, ℕ, Option, None, Some, Result, List, [], get_or, length, set, refl, ap, ap₂, sym, ◌∙◌}
use Rattle.std.proofs.lemmas.Cmp.{on_total, then_total}
use Rattle.std.specs.Cmp.{IsTotalOrder}
use Rattle.std.specs.Cmp.Lexicographic.{options_total}
use Rattle.std.specs.List.{insert}
use Rattle.std.specs.List.Sorted.{IsBinarySearchResult, IsSearchInRange}
use Rattle.std.specs.Option.{option_cmp, option_eq}
use Rattle.std.specs.Ordering.{is_eq}
use Rattle.std.specs.Result.{MatchResult}
use Rattle.std.specs.declared.cmp.Ordering.TheVariants.{Equal}
use Rattle.mf_text.specs.Order.{byte_cmp, byte_cmp_total, byte_cmp_ties}
use Rattle.mf_text.proofs.Ordered as ordered
use Rattle.mf_text.proofs.Pairs.{byte_equal}
use Rattle.mf_tree.specs.Equality.{is_same_identifier, is_same_name}
use Rattle.mf_tree.specs.declared.name.Identifier.{Identifier}
use Rattle.mf_tree.specs.declared.name.Name.{Name}
use Rattle.mf_value.specs.declared.handler.HandlerDef.{HandlerDef}
use Rattle.mf_edition.specs.Handlers.{compared_name, handler_cmp, handler_of, is_handler, key_cmp, key_of, namespace_cmp, put_handler, AreInNameOrder, HandlerKey, HandlersAreByName, IsHandlerAt, IsHandlerGap}
use Rattle.mf_edition.specs.declared.handler.Handler.{Handler}
use Rattle.mf_edition.proofs.Lookups as found
use Rattle.mf_edition.proofs.Placed.{ordering_both, then_equal}

key_cmp_total : IsTotalOrder key_cmp
key_cmp_total =
    then_total (on_total (λ (key : HandlerKey). key.0) (options_total byte_cmp_total)) (on_total (λ (key : HandlerKey). key.1) byte_cmp_total)

same_option : (a b : Option (List ℕ)) → option_cmp byte_cmp a b ≡ Equal → a ≡ b
same_option None None e = refl
same_option None (Some b) e = cc
same_option (Some a) None e = cc
same_option (Some a) (Some b) e = ap Some (byte_equal a b e)

-- keys that tie are the same
same_key : (a b : HandlerKey) → key_cmp a b ≡ Equal → a ≡ b
same_key a b e =
    let parts = then_equal (option_cmp byte_cmp a.0 b.0) (byte_cmp a.1 b.1) e in
    let namespaces = same_option a.0 b.0 parts.0 in
    let names = byte_equal a.1 b.1 parts.1 in
    λ i. (namespaces i, names i)

-- names are the same exactly where they tie
namespaces_tie : (a b : Option Name) → option_eq is_same_name a b ≡ is_eq (namespace_cmp a b)
namespaces_tie None None = refl
namespaces_tie None (Some b) = refl
namespaces_tie (Some a) None = refl
namespaces_tie (Some a) (Some b) = byte_cmp_ties a.value b.value

names_tie : (a b : Identifier) → is_same_identifier a b ≡ is_eq (handler_cmp a b)
names_tie a b =
    ap₂ ◌&&◌ (namespaces_tie a.namespace b.namespace) (byte_cmp_ties a.name.value b.name.value)
    ∙ sym (ordering_both (namespace_cmp a.namespace b.namespace) (byte_cmp a.name.value b.name.value))

abbrev key_in : Handler → HandlerKey
key_in handler = key_of handler.name

abbrev def_in : Handler → HandlerDef
def_in handler = handler.def

pub by_name : HandlersAreByName
by_name handlers new name =
    found.found_put key_in key_cmp key_cmp_total same_key (key_of name) (is_handler name) def_in (λ (handler : Handler). names_tie handler.name name) handlers new

pub def_there : (handlers : List Handler) (name : Identifier) (at : ℕ) (d : Handler) → IsHandlerAt handlers name at → handler_of handlers name ≡ Some (get_or handlers at d).def
def_there handlers name =
    found.found_there key_in key_cmp key_cmp_total same_key (key_of name) (is_handler name) def_in (λ (handler : Handler). names_tie handler.name name) handlers

pub def_none : (handlers : List Handler) (name : Identifier) (at : ℕ) → IsHandlerGap handlers name at → handler_of handlers name ≡ None
def_none handlers name =
    found.found_none key_in key_cmp key_cmp_total same_key (key_of name) (is_handler name) def_in (λ (handler : Handler). names_tie handler.name name) handlers

pub search_result : (handlers : List Handler) (name : Identifier) → AreInNameOrder handlers → (r : Result ℕ ℕ) → IsSearchInRange r (length handlers)
    → IsBinarySearchResult (compared_name name) handlers r → MatchResult r (λ at. IsHandlerAt handlers name at) (λ at. IsHandlerGap handlers name at)
search_result handlers name = ordered.search_result key_in key_cmp key_cmp_total same_key handlers (key_of name)

pub put_there : (handlers : List Handler) (new : Handler) (at : ℕ) → IsHandlerAt handlers new.name at → set handlers at new ≡ put_handler handlers new
put_there = ordered.put_there key_in key_cmp key_cmp_total same_key

pub put_between : (handlers : List Handler) (new : Handler) (at : ℕ) → IsHandlerGap handlers new.name at → insert handlers at new ≡ put_handler handlers new
put_between = ordered.put_between key_in key_cmp key_cmp_total same_key

pub ascending_none : AreInNameOrder []
ascending_none = ordered.ascending_none (λ (a b : Handler). handler_cmp a.name b.name)

pub ascending_put : (new : Handler) (handlers : List Handler) → AreInNameOrder handlers → AreInNameOrder (put_handler handlers new)
ascending_put = ordered.ascending_put key_in key_cmp key_cmp_total same_key
