-- The equality of handlers is true exactly where they are the same.
use Rattle.std.proofs.Common.{◌≡◌, ℕ, true, Option, None, Some, List, ap, sym, true≢false, refl, ◌==◌}
use Rattle.std.specs.Cmp.Lexicographic.{pointwise, pointwise_decides, bytes_decides}
use Rattle.std.specs.Option.{option_eq}
use Rattle.mf_text.specs.contracts.pair.PairPartialEq.TheImpl as pair
use Rattle.mf_text.specs.contracts.pair.PairEq.TheImpl.Laws as pair_laws
use Rattle.mf_text.specs.declared.pair.Pair.{Pair}
use Rattle.mf_tree.proofs.Marks as marks
use Rattle.mf_tree.specs.declared.name.Identifier.{Identifier}
use Rattle.mf_tree.specs.declared.name.Name.{Name}
use Rattle.mf_value.specs.contracts.handler.HandlerDefPartialEq.TheImpl as def
use Rattle.mf_value.specs.contracts.handler.HandlerDefEq.TheImpl.Laws as def_laws
use Rattle.mf_value.specs.declared.handler.HandlerDef.{HandlerDef}
use Rattle.mf_value.specs.declared.handler.HandlerDef.TheVariants.{Alias, Affix, Table}
use Rattle.mf_edition.specs.Equality.{IsExact}
use Rattle.mf_edition.specs.Handlers.{handler_eq, handler_eq_equiv, identifier_eq, name_eq}
use Rattle.mf_edition.specs.declared.handler.Handler.{Handler}
use Rattle.mf_edition.proofs.SameRecords.{both, exact}

same_pair : (a b : Pair) → pair.ghosts.eq a b ≡ true → a ≡ b
same_pair a b e =
    let parts = both e in
    let name = (bytes_decides a.name b.name).0 parts.0 in
    let value = (bytes_decides a.value b.value).0 parts.1 in
    λ i. record { name = name i; value = value i }

exact_pair : IsExact pair.ghosts.eq
exact_pair = exact pair_laws.laws-law same_pair

same_default : (a b : Option (List ℕ)) → option_eq (pointwise ◌==◌) a b ≡ true → a ≡ b
same_default None None e = refl
same_default None (Some b) e = absurd (true≢false (sym e))
same_default (Some a) None e = absurd (true≢false (sym e))
same_default (Some a) (Some b) e = ap Some ((bytes_decides a b).0 e)

same_def : (a b : HandlerDef) → def.ghosts.eq a b ≡ true → a ≡ b
same_def (Alias base presets) (Alias other_base other_presets) e =
    let parts = both e in
    let bases = (bytes_decides base other_base).0 parts.0 in
    let given = (pointwise_decides exact_pair presets other_presets).0 parts.1 in
    λ i. Alias (bases i) (given i)
same_def (Affix base presets prefix suffix) (Affix other_base other_presets other_prefix other_suffix) e =
    let parts = both e in
    let rest = both parts.1 in
    let ends = both rest.1 in
    let bases = (bytes_decides base other_base).0 parts.0 in
    let given = (pointwise_decides exact_pair presets other_presets).0 rest.0 in
    let before = (bytes_decides prefix other_prefix).0 ends.0 in
    let behind = (bytes_decides suffix other_suffix).0 ends.1 in
    λ i. Affix (bases i) (given i) (before i) (behind i)
same_def (Table entries default) (Table other_entries other_default) e =
    let parts = both e in
    let entered = (pointwise_decides exact_pair entries other_entries).0 parts.0 in
    let defaults = same_default default other_default parts.1 in
    λ i. Table (entered i) (defaults i)
same_def (Alias base presets) (Affix other_base other_presets other_prefix other_suffix) e = absurd (true≢false (sym e))
same_def (Alias base presets) (Table other_entries other_default) e = absurd (true≢false (sym e))
same_def (Affix base presets prefix suffix) (Alias other_base other_presets) e = absurd (true≢false (sym e))
same_def (Affix base presets prefix suffix) (Table other_entries other_default) e = absurd (true≢false (sym e))
same_def (Table entries default) (Alias other_base other_presets) e = absurd (true≢false (sym e))
same_def (Table entries default) (Affix other_base other_presets other_prefix other_suffix) e = absurd (true≢false (sym e))

exact_def : IsExact def.ghosts.eq
exact_def = exact def_laws.laws-law same_def

-- a name is known by its spelling
same_name : (a b : Name) → name_eq a b ≡ true → a ≡ b
same_name a b e = marks.same_name a b ((bytes_decides a.spelled b.spelled).0 e)

same_namespace : (a b : Option Name) → option_eq name_eq a b ≡ true → a ≡ b
same_namespace None None e = refl
same_namespace None (Some b) e = absurd (true≢false (sym e))
same_namespace (Some a) None e = absurd (true≢false (sym e))
same_namespace (Some a) (Some b) e = ap Some (same_name a b e)

same_identifier : (a b : Identifier) → identifier_eq a b ≡ true → a ≡ b
same_identifier a b e =
    let parts = both e in
    let namespace = same_namespace a.namespace b.namespace parts.0 in
    let name = same_name a.name b.name parts.1 in
    λ i. record { namespace = namespace i; name = name i }

same_handler : (a b : Handler) → handler_eq a b ≡ true → a ≡ b
same_handler a b e =
    let parts = both e in
    let name = same_identifier a.name b.name parts.0 in
    let does = (exact_def a.def b.def).0 parts.1 in
    λ i. record { name = name i; def = does i }

pub exact_handler : IsExact handler_eq
exact_handler = exact handler_eq_equiv same_handler
