-- The equality of messages, catalogues, handlers, changes and entries is true exactly where they are the same.
use Rattle.std.proofs.Common.{◌≡◌, true, ap, sym, true≢false}
use Rattle.std.proofs.lemmas.Bool.Decides.{Decides-eqb}
use Rattle.std.specs.Cmp.Lexicographic.{pointwise_decides, bytes_decides}
use Rattle.mf_text.specs.declared.pair.Pair.{Pair}
use Rattle.mf_edition.specs.Catalogues.{catalogue_eq, catalogue_eq_equiv, message_eq, message_eq_equiv}
use Rattle.mf_edition.specs.Catalogues as catalogues
use Rattle.mf_edition.specs.Equality.{IsExact}
use Rattle.mf_edition.specs.Items.{item_eq, Item}
use Rattle.mf_edition.specs.contracts.item.ItemEq.TheImpl.Laws as item_laws
use Rattle.mf_edition.specs.contracts.change.ChangePartialEq.TheImpl as change
use Rattle.mf_edition.specs.contracts.change.ChangeEq.TheImpl.Laws as change_laws
use Rattle.mf_edition.specs.contracts.change.EntryPartialEq.TheImpl as entry
use Rattle.mf_edition.specs.contracts.change.EntryEq.TheImpl.Laws as entry_laws
use Rattle.mf_edition.specs.declared.change.Change.{Change}
use Rattle.mf_edition.specs.declared.change.Change.TheVariants.{Catalogue, Locale, Handler}
use Rattle.mf_edition.specs.declared.change.Entry.{Entry}
use Rattle.mf_edition.proofs.SameHandlers.{exact_handler}
use Rattle.mf_edition.proofs.SameRecords.{both, exact, exact_record}

same_item : (a b : Item) → item_eq a b ≡ true → a ≡ b
same_item a b e =
    let tags = both e in
    let texts = both tags.1 in
    let tag = (bytes_decides a.tag b.tag).0 tags.0 in
    let id = (bytes_decides a.id b.id).0 texts.0 in
    let source = (bytes_decides a.source b.source).0 texts.1 in
    λ i. record { tag = tag i; id = id i; source = source i }

pub exact_item : IsExact item_eq
exact_item = exact item_laws.laws-law same_item

same_message : (a b : Pair) → message_eq a b ≡ true → a ≡ b
same_message a b e =
    let parts = both e in
    let name = (bytes_decides a.name b.name).0 parts.0 in
    let value = (bytes_decides a.value b.value).0 parts.1 in
    λ i. record { name = name i; value = value i }

exact_message : IsExact message_eq
exact_message = exact message_eq_equiv same_message

same_catalogue : (a b : catalogues.Catalogue) → catalogue_eq a b ≡ true → a ≡ b
same_catalogue a b e =
    let parts = both e in
    let tag = (bytes_decides a.tag b.tag).0 parts.0 in
    let messages = (pointwise_decides exact_message a.messages b.messages).0 parts.1 in
    λ i. record { tag = tag i; messages = messages i }

pub exact_catalogue : IsExact catalogue_eq
exact_catalogue = exact catalogue_eq_equiv same_catalogue

same_change : (a b : Change) → change.ghosts.eq a b ≡ true → a ≡ b
same_change (Catalogue a) (Catalogue b) e = ap Catalogue ((exact_catalogue a b).0 e)
same_change (Catalogue a) (Locale tag place size) e = absurd (true≢false (sym e))
same_change (Catalogue a) (Handler b) e = absurd (true≢false (sym e))
same_change (Locale tag place size) (Handler b) e = absurd (true≢false (sym e))
same_change (Handler a) (Catalogue b) e = absurd (true≢false (sym e))
same_change (Handler a) (Locale tag place size) e = absurd (true≢false (sym e))
same_change (Handler a) (Handler b) e = ap Handler ((exact_handler a b).0 e)
same_change (Locale tag place size) (Catalogue b) e = absurd (true≢false (sym e))
same_change (Locale tag place size) (Locale other_tag other_place other_size) e =
    let tags = both e in
    let rest = both tags.1 in
    let of = (bytes_decides tag other_tag).0 tags.0 in
    let placed = (exact_record place other_place).0 rest.0 in
    let sized = (Decides-eqb size other_size).0 rest.1 in
    λ i. Locale (of i) (placed i) (sized i)

pub exact_change : IsExact change.ghosts.eq
exact_change = exact change_laws.laws-law same_change

same_entry : (a b : Entry) → entry.ghosts.eq a b ≡ true → a ≡ b
same_entry a b e =
    let callers = both e in
    let rest = both callers.1 in
    let caller = (Decides-eqb a.caller b.caller).0 callers.0 in
    let nth = (Decides-eqb a.nth b.nth).0 rest.0 in
    let changed = (exact_change a.change b.change).0 rest.1 in
    λ i. record { caller = caller i; nth = nth i; change = changed i }

pub exact_entry : IsExact entry.ghosts.eq
exact_entry = exact entry_laws.laws-law same_entry
