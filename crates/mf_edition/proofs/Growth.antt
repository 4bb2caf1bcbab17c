-- How many messages an edition may have after changes.
use Rattle.std.proofs.Common.{◌≡◌, ◌≤◌, ◌+◌, true, false, List, [], ◌∷◌, length, cond, refl, arith, map}
use Rattle.std.proofs.lemmas.List.{length-map}
use Rattle.std.specs.Arc.{arc_value}
use Rattle.std.specs.List.{AllZip}
use Rattle.std.specs.declared.alloc.Global.{Global}
use Rattle.std.specs.declared.sync.Arc.{Arc}
use Rattle.mf_edition.specs.declared.change.Change.{Change}
use Rattle.mf_edition.specs.declared.change.Change.TheVariants.{Catalogue, Locale, Handler}
use Rattle.mf_edition.specs.declared.change.Entry.{Entry}
use Rattle.mf_edition.specs.Items.{Item, item_of}
use Rattle.mf_edition.specs.Edition.{changed, edition_after, is_named, message_count, next_edition, put, put_all, EditionState}
use Rattle.mf_edition.specs.Sizes.{messages_by}

-- a message adds at most one
pub length-put : (items : List Item) (new : Item) → (length items ≤ length (put items new)) × (length (put items new) ≤ length items + 1)
length-put [] new = (omega arith, omega arith)
length-put (item ∷ items) new =
    let rest = length-put items new in
    elim (is_named new.tag new.id item) as (λ b. (length (item ∷ items) ≤ length (cond b (new ∷ items) (item ∷ put items new))) × (length (cond b (new ∷ items) (item ∷ put items new)) ≤ length (item ∷ items) + 1))
    [ true ↦ (omega arith, omega arith) | false ↦ (omega arith, omega arith) ]

pub length-put_all : (items more : List Item) → (length items ≤ length (put_all items more)) × (length (put_all items more) ≤ length items + length more)
length-put_all items [] = (omega arith, omega arith)
length-put_all items (new ∷ more) =
    let one = length-put items new in
    let rest = length-put_all (put items new) more in
    (omega arith, omega arith)

-- a change adds at most as many messages as it has
pub length-changed : (items : List Item) (change : Change) → length (changed items change) ≤ length items + message_count change
length-changed items (Catalogue catalogue) =
    let grown = length-put_all items (map (item_of catalogue.tag) catalogue.messages) in
    let count = length-map catalogue.messages (item_of catalogue.tag) in
    omega arith
length-changed items (Locale tag place size) = omega arith
length-changed items (Handler handler) = omega arith

-- and so do the changes of a log
pub length-after : (edition : EditionState) (entries : List Entry) → length (edition_after edition entries).items ≤ length edition.items + messages_by entries
length-after edition [] = omega arith
length-after edition (entry ∷ entries) =
    let one = length-changed edition.items entry.change in
    let rest = length-after (next_edition edition entry.change) entries in
    omega arith

-- a copy of shared things shares the same things
pub values_shared : {T : Type 0} (items copies : List (Arc T Global)) → AllZip (λ a b. arc_value b ≡ arc_value a) items copies → map arc_value copies ≡ map arc_value items
values_shared [] [] all = refl
values_shared [] (copy ∷ copies) all = absurd all
values_shared (item ∷ items) [] all = absurd all
values_shared (item ∷ items) (copy ∷ copies) all = λ i. all.0 i ∷ values_shared items copies all.1 i
