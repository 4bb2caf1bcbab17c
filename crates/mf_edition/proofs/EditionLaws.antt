-- What is so of every edition of every log.
use Rattle.std.proofs.Common.{◌≡◌, ◌+◌, Result, Ok, Err, OnOk, OnErr, Bool, true, false, List, [], ◌∷◌, ◌++◌, length, map, take, cond, refl, ap, sym, subst, ◌∙◌, arith, length-take, take_all}
use Rattle.std.proofs.lemmas.List.{take-append-le}
use Rattle.std.specs.List.{AllByRecursion, IsDistinct}
use Rattle.mf_edition.specs.declared.change.Change.{Change}
use Rattle.mf_edition.specs.declared.change.Change.TheVariants.{Catalogue, Locale, Handler}
use Rattle.mf_edition.specs.declared.change.Entry.{Entry}
use Rattle.mf_edition.specs.Items.{Item, item_of}
use Rattle.mf_edition.specs.Edition.{changed, edition_after, empty_edition, is_named, is_same_name, newest_edition, next_edition, put, put_all, ChangesAreBounded, EditionState, EditionsAreNumbered, EditionsFollow, EditionsHaveDistinctNames, EditionsStay, HasDistinctNames, NewestIsLast}
use Rattle.mf_edition.specs.Order.{name_of, names_of, Name}
use Rattle.mf_edition.proofs.Growth.{length-changed}
use Rattle.mf_edition.proofs.Placed.{has_name}

-- a name that none of the items has
Lacks : Name → List Item → Type 0
Lacks name items = AllByRecursion (λ other. is_same_name name other ≡ false) (names_of items)

Lacks-put : (name : Name) (items : List Item) (new : Item) → Lacks name items → is_same_name name (name_of new) ≡ false → Lacks name (put items new)
unfolding Lacks
Lacks-put name [] new none other = (other, tt)
Lacks-put name (item ∷ items) new none other =
    elim (is_named new.tag new.id item) as (λ b. AllByRecursion (λ next. is_same_name name next ≡ false) (names_of (cond b (new ∷ items) (item ∷ put items new))))
    [ true ↦ (other, none.1) | false ↦ (none.0, Lacks-put name items new none.1 other) ]

HasDistinctNames-put : (items : List Item) (new : Item) → HasDistinctNames items → HasDistinctNames (put items new)
unfolding IsDistinct Lacks
HasDistinctNames-put [] new distinct = (tt, tt)
HasDistinctNames-put (item ∷ items) new distinct = by (is_named new.tag new.id item) refl (HasDistinctNames-put items new distinct.1)
  where
    by : (b : Bool) → is_named new.tag new.id item ≡ b → HasDistinctNames (put items new) → HasDistinctNames (cond b (new ∷ items) (item ∷ put items new))
    by true named rest = (subst (λ name. Lacks name items) (has_name new.tag new.id item named) distinct.0, distinct.1)
    by false named rest = (Lacks-put (name_of item) items new distinct.0 named, rest)

HasDistinctNames-put_all : (items more : List Item) → HasDistinctNames items → HasDistinctNames (put_all items more)
HasDistinctNames-put_all items [] distinct = distinct
HasDistinctNames-put_all items (new ∷ more) distinct = HasDistinctNames-put_all (put items new) more (HasDistinctNames-put items new distinct)

HasDistinctNames-changed : (items : List Item) (change : Change) → HasDistinctNames items → HasDistinctNames (changed items change)
HasDistinctNames-changed items (Catalogue catalogue) distinct = HasDistinctNames-put_all items (map (item_of catalogue.tag) catalogue.messages) distinct
HasDistinctNames-changed items (Locale tag place size) distinct = distinct
HasDistinctNames-changed items (Handler handler) distinct = distinct

HasDistinctNames-after : (edition : EditionState) (entries : List Entry) → HasDistinctNames edition.items → HasDistinctNames (edition_after edition entries).items
HasDistinctNames-after edition [] distinct = distinct
HasDistinctNames-after edition (entry ∷ entries) distinct =
    HasDistinctNames-after (next_edition edition entry.change) entries (HasDistinctNames-changed edition.items entry.change distinct)

pub distinct_names : EditionsHaveDistinctNames
unfolding IsDistinct
distinct_names log k = HasDistinctNames-after empty_edition (take k log) tt

number_after : (edition : EditionState) (entries : List Entry) → (edition_after edition entries).number ≡ edition.number + length entries
number_after edition [] = omega arith
number_after edition (entry ∷ entries) = let rest = number_after (next_edition edition entry.change) entries in omega arith

pub numbered : EditionsAreNumbered
numbered log k inside =
    let number = number_after empty_edition (take k log) in
    let count = length-take k log in
    omega arith

after-append : (edition : EditionState) (entries more : List Entry) → edition_after edition (entries ++ more) ≡ edition_after (edition_after edition entries) more
after-append edition [] more = refl
after-append edition (entry ∷ entries) more = after-append (next_edition edition entry.change) entries more

take-whole : (log : List Entry) → take (length log) log ≡ log
take-whole log = take_all (length log) log (omega arith)

pub newest : NewestIsLast
newest log = ap (edition_after empty_edition) (take-whole log)

pub follow : EditionsFollow
follow log entry = after-append empty_edition log (entry ∷ [])

pub newest_number : (log : List Entry) → (newest_edition log).number ≡ length log
newest_number log = let number = number_after empty_edition log in omega arith

pub stay : EditionsStay
stay log more k inside = ap (edition_after empty_edition) (take-append-le k log more inside)

pub bounded : ChangesAreBounded
bounded = length-changed

-- a publication keeps the newest edition of the log beside it
pub newest_kept : {A E : Type 0} (r : Result A E) (log new : List Entry) (edition after : EditionState) (entry : Entry) → edition ≡ newest_edition log
    → OnOk r (new ≡ log ++ entry ∷ []) → OnOk r (after ≡ next_edition edition entry.change) → OnErr r ((new ≡ log) × (after ≡ edition)) → after ≡ newest_edition new
newest_kept (Ok a) log new edition after entry is made then kept =
    then ∙ ap (λ edition. next_edition edition entry.change) is ∙ sym (follow log entry) ∙ ap newest_edition (sym made)
newest_kept (Err e) log new edition after entry is made then kept = kept.1 ∙ is ∙ ap newest_edition (sym kept.0)
