-- A log of changes, and the editions that it makes: edition k is the fold of its first k entries over the empty one.
use Rattle.std.specs.Prelude.{◌≡◌, ◌==◌, ◌+◌, ◌<◌, ◌≤◌, ◌^◌, ◌&&◌, ℕ, Bool, Option, None, List, [], ◌∷◌, ◌++◌, length, map, option_map, position, take, if◌then◌else◌}
use Rattle.std.specs.List.{IsDistinct}
use Rattle.std.specs.Cmp.Lexicographic.{pointwise}
use Rattle.std.specs.Option.{option_or}
use Rattle.mf_edition.specs.declared.change.Change.{Change}
use Rattle.mf_edition.specs.declared.change.Change.TheVariants.{Catalogue, Locale, Handler}
use Rattle.mf_edition.specs.declared.change.Entry.{Entry}
use Rattle.mf_edition.specs.Catalogues.{Catalogue as Known}
use Rattle.mf_edition.specs.Handlers.{put_handler}
use Rattle.mf_edition.specs.Items.{Item, item_of}
use Rattle.mf_edition.specs.Records.{put_record, TaggedRecord}
use Rattle.mf_edition.specs.declared.handler.Handler.{Handler as Named}
use Rattle.mf_edition.specs.declared.item.Found.{Found}

-- what an edition is: its number, its messages in the order of their indices, the records of tags, and the handlers
pub record EditionState : Type 0 where
  pub number : ℕ
  pub items : List Item
  pub records : List TaggedRecord
  pub handlers : List Named

-- the item is that of this tag and this id
abbrev pub is_named : List ℕ → List ℕ → Item → Bool
is_named tag id item = pointwise ◌==◌ item.tag tag && pointwise ◌==◌ item.id id

-- the messages with one more: it takes the place of that of its tag and its id, or goes to the end
abbrev pub put : List Item → Item → List Item
put [] new = new ∷ []
put (item ∷ items) new = if is_named new.tag new.id item then new ∷ items else (item ∷ put items new)

-- the messages with more, put in one after the other
abbrev pub put_all : List Item → List Item → List Item
put_all items [] = items
put_all items (new ∷ more) = put_all (put items new) more

-- the messages after a publication of messages
abbrev pub published : List Item → Known → List Item
published items catalogue = put_all items (map (item_of catalogue.tag) catalogue.messages)

-- the messages after a change
abbrev pub changed : List Item → Change → List Item
changed items (Catalogue catalogue) = published items catalogue
changed items (Locale tag place size) = items
changed items (Handler handler) = items

-- the records after a change
abbrev pub recorded : List TaggedRecord → Change → List TaggedRecord
recorded records (Catalogue catalogue) = records
recorded records (Locale tag place size) = put_record records (record { tag = tag; shared = place })
recorded records (Handler handler) = records

-- the handlers after a change
abbrev pub handled : List Named → Change → List Named
handled handlers (Catalogue catalogue) = handlers
handled handlers (Locale tag place size) = handlers
handled handlers (Handler handler) = put_handler handlers handler

-- the number of messages that a change has
abbrev pub message_count : Change → ℕ
message_count (Catalogue catalogue) = length catalogue.messages
message_count (Locale tag place size) = 0
message_count (Handler handler) = 0

abbrev pub empty_edition : EditionState
empty_edition = record { number = 0; items = []; records = []; handlers = [] }

-- the edition after one more change
abbrev pub next_edition : EditionState → Change → EditionState
next_edition edition change =
    record {
      number = edition.number + 1;
      items = changed edition.items change;
      records = recorded edition.records change;
      handlers = handled edition.handlers change;
    }

-- the edition after entries
abbrev pub edition_after : EditionState → List Entry → EditionState
edition_after edition [] = edition
edition_after edition (entry ∷ entries) = edition_after (next_edition edition entry.change) entries

-- edition k of a log
abbrev pub edition_of : List Entry → ℕ → EditionState
edition_of log k = edition_after empty_edition (take k log)

-- the edition of the whole log
abbrev pub newest_edition : List Entry → EditionState
newest_edition log = edition_after empty_edition log

-- the message of an id under the first of these tags that has one: that tag, and the index of the message
abbrev pub found_along : List Item → List ℕ → List (List ℕ) → Option Found
found_along items id [] = None
found_along items id (tag ∷ tags) =
    option_or
    (option_map (λ index. record { tag = tag; index = index }) (position (is_named tag id) items))
    (found_along items id tags)

-- there are numbers for the edition that a change makes and for each of its messages
pub record HasRoom (edition : EditionState) (change : Change) : Type 0 where
  pub items : length (changed edition.items change) < 2 ^ 32
  pub number : edition.number + 1 < 2 ^ 64

-- two names, each a tag and an id, are the same
abbrev pub is_same_name : List ℕ × List ℕ → List ℕ × List ℕ → Bool
is_same_name a b = pointwise ◌==◌ a.0 b.0 && pointwise ◌==◌ a.1 b.1

-- no two messages have one tag and one id
abbrev pub HasDistinctNames : List Item → Type 0
HasDistinctNames items = IsDistinct is_same_name (map (λ item. (item.tag, item.id)) items)

-- in no edition do two messages have one tag and one id
abbrev pub EditionsHaveDistinctNames : Type 0
EditionsHaveDistinctNames = (log : List Entry) (k : ℕ) → HasDistinctNames (edition_of log k).items

-- edition k of a log has the number k
abbrev pub EditionsAreNumbered : Type 0
EditionsAreNumbered = (log : List Entry) (k : ℕ) → k ≤ length log → (edition_of log k).number ≡ k

-- edition k of a log of k entries is that of the whole log
abbrev pub NewestIsLast : Type 0
NewestIsLast = (log : List Entry) → edition_of log (length log) ≡ newest_edition log

-- the newest edition of a log with one more entry is the one before it, changed by that entry
abbrev pub EditionsFollow : Type 0
EditionsFollow =
    (log : List Entry) (entry : Entry)
    → newest_edition (log ++ entry ∷ []) ≡ next_edition (newest_edition log) entry.change

-- an edition of a log is that of each longer log
abbrev pub EditionsStay : Type 0
EditionsStay =
    (log more : List Entry) (k : ℕ) → k ≤ length log → edition_of (log ++ more) k ≡ edition_of log k

-- a change adds at most as many messages as it has
abbrev pub ChangesAreBounded : Type 0
ChangesAreBounded =
    (items : List Item) (change : Change)
    → length (changed items change) ≤ length items + message_count change
