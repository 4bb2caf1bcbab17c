-- The bytes that changes count for, and which changes a log accepts.
use Rattle.std.specs.Prelude.{◌≡◌, ◌<◌, ◌≤◌, ◌+◌, ◌-◌, ◌^◌, ℕ, Option, None, Some, List, [], ◌∷◌, encode_utf8_all, length, max, min, nat_le, take, if◌then◌else◌}
use Rattle.mf_text.specs.declared.pair.Pair.{Pair}
use Rattle.mf_tree.specs.Faults.{identifier_text}
use Rattle.mf_value.specs.declared.handler.HandlerDef.{HandlerDef}
use Rattle.mf_value.specs.declared.handler.HandlerDef.TheVariants.{Alias, Affix, Table}
use Rattle.mf_edition.specs.Catalogues.{Catalogue as Known}
use Rattle.mf_edition.specs.declared.change.Change.{Change}
use Rattle.mf_edition.specs.declared.change.Change.TheVariants.{Catalogue, Locale, Handler}
use Rattle.mf_edition.specs.declared.change.Entry.{Entry}
use Rattle.mf_edition.specs.declared.error.PublishError.{PublishError}
use Rattle.mf_edition.specs.declared.error.PublishError.TheVariants.{OutOfMemory}
use Rattle.mf_edition.specs.declared.error.PublishError.TheVariants as error
use Rattle.mf_edition.specs.declared.error.Refusal.{Refusal}
use Rattle.mf_edition.specs.declared.error.Refusal.TheVariants.{EditionsFull, StoreFull}
use Rattle.mf_edition.specs.declared.handler.Handler.{Handler as Named}
use Rattle.mf_edition.specs.Edition.{message_count}

-- the bytes of a text in UTF-8
abbrev pub byte_count : List ℕ → ℕ
byte_count text = length (encode_utf8_all text)

-- the bytes of the names and the values of pairs, as of the ids and the sources of messages
abbrev pub pairs_size : List Pair → ℕ
pairs_size [] = 0
pairs_size (pair ∷ pairs) = byte_count pair.name + byte_count pair.value + pairs_size pairs

-- a size as it is counted and shown: at most the greatest number of 64 bits
abbrev pub shown : ℕ → ℕ
shown size = min size (2 ^ 64 - 1)

-- the least size of a change
abbrev pub least_size : ℕ
least_size = 64

-- the size of a publication of messages: 64 bytes, and those of the texts that it has
abbrev pub catalogue_size : Known → ℕ
catalogue_size catalogue =
    shown (least_size + byte_count catalogue.tag + pairs_size catalogue.messages)

-- the bytes of the text of a table's default, where it has one
abbrev pub default_size : Option (List ℕ) → ℕ
default_size None = 0
default_size (Some text) = byte_count text

-- the bytes of the texts that say what a handler does
abbrev pub def_size : HandlerDef → ℕ
def_size (Alias base presets) = byte_count base + pairs_size presets
def_size (Affix base presets prefix suffix) =
    byte_count base + pairs_size presets + byte_count prefix + byte_count suffix
def_size (Table entries default) = pairs_size entries + default_size default

-- the size of a publication of a handler: 64 bytes, those of its name as it is shown, and those of its texts
abbrev pub handler_size : Named → ℕ
handler_size handler =
    shown (least_size + byte_count (identifier_text handler.name) + def_size handler.def)

-- the size of a change; a locale change keeps its own
abbrev pub size_of : Change → ℕ
size_of (Catalogue catalogue) = catalogue_size catalogue
size_of (Locale tag place size) = max least_size size
size_of (Handler handler) = handler_size handler

-- the sizes of the changes of a log together
abbrev pub used_by : List Entry → ℕ
used_by [] = 0
used_by (entry ∷ entries) = size_of entry.change + used_by entries

-- the most entries that a log may have
abbrev pub most_entries : ℕ
most_entries = 65536

-- the most bytes that the changes of a log may count for
abbrev pub most_bytes : ℕ
most_bytes = 268435456

-- why a log doesn't accept a change, if it doesn't: it has all the entries that it may have, or else
-- there are too few bytes left
abbrev pub refusal_of : List Entry → Change → Option Refusal
refusal_of log change =
    if nat_le most_entries (length log) then Some (EditionsFull (length log)) else
    (if nat_le (used_by log + size_of change) most_bytes then None else
    Some (StoreFull (used_by log) (size_of change)))

-- the error that a refusal is
abbrev pub refused : Refusal → PublishError
refused (EditionsFull entries) = error.EditionsFull entries
refused (StoreFull used size) = error.StoreFull used size

-- the error that a change gets: the refusal, where there is one, and else want of memory
abbrev pub IsDue : Option Refusal → PublishError → Type 0
IsDue (Some refusal) error = error ≡ refused refusal
IsDue None error = error ≡ OutOfMemory

-- the messages of the changes of a log together
abbrev pub messages_by : List Entry → ℕ
messages_by [] = 0
messages_by (entry ∷ entries) = message_count entry.change + messages_by entries

-- the log has no more entries and no more bytes than it may have, so many bytes are counted for it, and
-- no fewer than messages
pub record IsWithin (log : List Entry) (used : ℕ) : Type 0 where
  pub few : length log ≤ most_entries
  pub exact : used ≡ used_by log
  pub small : used ≤ most_bytes
  pub counted : messages_by log ≤ used_by log

-- the bytes that are used tell the fronts of a log apart: more entries use more
abbrev pub LongerLogsUseMore : Type 0
LongerLogsUseMore =
    (log : List Entry) (j k : ℕ)
    → j < k → k ≤ length log → used_by (take j log) < used_by (take k log)
