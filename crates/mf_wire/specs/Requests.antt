-- What a line asks for, or the reply that refuses it.
use Rattle.std.specs.Prelude.{◌≡◌, ℕ, List, chars, codes, Option, Some, None, option_map, if◌then◌else◌, Result, Ok, Err}
use Rattle.std.specs.Str.{bytes_eq}
use Rattle.serde_json.specs.Data.{Data}
use Rattle.serde_json.specs.Find.{get}
use Rattle.mf_edition.specs.declared.change.Change.TheVariants.{Catalogue, Locale, Handler}
use Rattle.mf_locale.specs.RecordFields.{RecordFault, bad_field, bad_rule}
use Rattle.mf_locale.specs.RecordReading.{record_of}
use Rattle.mf_locale.specs.declared.record.LocaleRecord.{LocaleRecord}
use Rattle.mf_wire.specs.Fields.{string_field, tag_field, tagged, catalogue_field, object_field, arguments_of, since_of}
use Rattle.mf_tree.specs.declared.name.Identifier.{Identifier}
use Rattle.mf_value.specs.declared.handler.HandlerDef.{HandlerDef}
use Rattle.mf_value.specs.declared.handler.HandlerDef.TheVariants.{Alias, Affix, Table}
use Rattle.mf_wire.specs.HandlerFields.{default_of, identifier_field, presets_of, text_field, texts_field}
use Rattle.mf_wire.specs.RecordSizes.{record_size}
use Rattle.mf_wire.specs.Reading.{reading}
use Rattle.mf_wire.specs.declared.field.Field.{Field}
use Rattle.mf_wire.specs.declared.field.Field.TheVariants as field
use Rattle.mf_wire.specs.declared.reading.WireError.{WireError}
use Rattle.mf_wire.specs.declared.reading.WireError.TheVariants as error
use Rattle.mf_wire.specs.declared.reply.Reply.{Reply}
use Rattle.mf_wire.specs.declared.reply.Reply.TheVariants.{BadJson, BadRequest, BadLocale}
use Rattle.mf_wire.specs.declared.request.Request.{Request}
use Rattle.mf_wire.specs.declared.request.Request.TheVariants.{Publish, Format, Lint, Stat}

-- what is asked for with the value of a field, or the refusal that names the field, where it is missing, of another kind
-- or out of range
abbrev pub need : {X Y : Type 0} → Field → Option X → (X → Result Y Reply) → Result Y Reply
need field None asked = Err (BadRequest field)
need field (Some value) asked = asked value

-- a publication of messages: a tag and a catalogue, whose messages are of that tag
abbrev pub publish_request : Data → Result Request Reply
publish_request request =
    need field.Locale (tag_field (codes "locale") request)
    (λ tag. need field.Messages (option_map (tagged tag) (catalogue_field (codes "messages") request))
    (λ catalogue. Ok (Publish (Catalogue catalogue))))

-- the reply that refuses a record with this fault
abbrev pub fault_reply : RecordFault → Reply
fault_reply (bad_field field) = BadLocale field None
fault_reply (bad_rule field number) = BadLocale field (Some number)

-- a publication of a record for a tag, or the reply that refuses the record
abbrev pub record_request : List ℕ → Data → Result LocaleRecord RecordFault → Result Request Reply
record_request tag given (Ok record_read) =
    Ok (Publish (Locale tag record_read (record_size tag given)))
record_request tag given (Err fault) = Err (fault_reply fault)

-- a publication of a locale record: a tag and an object, then the record's own fields
abbrev pub locale_request : Data → Result Request Reply
locale_request request =
    need field.Tag (tag_field (codes "tag") request)
    (λ tag. need field.Record (object_field (codes "record") request)
    (λ given. record_request tag given (record_of given)))

-- what an alias does: its base, and its presets
abbrev pub alias_def : Data → Result HandlerDef Reply
alias_def given =
    need field.Base (text_field (codes "base") given)
    (λ base. need field.Options (presets_of (get (codes "options") given))
    (λ presets. Ok (Alias base presets)))

-- what an affix does: the same, and a prefix and a suffix
abbrev pub affix_def : Data → Result HandlerDef Reply
affix_def given =
    need field.Base (text_field (codes "base") given)
    (λ base. need field.Options (presets_of (get (codes "options") given))
    (λ presets. need field.Prefix (text_field (codes "prefix") given)
    (λ prefix. need field.Suffix (text_field (codes "suffix") given)
    (λ suffix. Ok (Affix base presets prefix suffix)))))

-- what a table does: its entries, and its default
abbrev pub table_def : Data → Result HandlerDef Reply
table_def given =
    need field.Entries (texts_field (codes "entries") given)
    (λ entries. need field.Default (default_of (get (codes "default") given))
    (λ default. Ok (Table entries default)))

-- what a handler of this kind does
abbrev pub def_by : List ℕ → Data → Result HandlerDef Reply
def_by kind given =
    if bytes_eq kind (codes "alias") then alias_def given else
    (if bytes_eq kind (codes "affix") then affix_def given else
    (if bytes_eq kind (codes "table") then table_def given else Err (BadRequest field.Kind)))

-- what a handler does: its kind comes first
abbrev pub def_of : Data → Result HandlerDef Reply
def_of given = need field.Kind (string_field (codes "kind") given) (λ kind. def_by kind given)

-- a publication of a handler of this name, or the reply that refuses what it does
abbrev pub named_request : Identifier → Result HandlerDef Reply → Result Request Reply
named_request name (Ok def) = Ok (Publish (Handler (record { name = name; def = def })))
named_request name (Err refusal) = Err refusal

-- a publication of a handler: an identifier and an object, then the object's own fields
abbrev pub handler_request : Data → Result Request Reply
handler_request request =
    need field.Name (identifier_field (codes "name") request)
    (λ name. need field.Def (object_field (codes "def") request)
    (λ given. named_request name (def_of given)))

-- a request for a sentence: a tag, an id, arguments, and the least edition that it may come from
abbrev pub format_request : Data → Result Request Reply
format_request request =
    need field.Locale (tag_field (codes "locale") request)
    (λ tag. need field.Id (string_field (codes "id") request)
    (λ id. need field.Args (arguments_of (get (codes "args") request))
    (λ arguments. need field.Since (since_of (get (codes "since") request))
    (λ since. Ok (Format tag (chars id) arguments since)))))

-- a request to lint a source
abbrev pub lint_request : Data → Result Request Reply
lint_request request =
    need field.Source (string_field (codes "source") request) (λ source. Ok (Lint (chars source)))

-- what an object with this `op` asks for
abbrev pub request_by : List ℕ → Data → Result Request Reply
request_by op request =
    if bytes_eq op (codes "publish") then publish_request request else
    (if bytes_eq op (codes "format") then format_request request else
    (if bytes_eq op (codes "lint") then lint_request request else
    (if bytes_eq op (codes "locale") then locale_request request else
    (if bytes_eq op (codes "handler") then handler_request request else
    (if bytes_eq op (codes "stat") then Ok Stat else Err (BadRequest field.Op))))))

-- what a JSON value asks for
abbrev pub request_from : Data → Result Request Reply
request_from value = need field.Op (string_field (codes "op") value) (λ op. request_by op value)

abbrev pub request_read : Option Data → Result Request Reply
request_read None = Err BadJson
request_read (Some value) = request_from value

-- the request of a line, or the reply that refuses it by what the line says: a publication may still be refused for its
-- handler, or by the log
abbrev pub line_request : List ℕ → Result Request Reply
line_request line = request_read (reading line)

-- the refusal is the one that is due; nothing is said of want of memory
abbrev pub IsDue : {X : Type 0} → Result X Reply → WireError → Type 0
IsDue asked error.BadJson = asked ≡ Err BadJson
IsDue asked (error.BadRequest field) = asked ≡ Err (BadRequest field)
IsDue asked (error.BadLocale field rule) = asked ≡ Err (BadLocale field rule)
IsDue asked error.OutOfMemory = Unit {0}
