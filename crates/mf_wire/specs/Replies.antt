-- The reply lines: compact JSON (RFC 8259), the keys of every object in byte order.
use Rattle.std.specs.Prelude.{ℕ, List, [], map, codes, encode_utf8_all, Some, None}
use Rattle.serde_json.specs.Data.{Data, array, object, member, no_members}
use Rattle.serde_json.specs.View.{items_of}
use Rattle.serde_json.specs.Written.{compact_text}
use Rattle.mf_tree.specs.Kinds.{class_of}
use Rattle.mf_tree.specs.declared.fault.Fault.{Fault}
use Rattle.mf_parts.specs.Joined.{text_of}
use Rattle.mf_parts.specs.declared.part.Part.{Part}
use Rattle.mf_edition.specs.declared.change.Change.{Change}
use Rattle.mf_edition.specs.declared.change.Change.TheVariants as change
use Rattle.mf_locale.specs.FieldNames.{name_of}
use Rattle.mf_wire.specs.FieldNames.{field_name}
use Rattle.mf_wire.specs.Members.{number_member, text_member}
use Rattle.mf_wire.specs.Parts.{parts_data}
use Rattle.mf_wire.specs.declared.reply.Op.{Op}
use Rattle.mf_wire.specs.declared.reply.Op.TheVariants.{Publish, Locale, Handler}
use Rattle.mf_wire.specs.declared.reply.Reason.{Reason}
use Rattle.mf_wire.specs.declared.reply.Reason.TheVariants.{ReservedName, BadBase, BadOption, RepeatedKey}
use Rattle.mf_wire.specs.declared.reply.Reply.{Reply}
use Rattle.mf_wire.specs.declared.reply.Reply.TheVariants.{Accepted, Formatted, LintValid, LintInvalid, Stat, BadJson, BadRequest, BadLocale, BadHandler, EditionsFull, StoreFull, NoMessage, NotYet, TooLong}

abbrev pub op_name : Op → List ℕ
op_name Publish = codes "publish"
op_name Locale = codes "locale"
op_name Handler = codes "handler"

-- what a change is a publication of
abbrev pub op_of : Change → Op
op_of (change.Catalogue catalogue) = Publish
op_of (change.Locale tag record_given size) = Locale
op_of (change.Handler handler) = Handler

abbrev pub reason_name : Reason → List ℕ
reason_name ReservedName = codes "reserved-name"
reason_name BadBase = codes "bad-base"
reason_name BadOption = codes "bad-option"
reason_name RepeatedKey = codes "repeated-key"

-- the object of an error (Unicode TS 35, Part 9, "Errors"; the names of the classes are this project's own)
abbrev pub fault_data : Fault → Data
fault_data fault = object
    (text_member (codes "kind") (class_of fault.kind)
    (text_member (codes "of") (encode_utf8_all fault.of) no_members))

abbrev pub faults_data : List Fault → Data
faults_data faults = array (items_of (map fault_data faults))

-- the object of a formatted message, whose text is its parts joined
abbrev pub formatted_data : ℕ → List ℕ → List Part → List Fault → Data
formatted_data edition tag parts faults = object
    (number_member (codes "edition") edition
    (member (codes "errors") (faults_data faults)
    (text_member (codes "locale") (encode_utf8_all tag)
    (text_member (codes "ok") (codes "format")
    (member (codes "parts") (parts_data parts)
    (text_member (codes "text") (encode_utf8_all (text_of parts)) no_members))))))

-- the object of a valid source
abbrev pub valid_data : List ℕ → Data
valid_data source = object
    (member (codes "errors") (faults_data [])
    (text_member (codes "ok") (codes "lint")
    (text_member (codes "source") (encode_utf8_all source) no_members)))

-- the object of an invalid source
abbrev pub invalid_data : List Fault → Data
invalid_data faults = object
    (member (codes "errors") (faults_data faults)
    (text_member (codes "ok") (codes "lint") no_members))

-- the JSON value of a reply
abbrev pub reply_data : Reply → Data
reply_data (Accepted edition op) = object
    (number_member (codes "edition") edition
    (text_member (codes "ok") (op_name op) no_members))
reply_data (Formatted edition tag parts faults) = formatted_data edition tag parts faults
reply_data (LintValid source) = valid_data source
reply_data (LintInvalid faults) = invalid_data faults
reply_data (Stat edition starts quits) = object
    (number_member (codes "edition") edition
    (text_member (codes "ok") (codes "stat")
    (number_member (codes "quits") quits
    (number_member (codes "starts") starts no_members))))
reply_data BadJson = object (text_member (codes "error") (codes "bad-json") no_members)
reply_data (BadRequest field) = object
    (text_member (codes "error") (codes "bad-request")
    (text_member (codes "field") (field_name field) no_members))
reply_data (BadLocale field None) = object
    (text_member (codes "error") (codes "bad-locale")
    (text_member (codes "field") (name_of field) no_members))
reply_data (BadLocale field (Some rule)) = object
    (text_member (codes "error") (codes "bad-locale")
    (text_member (codes "field") (name_of field)
    (number_member (codes "rule") rule no_members)))
reply_data (BadHandler reason) = object
    (text_member (codes "error") (codes "bad-handler")
    (text_member (codes "reason") (reason_name reason) no_members))
reply_data (EditionsFull entries) = object
    (number_member (codes "entries") entries
    (text_member (codes "error") (codes "editions-full") no_members))
reply_data (StoreFull used size) = object
    (text_member (codes "error") (codes "store-full")
    (number_member (codes "size") size
    (number_member (codes "used") used no_members)))
reply_data (NoMessage edition) = object
    (number_member (codes "edition") edition
    (text_member (codes "error") (codes "no-message") no_members))
reply_data (NotYet edition since) = object
    (number_member (codes "edition") edition
    (text_member (codes "error") (codes "not-yet")
    (number_member (codes "since") since no_members)))
reply_data (TooLong edition) = object
    (number_member (codes "edition") edition
    (text_member (codes "error") (codes "too-long") no_members))

-- the bytes of a reply's line, without its line feed
abbrev pub reply_line : Reply → List ℕ
reply_line reply = compact_text (reply_data reply)

-- the line of a request that found no memory
abbrev pub memory_line : List ℕ
memory_line = codes "{\"error\":\"out-of-memory\"}"
