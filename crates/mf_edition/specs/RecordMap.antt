-- For private clauses: the records of tags in a map, whose keys are the characters of the tags.
use Rattle.std.specs.Prelude.{List, String, map, string_bytes}
use Rattle.std.specs.declared.alloc.Global.{Global}
use Rattle.mf_locale.specs.declared.record.LocaleRecord.{LocaleRecord}
use Rattle.mf_edition.specs.Records.{TaggedRecord}

-- what an entry says
abbrev pub record_in : String Global × LocaleRecord → TaggedRecord
record_in entry = record { tag = string_bytes entry.0; shared = entry.1 }

-- the records of the entries, which are in the order of their tags
abbrev pub records_in : List (String Global × LocaleRecord) → List TaggedRecord
records_in entries = map record_in entries
