-- What a handler of an edition is, and what a call of it gives; and the functions of an edition with its handlers.
use Rattle.std.specs.Prelude.{ℕ, Bool, true, false, not, ◌||◌, List, [], ◌++◌, codes, Option, Some, None, option_map, option_and_then, encode_utf8_all, Result, Ok, Err, if◌then◌else◌}
use Rattle.std.specs.List.{position_from}
use Rattle.std.specs.Option.{is_some, option_or}
use Rattle.std.specs.Str.{bytes_eq}
use Rattle.unicode_normalization.specs.Forms.{nfc}
use Rattle.mf_locale.specs.declared.record.LocaleRecord.{LocaleRecord}
use Rattle.mf_text.specs.declared.pair.Pair.{Pair}
use Rattle.mf_tree.specs.declared.name.Identifier.{Identifier}
use Rattle.mf_tree.specs.declared.name.Name.{Name}
use Rattle.mf_value.specs.BuiltIns.{function_named}
use Rattle.mf_value.specs.Entries.{text_for, repeated_key}
use Rattle.mf_value.specs.Meaning.{Meaning}
use Rattle.mf_value.specs.declared.built_in.BuiltIn.{BuiltIn}
use Rattle.mf_value.specs.declared.built_in.BuiltIn.TheVariants as function
use Rattle.mf_value.specs.declared.called.Called.{Called}
use Rattle.mf_value.specs.declared.given.Given.{Given}
use Rattle.mf_value.specs.declared.handler.DefError.{DefError}
use Rattle.mf_value.specs.declared.handler.DefError.TheVariants.{ReservedName, BadBase, BadOption, RepeatedKey}
use Rattle.mf_value.specs.declared.handler.HandlerDef.{HandlerDef}
use Rattle.mf_value.specs.declared.handler.HandlerDef.TheVariants.{Alias, Affix, Table}
use Rattle.mf_value.specs.declared.value.Value.{Value}
use Rattle.mf_meaning.specs.Functions.{bad_operand, base_called, built_in, called_with, operand_text, refused_options, text_value}
use Rattle.mf_meaning.specs.Options.{is_preset_allowed}
use Rattle.mf_meaning.specs.Ranks.{rank}

-- the function that a base names
abbrev pub base_named : List ℕ → Option BuiltIn
base_named base = function_named (encode_utf8_all base)

-- the options that a handler gives beforehand
abbrev pub presets_of : HandlerDef → List Pair
presets_of (Alias base presets) = presets
presets_of (Affix base presets prefix suffix) = presets
presets_of (Table entries default) = []

-- a table's text for the operand: that of the key with the normal form of its option text, else the default
abbrev pub table_text : List Pair → Option (List ℕ) → List ℕ → Option (List ℕ)
table_text entries default text = option_or (text_for (nfc text) entries) default

-- a table: it has no options, and its value is a text that selects as one
abbrev pub table_called : List Pair → Option (List ℕ) → Option Value → List Given → Called
table_called entries default operand written =
    called_with (option_map text_value (option_and_then (table_text entries default) (operand_text operand))) (refused_options (λ given. false) written)

-- what a handler calls, with these presets: its base, or its table, which passes presets over
abbrev pub underlying_called : LocaleRecord → HandlerDef → List Pair → Option Value → List Given → Called
underlying_called locale (Alias base own) presets operand written = base_called locale (base_named base) presets operand written
underlying_called locale (Affix base own prefix suffix) presets operand written = base_called locale (base_named base) presets operand written
underlying_called locale (Table entries default) presets operand written = table_called entries default operand written

-- a value between a prefix and a suffix
abbrev pub affixed : List ℕ → List ℕ → Value → Value
affixed prefix suffix value = record value { prefix = prefix ++ value.prefix; suffix = value.suffix ++ suffix }

-- what was called, its value between them
abbrev pub called_between : List ℕ → List ℕ → Called → Called
called_between prefix suffix called = record called { value = option_map (affixed prefix suffix) called.value }

-- what a handler makes of what it called: an affix puts the value between its prefix and its suffix
abbrev pub handled : HandlerDef → Called → Called
handled (Alias base presets) called = called
handled (Affix base presets prefix suffix) called = called_between prefix suffix called
handled (Table entries default) called = called

-- what a call of a handler gives
abbrev pub handler_called : LocaleRecord → HandlerDef → Option Value → List Given → Called
handler_called locale def operand written = handled def (underlying_called locale def (presets_of def) operand written)

-- the name of a handler is reserved: it has no namespace, or the namespace `u` or `own`
abbrev pub is_reserved : Option Name → Bool
is_reserved None = true
is_reserved (Some namespace) = bytes_eq (encode_utf8_all namespace.value) (codes "u") || bytes_eq (encode_utf8_all namespace.value) (codes "own")

-- the preset is an option of the function, and its value is allowed
abbrev pub allows_preset : BuiltIn → Pair → Bool
allows_preset function.String preset = false
allows_preset (function.Numeric of_numbers) preset = is_preset_allowed of_numbers preset

-- the place, from 0, of the first preset that isn't allowed
abbrev pub bad_preset : BuiltIn → List Pair → Option ℕ
bad_preset base presets = position_from (λ preset. not (allows_preset base preset)) 0 presets

-- whether the presets are those of the base
abbrev pub preset_checked : Option ℕ → Result (Unit {0}) DefError
preset_checked None = Ok tt
preset_checked (Some place) = Err (BadOption place)

abbrev pub base_checked : Option BuiltIn → List Pair → Result (Unit {0}) DefError
base_checked None presets = Err BadBase
base_checked (Some base) presets = preset_checked (bad_preset base presets)

-- whether each key of a table is there once
abbrev pub key_checked : Option ℕ → Result (Unit {0}) DefError
key_checked None = Ok tt
key_checked (Some place) = Err (RepeatedKey place)

-- what a handler does is fine, or why it is refused
abbrev pub def_checked : HandlerDef → Result (Unit {0}) DefError
def_checked (Alias base presets) = base_checked (base_named base) presets
def_checked (Affix base presets prefix suffix) = base_checked (base_named base) presets
def_checked (Table entries default) = key_checked (repeated_key entries)

-- a handler is fine, or why it is refused: its name comes first
abbrev pub checked : Identifier → HandlerDef → Result (Unit {0}) DefError
checked name def = if is_reserved name.namespace then Err ReservedName else def_checked def

-- a call by name: a built-in function keeps its name, and any other name is that of a handler, where there is one
abbrev pub named_called : LocaleRecord → Option BuiltIn → Option HandlerDef → Option Value → List Given → Called
named_called locale (Some function) handler operand written = base_called locale (Some function) [] operand written
named_called locale None (Some def) operand written = handler_called locale def operand written
named_called locale None None operand written = bad_operand

-- the functions that there are with these handlers, and the numbers of a locale
abbrev pub with_handlers : (Identifier → Option HandlerDef) → LocaleRecord → Meaning
with_handlers handlers locale = record {
  direction = locale.dir;
  known = λ name. is_some (built_in name) || is_some (handlers name);
  called = λ name operand written. named_called locale (built_in name) (handlers name) operand written;
  rank = rank locale;
}
