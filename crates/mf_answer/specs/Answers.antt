-- What a log at an edition answers to a request for a sentence. Nothing here speaks of the wire.
use Rattle.std.specs.Prelude.{◌≡◌, ◌^◌, ℕ, Bool, List, length, nat_le, nat_lt, encode_utf8_all, slice_get, Option, Some, None, if◌then◌else◌}
use Rattle.std.specs.Bool.{MatchBool}
use Rattle.mf_text.specs.declared.arguments.Argued.{Argued}
use Rattle.mf_locale.specs.Chain.{chain_of}
use Rattle.mf_locale.specs.declared.record.LocaleRecord.{LocaleRecord}
use Rattle.mf_tree.specs.Compiled.{Compilation, Compiled}
use Rattle.mf_tree.specs.declared.fault.Fault.{Fault}
use Rattle.mf_parts.specs.Joined.{text_of}
use Rattle.mf_parts.specs.declared.part.Part.{Part}
use Rattle.mf_edition.specs.Edition.{edition_of, found_along, EditionState}
use Rattle.mf_edition.specs.Handlers.{handler_of}
use Rattle.mf_edition.specs.Items.{Item}
use Rattle.mf_edition.specs.Records.{place_for}
use Rattle.mf_edition.specs.declared.change.Entry.{Entry}
use Rattle.mf_edition.specs.declared.item.Found.{Found}
use Rattle.mf_meaning.specs.Handlers.{with_handlers}
use Rattle.mf_value.specs.Meaning.{Meaning}
use Rattle.mf_answer.specs.Messages.{Shown, Shows}

-- the edition is older than this one, which the request wants at least; no tag of the chain has the message; the text is too
-- long; or the message is formatted, under this tag, to these parts and with these errors
pub data Answer : Type 0 where
  not_yet : ℕ → Answer
  no_message : Answer
  too_long : Answer
  formatted : List ℕ → List Part → List Fault → Answer

-- a formatted text has at most 16,777,216 bytes
abbrev pub is_text_size : List Part → Bool
is_text_size parts = nat_le (length (encode_utf8_all (text_of parts))) (2 ^ 24)

abbrev pub shown_answer : List ℕ → Shown → Answer
shown_answer tag shown = if is_text_size shown.parts then formatted tag shown.parts shown.faults else too_long

-- the functions of an edition, with the numbers of a locale
abbrev pub functions_of : EditionState → LocaleRecord → Meaning
functions_of edition locale = with_handlers (handler_of edition.handlers) locale

-- a source is shown so by an edition, with the record of this tag
pub record ShowsSource (edition : EditionState) (tag : List ℕ) (arguments : List (List ℕ × Argued)) (source : List ℕ) (shown : Shown) : Type 0 where
  pub compilation : Compilation
  pub compiled : Compiled source compilation
  pub shows : Shows (place_for edition.records tag) (functions_of edition (place_for edition.records tag)) arguments compilation shown

-- the answer is that of the message that was found, with the record of its own tag
pub record IsAnswerOf (arguments : List (List ℕ × Argued)) (edition : EditionState) (found : Found) (answer : Answer) : Type 0 where
  pub item : Item
  pub there : slice_get edition.items found.index ≡ Some item
  pub shown : Shown
  pub shows : ShowsSource edition found.tag arguments item.source shown
  pub is : answer ≡ shown_answer found.tag shown

-- the answer where a message was found, or wasn't
abbrev pub IsAnswerFrom : List (List ℕ × Argued) → EditionState → Option Found → Answer → Type 0
IsAnswerFrom arguments edition None answer = answer ≡ no_message
IsAnswerFrom arguments edition (Some found) answer = IsAnswerOf arguments edition found answer

-- the answer of an edition, which is edition k, to a request for the message of an id, looked up along the chain of a tag
abbrev pub IsAnswerIn : ℕ → EditionState → List ℕ → List ℕ → List (List ℕ × Argued) → ℕ → Answer → Type 0
IsAnswerIn k edition tag id arguments since answer =
    MatchBool (nat_lt k since) (answer ≡ not_yet since)
    (IsAnswerFrom arguments edition (found_along edition.items id (chain_of tag)) answer)

-- the answer of a log at edition k
abbrev pub IsAnswer : List Entry → ℕ → List ℕ → List ℕ → List (List ℕ × Argued) → ℕ → Answer → Type 0
IsAnswer log k tag id arguments since answer = IsAnswerIn k (edition_of log k) tag id arguments since answer
