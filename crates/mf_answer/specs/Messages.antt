-- What a message is formatted to: its parts, each with the isolates that it gets, and its errors (Unicode TS 35, Part 9,
-- "Formatting"; that a message which isn't valid is one fallback is this project's own).
use Rattle.std.specs.Prelude.{◌≡◌, ℕ, List, [], ◌∷◌, map, slice_get, Option, Some, option_map}
use Rattle.mf_text.specs.declared.arguments.Argued.{Argued}
use Rattle.mf_locale.specs.declared.record.LocaleRecord.{LocaleRecord}
use Rattle.mf_tree.specs.Compiled.{Compilation, Invalid, Valid}
use Rattle.mf_tree.specs.declared.fault.Fault.{Fault}
use Rattle.mf_tree.specs.declared.message.Body.{Body}
use Rattle.mf_tree.specs.declared.message.Body.TheVariants as body
use Rattle.mf_tree.specs.declared.message.Message.{Message}
use Rattle.mf_tree.specs.declared.message.Variant.{Variant}
use Rattle.mf_tree.specs.declared.name.Name.{Name}
use Rattle.mf_tree.specs.declared.pattern.Piece.{Piece}
use Rattle.mf_value.specs.ErrorLists.{Calls, error_list, no_calls}
use Rattle.mf_value.specs.Meaning.{Meaning}
use Rattle.mf_value.specs.Selection.{Chosen, after_selection, selector_value}
use Rattle.mf_value.specs.Traces.{Bound, bound_variables}
use Rattle.mf_parts.specs.Isolation.{isolated}
use Rattle.mf_parts.specs.declared.part.Part.{Part}
use Rattle.mf_parts.specs.declared.part.Part.TheVariants as part
use Rattle.mf_answer.specs.Parts.{after_pattern, pattern_parts}

-- a formatted message, which the errors of a request don't keep from being shown
pub record Shown : Type 0 where
  pub parts : List Part
  pub faults : List Fault

-- the source of the one fallback of a message that isn't valid: U+FFFD
abbrev pub replacement : List ℕ
replacement = 0xFFFD ∷ []

-- a message that isn't valid is a fallback, and its errors are those that make it invalid
abbrev pub shown_invalid : LocaleRecord → List Fault → Shown
shown_invalid locale faults = record { parts = isolated locale.dir (part.Fallback replacement ∷ []); faults = faults }

-- With the locale, the functions and the arguments of a request.
module _ (locale : LocaleRecord) (meaning : Meaning) (arguments : List (List ℕ × Argued)) where
  -- a variant is the chosen one, and its pattern is this one
  pub record ChoosesPattern (bound : List Bound) (selectors : List Name) (variants : List Variant) (pattern : List Piece) : Type 0 where
    pub place : ℕ
    pub chosen : Chosen meaning (map (selector_value meaning arguments bound) selectors) variants place
    pub is : option_map (λ (variant : Variant). variant.pattern) (slice_get variants place) ≡ Some pattern

  -- the pattern that is shown, and what was resolved to find it
  abbrev pub ShowsPattern : List Bound → Body → List Piece → Calls → Type 0
  ShowsPattern bound (body.Pattern pieces) pattern calls = (pattern ≡ pieces) × (calls ≡ no_calls)
  ShowsPattern bound (body.Match selectors variants) pattern calls =
      ChoosesPattern bound selectors variants pattern × (calls ≡ after_selection meaning arguments bound selectors variants no_calls)

  -- the parts of a pattern that is shown, and the errors of all that was resolved
  abbrev pub shown_pattern : List Bound → Calls → List Piece → Shown
  shown_pattern bound calls pattern = record {
    parts = isolated locale.dir (pattern_parts meaning arguments bound locale calls pattern);
    faults = error_list (after_pattern meaning arguments bound pattern calls).joined;
  }

  -- a valid message is shown so
  pub record ShowsMessage (message : Message) (shown : Shown) : Type 0 where
    pub pattern : List Piece
    pub calls : Calls
    pub shows : ShowsPattern (bound_variables meaning arguments message.declarations) message.body pattern calls
    pub is : shown ≡ shown_pattern (bound_variables meaning arguments message.declarations) calls pattern

  -- what a source compiles to is shown so
  abbrev pub Shows : Compilation → Shown → Type 0
  Shows (Valid message) shown = ShowsMessage message shown
  Shows (Invalid faults) shown = shown ≡ shown_invalid locale faults
