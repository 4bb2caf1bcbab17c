-- The parts of a pattern, one for each of its pieces, and the errors that arise (Unicode TS 35, Part 9, "Formatting"; the kinds
-- of parts are this project's own).
use Rattle.std.specs.Prelude.{ℕ, Bool, List, [], ◌∷◌, Option}
use Rattle.mf_text.specs.declared.arguments.Argued.{Argued}
use Rattle.mf_text.specs.declared.direction.Direction.{Direction}
use Rattle.mf_locale.specs.declared.record.LocaleRecord.{LocaleRecord}
use Rattle.mf_tree.specs.Faults.{identifier_text}
use Rattle.mf_tree.specs.declared.pattern.Markup.{Markup}
use Rattle.mf_tree.specs.declared.pattern.Piece.{Piece}
use Rattle.mf_tree.specs.declared.pattern.Piece.TheVariants as piece
use Rattle.mf_value.specs.ErrorLists.{Calls, after_call}
use Rattle.mf_value.specs.Meaning.{Meaning}
use Rattle.mf_value.specs.Selection.{MarkupTrace, markup_trace}
use Rattle.mf_value.specs.Traces.{Bound, of_call, expression_trace}
use Rattle.mf_value.specs.declared.content.Content.{Content}
use Rattle.mf_value.specs.declared.content.Content.TheVariants as content
use Rattle.mf_value.specs.declared.value.Value.{Value}
use Rattle.mf_meaning.specs.Shown.{shown_text}
use Rattle.mf_parts.specs.declared.part.Part.{Part}
use Rattle.mf_parts.specs.declared.part.Part.TheVariants as part

-- the part of a value that shows this text
abbrev pub content_part : List ℕ → Direction → Bool → Option (List ℕ) → Content → Part
content_part shown dir forced id (content.Text text) = part.String shown dir forced id
content_part shown dir forced id (content.Number amount kept) = part.Number shown dir forced id
content_part shown dir forced id (content.Fallback source) = part.Fallback source

abbrev pub value_part : LocaleRecord → Value → Part
value_part locale value = content_part (shown_text locale value) value.dir value.forced value.id value.content

abbrev pub markup_part : Markup → MarkupTrace → Part
markup_part markup trace = part.Markup markup.form (identifier_text markup.name) trace.options trace.id

-- With the functions and the arguments of a request, and the variables that the message's declarations bind.
module _ (meaning : Meaning) (arguments : List (List ℕ × Argued)) (bound : List Bound) where
  -- an expression and markup are resolved
  abbrev pub after_piece : Piece → Calls → Calls
  after_piece (piece.Text text) calls = calls
  after_piece (piece.Expression expression) calls = after_call (λ node. (expression_trace meaning arguments bound node expression).faults) calls
  after_piece (piece.Markup markup) calls = after_call (λ node. (markup_trace meaning arguments bound node markup).faults) calls

  -- a pattern from left to right
  abbrev pub after_pattern : List Piece → Calls → Calls
  after_pattern [] calls = calls
  after_pattern (piece ∷ pieces) calls = after_pattern pieces (after_piece piece calls)

  -- the part of a piece behind these calls, with the numbers of a locale
  abbrev pub piece_part : LocaleRecord → Calls → Piece → Part
  piece_part locale calls (piece.Text text) = part.Text text
  piece_part locale calls (piece.Expression expression) =
      value_part locale (expression_trace meaning arguments bound (of_call calls.count) expression).value
  piece_part locale calls (piece.Markup markup) = markup_part markup (markup_trace meaning arguments bound (of_call calls.count) markup)

  abbrev pub pattern_parts : LocaleRecord → Calls → List Piece → List Part
  pattern_parts locale calls [] = []
  pattern_parts locale calls (piece ∷ pieces) = piece_part locale calls piece ∷ pattern_parts locale (after_piece piece calls) pieces
