-- For private clauses: the parts of a pattern, piece by piece, while a scope gathers the errors.
use Rattle.std.specs.Prelude.{◌≡◌, List}
use Rattle.mf_locale.specs.declared.record.LocaleRecord.{LocaleRecord}
use Rattle.mf_tree.specs.declared.message.Body.{Body}
use Rattle.mf_tree.specs.declared.message.Body.TheVariants as body
use Rattle.mf_tree.specs.declared.pattern.Markup.{Markup}
use Rattle.mf_tree.specs.declared.pattern.Piece.{Piece}
use Rattle.mf_tree.specs.declared.pattern.Piece.TheVariants as piece
use Rattle.mf_value.specs.ErrorLists.{Calls, no_calls}
use Rattle.mf_value.specs.Meaning.{Meaning}
use Rattle.mf_parts.specs.Isolation.{isolated}
use Rattle.mf_parts.specs.declared.part.Part.{Part}
use Rattle.mf_resolve.specs.Gathering.{Advances, Gathers}
use Rattle.mf_resolve.specs.Resolving.{ScopeState, bound_of}
use Rattle.mf_answer.specs.Messages.{Shown, ShowsPattern}
use Rattle.mf_render.specs.declared.message.Formatted.{Formatted}
use Rattle.mf_select.specs.Choosing.{CanChoose}
use Rattle.mf_answer.specs.Parts.{after_pattern, after_piece, pattern_parts, piece_part}

-- the part is that of the piece, whose errors are gathered
pub record GivesPart (locale : LocaleRecord) (meaning : Meaning) (old new : ScopeState) (piece : Piece) (part : Part) : Type 0 where
  pub advances : Advances meaning old new (after_piece meaning old.arguments (bound_of meaning old) piece)
  pub part_is : (calls : Calls) → Gathers meaning old calls → part ≡ piece_part meaning old.arguments (bound_of meaning old) locale calls piece

-- the parts are those of the pieces, each between its isolates
pub record GivesParts (locale : LocaleRecord) (meaning : Meaning) (old new : ScopeState) (pieces : List Piece) (parts : List Part) : Type 0 where
  pub advances : Advances meaning old new (after_pattern meaning old.arguments (bound_of meaning old) pieces)
  pub parts_are : (calls : Calls) → Gathers meaning old calls →
      parts ≡ isolated locale.dir (pattern_parts meaning old.arguments (bound_of meaning old) locale calls pieces)

-- the part is that of markup, which hangs on no locale, and its errors are gathered
abbrev pub GivesMarkup : Meaning → ScopeState → ScopeState → Markup → Part → Type 0
GivesMarkup meaning old new markup part = (locale : LocaleRecord) → GivesPart locale meaning old new (piece.Markup markup) part

-- a variant can be chosen, if there are some
abbrev pub CanShow : Body → Type 0
CanShow (body.Pattern pattern) = Unit {0}
CanShow (body.Match selectors variants) = CanChoose selectors variants

-- the pattern is the one that is shown, and what was resolved to find it is gathered
pub record Finds (meaning : Meaning) (old new : ScopeState) (body : Body) (pattern : List Piece) : Type 0 where
  pub after : Calls → Calls
  pub advances : Advances meaning old new after
  pub shows : (locale : LocaleRecord) → ShowsPattern locale meaning old.arguments (bound_of meaning old) body pattern (after no_calls)

-- the definition's formatted message
abbrev pub shown_of : Formatted → Shown
shown_of formatted = record { parts = formatted.parts; faults = formatted.faults }
