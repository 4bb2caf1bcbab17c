-- How a value may select, the option text of a value, and what a number keeps that was given no option.
use Rattle.std.specs.Prelude.{refl, ℕ, Bool, true, false, List, Option, Some, None}
use Rattle.mf_decimal.specs.Text.{exact_text}
use Rattle.mf_value.specs.declared.content.Content.{Content}
use Rattle.mf_value.specs.declared.content.Content.TheVariants as content
use Rattle.mf_value.specs.declared.content.Selects.{Selects}
use Rattle.mf_value.specs.declared.content.Selects.TheVariants.{Nothing, Text, Plural, Ordinal, Exact}
use Rattle.mf_value.specs.declared.kept.Kept.{Kept}

-- a fallback selects nothing, a text nothing or as a text, and a number never as a text
abbrev pub selects_so : Content → Selects → Bool
selects_so (content.Fallback source) Nothing = true
selects_so (content.Fallback source) Text = false
selects_so (content.Fallback source) Plural = false
selects_so (content.Fallback source) Ordinal = false
selects_so (content.Fallback source) Exact = false
selects_so (content.Text text) Nothing = true
selects_so (content.Text text) Text = true
selects_so (content.Text text) Plural = false
selects_so (content.Text text) Ordinal = false
selects_so (content.Text text) Exact = false
selects_so (content.Number amount kept) Nothing = true
selects_so (content.Number amount kept) Text = false
selects_so (content.Number amount kept) Plural = true
selects_so (content.Number amount kept) Ordinal = true
selects_so (content.Number amount kept) Exact = true

-- what a number keeps that was given no option
abbrev pub nothing_kept : Kept
nothing_kept = record {
  select = None;
  sign = None;
  grouping = None;
  min_whole = None;
  min_fraction = None;
  max_fraction = None;
  min_significant = None;
  max_significant = None;
  select_fits = refl;
  min_whole_fits = refl;
  min_fraction_fits = refl;
  max_fraction_fits = refl;
  min_significant_fits = refl;
  max_significant_fits = refl;
}

-- the option text of a text or a number; a fallback has none
abbrev pub option_text : Content → Option (List ℕ)
option_text (content.Text text) = Some text
option_text (content.Number amount kept) = Some (exact_text amount)
option_text (content.Fallback source) = None

-- the value can't select
abbrev pub selects_nothing : Selects → Bool
selects_nothing Nothing = true
selects_nothing Text = false
selects_nothing Plural = false
selects_nothing Ordinal = false
selects_nothing Exact = false
