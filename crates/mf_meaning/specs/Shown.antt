-- What a value shows (Unicode TS 35, Part 9, :number and :integer).
use Rattle.std.specs.Prelude.{ℕ, Bool, ◌||◌, max, List, ◌++◌, if◌then◌else◌}
use Rattle.std.specs.Option.{is_some, unwrap_or}
use Rattle.mf_decimal.specs.declared.decimal.Decimal.{Decimal}
use Rattle.mf_decimal.specs.declared.shown.Digits.{Digits}
use Rattle.mf_decimal.specs.declared.shown.Digits.TheVariants.{Fraction, Significant}
use Rattle.mf_decimal.specs.declared.shown.Shown.{Shown}
use Rattle.mf_locale.specs.declared.record.LocaleRecord.{LocaleRecord}
use Rattle.mf_numfmt.specs.NumberText.{number_text}
use Rattle.mf_numfmt.specs.declared.options.Grouping.TheVariants as grouping
use Rattle.mf_numfmt.specs.declared.options.Sign.TheVariants as sign
use Rattle.mf_value.specs.declared.content.Content.{Content}
use Rattle.mf_value.specs.declared.content.Content.TheVariants as content
use Rattle.mf_value.specs.declared.kept.Kept.{Kept}
use Rattle.mf_value.specs.declared.value.Value.{Value}
use Rattle.mf_meaning.specs.Numbers.{round}

-- a significant-digits option is set
abbrev pub is_significant : Kept → Bool
is_significant kept = is_some kept.min_significant || is_some kept.max_significant

-- the digits that are asked for: a maximum below its minimum counts as the minimum
abbrev pub digits_of : Kept → Digits
digits_of kept =
    if is_significant kept then Significant (unwrap_or kept.min_significant 1) (max (unwrap_or kept.max_significant 21) (unwrap_or kept.min_significant 1))
    else Fraction (unwrap_or kept.min_fraction 0) (max (unwrap_or kept.max_fraction 3) (unwrap_or kept.min_fraction 0))

-- the number as it is shown
abbrev pub shown_number : Decimal → Kept → Shown
shown_number amount kept = round amount (digits_of kept)

-- the text of the number in the locale's layout
abbrev pub shown_digits : LocaleRecord → Decimal → Kept → List ℕ
shown_digits locale amount kept =
    number_text (shown_number amount kept) locale.layout (unwrap_or kept.sign sign.Auto) (unwrap_or kept.grouping grouping.Auto) (unwrap_or kept.min_whole 1)

-- what stands between a value's prefix and its suffix
abbrev pub shown_content : LocaleRecord → Content → List ℕ
shown_content locale (content.Text text) = text
shown_content locale (content.Number amount kept) = shown_digits locale amount kept
shown_content locale (content.Fallback source) = source

abbrev pub shown_text : LocaleRecord → Value → List ℕ
shown_text locale value = value.prefix ++ (shown_content locale value.content ++ value.suffix)
