-- The text of a shown number in a layout (Unicode TS 35, Part 3, "Number Formats"; Part 9, :number and :integer).
use Rattle.std.specs.Prelude.{ℕ, zero, suc, ◌+◌, ◌/◌, ◌%◌, ◌^◌, Bool, false, ◌&&◌, List, [], ◌∷◌, ◌++◌, length, max, ◌==◌, if◌then◌else◌}
use Rattle.std.specs.Fmt.{decimal}
use Rattle.mf_decimal.specs.declared.shown.Shown.{Shown}
use Rattle.mf_numfmt.specs.declared.layout.Layout.{Layout}
use Rattle.mf_numfmt.specs.declared.options.Sign.{Sign}
use Rattle.mf_numfmt.specs.declared.options.Grouping.{Grouping}
use Rattle.mf_numfmt.specs.Signs.{sign_text}
use Rattle.mf_numfmt.specs.Groups.{is_grouped, separates}

-- the digit of n at a place, where places are counted from 0 at the decimal point
abbrev pub digit_at : ℕ → ℕ → ℕ
digit_at n place = n / 10 ^ place % 10

-- the character of a digit
abbrev pub digit_character : ℕ → ℕ
digit_character digit = 48 + digit

-- how many digits n has in base ten, without leading zeros; 0 has one
unfoldable pub digit_count : ℕ → ℕ
digit_count n = length (decimal n)

-- what stands to the right of the digit at a place
abbrev pub separator : Layout → Bool → ℕ → List ℕ
separator layout grouped place = if grouped && separates layout place then layout.group else []

-- the digits of n at the places below a count, the highest place first, each with what stands to its right
abbrev pub places_text : Layout → Bool → ℕ → ℕ → List ℕ
places_text layout grouped n zero = []
places_text layout grouped n (suc place) = digit_character (digit_at n place) ∷ (separator layout grouped place ++ places_text layout grouped n place)

-- the whole digits, with zeros before them up to the minimum
abbrev pub whole_text : Layout → Grouping → ℕ → ℕ → List ℕ
whole_text layout grouping min_whole n =
    let digits = max (digit_count n) min_whole in places_text layout (is_grouped layout grouping digits) n digits

-- the decimal symbol and so many digits of the fraction, where there are any
abbrev pub fraction_text : Layout → ℕ → ℕ → List ℕ
fraction_text layout fraction_len n = if fraction_len == 0 then [] else layout.decimal ++ places_text layout false n fraction_len

-- the text of the number: its sign, its whole digits and its fraction
abbrev pub number_text : Shown → Layout → Sign → Grouping → ℕ → List ℕ
number_text shown layout sign grouping min_whole =
    sign_text layout sign shown ++ (whole_text layout grouping min_whole shown.whole ++ fraction_text layout shown.fraction_len shown.fraction)
