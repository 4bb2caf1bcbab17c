-- How well a key matches a value (Unicode TS 35, Part 9, "Pattern Selection"), and the meaning of the built-in functions.
use Rattle.std.specs.Prelude.{ℕ, Bool, false, ◌||◌, List, [], ◌∷◌, Option, Some, None, encode_utf8_all, if◌then◌else◌}
use Rattle.std.specs.List.{list_any}
use Rattle.std.specs.Option.{is_some}
use Rattle.std.specs.Str.{bytes_eq}
use Rattle.unicode_normalization.specs.Forms.{nfc}
use Rattle.mf_decimal.specs.Text.{exact_text}
use Rattle.mf_decimal.specs.declared.decimal.Decimal.{Decimal}
use Rattle.mf_locale.specs.declared.record.LocaleRecord.{LocaleRecord}
use Rattle.mf_plural.specs.Choice.{category_by}
use Rattle.mf_plural.specs.Grammar.{keyword_text}
use Rattle.mf_plural.specs.declared.rule.Category.{Category}
use Rattle.mf_plural.specs.declared.rule.Category.TheVariants.{Zero, One, Two, Few, Many, Other}
use Rattle.mf_value.specs.Meaning.{Meaning}
use Rattle.mf_value.specs.Values.{selects_nothing}
use Rattle.mf_value.specs.declared.called.Ranked.{Ranked}
use Rattle.mf_value.specs.declared.called.Ranked.TheVariants as ranked
use Rattle.mf_value.specs.declared.content.Content.{Content}
use Rattle.mf_value.specs.declared.content.Content.TheVariants as content
use Rattle.mf_value.specs.declared.content.Selects.{Selects}
use Rattle.mf_value.specs.declared.content.Selects.TheVariants.{Nothing, Text, Plural, Ordinal, Exact}
use Rattle.mf_value.specs.declared.kept.Kept.{Kept}
use Rattle.mf_value.specs.declared.value.Value.{Value}
use Rattle.mf_meaning.specs.Functions.{built_in, base_called}
use Rattle.mf_meaning.specs.Numbers.{is_number}
use Rattle.mf_meaning.specs.Shown.{is_significant, shown_number}

-- whether a text, given by the bytes of its UTF-8, is the keyword of a category
abbrev pub is_keyword_of : Category → List ℕ → Bool
is_keyword_of category text = bytes_eq text (keyword_text category)

abbrev pub is_keyword : List ℕ → Bool
is_keyword text = list_any (λ category. is_keyword_of category text) (Zero ∷ One ∷ Two ∷ Few ∷ Many ∷ Other ∷ [])

-- an option is set that asks for digits which the exact text hasn't
abbrev pub adds_digits : Kept → Bool
adds_digits kept = is_some kept.min_fraction || (is_some kept.min_whole || is_significant kept)

-- the key that is the number itself, if a key can be
abbrev pub exact_key : Decimal → Kept → Option (List ℕ)
exact_key amount kept = if adds_digits kept then None else Some (exact_text amount)

-- the category of the shown number, where the number selects by one
abbrev pub category_of : LocaleRecord → Selects → Decimal → Kept → Option Category
category_of locale Plural amount kept = Some (category_by locale.plural (shown_number amount kept))
category_of locale Ordinal amount kept = Some (category_by locale.ordinal (shown_number amount kept))
category_of locale Exact amount kept = None
category_of locale Nothing amount kept = None
category_of locale Text amount kept = None

-- the key is a text that there is
abbrev pub is_key : Option (List ℕ) → List ℕ → Bool
is_key None key = false
is_key (Some text) key = bytes_eq (encode_utf8_all key) (encode_utf8_all text)

-- the text is the keyword of a category that there is
abbrev pub is_category : Option Category → List ℕ → Bool
is_category None text = false
is_category (Some category) text = is_keyword_of category text

-- a key that is no number literal: a keyword matches where it is that of the category, and anything else is no key
abbrev pub keyword_rank : Option Category → List ℕ → Ranked
keyword_rank category text = if is_category category text then ranked.Keyword else if is_keyword text then ranked.Never else ranked.BadKey

-- a number matches the key that is its exact text, and the keyword of its category
abbrev pub number_rank : Option (List ℕ) → Option Category → List ℕ → Ranked
number_rank exact category key =
    if is_key exact key then ranked.Exact
    else if is_number key then ranked.Never
    else keyword_rank category (encode_utf8_all key)

-- a text matches the key with its normal form
abbrev pub text_rank : List ℕ → List ℕ → Ranked
text_rank text key = if bytes_eq (encode_utf8_all (nfc key)) (encode_utf8_all (nfc text)) then ranked.Exact else ranked.Never

-- by the value's content; what selects nothing matches no key
abbrev pub content_rank : LocaleRecord → Selects → Content → List ℕ → Ranked
content_rank locale selects (content.Text text) key = text_rank text key
content_rank locale selects (content.Number amount kept) key = number_rank (exact_key amount kept) (category_of locale selects amount kept) key
content_rank locale selects (content.Fallback source) key = ranked.Never

abbrev pub rank : LocaleRecord → Value → List ℕ → Ranked
rank locale value key = if selects_nothing value.selects then ranked.Never else content_rank locale value.selects value.content key

-- the functions that there are where no handler is: the built-in ones, with the numbers of a locale
abbrev pub built_ins : LocaleRecord → Meaning
built_ins locale = record {
  direction = locale.dir;
  known = λ name. is_some (built_in name);
  called = λ name operand written. base_called locale (built_in name) [] operand written;
  rank = rank locale;
}
