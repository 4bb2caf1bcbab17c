-- A record that was read is the one that is computed.
use Rattle.std.proofs.Common.{◌≡◌, ◌∙◌, ℕ, Bool, true, false, List, Some, Ok, ap, sym}
use Rattle.std.specs.Prelude.{IsTrue}
use Rattle.std.proofs.lemmas.Bool.{false≢true}
use Rattle.std.proofs.Math.Bool.{Bool-set}
use Rattle.serde_json.specs.Data.{Data}
use Rattle.mf_text.specs.declared.direction.Direction.{Direction}
use Rattle.mf_plural.specs.declared.rule.Rule.{Rule}
use Rattle.mf_locale.specs.RecordFields.{direction_field, rules_field, size_by, size_field, size_from, symbol_field, version_field}
use Rattle.mf_locale.specs.RecordReading.{record_of, record_with}
use Rattle.mf_numfmt.specs.Sizes.{is_size}
use Rattle.mf_locale.specs.declared.field.RecordField.TheVariants.{Decimal, Group, Minus, Plus, Primary, Secondary, MinGroup, Plural, Ordinal}
use Rattle.mf_locale.specs.declared.record.LocaleRecord.{LocaleRecord}
use Rattle.mf_locale.specs.declared.size.GroupSize.{GroupSize}

size_checked : (number : ℕ) (fits : is_size number ≡ true) (test : Bool) (is : is_size number ≡ test)
    → Some (record { digits = number; fits = fits }) ≡ size_by number test is
size_checked number fits true is = ap (λ e. Some (record { digits = number; fits = e })) (Bool-set _ _ fits is)
size_checked number fits false is = absurd (false≢true (sym is ∙ fits))

-- a number that is a size is that size
pub size_is : (number : ℕ) (fits : is_size number ≡ true) → Some (record { digits = number; fits = fits }) ≡ size_from number
size_is number fits = size_checked number fits (is_size number) _

-- the record of these parts, whose sizes are shown to fit by these proofs
abbrev record_by : Direction → (decimal group minus plus : List ℕ) (primary secondary min_group : GroupSize) (plural ordinal : List Rule)
    → IsTrue (is_size primary.digits) → IsTrue (is_size secondary.digits) → IsTrue (is_size min_group.digits) → LocaleRecord
record_by dir decimal group minus plus primary secondary min_group plural ordinal fits fits_too also_fits = record {
  dir = dir;
  layout =
      record {
        decimal = decimal;
        group = group;
        minus = minus;
        plus = plus;
        primary = primary.digits;
        secondary = secondary.digits;
        min_group = min_group.digits;
        primary_fits = fits;
        secondary_fits = fits_too;
        min_group_fits = also_fits;
      };
  plural = plural;
  ordinal = ordinal;
}

-- what shows the sizes to fit makes no difference
pub same_record : (dir : Direction) (decimal group minus plus : List ℕ) (primary secondary min_group : GroupSize) (plural ordinal : List Rule)
    (fits : IsTrue (is_size primary.digits)) (fits_too : IsTrue (is_size secondary.digits)) (also_fits : IsTrue (is_size min_group.digits))
    → record_with dir decimal group minus plus primary secondary min_group plural ordinal
    ≡ record_by dir decimal group minus plus primary secondary min_group plural ordinal fits fits_too also_fits
same_record dir decimal group minus plus primary secondary min_group plural ordinal fits fits_too also_fits =
    let by = record_by dir decimal group minus plus primary secondary min_group plural ordinal in
    ap (λ e. by e secondary.fits min_group.fits) (Bool-set _ _ primary.fits fits)
    ∙ ap (λ e. by fits e min_group.fits) (Bool-set _ _ secondary.fits fits_too)
    ∙ ap (λ e. by fits fits_too e) (Bool-set _ _ min_group.fits also_fits)

-- where each field has something, the record has all of it
pub record_is : (value : Data) (dir : Direction) (decimal group minus plus : List ℕ) (primary secondary min_group : GroupSize) (plural ordinal : List Rule)
    → version_field value ≡ Ok 1 → direction_field value ≡ Ok dir → symbol_field 1 Decimal value ≡ Ok decimal → symbol_field 0 Group value ≡ Ok group
    → symbol_field 1 Minus value ≡ Ok minus → symbol_field 1 Plus value ≡ Ok plus → size_field Primary value ≡ Ok primary → size_field Secondary value ≡ Ok secondary
    → size_field MinGroup value ≡ Ok min_group → rules_field Plural value ≡ Ok plural → rules_field Ordinal value ≡ Ok ordinal
    → record_of value ≡ Ok (record_with dir decimal group minus plus primary secondary min_group plural ordinal)
record_is value dir decimal group minus plus primary secondary min_group plural ordinal h1 h2 h3 h4 h5 h6 h7 h8 h9 h10 h11 = cc
