-- What a number keeps after a call of a function over numbers: the value of each option, in the order of their table.
use Rattle.std.specs.Prelude.{refl, List}
use Rattle.mf_text.specs.declared.pair.Pair.{Pair}
use Rattle.mf_value.specs.Ranges.{is_within, is_way_of_number}
use Rattle.mf_value.specs.declared.given.Given.{Given}
use Rattle.mf_value.specs.declared.kept.Kept.{Kept}
use Rattle.mf_value.specs.declared.number_option.NumberFunction.{NumberFunction}
use Rattle.mf_meaning.specs.Fitting.{effective_fits, count_within, way_fits}
use Rattle.mf_meaning.specs.Options.{effective, select, sign_display, use_grouping, minimum_integer_digits, minimum_fraction_digits, maximum_fraction_digits, minimum_significant_digits, maximum_significant_digits}

-- the options of a number after a call, where the operand kept `inherited`; what is kept is as it was written
abbrev pub kept_after : NumberFunction → List Given → List Pair → Kept → Kept
kept_after function written presets inherited = record {
  select = effective function select written presets inherited;
  sign = effective function sign_display written presets inherited;
  grouping = effective function use_grouping written presets inherited;
  min_whole = effective function minimum_integer_digits written presets inherited;
  min_fraction = effective function minimum_fraction_digits written presets inherited;
  max_fraction = effective function maximum_fraction_digits written presets inherited;
  min_significant = effective function minimum_significant_digits written presets inherited;
  max_significant = effective function maximum_significant_digits written presets inherited;
  select_fits = effective_fits function select is_way_of_number written presets inherited (record { none = refl; text = way_fits; kept = inherited.select_fits });
  min_whole_fits = effective_fits function minimum_integer_digits (is_within 1 21) written presets inherited (record { none = refl; text = count_within 1 21; kept = inherited.min_whole_fits });
  min_fraction_fits = effective_fits function minimum_fraction_digits (is_within 0 20) written presets inherited (record { none = refl; text = count_within 0 20; kept = inherited.min_fraction_fits });
  max_fraction_fits = effective_fits function maximum_fraction_digits (is_within 0 20) written presets inherited (record { none = refl; text = count_within 0 20; kept = inherited.max_fraction_fits });
  min_significant_fits = effective_fits function minimum_significant_digits (is_within 1 21) written presets inherited (record { none = refl; text = count_within 1 21; kept = inherited.min_significant_fits });
  max_significant_fits = effective_fits function maximum_significant_digits (is_within 1 21) written presets inherited (record { none = refl; text = count_within 1 21; kept = inherited.max_significant_fits });
}
