use Rattle.std.proofs.Common.{refl}
use Rattle.mf_value.specs.Ranges.{is_within, is_way_of_number}
use Rattle.mf_value.specs.declared.number_option.NumberOption.TheVariants.{MinimumFractionDigits, MaximumFractionDigits, MinimumSignificantDigits}
use Rattle.mf_functions.proofs.Settings.{fits_or, fits_inherited}
use Rattle.mf_functions.proofs.number.kept_after.Goals as goal

pub invariant_of-result : goal.invariant_of-result
invariant_of-result c =
    let w = c.args.written.now in
    let k = c.args.inherited.now in
    let r = c.requires.in_range in
    let f = c.inherited_count-min_fraction in
    let g = c.inherited_count-max_fraction in
    let m = c.inherited_count-min_significant in
    record {
      select_fits = fits_or is_way_of_number w.select k.select c.or.result c.or.ensures r.select k.select_fits;
      min_whole_fits = fits_or (is_within 1 21) w.min_whole k.min_whole c.or-4.result c.or-4.ensures r.min_whole k.min_whole_fits;
      min_fraction_fits = fits_or (is_within 0 20) w.min_fraction f.result c.or-5.result c.or-5.ensures r.min_fraction (fits_inherited (is_within 0 20) c.args.function MinimumFractionDigits k.min_fraction f.result f.ensures refl k.min_fraction_fits);
      max_fraction_fits = fits_or (is_within 0 20) w.max_fraction g.result c.or-6.result c.or-6.ensures r.max_fraction (fits_inherited (is_within 0 20) c.args.function MaximumFractionDigits k.max_fraction g.result g.ensures refl k.max_fraction_fits);
      min_significant_fits = fits_or (is_within 1 21) w.min_significant m.result c.or-7.result c.or-7.ensures r.min_significant (fits_inherited (is_within 1 21) c.args.function MinimumSignificantDigits k.min_significant m.result m.ensures refl k.min_significant_fits);
      max_significant_fits = fits_or (is_within 1 21) w.max_significant k.max_significant c.or-8.result c.or-8.ensures r.max_significant k.max_significant_fits;
    }
