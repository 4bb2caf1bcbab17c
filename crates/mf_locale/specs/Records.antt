-- Locale records.
use Rattle.std.specs.Prelude.{refl, chars, codes, []}
use Rattle.mf_text.specs.declared.direction.Direction.TheVariants.{Ltr}
use Rattle.mf_numfmt.specs.declared.layout.Layout.{Layout}
use Rattle.mf_locale.specs.declared.record.LocaleRecord.{LocaleRecord}

-- the layout of numbers where no locale says another
abbrev pub root_layout : Layout
root_layout = record { decimal = chars (codes "."); group = chars (codes ","); minus = chars (codes "-"); plus = chars (codes "+"); primary = 3; secondary = 3; min_group = 1; primary_fits = refl; secondary_fits = refl; min_group_fits = refl }

-- the record of what no locale record is about
abbrev pub root_record : LocaleRecord
root_record = record { dir = Ltr; layout = root_layout; plural = []; ordinal = [] }
