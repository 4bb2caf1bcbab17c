-- What keys are compared with: for private clauses.
use Rattle.std.specs.Prelude.{◌≡◌, ℕ, List, encode_utf8_all, if◌then◌else◌}
use Rattle.std.specs.Str.{bytes_eq}
use Rattle.unicode_normalization.specs.Forms.{nfc}
use Rattle.mf_locale.specs.declared.record.LocaleRecord.{LocaleRecord}
use Rattle.mf_meaning.specs.Ranks.{number_rank, rank}
use Rattle.mf_value.specs.declared.called.Ranked.{Ranked}
use Rattle.mf_value.specs.declared.called.Ranked.TheVariants as ranked
use Rattle.mf_value.specs.declared.value.Value.{Value}
use Rattle.mf_functions.specs.declared.selecting.Selecting.{Selecting}
use Rattle.mf_functions.specs.declared.selecting.Selecting.TheVariants as selecting

-- how well a key matches what was made of a value
abbrev pub rank_by : Selecting → List ℕ → Ranked
rank_by selecting.Nothing key = ranked.Never
rank_by (selecting.Text text) key = if bytes_eq (encode_utf8_all (nfc key)) (encode_utf8_all text) then ranked.Exact else ranked.Never
rank_by (selecting.Number exact category) key = number_rank exact category key

-- each key matches it as it matches the value
pub record IsOf (locale : LocaleRecord) (value : Value) (made : Selecting) : Type 0 where
  pub same : (key : List ℕ) → rank_by made key ≡ rank locale value key
