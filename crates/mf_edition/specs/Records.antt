-- The locale records of an edition, and the one that speaks for a tag.
use Rattle.std.specs.Prelude.{◌≡◌, ◌==◌, ℕ, Bool, Option, None, Some, List, [], ◌∷◌, if◌then◌else◌}
use Rattle.std.specs.Cmp.Lexicographic.{pointwise, slice_cmp}
use Rattle.std.specs.Option.{option_or, unwrap_or}
use Rattle.std.specs.Ordering.{nat_cmp}
use Rattle.std.specs.declared.cmp.Ordering.{Ordering}
use Rattle.mf_locale.specs.Chain.{chain_of}
use Rattle.mf_locale.specs.Records.{root_record}
use Rattle.mf_locale.specs.declared.record.LocaleRecord.{LocaleRecord}
use Rattle.mf_text.specs.Ordered.{put_ordered}
use Rattle.mf_edition.specs.Lookups.{found_by}

-- the locale record of a tag
pub record TaggedRecord : Type 0 where
  pub tag : List ℕ
  pub shared : LocaleRecord

-- tags are compared by their characters, which are ASCII and so their bytes
abbrev pub tag_cmp : List ℕ → List ℕ → Ordering
tag_cmp a b = slice_cmp nat_cmp a b

-- the records with one more, in the order of their tags: it takes the place of that of its tag
abbrev pub put_record : List TaggedRecord → TaggedRecord → List TaggedRecord
put_record records new = put_ordered (λ a b. tag_cmp a.tag b.tag) new records

-- the record is that of this tag
abbrev pub is_for : List ℕ → TaggedRecord → Bool
is_for tag tagged = pointwise ◌==◌ tagged.tag tag

-- the record of a tag, if it has one
abbrev pub record_of : List TaggedRecord → List ℕ → Option LocaleRecord
record_of records tag = found_by (is_for tag) (λ (tagged : TaggedRecord). tagged.shared) records

-- the record of the first of these tags that has one
abbrev pub first_record : List TaggedRecord → List (List ℕ) → Option LocaleRecord
first_record records [] = None
first_record records (tag ∷ tags) = option_or (record_of records tag) (first_record records tags)

-- the record that speaks for a tag: that of the first tag of its chain that has one, else the root record
abbrev pub place_for : List TaggedRecord → List ℕ → LocaleRecord
place_for records tag = unwrap_or (first_record records (chain_of tag)) root_record

-- a record that is put in is that of its tag from then on, and every other tag keeps its own
abbrev pub RecordsAreByTag : Type 0
RecordsAreByTag =
    (records : List TaggedRecord) (new : TaggedRecord) (tag : List ℕ)
    → record_of (put_record records new) tag
    ≡ if is_for tag new then Some new.shared else record_of records tag
