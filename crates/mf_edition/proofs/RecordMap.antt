-- The records of tags in a map and in a list: one that is put in, and one that is looked for.
use Rattle.std.proofs.Common.{◌≡◌, ℕ, Some, String, List, [], ◌∷◌, chars, cond, encode_utf8_all, refl, ap, sym, ◌∙◌, string_bytes}
use Rattle.std.proofs.lemmas.Str.{encodes-chars, IsUtf8-string_bytes}
use Rattle.std.specs.BTreeMap.{insert_entry, is_at}
use Rattle.std.specs.Cmp.Lexicographic.{bytes_decides, nat_list_cmp_total, nat_list_eq_equiv, slice_cmp, texts_ties}
use Rattle.std.specs.List.{AllZip}
use Rattle.std.specs.Map.{lookup}
use Rattle.std.specs.Ordering.{is_eq, match_ordering, nat_cmp}
use Rattle.std.specs.String.{string_cmp}
use Rattle.std.specs.declared.alloc.Global.{Global}
use Rattle.std.specs.declared.cmp.Ordering.{Ordering}
use Rattle.std.specs.declared.cmp.Ordering.TheVariants.{Less, Equal, Greater}
use Rattle.mf_locale.proofs.Truncations.{encode-IsLowerTag}
use Rattle.mf_locale.specs.Tag.{IsLowerTag}
use Rattle.mf_locale.specs.declared.record.LocaleRecord.{LocaleRecord}
use Rattle.mf_edition.proofs.Lookups.{found_put}
use Rattle.mf_edition.specs.RecordMap.{record_in, records_in}
use Rattle.mf_edition.specs.Records.{is_for, put_record, record_of, tag_cmp, RecordsAreByTag, TaggedRecord}

-- tags that compare as equal are the same
same_tag : (a b : List ℕ) → tag_cmp a b ≡ Equal → a ≡ b
same_tag a b equal = (bytes_decides a b).0 (texts_ties a b ∙ ap is_eq equal)

-- the bytes of a tag are its characters
pub key_of_tag : (key : String Global) (tag : List ℕ) → IsLowerTag tag → chars (string_bytes key) ≡ tag → string_bytes key ≡ tag
key_of_tag key tag kept is =
    sym (encodes-chars (string_bytes key) (IsUtf8-string_bytes key)) ∙ ap encode_utf8_all is ∙ encode-IsLowerTag tag kept

-- an entry that is put in, seen as a record that is
pub records_put : (entries : List (String Global × LocaleRecord)) (key : String Global) (shared : LocaleRecord)
    → records_in (insert_entry string_cmp entries key shared) ≡ put_record (records_in entries) (record_in (key, shared))
records_put [] key shared = refl
records_put (entry ∷ entries) key shared = by (string_cmp key entry.0) refl (records_put entries key shared)
  where
    by : (o : Ordering) → string_cmp key entry.0 ≡ o → records_in (insert_entry string_cmp entries key shared) ≡ put_record (records_in entries) (record_in (key, shared))
        → records_in (match_ordering o ((key, shared) ∷ entry ∷ entries) ((entry.0, shared) ∷ entries) (entry ∷ insert_entry string_cmp entries key shared))
        ≡ match_ordering o (record_in (key, shared) ∷ record_in entry ∷ records_in entries) (record_in (key, shared) ∷ records_in entries) (record_in entry ∷ put_record (records_in entries) (record_in (key, shared)))
    by Less is rest = refl
    by Equal is rest = ap (λ (tag : List ℕ). record { tag = tag; shared = shared } ∷ records_in entries) (sym (same_tag (string_bytes key) (string_bytes entry.0) is))
    by Greater is rest = ap (λ more. record_in entry ∷ more) rest

-- the record of a tag is what is found under its characters
pub record_found : (entries : List (String Global × LocaleRecord)) (tag : List ℕ)
    → lookup (is_at (λ key. slice_cmp nat_cmp tag (string_bytes key))) entries ≡ record_of (records_in entries) tag
record_found [] tag = refl
record_found (entry ∷ entries) tag =
    let there = sym (texts_ties tag (string_bytes entry.0)) ∙ nat_list_eq_equiv.symm tag (string_bytes entry.0) in
    ap (λ b. cond b (Some entry.1) (lookup (is_at (λ key. slice_cmp nat_cmp tag (string_bytes key))) entries)) there
    ∙ ap (cond (is_for tag (record_in entry)) (Some entry.1)) (record_found entries tag)

-- copies of the entries are the same records
pub records_shared : (entries copies : List (String Global × LocaleRecord))
    → AllZip (λ entry copy. (string_bytes copy.0 ≡ string_bytes entry.0) × (copy.1 ≡ entry.1)) entries copies → records_in copies ≡ records_in entries
records_shared [] [] all = refl
records_shared [] (copy ∷ copies) all = absurd all
records_shared (entry ∷ entries) [] all = absurd all
records_shared (entry ∷ entries) (copy ∷ copies) all =
    λ i. record { tag = all.0.0 i; shared = all.0.1 i } ∷ records_shared entries copies all.1 i

pub by_tag : RecordsAreByTag
by_tag records new tag =
    found_put (λ (tagged : TaggedRecord). tagged.tag) tag_cmp nat_list_cmp_total same_tag tag (is_for tag) (λ (tagged : TaggedRecord). tagged.shared)
    (λ (tagged : TaggedRecord). texts_ties tagged.tag tag) records new
