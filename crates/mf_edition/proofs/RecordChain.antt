-- The record that speaks for a tag: what comes first in its chain.
use Rattle.std.proofs.Common.{◌≡◌, ◌==◌, ℕ, Bool, true, false, Option, None, Some, List, [], ◌∷◌, cond, refl, ap, sym, ◌∙◌}
use Rattle.std.specs.Borrow.{Bor}
use Rattle.std.specs.Cmp.Lexicographic.{pointwise, bytes_decides}
use Rattle.std.specs.Option.{option_copied, option_or, unwrap_or}
use Rattle.mf_locale.specs.Chain.{ending_in_und, und}
use Rattle.mf_locale.specs.declared.record.LocaleRecord.{LocaleRecord}
use Rattle.mf_edition.specs.Records.{first_record, record_of, TaggedRecord}

-- what comes first, of what is left and what was left out
pub option_or_none : {X : Type 0} (o : Option X) → option_or o None ≡ o
option_or_none None = refl
option_or_none (Some x) = refl

option_or_same : {X : Type 0} (o : Option X) → option_or o None ≡ option_or (option_or o None) o
option_or_same None = refl
option_or_same (Some x) = refl

option_or_assoc : {X : Type 0} (o p q : Option X) → option_or o (option_or p q) ≡ option_or (option_or o p) q
option_or_assoc None p q = refl
option_or_assoc (Some x) p q = refl

-- the end of a chain is looked up last
pub first_record_und : (records : List TaggedRecord) (tags : List (List ℕ)) → first_record records (ending_in_und tags) ≡ option_or (first_record records tags) (record_of records und)
first_record_und records [] = option_or_none (record_of records und)
first_record_und records (tag ∷ []) = by (pointwise ◌==◌ tag und) refl
  where
    by : (b : Bool) → pointwise ◌==◌ tag und ≡ b → first_record records (cond b (tag ∷ []) (tag ∷ und ∷ [])) ≡ option_or (first_record records (tag ∷ [])) (record_of records und)
    by true same =
        let tags = (bytes_decides tag und).0 same in
        option_or_same (record_of records tag) ∙ ap (λ t. option_or (option_or (record_of records tag) None) (record_of records t)) tags
    by false other =
        ap (option_or (record_of records tag)) (option_or_none (record_of records und))
        ∙ ap (λ o. option_or o (record_of records und)) (sym (option_or_none (record_of records tag)))
first_record_und records (tag ∷ next ∷ more) =
    ap (option_or (record_of records tag)) (first_record_und records (next ∷ more))
    ∙ option_or_assoc (record_of records tag) (first_record records (next ∷ more)) (record_of records und)

-- what a borrowed record is
pub unwrap_copied : (o : Option (Bor LocaleRecord)) (d : Bor LocaleRecord) → (unwrap_or o d).now ≡ unwrap_or (option_copied o) d.now
unwrap_copied None d = refl
unwrap_copied (Some found) d = refl
