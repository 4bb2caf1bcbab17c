-- What is kept beside the entries of a table, after one entry more.
use Rattle.std.proofs.Common.{◌≡◌, ◌<◌, ◌+◌, ℕ, Bool, true, false, cond, List, [], ◌∷◌, ◌++◌, drop, take, length, get_or, Option, Some, None, refl, ap, sym, subst, ◌∙◌, encode_utf8_all}
use Rattle.std.specs.Prelude.{◌||◌, option_map, if◌then◌else◌}
use Rattle.std.proofs.Math.Numerals.{add-one}
use Rattle.std.proofs.lemmas.List.{take_more, drop_more}
use Rattle.std.proofs.lemmas.List.Folds.{list_any-append}
use Rattle.std.proofs.lemmas.Map.Text.{is_eq-slice_cmp}
use Rattle.std.proofs.lemmas.Slice.Eq.{bytes_eq-Decides}
use Rattle.std.proofs.lemmas.Str.{encodes_same}
use Rattle.std.specs.BTreeMap.{BTreeMap, get, is_at}
use Rattle.std.specs.List.{list_any}
use Rattle.std.specs.Option.{is_some, option_or}
use Rattle.unicode_normalization.specs.Forms.{nfc}
use Rattle.mf_text.specs.Order.{byte_cmp}
use Rattle.mf_text.specs.declared.pair.Pair.{Pair}
use Rattle.mf_value.specs.Entries.{has_form, place_for, place_from, repeated_from, repeated_key, text_for}
use Rattle.mf_value.specs.Index.{text_at, IsIndexBefore}

or_none : {X : Type 0} → (o : Option X) → o ≡ option_or o None
or_none None = refl
or_none (Some x) = refl

or_same : {X : Type 0} → (o p q : Option X) → is_some o ≡ true → option_or o p ≡ option_or o q
or_same None p q is = cc
or_same (Some x) p q is = refl

is_none : {X : Type 0} → (o : Option X) → is_some o ≡ false → o ≡ None
is_none None is = refl
is_none (Some x) is = cc

-- the text of the first entry with a form is that of the entry at its place
shifted_by : (at : ℕ) (test : Bool) (one other : Option ℕ) → one ≡ option_map (λ place. place + 1) other → (if test then Some (at + 1) else one) ≡ option_map (λ place. place + 1) (if test then Some at else other)
shifted_by at true one other is = refl
shifted_by at false one other is = is

shifted : (form : List ℕ) (at : ℕ) (entries : List Pair) → place_from form (at + 1) entries ≡ option_map (λ place. place + 1) (place_from form at entries)
shifted form at [] = refl
shifted form at (entry ∷ others) = shifted_by at (has_form form entry) _ _ (shifted form (at + 1) others)

behind_first : (entry : Pair) (entries : List Pair) (place : Option ℕ) → text_at (entry ∷ entries) (option_map (λ place. place + 1) place) ≡ text_at entries place
behind_first entry entries None = refl
behind_first entry entries (Some place) = ap (λ n. text_at (entry ∷ entries) (Some n)) (add-one place)

found_by : (entry : Pair) (others : List Pair) (test : Bool) (place : Option ℕ) (text : Option (List ℕ)) → text_at (entry ∷ others) place ≡ text → text_at (entry ∷ others) (if test then Some 0 else place) ≡ (if test then Some entry.value else text)
found_by entry others true place text is = refl
found_by entry others false place text is = is

pub text_found : (form : List ℕ) (entries : List Pair) → text_at entries (place_for form entries) ≡ text_for form entries
text_found form [] = refl
text_found form (entry ∷ others) =
    found_by entry others (has_form form entry) _ _ (ap (text_at (entry ∷ others)) (shifted form 0 others) ∙ behind_first entry others (place_for form others) ∙ text_found form others)

-- the form of a key
tied : (key form : List ℕ) (entry : Pair) → key ≡ nfc entry.name → is_at (byte_cmp key) form ≡ has_form form entry
tied key form entry of =
    ap (λ (k : List ℕ). is_at (byte_cmp k) form) of ∙ is_eq-slice_cmp (encode_utf8_all (nfc entry.name)) (encode_utf8_all form)

same_form : (form : List ℕ) (entry : Pair) → has_form form entry ≡ true → nfc entry.name ≡ form
same_form form entry is = encodes_same (nfc entry.name) form ((bytes_eq-Decides (encode_utf8_all (nfc entry.name)) (encode_utf8_all form)).0 is)

module _ (entries : List Pair) (at : ℕ) (entry : Pair) (key : List ℕ) (inside : at < length entries) (is : entry ≡ get_or entries at entry) (of : key ≡ nfc entry.name) where
  abbrev others : List Pair
  others = drop (at + 1) entries

  dropped : drop at entries ≡ entry ∷ drop (at + 1) entries
  dropped = drop_more entries at entry inside ∙ ap (λ e. e ∷ drop (at + 1) entries) (sym is)

  taken : take (at + 1) entries ≡ take at entries ++ entry ∷ []
  taken = take_more entries at entry inside ∙ ap (λ e. take at entries ++ e ∷ []) (sym is)

  -- among the entries before it and it
  seen_more : (form : List ℕ) → list_any (has_form form) (take (at + 1) entries) ≡ (list_any (has_form form) (take at entries) || has_form form entry)
  seen_more form = ap (list_any (has_form form)) taken ∙ list_any-append (has_form form) (take at entries) (entry ∷ []) ∙ ap (λ b. list_any (has_form form) (take at entries) || b) (or_false (has_form form entry))
    where
      or_false : (b : Bool) → (b || false) ≡ b
      or_false true = refl
      or_false false = refl

  -- whether its form was seen
  key_seen : (found : List ℕ → Option ℕ) (again : Option ℕ) → IsIndexBefore entries at found again → list_any (has_form (nfc entry.name)) (take at entries) ≡ is_some (found key)
  key_seen found again before = ap (λ form. list_any (has_form form) (take at entries)) (sym of) ∙ sym (before.seen key)

  found_there : (found : List ℕ → Option ℕ) (form : List ℕ) → has_form form entry ≡ true → found form ≡ found key
  found_there found form same = ap found (sym (same_form form entry same) ∙ sym of)

  places_before : (found : List ℕ → Option ℕ) (again : Option ℕ) → IsIndexBefore entries at found again → (form : List ℕ) →
      option_or (found form) (if has_form form entry then Some at else place_from form (at + 1) others) ≡ place_for form entries
  places_before found again before form = ap (λ es. option_or (found form) (place_from form at es)) (sym dropped) ∙ before.places form

  repeated_before : (found : List ℕ → Option ℕ) (again : Option ℕ) → IsIndexBefore entries at found again →
      option_or again (if is_some (found key) then Some at else repeated_from (take (at + 1) entries) (at + 1) others) ≡ repeated_key entries
  repeated_before found again before =
      ap (λ b. option_or again (if b then Some at else repeated_from (take (at + 1) entries) (at + 1) others)) (sym (key_seen found again before))
      ∙ ap (λ es. option_or again (if list_any (has_form (nfc entry.name)) (take at entries) then Some at else repeated_from es (at + 1) others)) taken
      ∙ ap (λ es. option_or again (repeated_from (take at entries) at es)) (sym dropped)
      ∙ before.repeated

  -- a form that was seen
  pub seen_again : (found : List ℕ → Option ℕ) (again : Option ℕ) → is_some (found key) ≡ true → IsIndexBefore entries at found again → IsIndexBefore entries (at + 1) found (option_or again (Some at))
  seen_again found again there before = record {
    places = λ form. places form (has_form form entry) refl ∙ places_before found again before form;
    seen = λ form. before.seen form ∙ passed form (has_form form entry) refl ∙ sym (seen_more form);
    repeated = repeated again ∙ ap (λ b. option_or again (if b then Some at else repeated_from (take (at + 1) entries) (at + 1) others)) (sym there) ∙ repeated_before found again before;
  }
    where
      places : (form : List ℕ) (test : Bool) → has_form form entry ≡ test → option_or (found form) (place_from form (at + 1) others) ≡ option_or (found form) (if test then Some at else place_from form (at + 1) others)
      places form true same = or_same (found form) _ _ (ap is_some (found_there found form same) ∙ there)
      places form false same = refl

      passed : (form : List ℕ) (test : Bool) → has_form form entry ≡ test → list_any (has_form form) (take at entries) ≡ (list_any (has_form form) (take at entries) || test)
      passed form true same = was ∙ ap (λ b. b || true) (sym was)
        where
          was : list_any (has_form form) (take at entries) ≡ true
          was = sym (before.seen form) ∙ ap is_some (found_there found form same) ∙ there
      passed form false same = sym (or_false (list_any (has_form form) (take at entries)))
        where
          or_false : (b : Bool) → (b || false) ≡ b
          or_false true = refl
          or_false false = refl

      repeated : (o : Option ℕ) → option_or (option_or o (Some at)) (repeated_from (take (at + 1) entries) (at + 1) others) ≡ option_or o (Some at)
      repeated None = refl
      repeated (Some place) = refl

  -- a form that is new
  pub seen_first : (found more : List ℕ → Option ℕ) (again : Option ℕ) → is_some (found key) ≡ false → ((form : List ℕ) → more form ≡ cond (is_at (byte_cmp key) form) (Some at) (found form)) → IsIndexBefore entries at found again → IsIndexBefore entries (at + 1) more again
  seen_first found more again new entered before = record {
    places = λ form. ap (λ o. option_or o (place_from form (at + 1) others)) (given form) ∙ places form (has_form form entry) refl ∙ places_before found again before form;
    seen = λ form. ap is_some (given form) ∙ passed (has_form form entry) (found form) ∙ ap (λ b. b || has_form form entry) (before.seen form) ∙ sym (seen_more form);
    repeated = ap (λ b. option_or again (if b then Some at else repeated_from (take (at + 1) entries) (at + 1) others)) (sym new) ∙ repeated_before found again before;
  }
    where
      given : (form : List ℕ) → more form ≡ cond (has_form form entry) (Some at) (found form)
      given form = entered form ∙ ap (λ b. cond b (Some at) (found form)) (tied key form entry of)

      places : (form : List ℕ) (test : Bool) → has_form form entry ≡ test → option_or (cond test (Some at) (found form)) (place_from form (at + 1) others) ≡ option_or (found form) (if test then Some at else place_from form (at + 1) others)
      places form true same = ap (λ o. option_or o (Some at)) (sym (is_none (found form) (ap is_some (found_there found form same) ∙ new)))
      places form false same = refl

      passed : (test : Bool) (o : Option ℕ) → is_some (cond test (Some at) o) ≡ (is_some o || test)
      passed true None = refl
      passed true (Some place) = refl
      passed false None = refl
      passed false (Some place) = refl

-- in other words
pub kept_as : (entries : List Pair) (at : ℕ) (one other : BTreeMap (List ℕ) ℕ) (again same : Option ℕ) → one ≡ other → again ≡ same → IsIndexBefore entries at (λ form. get byte_cmp one form) again → IsIndexBefore entries at (λ form. get byte_cmp other form) same
kept_as entries at one other again same is same_is before =
    let P : BTreeMap (List ℕ) ℕ → Option ℕ → Type 0 = λ m o. IsIndexBefore entries at (λ form. get byte_cmp m form) o in
    subst (λ m. P m same) is (subst (P one) same_is before)
