-- A tag cut at its last hyphen, and the chain that is made by such cuts.
use Rattle.std.proofs.Common.{◌≡◌, ◌==◌, ◌<◌, ◌≢◌, ◌&&◌, ◌+◌, ℕ, true, false, List, [], ◌∷◌, ◌++◌, length, map, get_or, take, drop, cond, refl, ap, sym, ◌∙◌, subst, nat_le, arith, add-one, drop-cons, length-append, length-drop, length-take, encode_utf8_all}
use Rattle.std.proofs.lemmas.Bool.Decides.{nat_tests}
use Rattle.std.proofs.lemmas.List.{take-append-drop, get_or-drop}
use Rattle.std.proofs.lemmas.List.Folds.{list_all-append}
use Rattle.std.proofs.lemmas.List.Splits.{length-slice_split, join_with_byte-slice_split}
use Rattle.std.proofs.lemmas.Str.Ascii.{encodes-IsAscii}
use Rattle.std.specs.Char.{to_ascii_lowercase}
use Rattle.std.specs.Cmp.Lexicographic.{pointwise}
use Rattle.std.specs.List.{join_with_byte, list_all, onto_first}
use Rattle.mf_locale.specs.Chain.{ending_in_und, fronts, truncations, und}
use Rattle.mf_locale.specs.Tag.{are_subtags, is_first_subtag, is_further_subtag, is_tag, lower_case, subtags, IsLowerTag}
use Rattle.mf_locale.proofs.Parts.{IsAscii-tag, NoHyphen, NoHyphen-from_reads, subtags_one}

-- a text has at least one part
pub no_parts : (text : List ℕ) → subtags text ≡ [] → ⊥
no_parts text none =
    let counted = ap length none in
    omega (arith, length-slice_split (λ c. c == 45) text, counted)

onto_first-append : (c : ℕ) (parts : List (List ℕ)) (last : List ℕ) → (parts ≡ [] → ⊥) → onto_first c (parts ++ last ∷ []) ≡ onto_first c parts ++ last ∷ []
onto_first-append c [] last some = absurd (some refl)
onto_first-append c (part ∷ parts) last some = refl

-- the part after the last hyphen
subtags_last : (front last : List ℕ) → NoHyphen last → subtags (front ++ 45 ∷ last) ≡ subtags front ++ last ∷ []
subtags_last [] last none = ap (λ parts. [] ∷ parts) (subtags_one last none)
subtags_last (c ∷ front) last none =
    let rest = subtags_last front last none in
    elim (c == 45) as (λ b. cond b ([] ∷ subtags (front ++ 45 ∷ last)) (onto_first c (subtags (front ++ 45 ∷ last))) ≡ cond b ([] ∷ subtags front) (onto_first c (subtags front)) ++ last ∷ [])
    [ true ↦ ap (λ parts. [] ∷ parts) rest | false ↦ ap (onto_first c) rest ∙ onto_first-append c (subtags front) last (no_parts front) ]

fronts_push : (parts : List (List ℕ)) (last : List ℕ) → fronts (parts ++ last ∷ []) ≡ (parts ++ last ∷ []) ∷ fronts parts
fronts_push [] last = refl
fronts_push (part ∷ parts) last = ap (λ fs. map (λ front. part ∷ front) fs ++ (part ∷ []) ∷ []) (fronts_push parts last)

joined : List (List (List ℕ)) → List (List ℕ)
joined parts = map (join_with_byte 45) parts

whole : (text : List ℕ) → join_with_byte 45 (subtags text) ≡ text
whole text = join_with_byte-slice_split 45 text

truncations_last : (front last : List ℕ) → NoHyphen last → truncations (front ++ 45 ∷ last) ≡ (front ++ 45 ∷ last) ∷ truncations front
truncations_last front last none =
    let parts = subtags_last front last none in
    ap (λ ps. map (join_with_byte 45) (fronts ps)) parts
    ∙ ap (map (join_with_byte 45)) (fronts_push (subtags front) last)
    ∙ ap (λ t. t ∷ truncations front) (ap (join_with_byte 45) (sym parts) ∙ whole (front ++ 45 ∷ last))

pub truncations_one : (text : List ℕ) → ((i : ℕ) → i < length text → get_or text i 0 ≢ 45) → truncations text ≡ text ∷ []
truncations_one text none =
    let parts = subtags_one text (NoHyphen-from_reads text none) in
    ap (λ ps. map (join_with_byte 45) (fronts ps)) parts ∙ ap (λ t. t ∷ []) (ap (join_with_byte 45) (sym parts) ∙ whole text)

-- a text cut at the place of its last hyphen
pub record IsLastHyphen (text : List ℕ) (at : ℕ) : Type 0 where
  pub inside : at < length text
  pub hyphen : get_or text at 0 ≡ 45
  pub last : (i : ℕ) → at < i → i < length text → get_or text i 0 ≢ 45

cut_at : (text : List ℕ) (at : ℕ) → IsLastHyphen text at → take at text ++ 45 ∷ drop (at + 1) text ≡ text
cut_at text at cut =
    let inside : at < length text = cut.inside in
    let rest : drop at text ≡ get_or text at 0 ∷ drop (at + 1) text = rw (add-one, drop-cons text at 0) refl in
    ap (λ r. take at text ++ r) (ap (λ c. c ∷ drop (at + 1) text) (sym cut.hyphen) ∙ sym rest) ∙ take-append-drop at text

none_after : (text : List ℕ) (at : ℕ) → IsLastHyphen text at → NoHyphen (drop (at + 1) text)
none_after text at cut = NoHyphen-from_reads (drop (at + 1) text)
    (λ i inside. let moved = get_or-drop (at + 1) text i 0 in let shorter = length-drop (at + 1) text in rw moved (cut.last (at + 1 + i) (omega arith) (omega arith)))

pub truncations_at : (text : List ℕ) (at : ℕ) → IsLastHyphen text at → truncations text ≡ text ∷ truncations (take at text)
truncations_at text at cut =
    subst (λ t. truncations t ≡ t ∷ truncations (take at text)) (cut_at text at cut)
    (truncations_last (take at text) (drop (at + 1) text) (none_after text at cut))

-- what stands before the last hyphen of a tag is a tag
are_subtags_front : (parts : List (List ℕ)) (last : List ℕ) → (parts ≡ [] → ⊥) → are_subtags (parts ++ last ∷ []) ≡ true → are_subtags parts ≡ true
are_subtags_front [] last some passes = absurd (some refl)
are_subtags_front (first ∷ further) last some passes =
    let halves : (is_first_subtag first && (list_all is_further_subtag further && (is_further_subtag last && true))) ≡ true = ap (λ r. is_first_subtag first && r) (sym (list_all-append is_further_subtag further (last ∷ []))) ∙ passes in
    grind (arith, halves)

is_tag_front : (front last : List ℕ) → NoHyphen last → is_tag (front ++ 45 ∷ last) ≡ true → is_tag front ≡ true
is_tag_front front last none passes =
    let short : nat_le (length (front ++ 45 ∷ last)) 35 ≡ true = grind arith in
    let parts : are_subtags (subtags (front ++ 45 ∷ last)) ≡ true = grind arith in
    let fewer : nat_le (length front) 35 ≡ true = grind (arith, nat_tests, length-append front (45 ∷ last), short) in
    let front_parts = are_subtags_front (subtags front) last (no_parts front) (ap are_subtags (sym (subtags_last front last none)) ∙ parts) in
    ap (λ r. r && are_subtags (subtags front)) fewer ∙ front_parts

lower_front : (front rest : List ℕ) → lower_case (front ++ rest) ≡ front ++ rest → lower_case front ≡ front
lower_front [] rest same = refl
lower_front (c ∷ front) rest same =
    let here : to_ascii_lowercase c ≡ c = cc in
    let there : lower_case (front ++ rest) ≡ front ++ rest = cc in
    ap (λ d. d ∷ lower_case front) here ∙ ap (λ t. c ∷ t) (lower_front front rest there)

pub IsLowerTag_at : (text : List ℕ) (at : ℕ) → IsLowerTag text → IsLastHyphen text at → IsLowerTag (take at text)
IsLowerTag_at text at kept cut =
    let same = cut_at text at cut in
    record {
      tag = is_tag_front (take at text) (drop (at + 1) text) (none_after text at cut) (ap is_tag same ∙ kept.tag);
      lower = lower_front (take at text) (45 ∷ drop (at + 1) text) (ap lower_case same ∙ kept.lower ∙ sym same);
    }

pub length_at : (text : List ℕ) (at : ℕ) → IsLastHyphen text at → length (take at text) < length text
length_at text at cut = let inside : at < length text = cut.inside in omega (arith, length-take at text)

-- the bytes of a tag are its characters
pub encode-IsLowerTag : (text : List ℕ) → IsLowerTag text → encode_utf8_all text ≡ text
encode-IsLowerTag text kept = encodes-IsAscii text (IsAscii-tag text kept.tag)

-- the end of a chain
pub ending_in_und-there : (tags : List (List ℕ)) (tag : List ℕ) → pointwise ◌==◌ tag und ≡ true → ending_in_und (tags ++ tag ∷ []) ≡ tags ++ tag ∷ []
ending_in_und-there [] tag there = ap (λ b. cond b (tag ∷ []) (tag ∷ und ∷ [])) there
ending_in_und-there (first ∷ []) tag there = ap (λ b. first ∷ cond b (tag ∷ []) (tag ∷ und ∷ [])) there
ending_in_und-there (first ∷ next ∷ more) tag there = ap (λ ts. first ∷ ts) (ending_in_und-there (next ∷ more) tag there)

pub ending_in_und-added : (tags : List (List ℕ)) (tag : List ℕ) → pointwise ◌==◌ tag und ≡ false → ending_in_und (tags ++ tag ∷ []) ≡ (tags ++ tag ∷ []) ++ und ∷ []
ending_in_und-added [] tag missing = ap (λ b. cond b (tag ∷ []) (tag ∷ und ∷ [])) missing
ending_in_und-added (first ∷ []) tag missing = ap (λ b. first ∷ cond b (tag ∷ []) (tag ∷ und ∷ [])) missing
ending_in_und-added (first ∷ next ∷ more) tag missing = ap (λ ts. first ∷ ts) (ending_in_und-added (next ∷ more) tag missing)
