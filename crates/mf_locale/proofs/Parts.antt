-- What the parts of a text have in common with the text.
use Rattle.std.proofs.Common.{◌≡◌, ◌==◌, ◌<◌, ◌≤◌, ◌≢◌, ◌&&◌, ◌||◌, ℕ, Bool, true, false, List, [], ◌∷◌, ◌++◌, length, map, get_or, cond, refl, ap, sym, ◌∙◌, nat_le, arith, chars}
use Rattle.std.proofs.lemmas.Bool.Decides.{nat_tests}
use Rattle.std.proofs.lemmas.List.{length-map}
use Rattle.std.proofs.lemmas.List.Elements.{All-from_get_or}
use Rattle.std.proofs.lemmas.List.Folds.{list_all-map}
use Rattle.std.proofs.lemmas.List.Splits.{slice_split_none, slice_split_at}
use Rattle.std.proofs.lemmas.Str.{chars-IsAscii, encodes-chars, encodes-IsAscii}
use Rattle.std.proofs.lemmas.Str.Ascii.{IsAscii-nil, IsAscii-cons, lowercase-lowercase}
use Rattle.std.specs.Char.{is_ascii_alphabetic, is_ascii_alphanumeric, to_ascii_lowercase}
use Rattle.std.specs.Cmp.{both_ways}
use Rattle.std.specs.List.{All, list_all, onto_first, slice_split}
use Rattle.std.specs.Str.{IsAscii, IsUtf8}
use Rattle.mf_locale.specs.Tag.{are_subtags, is_first_subtag, is_further_subtag, is_tag, subtags, lower_case, IsLowerTag}

-- a test of each element of each part
list_all-onto_first : (q : ℕ → Bool) (x : ℕ) (parts : List (List ℕ)) → list_all (list_all q) (onto_first x parts) ≡ (q x && list_all (list_all q) parts)
list_all-onto_first q x [] = elim (q x) as (λ b. ((b && true) && true) ≡ (b && true)) [ true ↦ refl | false ↦ refl ]
list_all-onto_first q x (part ∷ parts) =
    elim (q x) as (λ b. ((b && list_all q part) && list_all (list_all q) parts) ≡ (b && (list_all q part && list_all (list_all q) parts))) [ true ↦ refl | false ↦ refl ]

list_all-slice_split : (p q : ℕ → Bool) (xs : List ℕ) → list_all (list_all q) (slice_split p xs) ≡ list_all (λ c. p c || q c) xs
list_all-slice_split p q [] = refl
list_all-slice_split p q (x ∷ xs) =
    let rest = list_all-slice_split p q xs in
    elim (p x) as (λ b. list_all (list_all q) (cond b ([] ∷ slice_split p xs) (onto_first x (slice_split p xs))) ≡ ((b || q x) && list_all (λ c. p c || q c) xs))
    [ true ↦ rest | false ↦ list_all-onto_first q x (slice_split p xs) ∙ ap (λ r. q x && r) rest ]

list_all-weaker : {X : Type 0} (p q : X → Bool) (xs : List X) → ((x : X) → p x ≡ true → q x ≡ true) → list_all p xs ≡ true → list_all q xs ≡ true
list_all-weaker p q [] weaker passes = refl
list_all-weaker p q (x ∷ xs) weaker passes = grind (arith, list_all-weaker p q xs weaker, weaker x)

list_all-agree : {X : Type 0} (p q : X → Bool) (xs : List X) → ((x : X) → p x ≡ q x) → list_all p xs ≡ list_all q xs
list_all-agree p q [] agree = refl
list_all-agree p q (x ∷ xs) agree = grind (arith, list_all-agree p q xs agree, agree x)

-- letters and digits are ASCII
letters_are : (c : ℕ) → is_ascii_alphabetic c ≡ true → is_ascii_alphanumeric c ≡ true
letters_are c passes = grind (arith, nat_tests)

kept_ascii : (c : ℕ) → ((c == 45) || is_ascii_alphanumeric c) ≡ true → c < 128
kept_ascii c passes = grind (arith, nat_tests)

first_all : (part : List ℕ) → is_first_subtag part ≡ true → list_all is_ascii_alphanumeric part ≡ true
first_all part passes =
    let letters : list_all is_ascii_alphabetic part ≡ true = grind arith in
    list_all-weaker is_ascii_alphabetic is_ascii_alphanumeric part letters_are letters

further_all : (part : List ℕ) → is_further_subtag part ≡ true → list_all is_ascii_alphanumeric part ≡ true
further_all part passes = grind arith

subtags_all : (parts : List (List ℕ)) → are_subtags parts ≡ true → list_all (list_all is_ascii_alphanumeric) parts ≡ true
subtags_all [] passes = refl
subtags_all (first ∷ further) passes =
    let one : is_first_subtag first ≡ true = grind arith in
    let rest : list_all is_further_subtag further ≡ true = grind arith in
    let here = first_all first one in
    let there = list_all-weaker is_further_subtag (list_all is_ascii_alphanumeric) further further_all rest in
    grind (arith, here, there)

ascii_of : (p : ℕ → Bool) (xs : List ℕ) → ((x : ℕ) → p x ≡ true → x < 128) → list_all p xs ≡ true → IsAscii xs
ascii_of p [] small passes = IsAscii-nil
ascii_of p (x ∷ xs) small passes =
    let here : p x ≡ true = grind arith in
    let there : list_all p xs ≡ true = grind arith in
    IsAscii-cons x xs (small x here) (ascii_of p xs small there)

-- a tag has ASCII characters alone
pub IsAscii-tag : (text : List ℕ) → is_tag text ≡ true → IsAscii text
IsAscii-tag text passes =
    let parts : are_subtags (subtags text) ≡ true = grind arith in
    ascii_of (λ c. (c == 45) || is_ascii_alphanumeric c) text kept_ascii
    (sym (list_all-slice_split (λ c. c == 45) is_ascii_alphanumeric text) ∙ subtags_all (subtags text) parts)

-- so a text is a tag exactly where its bytes have the shape of one
pub is_tag-chars : (bytes : List ℕ) → IsUtf8 bytes → is_tag bytes ≡ is_tag (chars bytes)
is_tag-chars bytes utf8 =
    both_ways _ _
    (λ passes. ap is_tag (chars-IsAscii bytes (IsAscii-tag bytes passes)) ∙ passes)
    (λ passes. ap is_tag (sym (encodes-chars bytes utf8) ∙ encodes-IsAscii (chars bytes) (IsAscii-tag (chars bytes) passes)) ∙ passes)

-- the change of case leaves the parts as they are
map-onto_first : (f : ℕ → ℕ) (x : ℕ) (parts : List (List ℕ)) → map (map f) (onto_first x parts) ≡ onto_first (f x) (map (map f) parts)
map-onto_first f x [] = refl
map-onto_first f x (part ∷ parts) = refl

slice_split-map : (p : ℕ → Bool) (f : ℕ → ℕ) → ((x : ℕ) → p (f x) ≡ p x) → (xs : List ℕ) → slice_split p (map f xs) ≡ map (map f) (slice_split p xs)
slice_split-map p f same [] = refl
slice_split-map p f same (x ∷ xs) =
    let rest = slice_split-map p f same xs in
    ap (λ b. cond b ([] ∷ slice_split p (map f xs)) (onto_first (f x) (slice_split p (map f xs)))) (same x)
    ∙ (elim (p x) as (λ b. cond b ([] ∷ slice_split p (map f xs)) (onto_first (f x) (slice_split p (map f xs))) ≡ map (map f) (cond b ([] ∷ slice_split p xs) (onto_first x (slice_split p xs))))
    [ true ↦ ap (λ r. [] ∷ r) rest | false ↦ ap (onto_first (f x)) rest ∙ sym (map-onto_first f x (slice_split p xs)) ])

lower_hyphen : (c : ℕ) → (to_ascii_lowercase c == 45) ≡ (c == 45)
lower_hyphen c = grind (arith, nat_tests)

lower_letter : (c : ℕ) → is_ascii_alphabetic (to_ascii_lowercase c) ≡ is_ascii_alphabetic c
lower_letter c = grind (arith, nat_tests)

lower_letter_or_digit : (c : ℕ) → is_ascii_alphanumeric (to_ascii_lowercase c) ≡ is_ascii_alphanumeric c
lower_letter_or_digit c = grind (arith, nat_tests)

lower_first : (part : List ℕ) → is_first_subtag (lower_case part) ≡ is_first_subtag part
lower_first part =
    ap (λ n. (nat_le 2 n && nat_le n 8) && list_all is_ascii_alphabetic (lower_case part)) (length-map part to_ascii_lowercase)
    ∙ ap (λ r. (nat_le 2 (length part) && nat_le (length part) 8) && r)
    (list_all-map is_ascii_alphabetic to_ascii_lowercase part ∙ list_all-agree (λ c. is_ascii_alphabetic (to_ascii_lowercase c)) is_ascii_alphabetic part lower_letter)

lower_further : (part : List ℕ) → is_further_subtag (lower_case part) ≡ is_further_subtag part
lower_further part =
    ap (λ n. (nat_le 1 n && nat_le n 8) && list_all is_ascii_alphanumeric (lower_case part)) (length-map part to_ascii_lowercase)
    ∙ ap (λ r. (nat_le 1 (length part) && nat_le (length part) 8) && r)
    (list_all-map is_ascii_alphanumeric to_ascii_lowercase part ∙ list_all-agree (λ c. is_ascii_alphanumeric (to_ascii_lowercase c)) is_ascii_alphanumeric part lower_letter_or_digit)

lower_subtags : (parts : List (List ℕ)) → are_subtags (map lower_case parts) ≡ are_subtags parts
lower_subtags [] = refl
lower_subtags (first ∷ further) =
    ap (λ r. r && list_all is_further_subtag (map lower_case further)) (lower_first first)
    ∙ ap (λ r. is_first_subtag first && r)
    (list_all-map is_further_subtag lower_case further ∙ list_all-agree (λ part. is_further_subtag (lower_case part)) is_further_subtag further lower_further)

pub is_tag-lower_case : (text : List ℕ) → is_tag (lower_case text) ≡ is_tag text
is_tag-lower_case text =
    ap (λ n. nat_le n 35 && are_subtags (subtags (lower_case text))) (length-map text to_ascii_lowercase)
    ∙ ap (λ r. nat_le (length text) 35 && r)
    (ap are_subtags (slice_split-map (λ c. c == 45) to_ascii_lowercase lower_hyphen text) ∙ lower_subtags (subtags text))

lower_lower : (text : List ℕ) → lower_case (lower_case text) ≡ lower_case text
lower_lower [] = refl
lower_lower (c ∷ text) = ap (λ d. d ∷ lower_case (lower_case text)) (lowercase-lowercase c) ∙ ap (λ r. to_ascii_lowercase c ∷ r) (lower_lower text)

-- the text of a tag in lower case
pub IsLowerTag-lower_case : (text : List ℕ) → is_tag text ≡ true → IsLowerTag (lower_case text)
IsLowerTag-lower_case text passes = record { tag = is_tag-lower_case text ∙ passes; lower = lower_lower text }

IsAscii-lower_case : (text : List ℕ) → is_tag text ≡ true → IsAscii (lower_case text)
IsAscii-lower_case text passes = IsAscii-tag (lower_case text) (is_tag-lower_case text ∙ passes)

pub chars-lower_case : (bytes : List ℕ) → IsUtf8 bytes → is_tag (chars bytes) ≡ true → chars (lower_case bytes) ≡ lower_case (chars bytes)
chars-lower_case bytes utf8 passes =
    let same = is_tag-chars bytes utf8 ∙ passes in
    chars-IsAscii (lower_case bytes) (IsAscii-lower_case bytes same) ∙ ap lower_case (sym (chars-IsAscii bytes (IsAscii-tag bytes same)))

-- the shape of a text by its length
pub is_tag-short : (bytes : List ℕ) → length bytes ≤ 35 → is_tag bytes ≡ are_subtags (subtags bytes)
is_tag-short bytes short = let fits : nat_le (length bytes) 35 ≡ true = grind (arith, nat_tests) in ap (λ r. r && are_subtags (subtags bytes)) fits

pub is_tag-long : (bytes : List ℕ) → 35 < length bytes → is_tag bytes ≡ false
is_tag-long bytes long = let fits : nat_le (length bytes) 35 ≡ false = grind (arith, nat_tests) in ap (λ r. r && are_subtags (subtags bytes)) fits

-- a text with no hyphen has one part
not_hyphen : (c : ℕ) → c ≢ 45 → (c == 45) ≡ false
not_hyphen c other = grind (arith, nat_tests)

pub NoHyphen : List ℕ → Type 0
NoHyphen text = All (λ c. (c == 45) ≡ false) text

pub NoHyphen-from_reads : (text : List ℕ) → ((i : ℕ) → i < length text → get_or text i 0 ≢ 45) → NoHyphen text
unfolding NoHyphen
NoHyphen-from_reads text none = All-from_get_or (λ c. (c == 45) ≡ false) text 0 (λ i in_text. not_hyphen (get_or text i 0) (none i in_text))

pub subtags_one : (text : List ℕ) → NoHyphen text → subtags text ≡ text ∷ []
unfolding NoHyphen
subtags_one text none = slice_split_none (λ c. c == 45) text none

pub subtags_first : (first rest : List ℕ) → NoHyphen first → subtags (first ++ 45 ∷ rest) ≡ first ∷ subtags rest
unfolding NoHyphen
subtags_first first rest none = slice_split_at (λ c. c == 45) first 45 rest none refl

pub are_subtags_one : (text : List ℕ) → ((i : ℕ) → i < length text → get_or text i 0 ≢ 45) → are_subtags (subtags text) ≡ is_first_subtag text
are_subtags_one text none =
    ap are_subtags (subtags_one text (NoHyphen-from_reads text none)) ∙ (elim (is_first_subtag text) as (λ b. (b && true) ≡ b) [ true ↦ refl | false ↦ refl ])

pub are_subtags_first : (first rest : List ℕ) → ((i : ℕ) → i < length first → get_or first i 0 ≢ 45) → are_subtags (subtags (first ++ 45 ∷ rest)) ≡ (is_first_subtag first && list_all is_further_subtag (subtags rest))
are_subtags_first first rest none = ap are_subtags (subtags_first first rest (NoHyphen-from_reads first none))
