-- Lists cut at the first member that passes a test.
use Rattle.std.proofs.Common.{◌≡◌, ◌∙◌, ℕ, ◌+◌, ◌<◌, ◌≤◌, Bool, true, false, cond, List, [], ◌∷◌, length, take, drop, Some, None, refl, ap, sym, subst, arith}
use Rattle.std.proofs.lemmas.Bool.Decides.{nat_tests}
use Rattle.std.proofs.lemmas.List.Splits.{length-slice_split, slice_split_first, slice_split_none}
use Rattle.std.proofs.lemmas.List.Sums.{fails_before_first, prefix_len-le-length}
use Rattle.std.proofs.lemmas.Option.{cond_some}
use Rattle.std.specs.List.{position, position_or_len, list_all, slice_split}
use Rattle.mf_plural.specs.Grammar.{rule_texts, without_blank_end, is_white}
use Rattle.std.specs.Prelude.{nat_lt, ◌==◌}

no_place : (within : Bool) (first : ℕ) → None ≡ cond within (Some first) None → within ≡ false
no_place true first is = cc
no_place false first is = refl

pub place_is : {X : Type 0} (p : X → Bool) (xs : List X) (at : ℕ) → Some at ≡ position p xs → (position_or_len p xs < length xs) × (at ≡ position_or_len p xs)
place_is p xs at is =
    let parts = cond_some (nat_lt (position_or_len p xs) (length xs)) (position_or_len p xs) at (sym is) in
    let within : nat_lt (position_or_len p xs) (length xs) ≡ true = parts.0 in
    (grind (arith, nat_tests, within), sym parts.1)

pub split_found : {X : Type 0} (p : X → Bool) (xs : List X) (d : X) (at : ℕ) → Some at ≡ position p xs → slice_split p xs ≡ take at xs ∷ slice_split p (drop (at + 1) xs)
split_found p xs d at is =
    let place = place_is p xs at is in
    subst (λ n. slice_split p xs ≡ take n xs ∷ slice_split p (drop (n + 1) xs)) (sym place.1) (slice_split_first p xs d place.0)

pub past_end : {X : Type 0} (p : X → Bool) (xs : List X) → None ≡ position p xs → length xs ≡ position_or_len p xs
past_end p xs is =
    let past : nat_lt (position_or_len p xs) (length xs) ≡ false = no_place _ (position_or_len p xs) is in
    let at_most : position_or_len p xs ≤ length xs = prefix_len-le-length _ xs in
    grind (arith, nat_tests, past, at_most)

pub split_missing : {X : Type 0} (p : X → Bool) (xs : List X) → None ≡ position p xs → slice_split p xs ≡ xs ∷ []
split_missing p xs is =
    let past = past_end p xs is in
    slice_split_none p xs (λ k e m. fails_before_first p xs k e (omega arith))

-- a piece with more behind it is no blank end
keeps_first : (piece : List ℕ) (pieces : List (List ℕ)) → 0 < length pieces → without_blank_end (piece ∷ pieces) ≡ piece ∷ without_blank_end pieces
keeps_first piece [] some = absurd (omega (arith, some))
keeps_first piece (next ∷ pieces) some = refl

pub first_text : (text : List ℕ) (end : ℕ) → Some end ≡ position (λ byte. byte == 59) text → rule_texts text ≡ take end text ∷ rule_texts (drop (end + 1) text)
first_text text end is =
    let rest = drop (end + 1) text in
    ap without_blank_end (split_found (λ byte. byte == 59) text 0 end is)
    ∙ keeps_first (take end text) (slice_split (λ byte. byte == 59) rest) (omega (arith, length-slice_split (λ byte. byte == 59) rest))

pub only_text : (text : List ℕ) → None ≡ position (λ byte. byte == 59) text → list_all is_white text ≡ false → rule_texts text ≡ text ∷ []
only_text text is some =
    ap without_blank_end (split_missing (λ byte. byte == 59) text is) ∙ ap (λ (b : Bool). cond b [] (text ∷ [])) some
