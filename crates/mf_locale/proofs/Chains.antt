-- The chain of a tag, one tag after the other.
use Rattle.std.proofs.Common.{◌≡◌, ◌==◌, ℕ, true, false, List, [], ◌∷◌, length, map, take, cond, refl, ap, ◌∙◌, arith, length-append}
use Rattle.std.proofs.lemmas.List.{length-map}
use Rattle.std.specs.Cmp.Lexicographic.{pointwise}
use Rattle.std.specs.List.{join_with_byte}
use Rattle.mf_locale.specs.Chain.{chain_of, ending_in_und, fronts, truncations, und}
use Rattle.mf_locale.specs.Tag.{subtags}
use Rattle.mf_locale.proofs.Truncations.{no_parts, truncations_at, IsLastHyphen}

some_fronts : (parts : List (List ℕ)) → (parts ≡ [] → ⊥) → fronts parts ≡ [] → ⊥
some_fronts [] some none = some refl
some_fronts (part ∷ parts) some none =
    let counted = ap length none in
    omega (arith, counted, length-append (map (λ front. part ∷ front) (fronts parts)) ((part ∷ []) ∷ []))

some_truncations : (text : List ℕ) → truncations text ≡ [] → ⊥
some_truncations text none =
    let counted = ap length none in
    let length_is = length-map (fronts (subtags text)) (join_with_byte 45) in
    by (fronts (subtags text)) refl length_is counted
  where
    by : (fs : List (List (List ℕ))) → fronts (subtags text) ≡ fs → length (map (join_with_byte 45) fs) ≡ length fs → length (map (join_with_byte 45) (fronts (subtags text))) ≡ 0 → ⊥
    by [] is same zero = some_fronts (subtags text) (no_parts text) is
    by (f ∷ fs) is same zero = let moved = ap (λ gs. length (map (join_with_byte 45) gs)) is in omega (arith, same, zero, moved)

ending-next : (tag : List ℕ) (tags : List (List ℕ)) → (tags ≡ [] → ⊥) → ending_in_und (tag ∷ tags) ≡ tag ∷ ending_in_und tags
ending-next tag [] some = absurd (some refl)
ending-next tag (next ∷ more) some = refl

pub chain_at : (text : List ℕ) (at : ℕ) → IsLastHyphen text at → chain_of text ≡ text ∷ chain_of (take at text)
chain_at text at cut = ap ending_in_und (truncations_at text at cut) ∙ ending-next text (truncations (take at text)) (some_truncations (take at text))

pub chain_last : (text : List ℕ) → truncations text ≡ text ∷ [] → pointwise ◌==◌ text und ≡ true → chain_of text ≡ text ∷ []
chain_last text one there = ap ending_in_und one ∙ ap (λ b. cond b (text ∷ []) (text ∷ und ∷ [])) there

pub chain_ends : (text : List ℕ) → truncations text ≡ text ∷ [] → pointwise ◌==◌ text und ≡ false → chain_of text ≡ text ∷ und ∷ []
chain_ends text one missing = ap ending_in_und one ∙ ap (λ b. cond b (text ∷ []) (text ∷ und ∷ [])) missing
