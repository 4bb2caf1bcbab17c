-- The ranks of a variant among those of all, column by column.
use Rattle.std.proofs.Common.{◌≡◌, ◌+◌, ℕ, zero, suc, true, List, [], ◌∷◌, ◌++◌, map, drop, length, slice_get, Option, Some, None, refl, sym, ap, ◌∙◌, arith}
use Rattle.std.proofs.Math.Seq.{drop-append_seam}
use Rattle.std.proofs.lemmas.Option.{slice_get-map}
use Rattle.std.specs.List.{list_all}
use Rattle.std.specs.Option.{option_map}
use Rattle.mf_tree.specs.Equality.{is_star}
use Rattle.mf_tree.specs.declared.message.Key.{Key}
use Rattle.mf_tree.specs.declared.message.Key.TheVariants.{Literal, Star}
use Rattle.mf_tree.specs.declared.message.Variant.{Variant}
use Rattle.mf_value.specs.Meaning.{Meaning}
use Rattle.mf_value.specs.Selection.{Ranks, rank, rank_list, with_rank}
use Rattle.mf_value.specs.declared.value.Value.{Value}
use Rattle.mf_select.specs.Ranks.{joined, rank_at, row}
use Rattle.mf_select.specs.Stepping.{column_ranks, key_rank, ranks_from}

pub get_front : {X : Type 0} → (xs ys : List X) (i : ℕ) (x : X) → slice_get xs i ≡ Some x → slice_get (xs ++ ys) i ≡ Some x
get_front [] ys i x is = cc
get_front (own ∷ xs) ys zero x is = is
get_front (own ∷ xs) ys (suc i) x is = get_front xs ys i x is

pub map_length : {X Y : Type 0} → (f : X → Y) (xs : List X) → length (map f xs) ≡ length xs
map_length f [] = refl
map_length f (x ∷ xs) = ap suc (map_length f xs)

-- what stands behind some members
drop_none : {X : Type 0} → (column : ℕ) (x : X) (rest : List X) → drop column [] ≡ x ∷ rest → ⊥
drop_none zero x rest is = cc
drop_none (suc column) x rest is = cc

drop_get : {X : Type 0} → (xs : List X) (column : ℕ) (x : X) (rest : List X) → drop column xs ≡ x ∷ rest → (slice_get xs column ≡ Some x) × (drop (column + 1) xs ≡ rest)
drop_get [] column x rest is = absurd (drop_none column x rest is)
drop_get (own ∷ xs) zero x rest is =
    let same : own ≡ x = cc in
    let behind : xs ≡ rest = cc in
    (ap Some same, behind)
drop_get (own ∷ xs) (suc column) x rest is =
    let found = drop_get xs column x rest is in
    let next : suc column + 1 ≡ suc (column + 1) = omega arith in
    (found.0, ap (λ n. drop n (own ∷ xs)) next ∙ found.1)

module _ (meaning : Meaning) (variants : List Variant) (place : ℕ) (variant : Variant) (is : slice_get variants place ≡ Some variant) where
  column_at : (column : ℕ) (value : Value) → slice_get (column_ranks meaning column value variants) place ≡ Some (key_rank meaning value (slice_get variant.keys column))
  column_at column value =
      let key_of : Variant → Option ℕ = λ v. key_rank meaning value (slice_get v.keys column) in
      slice_get-map key_of variants place ∙ ap (option_map key_of) is

  row_from : (values : List Value) (column : ℕ) (keys : List Key) → drop column variant.keys ≡ keys → length keys ≡ length values →
      row (length values) (length variants) place (ranks_from meaning column values variants) ≡ rank_list meaning values keys
  row_from [] column [] at long = refl
  row_from [] column (key ∷ keys) at long = absurd (omega arith)
  row_from (value ∷ values) column [] at long = absurd (omega arith)
  row_from (value ∷ values) column (key ∷ keys) at long =
      let here = drop_get variant.keys column key keys at in
      let own : List (Option ℕ) = column_ranks meaning column value variants in
      let more : List (Option ℕ) = ranks_from meaning (column + 1) values variants in
      let found : rank_at (own ++ more) place ≡ rank meaning value key =
      ap joined (get_front own more place _ (column_at column value)) ∙ ap (key_rank meaning value) here.0 in
      let behind : drop (length variants) (own ++ more) ≡ more =
      ap (λ n. drop n (own ++ more)) (sym (map_length _ variants)) ∙ drop-append_seam own more in
      ap (λ r. with_rank r (row (length values) (length variants) place (drop (length variants) (own ++ more)))) found
      ∙ ap (λ rest. with_rank (rank meaning value key) (row (length values) (length variants) place rest)) behind
      ∙ ap (with_rank (rank meaning value key)) (row_from values (column + 1) keys here.1 (omega arith))

  -- the ranks of a variant that has a key for each value
  pub row_is : (values : List Value) → length variant.keys ≡ length values →
      row (length values) (length variants) place (ranks_from meaning 0 values variants) ≡ rank_list meaning values variant.keys
  row_is values long = row_from values 0 variant.keys refl long

-- what is mapped was there
mapped : {X Y : Type 0} → (f : X → Y) (found : Option X) (y : Y) → option_map f found ≡ Some y → (x : X) × (found ≡ Some x) × (f x ≡ y)
mapped f None y is = cc
mapped f (Some x) y is = (x, refl, (let same : f x ≡ y = cc in same))

-- a variant that has ranks is there
pub ranks_at : (meaning : Meaning) (values : List Value) (variants : List Variant) (place : ℕ) (ranks : List ℕ) → Ranks meaning values variants place ranks →
    (variant : Variant) × (slice_get variants place ≡ Some variant) × (rank_list meaning values variant.keys ≡ Some ranks)
ranks_at meaning values variants place ranks is = mapped (λ (variant : Variant). rank_list meaning values variant.keys) (slice_get variants place) (Some ranks) is

pub have_ranks : (meaning : Meaning) (values : List Value) (variants : List Variant) (place : ℕ) (variant : Variant) (ranks : List ℕ) → slice_get variants place ≡ Some variant →
    rank_list meaning values variant.keys ≡ Some ranks → Ranks meaning values variants place ranks
have_ranks meaning values variants place variant ranks is has =
    ap (option_map (λ (v : Variant). rank_list meaning values v.keys)) is ∙ ap Some has

-- `*` alone matches all values
pub stars_match : (meaning : Meaning) (values : List Value) (keys : List Key) → length keys ≡ length values → list_all is_star keys ≡ true →
    (ranks : List ℕ) × (rank_list meaning values keys ≡ Some ranks)
stars_match meaning [] [] long stars = ([], refl)
stars_match meaning [] (key ∷ keys) long stars = absurd (omega arith)
stars_match meaning (value ∷ values) [] long stars = absurd (omega arith)
stars_match meaning (value ∷ values) (Literal text ∷ keys) long stars = cc
stars_match meaning (value ∷ values) (Star ∷ keys) long stars =
    let rest = stars_match meaning values keys (omega arith) stars in
    (2 ∷ rest.0, ap (with_rank (Some 2)) rest.1)

-- a list with one rank more
pub with_is : (first : Option ℕ) (others : Option (List ℕ)) (ranks : List ℕ) → with_rank first others ≡ Some ranks →
    (a : ℕ) × (rest : List ℕ) × (first ≡ Some a) × (others ≡ Some rest) × (ranks ≡ a ∷ rest)
with_is None others ranks is = cc
with_is (Some a) None ranks is = cc
with_is (Some a) (Some rest) ranks is = (a, rest, refl, refl, (let same : ranks ≡ a ∷ rest = cc in same))
