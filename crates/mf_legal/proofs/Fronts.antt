-- Lists that begin with others.
use Rattle.std.proofs.Common.{◌≡◌, ◌∙◌, ℕ, zero, suc, ◌≤◌, List, [], ◌∷◌, ◌++◌, length, Some, refl, ap, sym, arith, append_assoc}
use Rattle.std.specs.Prelude.{take}
use Rattle.std.specs.List.{slice_get}
use Rattle.std.proofs.lemmas.List.{append-nil}

-- a list that goes on from another
pub record Longer {X : Type 0} (front whole : List X) : Type 0 where
  pub rest : List X
  pub split : whole ≡ front ++ rest

pub same_longer : {X : Type 0} (front whole : List X) → whole ≡ front → Longer front whole
same_longer front whole same = record { rest = []; split = same ∙ sym (append-nil front) }

pub longer_both : {X : Type 0} (front middle whole : List X) → Longer front middle → Longer middle whole → Longer front whole
longer_both front middle whole one more = record {
  rest = one.rest ++ more.rest;
  split = more.split ∙ ap (λ l. l ++ more.rest) one.split ∙ append_assoc front one.rest more.rest;
}

-- what comes after a front
pub after_front : {X : Type 0} (front rest : List X) (x : X) → slice_get (front ++ x ∷ rest) (length front) ≡ Some x
after_front [] rest x = refl
after_front (first ∷ front) rest x = after_front front rest x

-- a front has what it had when the list goes on
pub get_front : {X : Type 0} (front rest : List X) (i : ℕ) (x : X) → slice_get front i ≡ Some x → slice_get (front ++ rest) i ≡ Some x
get_front [] rest i x at = absurd (grind arith)
get_front (first ∷ front) rest zero x at = at
get_front (first ∷ front) rest (suc i) x at = get_front front rest i x at

pub take_front : {X : Type 0} (front rest : List X) (k : ℕ) → k ≤ length front → take k (front ++ rest) ≡ take k front
take_front front rest zero less = refl
take_front [] rest (suc k) less = absurd (omega (arith, less))
take_front (first ∷ front) rest (suc k) less = ap (λ l. first ∷ l) (take_front front rest k (omega (arith, less)))
