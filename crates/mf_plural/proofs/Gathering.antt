-- Members that are read one after the other.
use Rattle.std.proofs.Common.{◌≡◌, ◌∙◌, List, [], ◌∷◌, ◌++◌, Option, Some, None, refl, ap, sym, append_assoc}
use Rattle.std.proofs.lemmas.List.{append-nil}
use Rattle.std.specs.Option.{option_map, option_and_then}
use Rattle.mf_plural.specs.Computed.{all_of}

pub all_start : {B : Type 0} (all : Option (List B)) → all ≡ option_map (λ more. [] ++ more) all
all_start None = refl
all_start (Some more) = refl

joined : {B : Type 0} (done : List B) (y : B) (more : Option (List B))
    → option_map (λ ys. done ++ ys) (option_map (λ ys. y ∷ ys) more) ≡ option_map (λ ys. (done ++ y ∷ []) ++ ys) more
joined done y None = refl
joined done y (Some ys) = ap Some (sym (append_assoc done (y ∷ []) ys))

-- one more member goes from those that are left to those that are read
pub all_more : {A B : Type 0} (f : A → Option B) (all : Option (List B)) (done next : List B) (x : A) (xs : List A) (y : B)
    → all ≡ option_map (λ ys. done ++ ys) (all_of f (x ∷ xs)) → Some y ≡ f x → next ≡ done ++ y ∷ []
    → all ≡ option_map (λ ys. next ++ ys) (all_of f xs)
all_more {B = B} f all done next x xs y so_far is then =
    so_far
    ∙ ap (λ (found : Option B). option_map (λ ys. done ++ ys) (option_and_then (λ z. option_map (λ ys. z ∷ ys) (all_of f xs)) found)) (sym is)
    ∙ joined done y (all_of f xs)
    ∙ ap (λ (first : List B). option_map (λ ys. first ++ ys) (all_of f xs)) (sym then)

-- a member gives nothing
pub all_none : {A B : Type 0} (f : A → Option B) (all : Option (List B)) (done : List B) (x : A) (xs : List A)
    → all ≡ option_map (λ ys. done ++ ys) (all_of f (x ∷ xs)) → None ≡ f x → None ≡ all
all_none {B = B} f all done x xs so_far is =
    sym (so_far
    ∙ ap (λ (found : Option B). option_map (λ ys. done ++ ys) (option_and_then (λ z. option_map (λ ys. z ∷ ys) (all_of f xs)) found)) (sym is))

-- no member is left
pub all_read : {B : Type 0} (all : Option (List B)) (done : List B) → all ≡ option_map (λ ys. done ++ ys) (Some []) → Some done ≡ all
all_read all done so_far = sym (so_far ∙ ap Some (append-nil done))
