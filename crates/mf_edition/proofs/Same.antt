-- What is compared, and what is so where the answer is true.
use Rattle.std.proofs.Common.{◌≡◌, ℕ, Bool, ◌&&◌, List, [], ◌∷◌, map, refl, ap, ap₂, sym, ◌∙◌}
use Rattle.std.specs.Arc.{arc_value}
use Rattle.std.specs.Cmp.Lexicographic.{pointwise, bytes_decides}
use Rattle.std.specs.declared.alloc.Global.{Global}
use Rattle.std.specs.declared.sync.Arc.{Arc}
use Rattle.mf_text.specs.declared.pair.Pair.{Pair}
use Rattle.mf_edition.specs.Catalogues.{message_eq}
use Rattle.mf_edition.specs.Items.{Item, item_eq, item_of, item_values, message_of}

pointwise-map : {A B : Type 0} (f : A → B) (E : B → B → Bool) (xs ys : List A) → pointwise (λ x y. E (f x) (f y)) xs ys ≡ pointwise E (map f xs) (map f ys)
pointwise-map f E [] [] = refl
pointwise-map f E [] (y ∷ ys) = refl
pointwise-map f E (x ∷ xs) [] = refl
pointwise-map f E (x ∷ xs) (y ∷ ys) = ap (λ rest. E (f x) (f y) && rest) (pointwise-map f E xs ys)

-- of one tag, messages are compared by their ids and sources alone
of_one_tag : (tag : List ℕ) (a b : List Pair) → pointwise item_eq (map (item_of tag) a) (map (item_of tag) b) ≡ pointwise message_eq a b
of_one_tag tag [] [] = refl
of_one_tag tag [] (n ∷ b) = refl
of_one_tag tag (m ∷ a) [] = refl
of_one_tag tag (m ∷ a) (n ∷ b) =
    ap₂ (λ same rest. (same && message_eq m n) && rest) ((bytes_decides tag tag).1 refl) (of_one_tag tag a b)

pub same_messages : (tag : List ℕ) (a b : List (Arc Item Global)) → map (item_of tag) (map message_of (item_values a)) ≡ item_values a → map (item_of tag) (map message_of (item_values b)) ≡ item_values b
    → pointwise (λ x y. item_eq (arc_value x) (arc_value y)) a b ≡ pointwise message_eq (map message_of (item_values a)) (map message_of (item_values b))
same_messages tag a b is other =
    pointwise-map arc_value item_eq a b
    ∙ ap₂ (pointwise item_eq) (sym is) (sym other)
    ∙ of_one_tag tag (map message_of (item_values a)) (map message_of (item_values b))
