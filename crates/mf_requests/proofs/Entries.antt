-- Entries of a map that are put in one after the other, in an order of their keys.
use Rattle.std.proofs.Common.{◌≡◌, List, [], ◌∷◌, Some, false, cond, is_eq, Ordering, Less, Equal, Greater, refl, sym, ap, ◌∙◌}
use Rattle.std.specs.BTreeMap.{insert_entry, is_at}
use Rattle.std.specs.Cmp.{IsTotalOrder}
use Rattle.std.specs.Map.{lookup}
use Rattle.std.specs.Ordering.{ordering_reverse}

less_is_none_greater : Less ≡ Greater → ⊥
less_is_none_greater e = cc

apart_is_none : (o : Ordering) → (o ≡ Equal → ⊥) → is_eq o ≡ false
apart_is_none Less apart = refl
apart_is_none Equal apart = absurd (apart refl)
apart_is_none Greater apart = refl

module _ {K : Type 0} (R : K → K → Ordering) (total : IsTotalOrder R) where
  turned : (k l : K) (o : Ordering) → R k l ≡ o → R l k ≡ ordering_reverse o
  turned k l o e = total.antisymm l k ∙ ap ordering_reverse e

  pub apart_turned : (k l : K) → (R k l ≡ Equal → ⊥) → R l k ≡ Equal → ⊥
  apart_turned k l apart e = apart (turned l k Equal e)

  itself_by : (k : K) (o : Ordering) → R k k ≡ o → R k k ≡ Equal
  itself_by k Less e = absurd (less_is_none_greater (sym e ∙ turned k k Less e))
  itself_by k Equal e = e
  itself_by k Greater e = absurd (less_is_none_greater (sym (turned k k Greater e) ∙ e))

  pub itself : (k : K) → R k k ≡ Equal
  itself k = itself_by k (R k k) refl

  beyond : (k l m : K) → R k l ≡ Greater → R l m ≡ Greater → R k m ≡ Greater
  beyond k l m e f = turned m k Less (total.trans m l k (turned l m Greater f) (turned k l Greater e))

module _ {K X : Type 0} (R : K → K → Ordering) (total : IsTotalOrder R) where
  there_by : (e : K × X) (es : List (K × X)) (k : K) (a : X) (o : Ordering) → R k e.0 ≡ o → R k k ≡ Equal
      → lookup (is_at (R k)) (insert_entry R es k a) ≡ Some a
      → lookup (is_at (R k)) (insert_entry R (e ∷ es) k a) ≡ Some a
  there_by e es k a Less f self more = rw (f, self) refl
  there_by e es k a Equal f self more = rw (f, f) refl
  there_by e es k a Greater f self more = rw (f, f) more

  -- where a key is put, it is found
  pub there : (es : List (K × X)) (k : K) (a : X) → lookup (is_at (R k)) (insert_entry R es k a) ≡ Some a
  there [] k a = rw (itself R total k) refl
  there (e ∷ es) k a = there_by e es k a (R k e.0) refl (itself R total k) (there es k a)

module _ {K X : Type 0} (R : K → K → Ordering) (total : IsTotalOrder R) (same : (k l : K) → R k l ≡ Equal → k ≡ l) where
  kept_by : (e : K × X) (es : List (K × X)) (k l : K) (b : X) → is_eq (R k l) ≡ false → (o : Ordering) → R l e.0 ≡ o
      → lookup (is_at (R k)) (insert_entry R es l b) ≡ lookup (is_at (R k)) es
      → lookup (is_at (R k)) (insert_entry R (e ∷ es) l b) ≡ lookup (is_at (R k)) (e ∷ es)
  kept_by e es k l b apart Less f more = rw (f, apart) refl
  kept_by e es k l b apart Equal f more =
      let other : is_eq (R k e.0) ≡ false = ap (λ m. is_eq (R k m)) (sym (same l e.0 f)) ∙ apart in
      rw (f, other) refl
  kept_by e es k l b apart Greater f more = rw f (ap (cond (is_eq (R k e.0)) (Some e.1)) more)

  -- what is found at a key stays where another is put
  pub kept : (es : List (K × X)) (k l : K) (b : X) → (R k l ≡ Equal → ⊥)
      → lookup (is_at (R k)) (insert_entry R es l b) ≡ lookup (is_at (R k)) es
  kept [] k l b apart = rw (apart_is_none (R k l) apart) refl
  kept (e ∷ es) k l b apart = kept_by e es k l b (apart_is_none (R k l) apart) (R l e.0) refl (kept es k l b apart)

  abbrev Swaps : List (K × X) → K → K → X → X → Type 0
  Swaps es k l a b = insert_entry R (insert_entry R es l b) k a ≡ insert_entry R (insert_entry R es k a) l b

  swaps_alone : (k l : K) (a b : X) → (R k l ≡ Equal → ⊥) → (o : Ordering) → R k l ≡ o → Swaps [] k l a b
  swaps_alone k l a b apart Less f = rw (f, turned R total k l Less f) refl
  swaps_alone k l a b apart Equal f = absurd (apart f)
  swaps_alone k l a b apart Greater f = rw (f, turned R total k l Greater f) refl

  swaps_before : (e : K × X) (es : List (K × X)) (k l : K) (a b : X) → (R k l ≡ Equal → ⊥) → R l e.0 ≡ Less
      → (o q : Ordering) → R k e.0 ≡ o → R k l ≡ q → Swaps (e ∷ es) k l a b
  swaps_before e es k l a b apart before o Less f g = rw (before, g, total.trans k l e.0 g before, turned R total k l Less g, before) refl
  swaps_before e es k l a b apart before o Equal f g = absurd (apart g)
  swaps_before e es k l a b apart before Less Greater f g = rw (before, g, f, turned R total k l Greater g) refl
  swaps_before e es k l a b apart before Equal Greater f g = rw (before, g, f, before) refl
  swaps_before e es k l a b apart before Greater Greater f g = rw (before, g, f, before) refl

  swaps_by : (e : K × X) (es : List (K × X)) (k l : K) (a b : X) → (R k l ≡ Equal → ⊥) → (o p : Ordering) → R k e.0 ≡ o → R l e.0 ≡ p
      → Swaps es k l a b → Swaps (e ∷ es) k l a b
  swaps_by e es k l a b apart o Less f g more = swaps_before e es k l a b apart g o (R k l) f refl
  swaps_by e es k l a b apart Less Equal f g more =
      let behind = turned R total k l Less (ap (R k) (same l e.0 g) ∙ f) in
      rw (g, f, behind, g) refl
  swaps_by e es k l a b apart Equal Equal f g more = absurd (apart (ap (R k) (same l e.0 g) ∙ f))
  swaps_by e es k l a b apart Greater Equal f g more = rw (g, f, g) refl
  swaps_by e es k l a b apart Less Greater f g more =
      let behind = turned R total k l Less (total.trans k e.0 l f (turned R total l e.0 Greater g)) in
      rw (g, f, behind, g) refl
  swaps_by e es k l a b apart Equal Greater f g more = rw (g, f, g) refl
  swaps_by e es k l a b apart Greater Greater f g more = rw (g, f, g) (ap (λ es. e ∷ es) more)

  -- two entries of different keys may be put in either order
  pub swaps : (es : List (K × X)) (k l : K) (a b : X) → (R k l ≡ Equal → ⊥) → Swaps es k l a b
  swaps [] k l a b apart = swaps_alone k l a b apart (R k l) refl
  swaps (e ∷ es) k l a b apart = swaps_by e es k l a b apart (R k e.0) (R l e.0) refl refl (swaps es k l a b apart)
