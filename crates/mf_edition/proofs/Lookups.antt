-- Things in the order of their keys that are found by one key: where a search finds one, and what one more changes.
use Rattle.std.proofs.Common.{◌≡◌, ◌<◌, ℕ, Bool, true, false, None, Some, List, [], ◌∷◌, cond, get_or, length, zero, suc, refl, ap, sym, ◌∙◌, subst, arith, ⊎_elim}
use Rattle.std.proofs.lemmas.Bool.{cases_lt}
use Rattle.std.proofs.lemmas.Cmp.{tied_itself}
use Rattle.std.specs.Cmp.{Equal-is, IsTotalOrder}
use Rattle.std.specs.Ordering.{is_eq, match_ordering}
use Rattle.std.specs.declared.cmp.Ordering.{Ordering}
use Rattle.std.specs.declared.cmp.Ordering.TheVariants.{Less, Equal, Greater}
use Rattle.mf_text.specs.Ordered.{put_ordered, LacksAt, StandsAt}
use Rattle.mf_edition.specs.Lookups.{found_by}

-- what two tests come to in either order, where they can't both hold
swapped : {X : Type 0} (a b : Bool) (x y z : X) → (a ≡ true → b ≡ true → ⊥) → cond a x (cond b y z) ≡ cond b y (cond a x z)
swapped true true x y z apart = absurd (apart refl refl)
swapped true false x y z apart = refl
swapped false b x y z apart = refl

same_test : {X : Type 0} (b : Bool) (x y z : X) → cond b x z ≡ cond b x (cond b y z)
same_test true x y z = refl
same_test false x y z = refl

module _ {T V K : Type 0} (key : T → K) (cmp : K → K → Ordering) (total : IsTotalOrder cmp) (same : (a b : K) → cmp a b ≡ Equal → a ≡ b)
    (name : K) (is : T → Bool) (of : T → V) (ties : (thing : T) → is thing ≡ is_eq (cmp (key thing) name)) where
  of_name : (thing : T) → is thing ≡ true → key thing ≡ name
  of_name thing passed = same (key thing) name ((Equal-is (cmp (key thing) name)).0 (sym (ties thing) ∙ passed))

  tied : (a b : T) → cmp (key a) (key b) ≡ Equal → is a ≡ is b
  tied a b e = ties a ∙ ap (λ k. is_eq (cmp k name)) (same (key a) (key b) e) ∙ sym (ties b)

  never_apart : (a b : T) → is a ≡ true → is b ≡ true → cmp (key a) (key b) ≡ Equal
  never_apart a b one other = subst (λ k. cmp (key a) k ≡ Equal) (of_name a one ∙ sym (of_name b other)) (tied_itself total (key a))

  -- one more is found from then on where it passes, and else what was found before
  pub found_put : (things : List T) (new : T) → found_by is of (put_ordered (λ a b. cmp (key a) (key b)) new things) ≡ cond (is new) (Some (of new)) (found_by is of things)
  found_put [] new = refl
  found_put (next ∷ things) new = by (cmp (key new) (key next)) refl (found_put things new)
    where
      more : List T
      more = put_ordered (λ a b. cmp (key a) (key b)) new things

      by : (o : Ordering) → cmp (key new) (key next) ≡ o → found_by is of more ≡ cond (is new) (Some (of new)) (found_by is of things)
          → found_by is of (match_ordering o (new ∷ next ∷ things) (new ∷ things) (next ∷ more)) ≡ cond (is new) (Some (of new)) (found_by is of (next ∷ things))
      by Less e rest = refl
      by Equal e rest =
          same_test (is new) (Some (of new)) (Some (of next)) (found_by is of things)
          ∙ ap (λ b. cond (is new) (Some (of new)) (cond b (Some (of next)) (found_by is of things))) (tied new next e)
      by Greater e rest =
          ap (cond (is next) (Some (of next))) rest
          ∙ swapped (is next) (is new) (Some (of next)) (Some (of new)) (found_by is of things) (λ one other. let equal = never_apart new next other one in cc)

  not_less : (thing : T) → cmp (key thing) name ≡ Less → is thing ≡ false
  not_less thing less = ties thing ∙ ap is_eq less

  not_greater : (thing : T) → cmp (key thing) name ≡ Greater → is thing ≡ false
  not_greater thing greater = ties thing ∙ ap is_eq greater

  passed_over : (thing : T) (things : List T) → is thing ≡ false → found_by is of (thing ∷ things) ≡ found_by is of things
  passed_over thing things failed = ap (λ b. cond b (Some (of thing)) (found_by is of things)) failed

  there : (things : List T) (at : ℕ) (d : T) → at < length things → ((k : ℕ) → k < at → is (get_or things k d) ≡ false) → is (get_or things at d) ≡ true
      → found_by is of things ≡ Some (of (get_or things at d))
  there [] at d inside before passed = absurd (omega arith)
  there (thing ∷ things) zero d inside before passed = ap (λ b. cond b (Some (of thing)) (found_by is of things)) passed
  there (thing ∷ things) (suc at) d inside before passed =
      passed_over thing things (before 0 (omega arith)) ∙ there things at d (omega arith) (λ k below. before (suc k) (omega arith)) passed

  -- the one that a search has found
  pub found_there : (things : List T) (at : ℕ) (d : T) → StandsAt (λ thing. cmp (key thing) name) things at → found_by is of things ≡ Some (of (get_or things at d))
  found_there things at d found =
      there things at d found.inside (λ k below. not_less (get_or things k d) (found.before k d (omega arith) below)) (ties (get_or things at d) ∙ ap is_eq (found.equal d))

  none : (things : List T) → ((k : ℕ) (d : T) → k < length things → is (get_or things k d) ≡ false) → found_by is of things ≡ None
  none [] fails = refl
  none (thing ∷ things) fails = passed_over thing things (fails 0 thing (omega arith)) ∙ none things (λ k d inside. fails (suc k) d (omega arith))

  -- where a search has found none, there is none
  pub found_none : (things : List T) (at : ℕ) → LacksAt (λ thing. cmp (key thing) name) things at → found_by is of things ≡ None
  found_none things at gap = none things (λ k d inside.
      ⊎_elim (λ below. not_less (get_or things k d) (gap.before k d (omega arith) below)) (λ above. not_greater (get_or things k d) (gap.after k d above inside)) (cases_lt k at))
