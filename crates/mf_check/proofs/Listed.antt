-- Errors that are added for one member of a list after the other.
use Rattle.std.proofs.Common.{◌≡◌, ◌<◌, ◌≤◌, ◌+◌, ℕ, Bool, true, false, List, [], ◌∷◌, ◌++◌, length, get_or, take, drop, map, filter, cond, refl, ap, sym, ◌∙◌, append_assoc, arith}
use Rattle.std.proofs.lemmas.List.{append-nil, drop_more, length-take, take_more}
use Rattle.std.proofs.Math.ListN.{drop_of_length-le}
use Rattle.mf_tree.specs.declared.fault.Fault.{Fault}
use Rattle.mf_tree.specs.declared.fault.Kind.{Kind}
use Rattle.mf_tree.specs.Faults.{faults_where, members_from, Member}

module _ {X : Type 0} (kind : Kind) (test : X → Bool) (about : X → List ℕ) where
  abbrev pub fault_of : X → Fault
  fault_of x = record { kind = kind; of = about x }

  chosen : (x : X) (xs : List X) (b : Bool) → map fault_of (cond b (x ∷ filter test xs) (filter test xs)) ≡ cond b (fault_of x ∷ []) [] ++ faults_where kind test about xs
  chosen x xs true = refl
  chosen x xs false = refl

  -- the first member's error stands before the others'
  first_fault : (x : X) (xs : List X) → faults_where kind test about (x ∷ xs) ≡ cond (test x) (fault_of x ∷ []) [] ++ faults_where kind test about xs
  first_fault x xs = chosen x xs (test x)

  -- a member with an error
  pub added : (x : X) (xs : List X) (old whole : List Fault) → test x ≡ true → old ++ faults_where kind test about (x ∷ xs) ≡ whole → (old ++ fault_of x ∷ []) ++ faults_where kind test about xs ≡ whole
  added x xs old whole is so_far =
      append_assoc old (fault_of x ∷ []) (faults_where kind test about xs)
      ∙ ap (λ b. old ++ (cond b (fault_of x ∷ []) [] ++ faults_where kind test about xs)) (sym is)
      ∙ ap (λ faults. old ++ faults) (sym (first_fault x xs))
      ∙ so_far

  -- a member without one
  pub passed : (x : X) (xs : List X) (old whole : List Fault) → test x ≡ false → old ++ faults_where kind test about (x ∷ xs) ≡ whole → old ++ faults_where kind test about xs ≡ whole
  passed x xs old whole is so_far =
      ap (λ b. old ++ (cond b (fault_of x ∷ []) [] ++ faults_where kind test about xs)) (sym is)
      ∙ ap (λ faults. old ++ faults) (sym (first_fault x xs))
      ∙ so_far

-- the member at a place, with those before it
abbrev pub member_at : {X : Type 0} → List X → ℕ → X → Member X
member_at xs i x = record { earlier = take i xs; this = x }

-- the members from a place on
abbrev pub left_from : {X : Type 0} → List X → ℕ → List (Member X)
left_from xs i = members_from (take i xs) (drop i xs)

-- so many stand before it
pub count_before : {X : Type 0} → (xs : List X) (i : ℕ) → i < length xs → i ≡ length (take i xs)
count_before xs i inside = let is = length-take i xs in omega arith

pub left_more : {X : Type 0} → (xs : List X) (i : ℕ) (x : X) → i < length xs → x ≡ get_or xs i x → left_from xs i ≡ member_at xs i x ∷ left_from xs (i + 1)
left_more xs i x inside is =
    ap (members_from (take i xs)) (drop_more xs i x inside)
    ∙ ap (λ y. members_from (take i xs) (y ∷ drop (i + 1) xs)) (sym is)
    ∙ ap (λ front. member_at xs i x ∷ members_from front (drop (i + 1) xs)) (sym (take_more xs i x inside ∙ ap (λ y. take i xs ++ y ∷ []) (sym is)))

module _ {X : Type 0} (kind : Kind) (test : Member X → Bool) (about : Member X → List ℕ) (xs : List X) (i : ℕ) (x : X) (inside : i < length xs) (is : x ≡ get_or xs i x) where
  -- the same of members with those before them
  pub added_member : (old whole : List Fault) → test (member_at xs i x) ≡ true → old ++ faults_where kind test about (left_from xs i) ≡ whole →
      (old ++ record { kind = kind; of = about (member_at xs i x) } ∷ []) ++ faults_where kind test about (left_from xs (i + 1)) ≡ whole
  added_member old whole holds so_far =
      added kind test about (member_at xs i x) (left_from xs (i + 1)) old whole holds
      (ap (λ ys. old ++ faults_where kind test about ys) (sym (left_more xs i x inside is)) ∙ so_far)

  pub passed_member : (old whole : List Fault) → test (member_at xs i x) ≡ false → old ++ faults_where kind test about (left_from xs i) ≡ whole →
      old ++ faults_where kind test about (left_from xs (i + 1)) ≡ whole
  passed_member old whole fails so_far =
      passed kind test about (member_at xs i x) (left_from xs (i + 1)) old whole fails
      (ap (λ ys. old ++ faults_where kind test about ys) (sym (left_more xs i x inside is)) ∙ so_far)

-- at the end nothing is left
pub ended : {X : Type 0} → (kind : Kind) (test : Member X → Bool) (about : Member X → List ℕ) (xs : List X) (i : ℕ) (found whole : List Fault) → length xs ≤ i →
    found ++ faults_where kind test about (left_from xs i) ≡ whole → found ≡ whole
ended kind test about xs i found whole end so_far =
    sym (append-nil found)
    ∙ ap (λ rest. found ++ faults_where kind test about (members_from (take i xs) rest)) (sym (drop_of_length-le xs end))
    ∙ so_far
