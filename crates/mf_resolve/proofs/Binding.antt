-- Which declaration binds a variable, and what its trace is.
use Rattle.std.proofs.Common.{◌≡◌, ◌<◌, ◌≤◌, ◌+◌, ◌-◌, ℕ, zero, suc, true, cond, nat_lt, List, [], ◌∷◌, ◌++◌, take, length, slice_get, Option, Some, None, refl, sym, ap, ◌∙◌, inl, inr, arith}
use Rattle.std.proofs.lemmas.List.{append-nil}
use Rattle.std.proofs.lemmas.Bool.{cases_Bool, lt-ltb, ltb-true}
use Rattle.std.proofs.Math.Seq.{take-length, append_snoc}
use Rattle.std.specs.Option.{option_map}
use Rattle.mf_text.specs.declared.arguments.Argued.{Argued}
use Rattle.mf_tree.specs.Equality.{is_same_name}
use Rattle.mf_tree.specs.Faults.{name_of}
use Rattle.mf_tree.specs.declared.message.Declaration.{Declaration}
use Rattle.mf_tree.specs.declared.name.Name.{Name}
use Rattle.mf_value.specs.Meaning.{Meaning}
use Rattle.mf_value.specs.Traces.{Bound, Trace, binding, bound_by, bound_from, bound_variables}
use Rattle.mf_resolve.specs.Sources.{place_below, place_from}

abbrev pub trace_of : Bound → Trace
trace_of bound = bound.trace

is_below : (a b : ℕ) → a < b → nat_lt a b ≡ true
is_below a b less = lt-ltb a b less

-- the place of a declaration is at or behind where the search begins
at_least : (ds : List Declaration) (p : ℕ) (name : Name) (q : ℕ) → place_from p name ds ≡ Some q → p ≤ q
at_least [] p name q is = cc
at_least (d ∷ ds) p name q is = elim (cases_Bool (is_same_name (name_of d) name)) [
  | inl same ↦
      let here : Some p ≡ Some q = sym (ap (λ b. cond b (Some p) (place_from (p + 1) name ds)) same) ∙ is in
      let equal : p ≡ q = cc in
      omega arith
  | inr other ↦
      let later = at_least ds (p + 1) name q (sym (ap (λ b. cond b (Some p) (place_from (p + 1) name ds)) other) ∙ is) in
      omega arith
]

module _ (meaning : Meaning) (arguments : List (List ℕ × Argued)) where
  -- what declarations bind behind those before them
  abbrev more : List Bound → ℕ → List Declaration → List Bound
  more earlier place [] = []
  more earlier place (d ∷ ds) =
      bound_by meaning arguments earlier place d ∷ more (earlier ++ bound_by meaning arguments earlier place d ∷ []) (place + 1) ds

  is_more : (ds : List Declaration) (earlier : List Bound) (place : ℕ) → bound_from meaning arguments earlier place ds ≡ earlier ++ more earlier place ds
  is_more [] earlier place = sym (append-nil earlier)
  is_more (d ∷ ds) earlier place =
      is_more ds (earlier ++ bound_by meaning arguments earlier place d ∷ []) (place + 1)
      ∙ append_snoc earlier (bound_by meaning arguments earlier place d) (more (earlier ++ bound_by meaning arguments earlier place d ∷ []) (place + 1) ds)

  more_at : (ds : List Declaration) (earlier : List Bound) (p i : ℕ) (d : Declaration) → slice_get ds i ≡ Some d →
      slice_get (more earlier p ds) i ≡ Some (bound_by meaning arguments (earlier ++ take i (more earlier p ds)) (p + i) d)
  more_at [] earlier p i d is = cc
  more_at (own ∷ ds) earlier p zero d is =
      let same : own ≡ d = cc in
      let place : p ≡ p + 0 = omega arith in
      ap (λ at. Some (bound_by meaning arguments earlier p at)) same
      ∙ ap (λ front. Some (bound_by meaning arguments front p d)) (sym (append-nil earlier))
      ∙ ap (λ at. Some (bound_by meaning arguments (earlier ++ []) at d)) place
  more_at (own ∷ ds) earlier p (suc i) d is =
      let b : Bound = bound_by meaning arguments earlier p own in
      let place : p + 1 + i ≡ p + suc i = omega arith in
      more_at ds (earlier ++ b ∷ []) (p + 1) i d is
      ∙ ap (λ front. Some (bound_by meaning arguments front (p + 1 + i) d)) (append_snoc earlier b (take i (more (earlier ++ b ∷ []) (p + 1) ds)))
      ∙ ap (λ at. Some (bound_by meaning arguments (earlier ++ b ∷ take i (more (earlier ++ b ∷ []) (p + 1) ds)) at d)) place

  -- the variable of a declaration has its trace under those before it
  pub bound_at : (ds : List Declaration) (i : ℕ) (d : Declaration) → slice_get ds i ≡ Some d →
      slice_get (bound_variables meaning arguments ds) i ≡ Some (bound_by meaning arguments (take i (bound_variables meaning arguments ds)) i d)
  bound_at ds i d is =
      ap (λ bound. slice_get bound i) (is_more ds [] 0)
      ∙ more_at ds [] 0 i d is
      ∙ ap (λ at. Some (bound_by meaning arguments (take i (more [] 0 ds)) at d)) (let same : 0 + i ≡ i = omega arith in same)
      ∙ ap (λ bound. Some (bound_by meaning arguments (take i bound) i d)) (sym (is_more ds [] 0))

  more_length : (ds : List Declaration) (earlier : List Bound) (p : ℕ) → length (more earlier p ds) ≡ length ds
  more_length [] earlier p = refl
  more_length (d ∷ ds) earlier p = ap suc (more_length ds (earlier ++ bound_by meaning arguments earlier p d ∷ []) (p + 1))

  pub bound_all : (ds : List Declaration) → take (length ds) (bound_variables meaning arguments ds) ≡ bound_variables meaning arguments ds
  bound_all ds =
      ap (λ n. take n (bound_variables meaning arguments ds)) (sym (ap length (is_more ds [] 0) ∙ more_length ds [] 0))
      ∙ take-length (bound_variables meaning arguments ds)

  none_at : (ds : List Declaration) (earlier : List Bound) (p i : ℕ) → slice_get ds i ≡ None → slice_get (more earlier p ds) i ≡ None
  none_at [] earlier p zero is = refl
  none_at [] earlier p (suc i) is = refl
  none_at (d ∷ ds) earlier p zero is = cc
  none_at (d ∷ ds) earlier p (suc i) is = none_at ds (earlier ++ bound_by meaning arguments earlier p d ∷ []) (p + 1) i is

  pub none_bound_at : (ds : List Declaration) (i : ℕ) → slice_get ds i ≡ None → slice_get (bound_variables meaning arguments ds) i ≡ None
  none_bound_at ds i is = ap (λ bound. slice_get bound i) (is_more ds [] 0) ∙ none_at ds [] 0 i is

  none_more : (ds : List Declaration) (earlier : List Bound) (p k limit : ℕ) (name : Name) → limit ≡ p + k →
      place_below limit (place_from p name ds) ≡ None → binding (take k (more earlier p ds)) name ≡ None
  none_more ds earlier p zero limit name is none = refl
  none_more [] earlier p (suc k) limit name is none = refl
  none_more (d ∷ ds) earlier p (suc k) limit name is none = elim (cases_Bool (is_same_name (name_of d) name)) [
    | inl same ↦
        let here : place_below limit (Some p) ≡ None = sym (ap (λ b. place_below limit (cond b (Some p) (place_from (p + 1) name ds))) same) ∙ none in
        let found : place_below limit (Some p) ≡ Some p = ap (λ b. cond b (Some p) None) (is_below p limit (omega arith)) in
        cc
    | inr other ↦
        ap (λ b. cond b (Some (trace_of (bound_by meaning arguments earlier p d))) (binding (take k (more (earlier ++ bound_by meaning arguments earlier p d ∷ []) (p + 1) ds)) name)) other
        ∙ none_more ds (earlier ++ bound_by meaning arguments earlier p d ∷ []) (p + 1) k limit name (omega arith)
        (sym (ap (λ b. place_below limit (cond b (Some p) (place_from (p + 1) name ds))) other) ∙ none)
  ]

  -- where no declaration before a place binds the variable
  pub binds_none : (ds : List Declaration) (limit : ℕ) (name : Name) → place_below limit (place_from 0 name ds) ≡ None →
      binding (take limit (bound_variables meaning arguments ds)) name ≡ None
  binds_none ds limit name none =
      ap (λ bound. binding (take limit bound) name) (is_more ds [] 0) ∙ none_more ds [] 0 limit limit name (omega arith) none

  below_is : (limit : ℕ) (place : Option ℕ) (q : ℕ) → place_below limit place ≡ Some q → (place ≡ Some q) × (q < limit)
  below_is limit None q is = cc
  below_is limit (Some place) q is = elim (cases_Bool (nat_lt place limit)) [
    | inl less ↦
        let same : Some place ≡ Some q = sym (ap (λ b. cond b (Some place) None) less) ∙ is in
        let equal : place ≡ q = cc in
        (same, (let below = ltb-true place limit less in omega arith))
    | inr not_less ↦ let none : None ≡ Some q = sym (ap (λ b. cond b (Some place) None) not_less) ∙ is in cc
  ]

  some_more : (ds : List Declaration) (earlier : List Bound) (p k : ℕ) (name : Name) (q : ℕ) → place_from p name ds ≡ Some q → q < p + k →
      binding (take k (more earlier p ds)) name ≡ option_map trace_of (slice_get (more earlier p ds) (q - p))
  some_more [] earlier p k name q found below = cc
  some_more (d ∷ ds) earlier p zero name q found below = let least = at_least (d ∷ ds) p name q found in absurd (omega arith)
  some_more (d ∷ ds) earlier p (suc k) name q found below = elim (cases_Bool (is_same_name (name_of d) name)) [
    | inl same ↦
        let b : Bound = bound_by meaning arguments earlier p d in
        let rest : List Bound = more (earlier ++ b ∷ []) (p + 1) ds in
        let here : Some p ≡ Some q = sym (ap (λ b. cond b (Some p) (place_from (p + 1) name ds)) same) ∙ found in
        let equal : p ≡ q = cc in
        let start : 0 ≡ q - p = omega arith in
        ap (λ t. cond t (Some (trace_of b)) (binding (take k rest) name)) same
        ∙ ap (λ at. option_map trace_of (slice_get (b ∷ rest) at)) start
    | inr other ↦
        let b : Bound = bound_by meaning arguments earlier p d in
        let rest : List Bound = more (earlier ++ b ∷ []) (p + 1) ds in
        let later : place_from (p + 1) name ds ≡ Some q = sym (ap (λ b. cond b (Some p) (place_from (p + 1) name ds)) other) ∙ found in
        let least = at_least ds (p + 1) name q later in
        let place : suc (q - (p + 1)) ≡ q - p = omega arith in
        ap (λ t. cond t (Some (trace_of b)) (binding (take k rest) name)) other
        ∙ some_more ds (earlier ++ b ∷ []) (p + 1) k name q later (omega arith)
        ∙ ap (λ at. option_map trace_of (slice_get (b ∷ rest) at)) place
  ]

  -- the declaration that binds it, which stands before the place
  pub binds_some : (ds : List Declaration) (limit : ℕ) (name : Name) (q : ℕ) → place_below limit (place_from 0 name ds) ≡ Some q →
      (q < limit) × (binding (take limit (bound_variables meaning arguments ds)) name ≡ option_map trace_of (slice_get (bound_variables meaning arguments ds) q))
  binds_some ds limit name q is =
      let found = below_is limit (place_from 0 name ds) q is in
      let rest : List Bound = more [] 0 ds in
      let start : binding (take limit rest) name ≡ option_map trace_of (slice_get rest (q - 0)) = some_more ds [] 0 limit name q found.0 (let below = found.1 in omega arith) in
      let place : q - 0 ≡ q = omega arith in (
        found.1,
        ap (λ bound. binding (take limit bound) name) (is_more ds [] 0)
            ∙ start
            ∙ ap (λ at. option_map trace_of (slice_get rest at)) place
            ∙ ap (λ bound. option_map trace_of (slice_get bound q)) (sym (is_more ds [] 0)),
      )

-- a declaration that is found is there
declared_there : (ds : List Declaration) (p : ℕ) (name : Name) (q : ℕ) → place_from p name ds ≡ Some q → q < p + length ds
declared_there [] p name q is = cc
declared_there (d ∷ ds) p name q is = elim (cases_Bool (is_same_name (name_of d) name)) [
  | inl same ↦
      let here : Some p ≡ Some q = sym (ap (λ b. cond b (Some p) (place_from (p + 1) name ds)) same) ∙ is in
      let equal : p ≡ q = cc in
      omega arith
  | inr other ↦
      let later = declared_there ds (p + 1) name q (sym (ap (λ b. cond b (Some p) (place_from (p + 1) name ds)) other) ∙ is) in
      omega arith
]

-- a member of a list by its place
pub member_at : {X : Type 0} → (xs : List X) (i : ℕ) → i < length xs → (x : X) × (slice_get xs i ≡ Some x)
member_at [] i below = absurd (omega arith)
member_at (x ∷ xs) zero below = (x, refl)
member_at (x ∷ xs) (suc i) below = member_at xs i (omega arith)

-- the variable that is found, with its trace
pub found_at : (meaning : Meaning) (arguments : List (List ℕ × Argued)) (ds : List Declaration) (limit : ℕ) (name : Name) (q : ℕ) → place_below limit (place_from 0 name ds) ≡ Some q →
    (b : Bound) × (slice_get (bound_variables meaning arguments ds) q ≡ Some b)
found_at meaning arguments ds limit name q is =
    let found = below_is meaning arguments limit (place_from 0 name ds) q is in
    let there = declared_there ds 0 name q found.0 in
    let member = member_at ds q (omega arith) in
    (bound_by meaning arguments (take q (bound_variables meaning arguments ds)) q member.0, bound_at meaning arguments ds q member.0 member.1)
