-- A declaration is resolved at its first use.
use Rattle.std.proofs.Common.{◌≡◌, ◌≢◌, ◌<◌, ◌≤◌, ◌+◌, nat_lt, ℕ, zero, suc, Bool, true, false, not, ◌&&◌, List, [], ◌∷◌, ◌++◌, take, slice_get, Option, Some, None, refl, sym, ap, subst, ◌∙◌, inl, inr, arith, ⊎_elim}
use Rattle.std.proofs.lemmas.Bool.{cases_Bool, cases_lt, eqb-true, lt-ltb, ltb-true}
use Rattle.std.specs.List.{list_all}
use Rattle.mf_text.specs.declared.arguments.Argued.{Argued}
use Rattle.mf_tree.specs.declared.message.Declaration.{Declaration}
use Rattle.mf_tree.specs.declared.message.Declaration.TheVariants.{Input, Local}
use Rattle.mf_value.specs.ErrorLists.{firsts_behind, is_among, is_same_node}
use Rattle.mf_value.specs.Meaning.{Meaning}
use Rattle.mf_value.specs.Traces.{Bound, Node, Placed, Trace, bound_by, bound_variables, declared_trace, of_call, of_declaration}
use Rattle.mf_value.specs.declared.value.Value.{Value}
use Rattle.mf_resolve.specs.Resolving.{Evaluates, Fits, IsOutside, Resolves, ScopeState, Stands, behind_at, bound_below, bound_of, declared_below as declared_trace_below, faults_of, is_free, value_of}
use Rattle.mf_resolve.specs.Sources.{kept_value}
use Rattle.mf_resolve.proofs.Adding.{all_append, all_from, all_there, none_added, others_added}
use Rattle.mf_resolve.proofs.Binding.{bound_at, none_bound_at}
use Rattle.mf_resolve.proofs.Own.{AreDistinct, distinct_added}
use Rattle.mf_resolve.proofs.OwnErrors.{expression_distinct}
use Rattle.mf_resolve.proofs.Steps.{fits_more, keeps_all}
use Rattle.mf_resolve.proofs.Tracing.{expression_holds, of_bound}

-- Where the errors of declarations stand.

abbrev pub is_declared : ℕ → Node → Bool
is_declared limit (of_declaration place) = nat_lt place limit
is_declared limit (of_call number) = false

abbrev pub stands_below : ℕ → Placed → Bool
stands_below limit fault = is_declared limit fault.node

declared_more : (limit : ℕ) (node : Node) → is_declared limit node ≡ true → is_declared (limit + 1) node ≡ true
declared_more limit (of_declaration place) is = let below = ltb-true place limit is in lt-ltb place (limit + 1) (omega arith)
declared_more limit (of_call number) is = cc

below_more : (limit : ℕ) (faults : List Placed) → list_all (stands_below limit) faults ≡ true → list_all (stands_below (limit + 1)) faults ≡ true
below_more limit faults is = all_from (stands_below limit) (stands_below (limit + 1)) (λ fault. declared_more limit fault.node) faults is

bound_more : (limit : ℕ) (bound : List Bound) → of_bound (stands_below limit) bound ≡ true → of_bound (stands_below (limit + 1)) bound ≡ true
bound_more limit bound is =
    all_from (λ (variable : Bound). list_all (stands_below limit) variable.trace.faults) (λ (variable : Bound). list_all (stands_below (limit + 1)) variable.trace.faults)
    (λ variable. below_more limit variable.trace.faults) bound is

next_is : (k : ℕ) → k + 1 ≡ suc k
next_is k = omega arith

-- a list's front with one member more
front_some : {X : Type 0} → (xs : List X) (k : ℕ) (x : X) → slice_get xs k ≡ Some x → take (suc k) xs ≡ take k xs ++ x ∷ []
front_some [] k x is = cc
front_some (y ∷ xs) zero x is = let same : y ≡ x = cc in ap (λ z. z ∷ []) same
front_some (y ∷ xs) (suc k) x is = ap (λ zs. y ∷ zs) (front_some xs k x is)

front_none : {X : Type 0} → (xs : List X) (k : ℕ) → slice_get xs k ≡ None → take (suc k) xs ≡ take k xs
front_none [] zero is = refl
front_none [] (suc k) is = refl
front_none (y ∷ xs) zero is = cc
front_none (y ∷ xs) (suc k) is = ap (λ zs. y ∷ zs) (front_none xs k is)

module _ (meaning : Meaning) (arguments : List (List ℕ × Argued)) (ds : List Declaration) where
  abbrev all_bound : List Bound
  all_bound = bound_variables meaning arguments ds

  below_declared : (k : ℕ) (d : Declaration) → of_bound (stands_below k) (take k all_bound) ≡ true →
      list_all (stands_below (k + 1)) (declared_trace meaning arguments (take k all_bound) k d).faults ≡ true
  below_declared k (Input name expression) is =
      expression_holds (stands_below (k + 1)) (of_declaration k) (λ spot kind of. lt-ltb k (k + 1) (omega arith)) meaning arguments [] (take k all_bound) expression refl (bound_more k (take k all_bound) is)
  below_declared k (Local name expression) is =
      expression_holds (stands_below (k + 1)) (of_declaration k) (λ spot kind of. lt-ltb k (k + 1) (omega arith)) meaning arguments (take k all_bound) (take k all_bound) expression (bound_more k (take k all_bound) is) (bound_more k (take k all_bound) is)

  next_below : (k : ℕ) (found : Option Declaration) → slice_get ds k ≡ found → of_bound (stands_below k) (take k all_bound) ≡ true → of_bound (stands_below (k + 1)) (take (k + 1) all_bound) ≡ true
  next_below k (Some d) is below =
      ap (λ n. of_bound (stands_below (k + 1)) (take n all_bound)) (next_is k)
      ∙ ap (of_bound (stands_below (k + 1))) (front_some all_bound k (bound_by meaning arguments (take k all_bound) k d) (bound_at meaning arguments ds k d is))
      ∙ all_append _ (take k all_bound) _ (bound_more k (take k all_bound) below) (ap (λ b. b && true) (below_declared k d below))
  next_below k None is below =
      ap (λ n. of_bound (stands_below (k + 1)) (take n all_bound)) (next_is k)
      ∙ ap (of_bound (stands_below (k + 1))) (front_none all_bound k (none_bound_at meaning arguments ds k is)) ∙ bound_more k (take k all_bound) below

  pub all_below : (k : ℕ) → of_bound (stands_below k) (take k all_bound) ≡ true
  all_below zero = refl
  all_below (suc k) = subst (λ n. of_bound (stands_below n) (take n all_bound) ≡ true) (next_is k) (next_below k (slice_get ds k) refl (all_below k))

  -- the errors of one declaration
  pub declared_below : (k : ℕ) (d : Declaration) → list_all (stands_below (k + 1)) (declared_trace meaning arguments (take k all_bound) k d).faults ≡ true
  declared_below k d = below_declared k d (all_below k)

-- A node that is none of the first declarations.

outside_apart : (limit : ℕ) (node : Node) (fault : Placed) → IsOutside limit node → stands_below limit fault ≡ true → is_same_node fault.node node ≡ false
outside_apart limit node fault outside below = by fault.node node outside below where
  by : (a b : Node) → IsOutside limit b → is_declared limit a ≡ true → is_same_node a b ≡ false
  by (of_declaration place) (of_declaration other) outside below = elim (cases_Bool (is_same_node (of_declaration place) (of_declaration other))) [
    | inl same ↦
        let is = eqb-true place other same in
        let less = ltb-true place limit below in
        absurd (omega arith)
    | inr apart ↦ apart
  ]
  by (of_declaration place) (of_call number) outside below = refl
  by (of_call number) (of_declaration other) outside below = refl
  by (of_call number) (of_call other) outside below = cc

pub outside_free : (limit : ℕ) (node : Node) (faults : List Placed) → IsOutside limit node → list_all (stands_below limit) faults ≡ true → is_free node faults ≡ true
outside_free limit node faults outside below =
    all_from (stands_below limit) (λ (fault : Placed). not (is_same_node fault.node node)) (λ fault is. ap not (outside_apart limit node fault outside is)) faults below

pub outside_bound : (limit : ℕ) (node : Node) (bound : List Bound) → IsOutside limit node → of_bound (stands_below limit) bound ≡ true →
    of_bound (λ fault. not (is_same_node fault.node node)) bound ≡ true
outside_bound limit node bound outside below =
    all_from (λ (variable : Bound). list_all (stands_below limit) variable.trace.faults) (λ (variable : Bound). list_all (λ (fault : Placed). not (is_same_node fault.node node)) variable.trace.faults)
    (λ variable. outside_free limit node variable.trace.faults outside) bound below

outside_more : (limit more : ℕ) (node : Node) → limit ≤ more → IsOutside more node → IsOutside limit node
outside_more limit more (of_call number) le outside = outside
outside_more limit more (of_declaration place) le outside = omega (arith, le, outside)

-- what a declaration is evaluated to is its trace
pub declared_same : (meaning : Meaning) (place : ℕ) (scope : ScopeState) (d : Declaration) →
    declared_trace_below meaning place scope d (of_declaration place) ≡ declared_trace meaning scope.arguments (bound_below meaning scope place) place d
declared_same meaning place scope (Input name expression) = refl
declared_same meaning place scope (Local name expression) = refl

-- The errors of a declaration are distinct.
declared_distinct : (meaning : Meaning) (arguments : List (List ℕ × Argued)) (ds : List Declaration) (k : ℕ) (d : Declaration) →
    AreDistinct (of_declaration k) (declared_trace meaning arguments (take k (bound_variables meaning arguments ds)) k d).faults
declared_distinct meaning arguments ds k (Input name expression) =
    let free = outside_bound k (of_declaration k) (take k (bound_variables meaning arguments ds)) (omega arith) (all_below meaning arguments ds k) in
    expression_distinct (of_declaration k) meaning arguments [] (take k (bound_variables meaning arguments ds)) refl free expression
declared_distinct meaning arguments ds k (Local name expression) =
    let free = outside_bound k (of_declaration k) (take k (bound_variables meaning arguments ds)) (omega arith) (all_below meaning arguments ds k) in
    expression_distinct (of_declaration k) meaning arguments (take k (bound_variables meaning arguments ds)) (take k (bound_variables meaning arguments ds)) free free expression

module _ (meaning : Meaning) (outer : ℕ) (old : ScopeState) (place : ℕ) (d : Declaration) (declared : slice_get old.declarations place ≡ Some d) (inside : place < outer) where
  abbrev bound : Bound
  bound = bound_by meaning old.arguments (bound_below meaning old place) place d

  bound_is : slice_get (bound_of meaning old) place ≡ Some bound
  bound_is = bound_at meaning old.arguments old.declarations place d declared

  free_outside : (node : Node) → IsOutside outer node → is_free node bound.trace.faults ≡ true
  free_outside node outside = outside_free (place + 1) node bound.trace.faults (outside_more (place + 1) outer node (omega arith) outside) (declared_below meaning old.arguments old.declarations place d)

  -- it was resolved before
  pub resolved_before : (value : Value) → slice_get old.resolved place ≡ Some (Some value) → Resolves meaning outer old old place
  resolved_before value kept = record {
    keeps = keeps_all outer old;
    stands = λ node before outside stands.
        let fits : Fits before place (Some bound) (Some (Some value)) =
        subst (λ k. Fits before place (Some bound) k) kept (subst (λ b. Fits before place b (slice_get old.resolved place)) bound_is (stands.each place inside)) in
        let same : behind_at node before (faults_of (slice_get (bound_of meaning old) place)) ≡ before =
        ap (λ b. behind_at node before (faults_of b)) bound_is
        ∙ others_added node bound.trace.faults before (free_outside node outside)
        ∙ none_added bound.trace.faults before fits.1 in
        subst (Stands meaning old outer) (sym same) stands;
    says = λ node before outside stands.
        let fits : Fits before place (Some bound) (Some (Some value)) =
        subst (λ k. Fits before place (Some bound) k) kept (subst (λ b. Fits before place b (slice_get old.resolved place)) bound_is (stands.each place inside)) in
        ap kept_value kept ∙ ap Some fits.0 ∙ sym (ap value_of bound_is);
  }

  -- it wasn't
  module _ (empty : slice_get old.resolved place ≡ Some None) where
    fits_before : (before : List Placed) → Stands meaning old outer before → is_free (of_declaration place) before ≡ true
    fits_before before stands = subst (λ k. Fits before place (Some bound) k) empty (subst (λ b. Fits before place b (slice_get old.resolved place)) bound_is (stands.each place inside))

    below_too : (before : List Placed) → Stands meaning old outer before → Stands meaning old place before
    below_too before stands = record { listed = stands.listed; each = λ other below. stands.each other (omega arith) }

    apart_from : (other : ℕ) (value : Value) → slice_get old.resolved other ≡ Some (Some value) → other ≢ place
    apart_from other value was same = let clash : Some (Some value) ≡ Some None = sym was ∙ ap (slice_get old.resolved) same ∙ empty in cc

    -- it is resolved now: behind its expression its value is kept
    pub resolved_now : (mid new : ScopeState) (traced : Node → Trace) (value : Value) → traced (of_declaration place) ≡ bound.trace →
        Evaluates meaning place old mid traced value →
        new.arguments ≡ mid.arguments → new.declarations ≡ mid.declarations → new.faults ≡ mid.faults →
        slice_get new.resolved place ≡ Some (Some value) → ((other : ℕ) → other ≢ place → slice_get new.resolved other ≡ slice_get mid.resolved other) →
        Resolves meaning outer old new place
    resolved_now mid new traced value is evaluates arguments_are declarations_are faults_are kept others =
        let node_here : Node = of_declaration place in
        let arguments_same = arguments_are ∙ evaluates.keeps.arguments in
        let declarations_same = declarations_are ∙ evaluates.keeps.declarations in
        let bound_new : bound_of meaning new ≡ bound_of meaning old =
        ap (λ arguments. bound_variables meaning arguments new.declarations) arguments_same ∙ ap (bound_variables meaning old.arguments) declarations_same in
        let bound_mid : bound_of meaning mid ≡ bound_of meaning old =
        ap (λ arguments. bound_variables meaning arguments mid.declarations) evaluates.keeps.arguments ∙ ap (bound_variables meaning old.arguments) evaluates.keeps.declarations in
        record {
          keeps = record {
            arguments = arguments_same;
            declarations = declarations_same;
            later = λ other le. others other (omega arith) ∙ evaluates.keeps.later other (omega arith);
            kept = λ other own was. others other (apart_from other own was) ∙ evaluates.keeps.kept other own was;
          };
          stands = λ node before outside stands.
              let fits = fits_before before stands in
              let first = evaluates.stands node_here before (omega arith) (below_too before stands) in
              let here : behind_at node_here before (traced node_here).faults ≡ firsts_behind before bound.trace.faults =
              ap (λ (t : Trace). behind_at node_here before t.faults) is
              ∙ distinct_added node_here bound.trace.faults before fits (declared_distinct meaning old.arguments old.declarations place d) in
              let there : behind_at node before (faults_of (slice_get (bound_of meaning old) place)) ≡ firsts_behind before bound.trace.faults =
              ap (λ b. behind_at node before (faults_of b)) bound_is ∙ others_added node bound.trace.faults before (free_outside node outside) in
              let behind : Stands meaning mid place (firsts_behind before bound.trace.faults) = subst (Stands meaning mid place) here first in
              subst (Stands meaning new outer) (sym there) (record {
                listed = faults_are ∙ behind.listed;
                each = λ other below. ⊎_elim
                    (λ (before_place : other < place).
                    subst (λ k. Fits (firsts_behind before bound.trace.faults) other (slice_get (bound_of meaning new) other) k) (sym (others other (omega arith)))
                    (subst (λ b. Fits (firsts_behind before bound.trace.faults) other (slice_get b other) (slice_get mid.resolved other)) (bound_mid ∙ sym bound_new)
                    (behind.each other before_place)))
                    (λ (from_place : place ≤ other). ⊎_elim
                    (λ (behind_place : place < other).
                    subst (λ k. Fits (firsts_behind before bound.trace.faults) other (slice_get (bound_of meaning new) other) k)
                    (sym (others other (omega arith) ∙ evaluates.keeps.later other (omega arith)))
                    (subst (λ b. Fits (firsts_behind before bound.trace.faults) other (slice_get b other) (slice_get old.resolved other)) (sym bound_new)
                    (subst (λ faults. Fits faults other (slice_get (bound_of meaning old) other) (slice_get old.resolved other))
                    (distinct_added node_here bound.trace.faults before fits (declared_distinct meaning old.arguments old.declarations place d))
                    (fits_more node_here bound.trace.faults before other (slice_get (bound_of meaning old) other) (slice_get old.resolved other)
                    (outside_free (place + 1) (of_declaration other) bound.trace.faults (omega arith) (declared_below meaning old.arguments old.declarations place d))
                    (stands.each other below)))))
                    (λ (at_most : other ≤ place).
                    let same : place ≡ other = omega arith in
                    subst (λ at. Fits (firsts_behind before bound.trace.faults) at (slice_get (bound_of meaning new) at) (slice_get new.resolved at)) same
                    (subst (λ k. Fits (firsts_behind before bound.trace.faults) place (slice_get (bound_of meaning new) place) k) (sym kept)
                    (subst (λ b. Fits (firsts_behind before bound.trace.faults) place (slice_get b place) (Some (Some value))) (sym bound_new)
                    (subst (λ b. Fits (firsts_behind before bound.trace.faults) place b (Some (Some value))) (sym bound_is) (
                      evaluates.says node_here before (omega arith) (below_too before stands) ∙ ap (λ (t : Trace). t.value) is,
                      subst (λ faults. list_all (is_among faults) bound.trace.faults ≡ true)
                          (distinct_added node_here bound.trace.faults before fits (declared_distinct meaning old.arguments old.declarations place d))
                          (all_there node_here bound.trace.faults before),
                    )))))
                    (cases_lt place other))
                    (cases_lt other place);
              });
          says = λ node before outside stands.
              let says = evaluates.says node_here before (omega arith) (below_too before stands) in
              ap kept_value kept ∙ ap Some says ∙ ap (λ (t : Trace). Some t.value) is ∙ sym (ap value_of bound_is);
        }
