-- One step behind another.
use Rattle.std.proofs.Common.{◌≡◌, ◌<◌, ℕ, true, false, List, [], ◌++◌, map, slice_get, Option, Some, None, refl, sym, ap, subst, ◌∙◌, inl, inr, arith}
use Rattle.std.proofs.lemmas.Bool.{cases_Bool, eqb-true}
use Rattle.std.proofs.lemmas.List.{map-append}
use Rattle.std.specs.List.{list_all}
use Rattle.mf_tree.specs.declared.fault.Fault.{Fault}
use Rattle.mf_value.specs.ErrorLists.{is_same_node, without_place}
use Rattle.mf_value.specs.Meaning.{Meaning}
use Rattle.mf_value.specs.Traces.{Bound, Node, of_call, of_declaration, Placed}
use Rattle.mf_value.specs.declared.value.Value.{Value}
use Rattle.mf_resolve.specs.Resolving.{ScopeState, Fits, IsOutside, Keeps, Stands, Steps, behind_at, bound_of, is_free, with_errors}
use Rattle.mf_resolve.proofs.Adding.{all_stay, behind_append, own_added, own_free, stays_free}

pub keeps_all : (limit : ℕ) (scope : ScopeState) → Keeps limit scope scope
keeps_all limit scope = record { arguments = refl; declarations = refl; later = λ place le. refl; kept = λ place value is. is }

pub keeps_both : (limit : ℕ) (a b c : ScopeState) → Keeps limit a b → Keeps limit b c → Keeps limit a c
keeps_both limit a b c first second = record {
  arguments = second.arguments ∙ first.arguments;
  declarations = second.declarations ∙ first.declarations;
  later = λ place le. second.later place le ∙ first.later place le;
  kept = λ place value is. second.kept place value (first.kept place value is);
}

-- another node than those below a limit
pub outside_apart : (limit place : ℕ) (node : Node) → IsOutside limit node → place < limit → is_same_node node (of_declaration place) ≡ false
outside_apart limit place (of_call number) outside below = refl
outside_apart limit place (of_declaration other) outside below = elim (cases_Bool (is_same_node (of_declaration other) (of_declaration place))) [
  | inl same ↦ let is = eqb-true other place same in absurd (omega arith)
  | inr apart ↦ apart
]

pub fits_more : (node : Node) (faults before : List Placed) (place : ℕ) (bound : Option Bound) (kept : Option (Option Value)) →
    is_free (of_declaration place) faults ≡ true → Fits before place bound kept → Fits (behind_at node before faults) place bound kept
fits_more node faults before place None kept free fits = fits
fits_more node faults before place (Some bound) None free fits = fits
fits_more node faults before place (Some bound) (Some None) free fits = stays_free node (of_declaration place) faults before fits free
fits_more node faults before place (Some bound) (Some (Some value)) free fits = (fits.0, all_stay node faults before bound.trace.faults fits.1)

-- nothing is done
pub nothing : (meaning : Meaning) (limit : ℕ) (scope : ScopeState) (Says : Node → Type 0) → ((node : Node) → Says node) →
    Steps meaning limit scope scope (λ node. []) Says
nothing meaning limit scope Says says = record {
  keeps = keeps_all limit scope;
  stands = λ node before outside stands. stands;
  says = λ node before outside stands. says node;
}

-- one step, and another
pub both : (meaning : Meaning) (limit : ℕ) (a b c : ScopeState) (f g : Node → List Placed) (P Q : Node → Type 0) →
    Steps meaning limit a b f P → Steps meaning limit b c g Q → Steps meaning limit a c (λ node. f node ++ g node) (λ node. P node × Q node)
both meaning limit a b c f g P Q first second = record {
  keeps = keeps_both limit a b c first.keeps second.keeps;
  stands = λ node before outside stands.
      subst (Stands meaning c limit) (sym (behind_append node (f node) (g node) before))
      (second.stands node (behind_at node before (f node)) outside (first.stands node before outside stands));
  says = λ node before outside stands.
      (first.says node before outside stands, second.says node (behind_at node before (f node)) outside (first.stands node before outside stands));
}

-- what is said, said otherwise
pub told : (meaning : Meaning) (limit : ℕ) (a b : ScopeState) (f : Node → List Placed) (P Q : Node → Type 0) → ((node : Node) → P node → Q node) →
    Steps meaning limit a b f P → Steps meaning limit a b f Q
told meaning limit a b f P Q follows step = record {
  keeps = step.keeps;
  stands = step.stands;
  says = λ node before outside stands. follows node (step.says node before outside stands);
}

-- the same errors, written otherwise: where what is said shows it
pub traced : (meaning : Meaning) (limit : ℕ) (a b : ScopeState) (f g : Node → List Placed) (P : Node → Type 0) → ((node : Node) → P node → f node ≡ g node) →
    Steps meaning limit a b f P → Steps meaning limit a b g P
traced meaning limit a b f g P same step = record {
  keeps = step.keeps;
  stands = λ node before outside stands.
      subst (λ (faults : List Placed). Stands meaning b limit (behind_at node before faults)) (same node (step.says node before outside stands))
      (step.stands node before outside stands);
  says = step.says;
}

-- a node's own errors
pub owned_at : (meaning : Meaning) (limit : ℕ) (scope : ScopeState) (errors : List Fault) (node : Node) (faults before : List Placed) →
    list_all (λ (fault : Placed). is_same_node fault.node node) faults ≡ true → errors ≡ map without_place faults → IsOutside limit node →
    Stands meaning scope limit before → Stands meaning (with_errors scope errors) limit (behind_at node before faults)
owned_at meaning limit scope errors node faults before own listed outside stands = record {
  listed =
      ap (λ front. front ++ errors) stands.listed
      ∙ ap (λ back. map without_place before ++ back) listed
      ∙ sym (map-append without_place before faults)
      ∙ ap (map without_place) (sym (own_added node faults before own));
  each = λ place below.
      fits_more node faults before place (slice_get (bound_of meaning scope) place) (slice_get scope.resolved place)
      (own_free node (of_declaration place) faults own (outside_apart limit place node outside below))
      (stands.each place below);
}

keeps_with : (limit : ℕ) (scope : ScopeState) (errors : List Fault) → Keeps limit scope (with_errors scope errors)
keeps_with limit scope errors = record { arguments = refl; declarations = refl; later = λ place le. refl; kept = λ place value is. is }

pub owned : (meaning : Meaning) (limit : ℕ) (scope : ScopeState) (errors : List Fault) (f : Node → List Placed) (P : Node → Type 0) →
    ((node : Node) → list_all (λ (fault : Placed). is_same_node fault.node node) (f node) ≡ true) →
    ((node : Node) → errors ≡ map without_place (f node)) →
    ((node : Node) → P node) →
    Steps meaning limit scope (with_errors scope errors) f P
owned meaning limit scope errors f P own listed says = record {
  keeps = keeps_with limit scope errors;
  stands = λ node before outside stands. owned_at meaning limit scope errors node (f node) before (own node) (listed node) outside stands;
  says = λ node before outside stands. says node;
}

-- a step, and a node's own errors, where what the step says shows them
pub then_own : (meaning : Meaning) (limit : ℕ) (a b c : ScopeState) (f g : Node → List Placed) (P Q : Node → Type 0) → Steps meaning limit a b f P →
    (errors : List Fault) → c ≡ with_errors b errors →
    ((node : Node) → P node → (list_all (λ (fault : Placed). is_same_node fault.node node) (g node) ≡ true) × (errors ≡ map without_place (g node)) × Q node) →
    Steps meaning limit a c (λ node. f node ++ g node) Q
then_own meaning limit a b c f g P Q first errors is tells =
    subst (λ (end : ScopeState). Steps meaning limit a end (λ node. f node ++ g node) Q) (sym is) (record {
      keeps = keeps_both limit a b (with_errors b errors) first.keeps (keeps_with limit b errors);
      stands = λ node before outside stands.
          let tell = tells node (first.says node before outside stands) in
          subst (Stands meaning (with_errors b errors) limit) (sym (behind_append node (f node) (g node) before))
          (owned_at meaning limit b errors node (g node) (behind_at node before (f node)) tell.0 tell.1 outside (first.stands node before outside stands));
      says = λ node before outside stands. (tells node (first.says node before outside stands)).2;
    })
