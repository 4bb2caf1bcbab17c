-- No two errors that a trace has at its node are the same.
use Rattle.std.proofs.Common.{◌≡◌, ◌+◌, ◌||◌, nat_lt, ℕ, Bool, true, false, not, List, [], ◌∷◌, ◌++◌, refl, sym, ap, ◌∙◌, inl, inr}
use Rattle.std.proofs.lemmas.Bool.{cases_Bool, eqb-true}
use Rattle.std.specs.Cmp.Lexicographic.{bytes_decides}
use Rattle.std.specs.List.{list_all}
use Rattle.std.specs.Str.{bytes_eq}
use Rattle.mf_tree.specs.Kinds.{class_of}
use Rattle.mf_tree.specs.declared.fault.Kind.{Kind}
use Rattle.mf_value.specs.ErrorLists.{is_same_fault, is_same_node, is_same_spot}
use Rattle.mf_value.specs.Traces.{Node, Spot, at_operand, at_function, at_option, Placed}
use Rattle.mf_resolve.specs.Resolving.{is_free}
use Rattle.mf_resolve.proofs.Adding.{all_append, all_from, and_both, and_left, and_right, is_node, is_not}
use Rattle.mf_resolve.proofs.Own.{AreDistinct, if_own, apart_by_node}

-- each of the node's errors in one list differs from all in another
abbrev pub AreApart : Node → List Placed → List Placed → Type 0
AreApart node faults later = list_all (if_own node (λ fault. list_all (λ other. not (is_same_fault other fault)) later)) faults ≡ true

pub distinct_append : (node : Node) (faults later : List Placed) → AreDistinct node faults → AreDistinct node later → AreApart node faults later → AreDistinct node (faults ++ later)
distinct_append node [] later first second apart = second
distinct_append node (fault ∷ faults) later first second apart = (
  (λ own. all_append (λ (other : Placed). not (is_same_fault other fault)) faults later (first.0 own)
      (sym (ap (λ b. not b || list_all (λ (other : Placed). not (is_same_fault other fault)) later) own) ∙ and_left _ _ apart)),
  distinct_append node faults later first.1 second (and_right _ _ apart),
)

pub foreign_distinct : (node : Node) (faults : List Placed) → is_free node faults ≡ true → AreDistinct node faults
foreign_distinct node [] free = tt
foreign_distinct node (fault ∷ faults) free =
    ((λ own. let clash : true ≡ false = sym own ∙ is_not _ (and_left _ _ free) in cc), foreign_distinct node faults (and_right _ _ free))

pub foreign_own : (node : Node) (test : Placed → Bool) (faults : List Placed) → is_free node faults ≡ true → list_all (if_own node test) faults ≡ true
foreign_own node test faults free =
    all_from (λ (fault : Placed). not (is_same_node fault.node node)) (if_own node test) (λ fault is. ap (λ b. b || test fault) is) faults free

-- two lists whose errors at the node pass tests that no two errors pass which are the same
pub apart_by : (node : Node) (one other : Placed → Bool) → ((fault later : Placed) → one fault ≡ true → other later ≡ true → is_same_fault later fault ≡ false) →
    (faults later : List Placed) → list_all (if_own node one) faults ≡ true → list_all (if_own node other) later ≡ true → AreApart node faults later
apart_by node one other disjoint faults later first second =
    all_from (if_own node one) (if_own node (λ fault. list_all (λ other. not (is_same_fault other fault)) later))
    (λ fault is. elim (cases_Bool (is_same_node fault.node node)) [
      | inl own ↦
          ap (λ b. not b || list_all (λ other. not (is_same_fault other fault)) later) own
          ∙ all_from (if_own node other) (λ other. not (is_same_fault other fault))
          (λ second is_too. elim (cases_Bool (is_same_node second.node node)) [
            | inl own_too ↦
                ap not (disjoint fault second (sym (ap (λ b. not b || one fault) own) ∙ is) (sym (ap (λ b. not b || other second) own_too) ∙ is_too))
            | inr elsewhere ↦ ap not (apart_by_node second fault (elim (cases_Bool (is_same_node second.node fault.node)) [
              | inl same ↦
                  let clash : true ≡ false =
                  sym (ap (λ n. is_same_node n node) (is_node second.node fault.node same) ∙ own) ∙ elsewhere in
                  cc
              | inr apart ↦ apart
            ]))
          ])
          later second
      | inr elsewhere ↦ ap (λ b. not b || list_all (λ other. not (is_same_fault other fault)) later) elsewhere
    ])
    faults first

-- Tests by the spot.

abbrev pub spot_number : Spot → ℕ
spot_number at_operand = 0
spot_number at_function = 1
spot_number (at_option place) = place + 2

abbrev pub stands_before : ℕ → Placed → Bool
stands_before number fault = nat_lt (spot_number fault.spot) number

abbrev pub stands_from : ℕ → Placed → Bool
stands_from number fault = not (nat_lt (spot_number fault.spot) number)

is_spot : (a b : Spot) → is_same_spot a b ≡ true → a ≡ b
is_spot at_operand at_operand is = refl
is_spot at_function at_function is = refl
is_spot (at_option a) (at_option b) is = ap at_option (eqb-true a b is)
is_spot at_operand at_function is = cc
is_spot at_operand (at_option b) is = cc
is_spot at_function at_operand is = cc
is_spot at_function (at_option b) is = cc
is_spot (at_option a) at_operand is = cc
is_spot (at_option a) at_function is = cc

same_spots : (a b : Placed) → is_same_fault a b ≡ true → a.spot ≡ b.spot
same_spots a b is = is_spot a.spot b.spot (and_right _ _ (and_left _ _ (and_left _ _ is)))

same_classes : (a b : Placed) → is_same_fault a b ≡ true → class_of a.kind ≡ class_of b.kind
same_classes a b is = (bytes_decides (class_of a.kind) (class_of b.kind)).0 (and_right _ _ (and_left _ _ is))

pub spots_apart : (number : ℕ) (fault later : Placed) → stands_before number fault ≡ true → stands_from number later ≡ true → is_same_fault later fault ≡ false
spots_apart number fault later before from = elim (cases_Bool (is_same_fault later fault)) [
  | inl same ↦
      let clash : true ≡ false = sym (ap (λ s. nat_lt (spot_number s) number) (same_spots later fault same) ∙ before) ∙ is_not _ from in
      cc
  | inr apart ↦ apart
]

pub spots_apart_too : (number : ℕ) (fault later : Placed) → stands_from number fault ≡ true → stands_before number later ≡ true → is_same_fault later fault ≡ false
spots_apart_too number fault later from before = elim (cases_Bool (is_same_fault later fault)) [
  | inl same ↦
      let clash : true ≡ false = sym (ap (λ s. nat_lt (spot_number s) number) (sym (same_spots later fault same)) ∙ before) ∙ is_not _ from in
      cc
  | inr apart ↦ apart
]

-- Tests by the class.

abbrev pub is_class : Kind → Placed → Bool
is_class kind fault = bytes_eq (class_of fault.kind) (class_of kind)

pub classes_apart : (one other : Kind) → bytes_eq (class_of other) (class_of one) ≡ false → (fault later : Placed) → is_class one fault ≡ true → is_class other later ≡ true → is_same_fault later fault ≡ false
classes_apart one other differ fault later first second = elim (cases_Bool (is_same_fault later fault)) [
  | inl same ↦
      let one_is = (bytes_decides (class_of fault.kind) (class_of one)).0 first in
      let other_is = (bytes_decides (class_of later.kind) (class_of other)).0 second in
      let equal : class_of other ≡ class_of one = sym other_is ∙ same_classes later fault same ∙ one_is in
      let clash : true ≡ false = sym ((bytes_decides (class_of other) (class_of one)).1 equal) ∙ differ in
      cc
  | inr apart ↦ apart
]

-- of one class, or not
pub class_apart : (kind : Kind) (fault later : Placed) → not (is_class kind fault) ≡ true → is_class kind later ≡ true → is_same_fault later fault ≡ false
class_apart kind fault later first second = elim (cases_Bool (is_same_fault later fault)) [
  | inl same ↦
      let clash : true ≡ false = sym (ap (λ text. bytes_eq text (class_of kind)) (sym (same_classes later fault same)) ∙ second) ∙ is_not _ first in
      cc
  | inr apart ↦ apart
]

-- apart from two lists
pub apart_both : (node : Node) (faults one other : List Placed) → AreApart node faults one → AreApart node faults other → AreApart node faults (one ++ other)
apart_both node [] one other first second = refl
apart_both node (fault ∷ faults) one other first second =
    and_both _ _ (elim (cases_Bool (is_same_node fault.node node)) [
      | inl own ↦
          let differ : Placed → Bool = λ later. not (is_same_fault later fault) in
          ap (λ b. not b || list_all differ (one ++ other)) own
          ∙ all_append differ one other
          (sym (ap (λ b. not b || list_all differ one) own) ∙ and_left _ _ first)
          (sym (ap (λ b. not b || list_all differ other) own) ∙ and_left _ _ second)
      | inr elsewhere ↦ ap (λ b. not b || list_all (λ later. not (is_same_fault later fault)) (one ++ other)) elsewhere
    ])
    (apart_both node faults one other (and_right _ _ first) (and_right _ _ second))
