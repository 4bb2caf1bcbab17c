-- The laws of selection, over plain variables.
use Rattle.std.proofs.Common.{◌≡◌, ◌++◌, nat_eq, ℕ, List, [], ◌∷◌, refl, sym, subst, inl, inr, arith}
use Rattle.std.proofs.lemmas.Bool.{cases_Bool, eqb-true}
use Rattle.mf_tree.specs.Faults.{body_duplicates, duplicate_declarations, duplicate_option_names, faults, missing_fallback_variants, missing_selector_annotations, selection_faults, variant_key_mismatches}
use Rattle.mf_tree.specs.declared.fault.Fault.{Fault}
use Rattle.mf_tree.specs.declared.message.Body.TheVariants.{Match}
use Rattle.mf_tree.specs.declared.message.Message.{Message}
use Rattle.mf_tree.specs.declared.message.Variant.{Variant}
use Rattle.mf_tree.specs.declared.name.Name.{Name}
use Rattle.mf_value.specs.Meaning.{Meaning}
use Rattle.mf_value.specs.Selection.{Chosen, IsLess}
use Rattle.mf_value.specs.declared.value.Value.{Value}
use Rattle.mf_select.specs.Choosing.{CanChoose}
use Rattle.mf_select.proofs.Least.{differs, less_both}

front_nil : (xs ys : List Fault) → xs ++ ys ≡ [] → xs ≡ []
front_nil [] ys none = refl
front_nil (x ∷ xs) ys none = cc

back_nil : (xs ys : List Fault) → xs ++ ys ≡ [] → ys ≡ []
back_nil [] ys none = none
back_nil (x ∷ xs) ys none = cc

pub can_choose : (message : Message) (selectors : List Name) (variants : List Variant) → message.body ≡ Match selectors variants → faults message ≡ [] → CanChoose selectors variants
can_choose message selectors variants is none =
    let mismatches : List Fault = variant_key_mismatches selectors variants in
    let missing : List Fault = missing_fallback_variants selectors variants in
    let annotations : List Fault = missing_selector_annotations message.declarations selectors in
    let declarations : List Fault = duplicate_declarations message.declarations in
    let options : List Fault = duplicate_option_names message in
    let all = subst (λ body. selection_faults message.declarations body ++ declarations ++ options ++ body_duplicates body ≡ []) is none in
    let selection = front_nil (mismatches ++ missing ++ annotations) declarations (front_nil (mismatches ++ missing ++ annotations ++ declarations) options (front_nil (mismatches ++ missing ++ annotations ++ declarations ++ options) _ all)) in
    let keys = front_nil (mismatches ++ missing) annotations selection in
    record {
      keyed = front_nil mismatches missing keys;
      fallback = back_nil mismatches missing keys;
      distinct = back_nil (mismatches ++ missing ++ annotations ++ declarations ++ options) _ all;
    }

less_self : (ranks : List ℕ) → IsLess ranks ranks → ⊥
less_self [] less = less
less_self (rank ∷ ranks) (inl less) = omega arith
less_self (rank ∷ ranks) (inr less) = less_self ranks less.1

pub one_chosen : (meaning : Meaning) (values : List Value) (variants : List Variant) (place other : ℕ) → Chosen meaning values variants place → Chosen meaning values variants other → place ≡ other
one_chosen meaning values variants place other first second = elim (cases_Bool (nat_eq place other)) [
  | inl same ↦ eqb-true place other same
  | inr differ ↦
      let apart = differs place other differ in
      let less = first.least other second.ranks (λ same. apart (sym same)) second.matches in
      let more = second.least place first.ranks apart first.matches in
      absurd (less_self first.ranks (less_both first.ranks second.ranks first.ranks less more))
]
