-- Annotation, and the test that goes from declaration to declaration.
use Rattle.std.proofs.Common.{◌≡◌, ◌↔◌, ◌⊎◌, ◌<◌, ◌≤◌, ◌+◌, ◌-◌, ℕ, zero, suc, Bool, true, false, cond, List, [], ◌∷◌, length, Option, Some, None, IsTrue, find, refl, ap, sym, ◌∙◌, subst, inl, inr, arith}
use Rattle.std.proofs.lemmas.Bool.{cases_lt, false≢true}
use Rattle.std.specs.List.{AllByRecursion}
use Rattle.mf_tree.specs.declared.name.Name.{Name}
use Rattle.mf_tree.specs.declared.expression.Call.{Call}
use Rattle.mf_tree.specs.declared.expression.Expression.{Expression}
use Rattle.mf_tree.specs.declared.expression.Operand.{Operand}
use Rattle.mf_tree.specs.declared.message.Declaration.{Declaration}
use Rattle.mf_tree.specs.declared.expression.Operand.TheVariants as Operands
use Rattle.mf_tree.specs.declared.message.Declaration.TheVariants as Declarations
use Rattle.mf_tree.specs.Equality.{is_same_name}
use Rattle.mf_tree.specs.Faults.{annotated_by_function, annotated_by_operand, expression_of, first_declaration, is_annotated, is_annotated_within, is_annotating, is_annotating_call, is_annotating_operand, name_of, HasFunction, IsAnnotated, IsVariable}

-- where more is known, no less is annotated
call_more : (function : Option Call) (a b : Bool) → (a ≡ true → b ≡ true) → is_annotating_call function a ≡ true → is_annotating_call function b ≡ true
call_more None a b more is = more is
call_more (Some call) a b more is = refl

operand_more : (known other : Name → Bool) (operand : Operand) → ((name : Name) → known name ≡ true → other name ≡ true) →
    is_annotating_operand known operand ≡ true → is_annotating_operand other operand ≡ true
operand_more known other Operands.Absent more is = is
operand_more known other (Operands.Literal value) more is = is
operand_more known other (Operands.Variable name) more is = more name is

annotating_more : (known other : Name → Bool) (first : Option Declaration) → ((name : Name) → known name ≡ true → other name ≡ true) →
    is_annotating known first ≡ true → is_annotating other first ≡ true
annotating_more known other None more is = is
annotating_more known other (Some (Declarations.Input name expression)) more is = is
annotating_more known other (Some (Declarations.Local name expression)) more is =
    call_more expression.function (is_annotating_operand known expression.operand) (is_annotating_operand other expression.operand) (operand_more known other expression.operand more) is

-- how many declarations pass a test
bit : Bool → ℕ
bit true = 1
bit false = 0

count : (Declaration → Bool) → List Declaration → ℕ
count test [] = 0
count test (d ∷ ds) = bit (test d) + count test ds

bit_most : (b : Bool) → bit b ≤ 1
unfolding bit
bit_most true = omega arith
bit_most false = omega arith

count_most : (test : Declaration → Bool) (ds : List Declaration) → count test ds ≤ length ds
unfolding count
count_most test [] = omega arith
count_most test (d ∷ ds) = let one = bit_most (test d) in let rest = count_most test ds in omega arith

-- where a test passes whatever another passes, they agree or more pass
Agree : (Declaration → Bool) → (Declaration → Bool) → List Declaration → Type 0
Agree test other ds = AllByRecursion (λ d. other d ≡ test d) ds

bits_more : (a b : Bool) → (a ≡ true → b ≡ true) → bit a ≤ bit b
unfolding bit
bits_more true true more = omega arith
bits_more true false more = absurd (false≢true (more refl))
bits_more false true more = omega arith
bits_more false false more = omega arith

count_more : (test other : Declaration → Bool) (ds : List Declaration) → ((d : Declaration) → test d ≡ true → other d ≡ true) → count test ds ≤ count other ds
unfolding count
count_more test other [] more = omega arith
count_more test other (d ∷ ds) more = let one = bits_more (test d) (other d) (more d) in let rest = count_more test other ds more in omega arith

one_more : (a b : Bool) (m n : ℕ) (All : Type 0) → (a ≡ true → b ≡ true) → m ≤ n → All ⊎ (m < n) → ((b ≡ a) × All) ⊎ (bit a + m < bit b + n)
unfolding bit
one_more true true m n All more le (inl all) = inl (refl, all)
one_more true true m n All more le (inr lt) = inr (omega arith)
one_more true false m n All more le so_far = absurd (false≢true (more refl))
one_more false true m n All more le so_far = inr (omega arith)
one_more false false m n All more le (inl all) = inl (refl, all)
one_more false false m n All more le (inr lt) = inr (omega arith)

agree_or_more : (test other : Declaration → Bool) (ds : List Declaration) → ((d : Declaration) → test d ≡ true → other d ≡ true) → Agree test other ds ⊎ (count test ds < count other ds)
unfolding count Agree
agree_or_more test other [] more = inl tt
agree_or_more test other (d ∷ ds) more =
    one_more (test d) (other d) (count test ds) (count other ds) (Agree test other ds) (more d) (count_more test other ds more) (agree_or_more test other ds more)

-- what holds of each declaration holds of the one that is found
some_same : {X : Type 0} → (x y : X) → Some x ≡ Some y → x ≡ y
some_same x y same = cc

chosen_holds : (P : Declaration → Type 0) (x d : Declaration) (rest : Option Declaration) (b : Bool) → P x → (rest ≡ Some d → P d) → cond b (Some x) rest ≡ Some d → P d
chosen_holds P x d rest true holds others is = subst P (some_same x d is) holds
chosen_holds P x d rest false holds others is = others is

found_holds : (P : Declaration → Type 0) (test : Declaration → Bool) (ds : List Declaration) (d : Declaration) → AllByRecursion P ds → find test ds ≡ Some d → P d
found_holds P test [] d all is = cc
found_holds P test (x ∷ ds) d all is = chosen_holds P x d (find test ds) (test x) all.0 (found_holds P test ds d all.1) is

module _ (ds : List Declaration) where
  abbrev within : ℕ → Name → Bool
  within n name = is_annotated_within ds n name

  within_more : (n : ℕ) (name : Name) → within n name ≡ true → within (suc n) name ≡ true
  within_more zero name is = absurd (false≢true is)
  within_more (suc n) name is = annotating_more (within n) (within (suc n)) (first_declaration ds name) (within_more n) is

  -- whether a declaration annotates its variable within so many steps
  by : ℕ → Declaration → Bool
  by zero d = false
  by (suc n) d = is_annotating (within n) (Some d)

  by_more : (n : ℕ) (d : Declaration) → by n d ≡ true → by (suc n) d ≡ true
  unfolding by
  by_more zero d is = absurd (false≢true is)
  by_more (suc n) d is = annotating_more (within n) (within (suc n)) (Some d) (within_more n) is

  by_first : ℕ → Option Declaration → Bool
  by_first n None = false
  by_first n (Some d) = by n d

  nothing_first : (first : Option Declaration) → false ≡ by_first zero first
  unfolding by by_first
  nothing_first None = refl
  nothing_first (Some d) = refl

  something_first : (n : ℕ) (first : Option Declaration) → is_annotating (within n) first ≡ by_first (suc n) first
  unfolding by by_first
  something_first n None = refl
  something_first n (Some d) = refl

  within_first : (n : ℕ) (name : Name) → within n name ≡ by_first n (first_declaration ds name)
  within_first zero name = nothing_first (first_declaration ds name)
  within_first (suc n) name = something_first n (first_declaration ds name)

  -- a step that changes nothing
  Stable : ℕ → Type 0
  Stable n = Agree (by n) (by (suc n)) ds

  -- each step annotates one declaration more, until one changes nothing
  StableBelow : ℕ → Type 0
  StableBelow n = (k : ℕ) × (k < n) × Stable k

  grown : (n : ℕ) → n ≤ count (by n) ds ⊎ StableBelow n → Agree (by n) (by (suc n)) ds ⊎ (count (by n) ds < count (by (suc n)) ds) → suc n ≤ count (by (suc n)) ds ⊎ StableBelow (suc n)
  unfolding Stable StableBelow
  grown n (inl enough) (inl agree) = inr (n, omega arith, agree)
  grown n (inl enough) (inr more) = inl (omega arith)
  grown n (inr stable) changed = inr (stable.0, (let low = stable.1 in omega arith), stable.2)

  grows : (n : ℕ) → n ≤ count (by n) ds ⊎ StableBelow n
  grows zero = inl (omega arith)
  grows (suc n) = grown n (grows n) (agree_or_more (by n) (by (suc n)) ds (by_more n))

  stable_at_last : suc (length ds) ≤ count (by (suc (length ds))) ds ⊎ StableBelow (suc (length ds)) → StableBelow (suc (length ds))
  stable_at_last (inl many) = let most = count_most (by (suc (length ds))) ds in absurd (omega arith)
  stable_at_last (inr stable) = stable

  stable_first : (k : ℕ) → Stable k → (name : Name) (first : Option Declaration) → first_declaration ds name ≡ first → by_first (suc k) first ≡ by_first k first
  unfolding Stable Agree by_first
  stable_first k stable name None is = refl
  stable_first k stable name (Some d) is = found_holds (λ d. by (suc k) d ≡ by k d) (λ d. is_same_name name (name_of d)) ds d stable is

  stable_within : (k : ℕ) → Stable k → (name : Name) → within (suc k) name ≡ within k name
  stable_within k stable name =
      within_first (suc k) name
      ∙ stable_first k stable name (first_declaration ds name) refl
      ∙ sym (within_first k name)

  -- so many steps later
  later : ℕ → ℕ → ℕ
  later zero k = k
  later (suc j) k = suc (later j k)

  later_is : (j k : ℕ) → later j k ≡ j + k
  unfolding later
  later_is zero k = omega arith
  later_is (suc j) k = let rest = later_is j k in omega arith

  stays : (k : ℕ) → Stable k → (j : ℕ) (name : Name) → within (later j k) name ≡ within k name
  unfolding later
  stays k stable zero name = refl
  stays k stable (suc j) name =
      (λ i. is_annotating (λ other. stays k stable j other i) (first_declaration ds name))
      ∙ stable_within k stable name

  more_later : (k j : ℕ) (name : Name) → within k name ≡ true → within (later j k) name ≡ true
  unfolding later
  more_later k zero name is = is
  more_later k (suc j) name is = within_more (later j k) name (more_later k j name is)

  -- what is annotated in some steps is in as many as there are declarations
  enough : (n : ℕ) (name : Name) → within n name ≡ true → within (length ds) name ≡ true
  unfolding StableBelow
  enough n name is =
      let stable = stable_at_last (grows (suc (length ds))) in
      let k = stable.0 in
      let low = stable.1 in
      let up : (m : ℕ) → m ≤ length ds → within m name ≡ true → within (length ds) name ≡ true =
      λ m le is.
      let at : later (length ds - m) m ≡ length ds = later_is (length ds - m) m ∙ omega arith in
      subst (λ n. within n name ≡ true) at (more_later m (length ds - m) name is) in
      elim (cases_lt (length ds) n) [
        | inl below ↦
            let at : later (n - k) k ≡ n = later_is (n - k) k ∙ omega arith in
            up k (omega arith) (sym (stays k stable.2 (n - k) name) ∙ ap (λ n. within n name) at ∙ is)
        | inr not_below ↦ up n not_below is
      ]

  -- what is annotated is found in some steps
  has_function_annotates : (known : Name → Bool) (first : Declaration) → HasFunction (expression_of first) → is_annotating known (Some first) ≡ true
  has_function_annotates known (Declarations.Input name expression) has = ap (λ function. is_annotating_call function false) has.1
  has_function_annotates known (Declarations.Local name expression) has = ap (λ function. is_annotating_call function (is_annotating_operand known expression.operand)) has.1

  variable_annotates : (known : Name → Bool) (operand : Name) (expression : Expression) → IsVariable operand expression → known operand ≡ true →
      is_annotating_call expression.function (is_annotating_operand known expression.operand) ≡ true
  variable_annotates known operand expression is holds =
      ap (λ function. is_annotating_call function (is_annotating_operand known expression.operand)) is.1
      ∙ ap (is_annotating_operand known) is.0
      ∙ holds

  found_in : (name : Name) → IsAnnotated ds name → (n : ℕ) × (within n name ≡ true)
  found_in name (annotated_by_function _ first at has) = (1, ap (is_annotating (within 0)) at ∙ has_function_annotates (within 0) first has)
  found_in name (annotated_by_operand _ bound operand expression at is rest) =
      let before = found_in operand rest in
      (suc before.0, ap (is_annotating (within before.0)) at ∙ variable_annotates (within before.0) operand expression is before.1)

  -- what is found is annotated
  called : (function : Option Call) → is_annotating_call function false ≡ true → (call : Call) × (function ≡ Some call)
  called None is = absurd (false≢true is)
  called (Some call) is = (call, refl)

  IsBy : (Name → Bool) → Expression → Type 0
  IsBy known expression = (operand : Name) × IsVariable operand expression × (known operand ≡ true)

  by_operand : (known : Name → Bool) (expression : Expression) (operand : Operand) → expression.operand ≡ operand → expression.function ≡ None → is_annotating_operand known operand ≡ true →
      IsBy known expression
  unfolding IsBy
  by_operand known expression Operands.Absent at none is = absurd (false≢true is)
  by_operand known expression (Operands.Literal value) at none is = absurd (false≢true is)
  by_operand known expression (Operands.Variable name) at none is = (name, (at, none), is)

  by_call : (known : Name → Bool) (expression : Expression) (function : Option Call) → expression.function ≡ function → is_annotating_call function (is_annotating_operand known expression.operand) ≡ true →
      HasFunction expression ⊎ IsBy known expression
  by_call known expression None at is = inr (by_operand known expression expression.operand refl at is)
  by_call known expression (Some call) at is = inl (call, at)

  module _ (n : ℕ) (before : (name : Name) → within n name ≡ true → IsAnnotated ds name) (name : Name) where
    from_local : (bound : Name) (expression : Expression) → first_declaration ds name ≡ Some (Declarations.Local bound expression) → HasFunction expression ⊎ IsBy (within n) expression → IsAnnotated ds name
    unfolding IsBy
    from_local bound expression at (inl has) = annotated_by_function name (Declarations.Local bound expression) at has
    from_local bound expression at (inr is) = annotated_by_operand name bound is.0 expression at is.1 (before is.0 is.2)

    from_first : (first : Option Declaration) → first_declaration ds name ≡ first → is_annotating (within n) first ≡ true → IsAnnotated ds name
    from_first None at is = absurd (false≢true is)
    from_first (Some (Declarations.Input bound expression)) at is = annotated_by_function name (Declarations.Input bound expression) at (called expression.function is)
    from_first (Some (Declarations.Local bound expression)) at is = from_local bound expression at (by_call (within n) expression expression.function refl is)

  from_within : (n : ℕ) (name : Name) → within n name ≡ true → IsAnnotated ds name
  from_within zero name is = absurd (false≢true is)
  from_within (suc n) name is = from_first n (from_within n) name (first_declaration ds name) refl is

pub is_tested : (declarations : List Declaration) (name : Name) → IsAnnotated declarations name ↔ IsTrue (is_annotated declarations name)
is_tested declarations name = (
  λ annotated. let found = found_in declarations name annotated in enough declarations found.0 name found.1,
  λ found. from_within declarations (length declarations) name found,
)
