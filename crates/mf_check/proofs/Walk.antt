-- The walk from variable to variable.
use Rattle.std.proofs.Common.{◌≡◌, ◌⊎◌, ◌<◌, ◌+◌, ◌-◌, ◌||◌, ℕ, zero, suc, Bool, true, false, cond, List, [], ◌∷◌, ◌++◌, length, get_or, Option, None, Some, refl, ap, sym, ◌∙◌, inl, inr, arith}
use Rattle.std.proofs.lemmas.Bool.{false≢true}
use Rattle.std.specs.BTreeMap.{BTreeMap, get, Updates}
use Rattle.std.specs.BTreeSet.{BTreeSet, contains}
use Rattle.std.specs.Cmp.Lexicographic.{bytes_decides}
use Rattle.std.specs.List.{AllByRecursion}
use Rattle.mf_tree.specs.declared.name.Name.{Name}
use Rattle.mf_tree.specs.declared.expression.Call.{Call}
use Rattle.mf_tree.specs.declared.expression.Expression.{Expression}
use Rattle.mf_tree.specs.declared.expression.Operand.{Operand}
use Rattle.mf_tree.specs.declared.message.Declaration.{Declaration}
use Rattle.mf_tree.specs.declared.expression.Operand.TheVariants as Operands
use Rattle.mf_tree.specs.declared.message.Declaration.TheVariants as Declarations
use Rattle.mf_tree.specs.Equality.{is_same_name}
use Rattle.mf_tree.specs.Faults.{annotated_by_function, annotated_by_operand, expression_of, first_declaration, is_annotated, is_annotated_within, is_annotating, is_annotating_call, is_annotating_operand, HasFunction, IsAnnotated}
use Rattle.mf_tree.proofs.Annotated.{is_tested}
use Rattle.mf_check.specs.Annotations.{AreAnswers}
use Rattle.mf_check.specs.Seen.{value_cmp, AreNamesSeenToo, IsValueOf, Value}
use Rattle.mf_check.proofs.First.{same_first}
use Rattle.mf_check.proofs.Seen.{names_tied}

-- one step, which a declaration fewer is left for
pub walk_step : (ds : List Declaration) (i : ℕ) (name : Name) → i < length ds →
    is_annotated_within ds (length ds - i) name ≡ is_annotating (is_annotated_within ds (length ds - (i + 1))) (first_declaration ds name)
walk_step ds i name inside =
    let more : length ds - i ≡ suc (length ds - (i + 1)) = omega arith in
    ap (λ n. is_annotated_within ds n name) more

-- One step, after which nothing is new.

both : (a b : Bool) → (a ≡ true → b ≡ true) → (b ≡ true → a ≡ true) → a ≡ b
both true b forth back = sym (forth refl)
both false true forth back = back refl
both false false forth back = refl

module _ (ds : List Declaration) (name : Name) where
  called : (first : Declaration) (function : Option Call) → first_declaration ds name ≡ Some first → (expression_of first).function ≡ function → is_annotating_call function false ≡ true → IsAnnotated ds name
  called first None at has is = absurd (false≢true is)
  called first (Some call) at has is = annotated_by_function name first at (call, has)

  by_operand : (bound : Name) (expression : Expression) (operand : Operand) → first_declaration ds name ≡ Some (Declarations.Local bound expression) → expression.operand ≡ operand →
      expression.function ≡ None → is_annotating_operand (is_annotated ds) operand ≡ true → IsAnnotated ds name
  by_operand bound expression Operands.Absent at has none is = absurd (false≢true is)
  by_operand bound expression (Operands.Literal value) at has none is = absurd (false≢true is)
  by_operand bound expression (Operands.Variable operand) at has none is = annotated_by_operand name bound operand expression at (has, none) ((is_tested ds operand).1 is)

  by_local : (bound : Name) (expression : Expression) (function : Option Call) → first_declaration ds name ≡ Some (Declarations.Local bound expression) → expression.function ≡ function →
      is_annotating_call function (is_annotating_operand (is_annotated ds) expression.operand) ≡ true → IsAnnotated ds name
  by_local bound expression None at has is = by_operand bound expression expression.operand at refl has is
  by_local bound expression (Some call) at has is = annotated_by_function name (Declarations.Local bound expression) at (call, has)

  by_first : (first : Option Declaration) → first_declaration ds name ≡ first → is_annotating (is_annotated ds) first ≡ true → IsAnnotated ds name
  by_first None at is = absurd (false≢true is)
  by_first (Some (Declarations.Input bound expression)) at is = called (Declarations.Input bound expression) expression.function at refl is
  by_first (Some (Declarations.Local bound expression)) at is = by_local bound expression expression.function at refl is

  by_call : (first : Declaration) → HasFunction (expression_of first) → is_annotating (is_annotated ds) (Some first) ≡ true
  by_call (Declarations.Input bound expression) has = ap (λ function. is_annotating_call function false) has.1
  by_call (Declarations.Local bound expression) has = ap (λ function. is_annotating_call function (is_annotating_operand (is_annotated ds) expression.operand)) has.1

  in_one_step : IsAnnotated ds name → is_annotating (is_annotated ds) (first_declaration ds name) ≡ true
  in_one_step (annotated_by_function _ first at has) = ap (is_annotating (is_annotated ds)) at ∙ by_call first has
  in_one_step (annotated_by_operand _ bound operand expression at is rest) =
      ap (is_annotating (is_annotated ds)) at
      ∙ ap (λ function. is_annotating_call function (is_annotating_operand (is_annotated ds) expression.operand)) is.1
      ∙ ap (is_annotating_operand (is_annotated ds)) is.0
      ∙ (is_tested ds operand).0 rest

  pub one_step : is_annotating (is_annotated ds) (first_declaration ds name) ≡ is_annotated ds name
  one_step = both (is_annotating (is_annotated ds) (first_declaration ds name)) (is_annotated ds name)
      (λ is. (is_tested ds name).0 (by_first (first_declaration ds name) refl is))
      (λ is. in_one_step ((is_tested ds name).1 is))

-- names with one value are annotated alike
same_within : (ds : List Declaration) (n : ℕ) (one other : Name) → is_same_name one other ≡ true → is_annotated_within ds n one ≡ is_annotated_within ds n other
same_within ds zero one other same = refl
same_within ds (suc n) one other same = ap (is_annotating (is_annotated_within ds n)) (same_first ds one other same)

-- Answers.

-- an answer that is kept
some_same : {X : Type 0} → (x y : X) → Some x ≡ Some y → x ≡ y
some_same x y same = cc

module _ (ds : List Declaration) (old new : BTreeMap Value Bool) (name : Name) (key : Value) (told : Bool) (of : IsValueOf key name) (right : told ≡ is_annotated ds name)
    (before : AreAnswers ds old) (updates : Updates value_cmp old new key (Some told)) where
  kept_one : (other : Name) (value : Value) (answer : Bool) (same : Bool) → is_same_name other name ≡ same → IsValueOf value other → cond same (Some told) (get value_cmp old value) ≡ Some answer →
      answer ≡ is_annotated ds other
  kept_one other value answer true same is has = sym (some_same told answer has) ∙ right ∙ sym (same_within ds (length ds) other name same)
  kept_one other value answer false same is has = before.each other value answer is has

  pub kept : AreAnswers ds new
  kept = record {
    each = λ other value answer is has.
        kept_one other value answer (is_same_name other name) refl is
        (ap (λ b. cond b (Some told) (get value_cmp old value)) (sym (names_tied key value name other of is)) ∙ sym (updates.0 value) ∙ has);
  }

-- The path.

pub all_at : {X : Type 0} → (P : X → Type 0) (xs : List X) (i : ℕ) (x : X) → AllByRecursion P xs → i < length xs → P (get_or xs i x)
all_at P [] i x all inside = absurd (omega arith)
all_at P (y ∷ xs) zero x all inside = all.0
all_at P (y ∷ xs) (suc i) x all inside = all_at P xs i x all.1 (omega arith)

pub all_more : {X : Type 0} → (P : X → Type 0) (xs : List X) (x : X) → AllByRecursion P xs → P x → AllByRecursion P (xs ++ x ∷ [])
all_more P [] x all holds = (holds, tt)
all_more P (y ∷ xs) x all holds = (all.0, all_more P xs x all.1 holds)

abbrev pub key_of : Name → Value
key_of name = record { ref_ptr = (0, 0); now = name.value }

-- A variable leads to another one: its first declaration tells nothing else, and that one is on the path, or comes next.
pub record Leads (ds : List Declaration) (on_path : BTreeSet Value) (next name : Name) : Type 0 where
  pub to : Name
  pub step : (known : Name → Bool) → is_annotating known (first_declaration ds name) ≡ known to
  pub stays : (contains value_cmp on_path (key_of to) ≡ true) ⊎ (to.value ≡ next.value)

pub record AllLead (ds : List Declaration) (on_path : BTreeSet Value) (next : Name) : Type 0 where
  pub each : (name : Name) → contains value_cmp on_path (key_of name) ≡ true → Leads ds on_path next name

-- the path has one variable more
module _ (ds : List Declaration) (old new : BTreeSet Value) (here next : Name) (step : (known : Name → Bool) → known next ≡ is_annotating known (first_declaration ds here))
    (before : AllLead ds old here) (too : AreNamesSeenToo (λ name. is_same_name name here) old new) where
  or_left : (a b : Bool) → a ≡ true → (a || b) ≡ true
  or_left true b is = refl
  or_left false b is = absurd (false≢true is)

  or_right : (a b : Bool) → b ≡ true → (a || b) ≡ true
  or_right true b is = refl
  or_right false b is = is

  still : (to : Name) → (contains value_cmp old (key_of to) ≡ true) ⊎ (to.value ≡ here.value) → contains value_cmp new (key_of to) ≡ true
  still to (inl on) = too.each to (key_of to) refl ∙ or_right (is_same_name to here) (contains value_cmp old (key_of to)) on
  still to (inr same) = too.each to (key_of to) refl ∙ or_left (is_same_name to here) (contains value_cmp old (key_of to)) ((bytes_decides to.value here.value).1 same)

  leads_on : (name : Name) (same : Bool) → is_same_name name here ≡ same → (same || contains value_cmp old (key_of name)) ≡ true → Leads ds new next name
  leads_on name true same is = record {
    to = next;
    step = λ known. ap (is_annotating known) (same_first ds name here same) ∙ sym (step known);
    stays = inr refl;
  }
  leads_on name false same is =
      let leads = before.each name is in
      record { to = leads.to; step = leads.step; stays = inl (still leads.to leads.stays) }

  pub lead_on : AllLead ds new next
  lead_on = record { each = λ name is. leads_on name (is_same_name name here) refl (sym (too.each name (key_of name) refl) ∙ is) }

-- a path that meets itself annotates nothing
module _ (ds : List Declaration) (on_path : BTreeSet Value) (next : Name) (all : AllLead ds on_path next) (meets : contains value_cmp on_path (key_of next) ≡ true) where
  stays_on : (to : Name) → (contains value_cmp on_path (key_of to) ≡ true) ⊎ (to.value ≡ next.value) → contains value_cmp on_path (key_of to) ≡ true
  stays_on to (inl on) = on
  stays_on to (inr same) = ap (λ (value : List ℕ). contains value_cmp on_path (record { ref_ptr = (0, 0); now = value })) same ∙ meets

  never : (n : ℕ) (name : Name) → contains value_cmp on_path (key_of name) ≡ true → is_annotated_within ds n name ≡ false
  never zero name on = refl
  never (suc n) name on =
      let leads = all.each name on in
      leads.step (is_annotated_within ds n) ∙ never n leads.to (stays_on leads.to leads.stays)

  pub circle : is_annotated ds next ≡ false
  circle = never (length ds) next meets
