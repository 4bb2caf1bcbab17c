-- The errors that a node's trace has at the node itself: no two of them are the same.
use Rattle.std.proofs.Common.{◌≡◌, ◌==◌, Bool, true, false, not, ◌&&◌, ◌||◌, cond, List, [], ◌∷◌, ◌++◌, refl, sym, ap, ◌∙◌, inl, inr}
use Rattle.std.proofs.lemmas.Bool.{cases_Bool}
use Rattle.std.specs.List.{list_all}
use Rattle.std.specs.Cmp.Lexicographic.{pointwise}
use Rattle.std.specs.Str.{bytes_eq}
use Rattle.mf_tree.specs.Kinds.{class_of}
use Rattle.mf_value.specs.ErrorLists.{is_among, is_same_fault, is_same_node, is_same_spot, with_fault, firsts_behind}
use Rattle.mf_value.specs.Traces.{Node, Placed}
use Rattle.mf_resolve.specs.Resolving.{behind_at, is_free, with_placed}
use Rattle.mf_resolve.proofs.Adding.{all_from, any_append, and_left, and_right, and_both, is_node, is_not}

-- an error is none of these
abbrev pub is_new : List Placed → Placed → Bool
is_new faults fault = not (is_among faults fault)

-- the errors of a list that stand at a node are each new to those before them
abbrev pub AreNew : Node → List Placed → List Placed → Type 0
AreNew node before [] = Unit {0}
AreNew node before (fault ∷ faults) = (is_same_node fault.node node ≡ true → is_among before fault ≡ false) × AreNew node (with_placed node before fault) faults

pub new_added : (node : Node) (faults before : List Placed) → AreNew node before faults → behind_at node before faults ≡ firsts_behind before faults
new_added node [] before new = refl
new_added node (fault ∷ faults) before new = elim (cases_Bool (is_same_node fault.node node)) [
  | inl own ↦
      let added : with_placed node before fault ≡ with_fault before fault =
      ap (λ b. cond b (before ++ fault ∷ []) (with_fault before fault)) own ∙ sym (ap (λ b. cond b before (before ++ fault ∷ [])) (new.0 own)) in
      new_added node faults (with_placed node before fault) new.1 ∙ ap (λ front. firsts_behind front faults) added
  | inr other ↦
      let added : with_placed node before fault ≡ with_fault before fault = ap (λ b. cond b (before ++ fault ∷ []) (with_fault before fault)) other in
      new_added node faults (with_placed node before fault) new.1 ∙ ap (λ front. firsts_behind front faults) added
]

-- no later error is one of the node's that stands before it
abbrev pub AreDistinct : Node → List Placed → Type 0
AreDistinct node [] = Unit {0}
AreDistinct node (fault ∷ faults) =
    (is_same_node fault.node node ≡ true → list_all (λ (later : Placed). not (is_same_fault later fault)) faults ≡ true) × AreDistinct node faults

-- an error is not the node's, or passes a test
abbrev pub if_own : Node → (Placed → Bool) → Placed → Bool
if_own node test fault = not (is_same_node fault.node node) || test fault

-- the node's are none of those before
abbrev AreClear : Node → List Placed → List Placed → Type 0
AreClear node before faults = list_all (if_own node (is_new before)) faults ≡ true

pub apart_by_node : (a b : Placed) → is_same_node a.node b.node ≡ false → is_same_fault a b ≡ false
apart_by_node a b is =
    ap (λ t. t && is_same_spot a.spot b.spot && bytes_eq (class_of a.kind) (class_of b.kind) && pointwise ◌==◌ a.of b.of) is

own_node : (node : Node) (own other : Placed) → is_same_node own.node node ≡ true → is_same_node other.node node ≡ false → is_same_node own.node other.node ≡ false
own_node node own other own_is other_is = elim (cases_Bool (is_same_node own.node other.node)) [
  | inl same ↦
      let at : own.node ≡ other.node = is_node own.node other.node same in
      let clash : true ≡ false = sym own_is ∙ ap (λ n. is_same_node n node) at ∙ other_is in
      cc
  | inr apart ↦ apart
]

-- one more error before, which is none of the later
clear_more : (node : Node) (before : List Placed) (fault : Placed) (faults : List Placed) → AreClear node before faults →
    list_all (if_own node (λ later. not (is_same_fault later fault))) faults ≡ true → AreClear node (before ++ fault ∷ []) faults
clear_more node before fault [] clear apart = refl
clear_more node before fault (later ∷ faults) clear apart =
    and_both _ _ (elim (cases_Bool (is_same_node later.node node)) [
      | inl own ↦
          let first : not (is_among before later) ≡ true = sym (ap (λ b. not b || not (is_among before later)) own) ∙ and_left _ _ clear in
          let second : not (is_same_fault later fault) ≡ true = sym (ap (λ b. not b || not (is_same_fault later fault)) own) ∙ and_left _ _ apart in
          ap (λ b. not b || not (is_among (before ++ fault ∷ []) later)) own
          ∙ ap not (any_append (is_same_fault later) before (fault ∷ [])
          ∙ ap (λ b. b || (is_same_fault later fault || false)) (is_not _ first)
          ∙ ap (λ b. b || false) (is_not _ second))
      | inr other ↦ ap (λ b. not b || not (is_among (before ++ fault ∷ []) later)) other
    ])
    (clear_more node before fault faults (and_right _ _ clear) (and_right _ _ apart))

if_any : (node : Node) (test : Placed → Bool) (faults : List Placed) → list_all test faults ≡ true → list_all (if_own node test) faults ≡ true
if_any node test faults is = all_from test (if_own node test) (λ fault holds. elim (cases_Bool (is_same_node fault.node node)) [
  | inl own ↦ ap (λ b. not b || test fault) own ∙ holds
  | inr other ↦ ap (λ b. not b || test fault) other
]) faults is

foreign_apart : (node : Node) (fault : Placed) (faults : List Placed) → is_same_node fault.node node ≡ false →
    list_all (if_own node (λ later. not (is_same_fault later fault))) faults ≡ true
foreign_apart node fault [] other = refl
foreign_apart node fault (later ∷ faults) other =
    and_both _ _ (elim (cases_Bool (is_same_node later.node node)) [
      | inl own ↦
          ap (λ b. not b || not (is_same_fault later fault)) own
          ∙ ap not (apart_by_node later fault (own_node node later fault own other))
      | inr elsewhere ↦ ap (λ b. not b || not (is_same_fault later fault)) elsewhere
    ])
    (foreign_apart node fault faults other)

are_new : (node : Node) (faults before : List Placed) → AreDistinct node faults → AreClear node before faults → AreNew node before faults
are_new node [] before distinct clear = tt
are_new node (fault ∷ faults) before distinct clear = (
  (λ own. is_not _ (sym (ap (λ b. not b || not (is_among before fault)) own) ∙ and_left _ _ clear)),
  elim (cases_Bool (is_same_node fault.node node)) [
    | inl own ↦
        are_new node faults (with_placed node before fault) distinct.1
        (ap (λ b. list_all (if_own node (is_new (cond b (before ++ fault ∷ []) (with_fault before fault)))) faults) own
        ∙ clear_more node before fault faults (and_right _ _ clear) (if_any node (λ later. not (is_same_fault later fault)) faults (distinct.0 own)))
    | inr other ↦
        are_new node faults (with_placed node before fault) distinct.1
        (ap (λ b. list_all (if_own node (is_new (cond b (before ++ fault ∷ []) (with_fault before fault)))) faults) other
        ∙ elim (cases_Bool (is_among before fault)) [
          | inl there ↦ ap (λ b. list_all (if_own node (is_new (cond b before (before ++ fault ∷ [])))) faults) there ∙ and_right _ _ clear
          | inr new ↦
              ap (λ b. list_all (if_own node (is_new (cond b before (before ++ fault ∷ [])))) faults) new
              ∙ clear_more node before fault faults (and_right _ _ clear) (foreign_apart node fault faults other)
        ])
  ],
)

-- where no error stands at the node, it has none of its own
none_among : (node : Node) (before : List Placed) (fault : Placed) → is_free node before ≡ true → is_same_node fault.node node ≡ true → is_among before fault ≡ false
none_among node [] fault free own = refl
none_among node (earlier ∷ before) fault free own =
    ap (λ b. b || is_among before fault) (apart_by_node fault earlier (own_node node fault earlier own (is_not _ (and_left _ _ free))))
    ∙ none_among node before fault (and_right _ _ free) own

free_clear : (node : Node) (before faults : List Placed) → is_free node before ≡ true → AreClear node before faults
free_clear node before [] free = refl
free_clear node before (fault ∷ faults) free =
    and_both _ _ (elim (cases_Bool (is_same_node fault.node node)) [
      | inl own ↦ ap (λ b. not b || not (is_among before fault)) own ∙ ap not (none_among node before fault free own)
      | inr other ↦ ap (λ b. not b || not (is_among before fault)) other
    ])
    (free_clear node before faults free)

-- errors that are distinct, behind those of other nodes
pub distinct_added : (node : Node) (faults before : List Placed) → is_free node before ≡ true → AreDistinct node faults → behind_at node before faults ≡ firsts_behind before faults
distinct_added node faults before free distinct = new_added node faults before (are_new node faults before distinct (free_clear node before faults free))
