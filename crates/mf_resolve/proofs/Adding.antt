-- How errors are added: each where it first arose.
use Rattle.std.proofs.Common.{◌≡◌, ◌==◌, ℕ, Bool, true, false, not, ◌&&◌, ◌||◌, cond, List, [], ◌∷◌, ◌++◌, refl, sym, ap, ◌∙◌, inl, inr, nat_eq}
use Rattle.std.proofs.Math.Seq.{append_snoc}
use Rattle.std.proofs.lemmas.List.{append-nil}
use Rattle.std.proofs.lemmas.Bool.{cases_Bool, eq-eqb, eqb-true}
use Rattle.std.specs.List.{list_all, list_any}
use Rattle.std.specs.Cmp.Lexicographic.{pointwise, bytes_decides}
use Rattle.std.specs.Str.{bytes_eq}
use Rattle.mf_tree.specs.Kinds.{class_of}
use Rattle.mf_value.specs.ErrorLists.{is_same_node, is_same_spot, is_same_fault, is_among, with_fault, firsts_behind}
use Rattle.mf_value.specs.Traces.{Node, of_call, of_declaration, Spot, at_operand, at_function, at_option, Placed}
use Rattle.mf_resolve.specs.Resolving.{is_free, with_placed, behind_at}

-- Tests.

pub and_left : (a b : Bool) → (a && b) ≡ true → a ≡ true
and_left true b is = refl
and_left false b is = cc

pub and_right : (a b : Bool) → (a && b) ≡ true → b ≡ true
and_right true b is = is
and_right false b is = cc

pub and_both : (a b : Bool) → a ≡ true → b ≡ true → (a && b) ≡ true
and_both true b a_is b_is = b_is
and_both false b a_is b_is = cc

same_number : (n : ℕ) → nat_eq n n ≡ true
same_number n = eq-eqb n n refl

pub same_node : (node : Node) → is_same_node node node ≡ true
same_node (of_declaration n) = same_number n
same_node (of_call n) = same_number n

same_spot : (spot : Spot) → is_same_spot spot spot ≡ true
same_spot at_operand = refl
same_spot at_function = refl
same_spot (at_option n) = same_number n

same_text : (text : List ℕ) → pointwise ◌==◌ text text ≡ true
same_text [] = refl
same_text (c ∷ text) = and_both _ _ (eq-eqb c c refl) (same_text text)

same_class : (text : List ℕ) → bytes_eq text text ≡ true
same_class text = (bytes_decides text text).1 refl

pub same_fault : (fault : Placed) → is_same_fault fault fault ≡ true
same_fault fault =
    and_both _ _
    (and_both _ _
    (and_both (is_same_node fault.node fault.node) (is_same_spot fault.spot fault.spot) (same_node fault.node) (same_spot fault.spot))
    (same_class (class_of fault.kind)))
    (same_text fault.of)

pub is_not : (b : Bool) → not b ≡ true → b ≡ false
is_not true is = cc
is_not false is = refl

-- Lists of tests.

pub any_append : {X : Type 0} → (test : X → Bool) (xs ys : List X) → list_any test (xs ++ ys) ≡ (list_any test xs || list_any test ys)
any_append test [] ys = refl
any_append test (x ∷ xs) ys = elim (cases_Bool (test x)) [
  | inl is ↦ ap (λ b. b || list_any test (xs ++ ys)) is ∙ sym (ap (λ b. (b || list_any test xs) || list_any test ys) is)
  | inr is ↦ ap (λ b. b || list_any test (xs ++ ys)) is ∙ any_append test xs ys ∙ sym (ap (λ b. (b || list_any test xs) || list_any test ys) is)
]

pub all_append : {X : Type 0} → (test : X → Bool) (xs ys : List X) → list_all test xs ≡ true → list_all test ys ≡ true → list_all test (xs ++ ys) ≡ true
all_append test [] ys x_is y_is = y_is
all_append test (x ∷ xs) ys x_is y_is = and_both _ _ (and_left _ _ x_is) (all_append test xs ys (and_right _ _ x_is) y_is)

pub all_front : {X : Type 0} → (test : X → Bool) (xs ys : List X) → list_all test (xs ++ ys) ≡ true → list_all test xs ≡ true
all_front test [] ys is = refl
all_front test (x ∷ xs) ys is = and_both _ _ (and_left _ _ is) (all_front test xs ys (and_right _ _ is))

pub all_back : {X : Type 0} → (test : X → Bool) (xs ys : List X) → list_all test (xs ++ ys) ≡ true → list_all test ys ≡ true
all_back test [] ys is = is
all_back test (x ∷ xs) ys is = all_back test xs ys (and_right _ _ is)

pub all_from : {X : Type 0} → (one other : X → Bool) → ((x : X) → one x ≡ true → other x ≡ true) → (xs : List X) → list_all one xs ≡ true → list_all other xs ≡ true
all_from one other follows [] is = refl
all_from one other follows (x ∷ xs) is = and_both _ _ (follows x (and_left _ _ is)) (all_from one other follows xs (and_right _ _ is))

pub or_left : (a b : Bool) → a ≡ true → (a || b) ≡ true
or_left true b is = refl
or_left false b is = cc

pub or_right : (a b : Bool) → b ≡ true → (a || b) ≡ true
or_right true b is = refl
or_right false b is = is

-- An error stays where it is.

pub stays_with : (node : Node) (before : List Placed) (added fault : Placed) → is_among before fault ≡ true → is_among (with_placed node before added) fault ≡ true
stays_with node before added fault is =
    let more : is_among (before ++ added ∷ []) fault ≡ true = any_append (is_same_fault fault) before (added ∷ []) ∙ or_left _ _ is in
    elim (cases_Bool (is_same_node added.node node)) [
      | inl own ↦ ap (λ b. is_among (cond b (before ++ added ∷ []) (with_fault before added)) fault) own ∙ more
      | inr other ↦
          ap (λ b. is_among (cond b (before ++ added ∷ []) (with_fault before added)) fault) other
          ∙ elim (cases_Bool (is_among before added)) [
            | inl there ↦ ap (λ b. is_among (cond b before (before ++ added ∷ [])) fault) there ∙ is
            | inr new ↦ ap (λ b. is_among (cond b before (before ++ added ∷ [])) fault) new ∙ more
          ]
    ]

pub stays : (node : Node) (faults before : List Placed) (fault : Placed) → is_among before fault ≡ true → is_among (behind_at node before faults) fault ≡ true
stays node [] before fault is = is
stays node (added ∷ faults) before fault is = stays node faults (with_placed node before added) fault (stays_with node before added fault is)

pub all_stay : (node : Node) (faults before these : List Placed) → list_all (is_among before) these ≡ true → list_all (is_among (behind_at node before faults)) these ≡ true
all_stay node faults before these is = all_from (is_among before) (is_among (behind_at node before faults)) (stays node faults before) these is

-- An error that is added is there.

is_there : (node : Node) (before : List Placed) (added : Placed) → is_among (with_placed node before added) added ≡ true
is_there node before added =
    let last : is_among (before ++ added ∷ []) added ≡ true =
    any_append (is_same_fault added) before (added ∷ []) ∙ or_right _ _ (ap (λ b. b || false) (same_fault added)) in
    elim (cases_Bool (is_same_node added.node node)) [
      | inl own ↦ ap (λ b. is_among (cond b (before ++ added ∷ []) (with_fault before added)) added) own ∙ last
      | inr other ↦
          ap (λ b. is_among (cond b (before ++ added ∷ []) (with_fault before added)) added) other
          ∙ elim (cases_Bool (is_among before added)) [
            | inl there ↦ ap (λ b. is_among (cond b before (before ++ added ∷ [])) added) there ∙ there
            | inr new ↦ ap (λ b. is_among (cond b before (before ++ added ∷ [])) added) new ∙ last
          ]
    ]

pub all_there : (node : Node) (faults before : List Placed) → list_all (is_among (behind_at node before faults)) faults ≡ true
all_there node [] before = refl
all_there node (added ∷ faults) before =
    and_both _ _ (stays node faults (with_placed node before added) added (is_there node before added)) (all_there node faults (with_placed node before added))

-- What is there already isn't added.
pub none_added : (faults before : List Placed) → list_all (is_among before) faults ≡ true → firsts_behind before faults ≡ before
none_added [] before is = refl
none_added (fault ∷ faults) before is =
    let there : with_fault before fault ≡ before = ap (λ b. cond b before (before ++ fault ∷ [])) (and_left _ _ is) in
    ap (λ front. firsts_behind front faults) there ∙ none_added faults before (and_right _ _ is)

-- One list behind another.

pub behind_append : (node : Node) (faults others before : List Placed) → behind_at node before (faults ++ others) ≡ behind_at node (behind_at node before faults) others
behind_append node [] others before = refl
behind_append node (fault ∷ faults) others before = behind_append node faults others (with_placed node before fault)

pub firsts_append : (faults others before : List Placed) → firsts_behind before (faults ++ others) ≡ firsts_behind (firsts_behind before faults) others
firsts_append [] others before = refl
firsts_append (fault ∷ faults) others before = firsts_append faults others (with_fault before fault)

-- The errors of a node itself, and those of others.

pub own_added : (node : Node) (faults before : List Placed) → list_all (λ (fault : Placed). is_same_node fault.node node) faults ≡ true → behind_at node before faults ≡ before ++ faults
own_added node [] before own = sym (append-nil before)
own_added node (fault ∷ faults) before own =
    ap (λ b. behind_at node (cond b (before ++ fault ∷ []) (with_fault before fault)) faults) (and_left _ _ own)
    ∙ own_added node faults (before ++ fault ∷ []) (and_right _ _ own)
    ∙ append_snoc before fault faults

pub others_added : (node : Node) (faults before : List Placed) → is_free node faults ≡ true → behind_at node before faults ≡ firsts_behind before faults
others_added node [] before free = refl
others_added node (fault ∷ faults) before free =
    ap (λ b. behind_at node (cond b (before ++ fault ∷ []) (with_fault before fault)) faults) (is_not _ (and_left _ _ free))
    ∙ others_added node faults (with_fault before fault) (and_right _ _ free)

-- A node where nothing is added stays free.
pub free_with : (node other : Node) (before : List Placed) (added : Placed) → is_free other before ≡ true → is_same_node added.node other ≡ false → is_free other (with_placed node before added) ≡ true
free_with node other before added free is =
    let more : is_free other (before ++ added ∷ []) ≡ true = all_append (λ (fault : Placed). not (is_same_node fault.node other)) before (added ∷ []) free (ap (λ b. not b && true) is) in
    elim (cases_Bool (is_same_node added.node node)) [
      | inl own ↦ ap (λ b. is_free other (cond b (before ++ added ∷ []) (with_fault before added))) own ∙ more
      | inr elsewhere ↦
          ap (λ b. is_free other (cond b (before ++ added ∷ []) (with_fault before added))) elsewhere
          ∙ elim (cases_Bool (is_among before added)) [
            | inl there ↦ ap (λ b. is_free other (cond b before (before ++ added ∷ []))) there ∙ free
            | inr new ↦ ap (λ b. is_free other (cond b before (before ++ added ∷ []))) new ∙ more
          ]
    ]

pub stays_free : (node other : Node) (faults before : List Placed) → is_free other before ≡ true → is_free other faults ≡ true → is_free other (behind_at node before faults) ≡ true
stays_free node other [] before free none = free
stays_free node other (added ∷ faults) before free none =
    stays_free node other faults (with_placed node before added) (free_with node other before added free (is_not _ (and_left _ _ none))) (and_right _ _ none)

-- Nodes that are the same are equal.
pub is_node : (a b : Node) → is_same_node a b ≡ true → a ≡ b
is_node (of_declaration a) (of_declaration b) is = ap of_declaration (eqb-true a b is)
is_node (of_call a) (of_call b) is = ap of_call (eqb-true a b is)
is_node (of_declaration a) (of_call b) is = cc
is_node (of_call a) (of_declaration b) is = cc

-- errors of one node leave another free
pub own_free : (node other : Node) (faults : List Placed) → list_all (λ (fault : Placed). is_same_node fault.node node) faults ≡ true →
    is_same_node node other ≡ false → is_free other faults ≡ true
own_free node other faults own apart =
    all_from (λ (fault : Placed). is_same_node fault.node node) (λ (fault : Placed). not (is_same_node fault.node other))
    (λ fault is. ap (λ at. not (is_same_node at other)) (is_node fault.node node is) ∙ ap not apart)
    faults own

-- a test that all pass, and all that are added
all_with : (node : Node) (test : Placed → Bool) (before : List Placed) (added : Placed) → list_all test before ≡ true → test added ≡ true → list_all test (with_placed node before added) ≡ true
all_with node test before added first second =
    let more : list_all test (before ++ added ∷ []) ≡ true = all_append test before (added ∷ []) first (and_both _ _ second refl) in
    elim (cases_Bool (is_same_node added.node node)) [
      | inl own ↦ ap (λ b. list_all test (cond b (before ++ added ∷ []) (with_fault before added))) own ∙ more
      | inr elsewhere ↦
          ap (λ b. list_all test (cond b (before ++ added ∷ []) (with_fault before added))) elsewhere
          ∙ elim (cases_Bool (is_among before added)) [
            | inl there ↦ ap (λ b. list_all test (cond b before (before ++ added ∷ []))) there ∙ first
            | inr new ↦ ap (λ b. list_all test (cond b before (before ++ added ∷ []))) new ∙ more
          ]
    ]

pub all_added : (node : Node) (test : Placed → Bool) (faults before : List Placed) → list_all test before ≡ true → list_all test faults ≡ true → list_all test (behind_at node before faults) ≡ true
all_added node test [] before first second = first
all_added node test (fault ∷ faults) before first second =
    all_added node test faults (with_placed node before fault) (all_with node test before fault first (and_left _ _ second)) (and_right _ _ second)
