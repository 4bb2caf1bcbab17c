-- What is found behind something that was found.
use Rattle.std.proofs.Common.{◌≡◌, ◌<◌, ◌≤◌, ℕ, zero, suc, Bool, true, false, Option, Some, None, List, [], ◌∷◌, refl, ap, sym, ◌∙◌, inl, inr, length, arith, subst}
use Rattle.std.proofs.lemmas.Bool.{cases_Bool, cond-true, cond-false, false≢true}
use Rattle.mf_text.specs.Languages.{Language, Each, Begins}
use Rattle.mf_lex.proofs.Begins.{joined}
use Rattle.mf_parse.specs.Computed.{Found, made, followed, behind, placed, onto, many_within, many}

pub followed_parts : {X Y : Type 0} (found : Found X) (next : X → List ℕ → Found Y) (y : Y × List ℕ) → followed found next ≡ Some y →
    (x : X × List ℕ) × (found ≡ Some x) × (next x.0 x.1 ≡ Some y)
followed_parts None next y h = absurd (cc)
followed_parts (Some x) next y h = (x, refl, h)

pub behind_parts : {Y : Type 0} (place : Option (List ℕ)) (next : List ℕ → Found Y) (y : Y × List ℕ) → behind place next ≡ Some y →
    (left : List ℕ) × (place ≡ Some left) × (next left ≡ Some y)
behind_parts None next y h = absurd (cc)
behind_parts (Some left) next y h = (left, refl, h)

same_pair : {Y : Type 0} (a b : Y × List ℕ) → ◌≡◌ {A = Found Y} (Some a) (Some b) → a ≡ b
same_pair a b h = cc

-- what was made is made of what was found
pub record Made {X Y : Type 0} (f : X → Y) (found : Found X) (y : Y) (left : List ℕ) : Type 0 where
  pub x : X
  pub finds : found ≡ Some (x, left)
  pub is : f x ≡ y

pub made_parts : {X Y : Type 0} (f : X → Y) (found : Found X) (y : Y) (left : List ℕ) → made f found ≡ Some (y, left) → Made f found y left
made_parts f None y left h = absurd (cc)
made_parts {X = X} {Y = Y} f (Some (x, behind)) y left h =
    let same = same_pair {Y = Y} (f x, behind) (y, left) h in record {
      x = x;
      finds = ap (λ left. Some (x, left)) (ap (λ (p : Y × List ℕ). p.1) same);
      is = ap (λ (p : Y × List ℕ). p.0) same;
    }

pub placed_parts : {X : Type 0} (x y : X) (place : Option (List ℕ)) (left : List ℕ) → placed x place ≡ Some (y, left) → (place ≡ Some left) × (x ≡ y)
placed_parts x y None left h = absurd (cc)
placed_parts {X = X} x y (Some behind) left h =
    let same = same_pair {Y = X} (x, behind) (y, left) h in
    (ap Some (ap (λ (p : X × List ℕ). p.1) same), ap (λ (p : X × List ℕ). p.0) same)

-- what is found behind what was found
pub followed_by : {X Y : Type 0} (found : Found X) (next : X → List ℕ → Found Y) (x : X) (left : List ℕ) → found ≡ Some (x, left) → followed found next ≡ next x left
followed_by found next x left h = ap (λ found. followed found next) h

pub behind_by : {Y : Type 0} (place : Option (List ℕ)) (next : List ℕ → Found Y) (left : List ℕ) → place ≡ Some left → behind place next ≡ next left
behind_by place next left h = ap (λ place. behind place next) h

pub made_by : {X Y : Type 0} (f : X → Y) (found : Found X) (x : X) (left : List ℕ) → found ≡ Some (x, left) → made f found ≡ Some (f x, left)
made_by f found x left h = ap (made f) h

pub placed_by : {X : Type 0} (x : X) (place : Option (List ℕ)) (left : List ℕ) → place ≡ Some left → placed x place ≡ Some (x, left)
placed_by x place left h = ap (placed x) h

none_of : {X : Type 0} (Spells : X → Language) (cs : List ℕ) (xs : List X) (left : List ℕ) → ◌≡◌ {A = Found (List X)} (Some ([], cs)) (Some (xs, left)) → Begins (Each Spells xs) cs left
none_of {X = X} Spells cs xs left h =
    let same = same_pair {Y = List X} ([], cs) (xs, left) h in
    subst (λ (p : List X × List ℕ). Begins (Each Spells p.0) cs p.1) same (record { taken = []; whole = refl; is = refl })

more_of : {X : Type 0} (Spells : X → Language) (x : X) (rest xs : List X) (cs middle left : List ℕ) → onto x rest ≡ xs → Begins (Spells x) cs middle → Begins (Each Spells rest) middle left →
    Begins (Each Spells xs) cs left
more_of {X = X} Spells x rest xs cs middle left is first second =
    subst (λ (xs : List X). Begins (Each Spells xs) cs left) is (joined (Spells x) (Each Spells rest) cs middle left first second)

-- each of many was found, so each begins
many_within_begins : {X : Type 0} (Spells : X → Language) (begins : List ℕ → Bool) (at : List ℕ → Found X) →
    ((cs : List ℕ) (x : X) (left : List ℕ) → begins cs ≡ true → at cs ≡ Some (x, left) → Begins (Spells x) cs left) →
    (most : ℕ) (cs : List ℕ) (xs : List X) (left : List ℕ) → many_within most begins at cs ≡ Some (xs, left) → Begins (Each Spells xs) cs left
many_within_begins Spells begins at sound zero cs xs left finds = none_of Spells cs xs left finds
many_within_begins {X = X} Spells begins at sound (suc most) cs xs left finds =
    elim (cases_Bool (begins cs)) [
      | inl some ↦
          let first = followed_parts (at cs) (λ x left. made (onto x) (many_within most begins at left)) (xs, left) (sym (cond-true (begins cs) _ _ some) ∙ finds) in
          let rest = made_parts (onto first.0.0) (many_within most begins at first.0.1) xs left first.2 in
          more_of Spells first.0.0 rest.x xs cs first.0.1 left rest.is (sound cs first.0.0 first.0.1 some first.1)
          (many_within_begins Spells begins at sound most first.0.1 rest.x left rest.finds)
      | inr stop ↦ none_of Spells cs xs left (sym (cond-false (begins cs) _ _ stop) ∙ finds)
    ]

pub many_begins : {X : Type 0} (Spells : X → Language) (begins : List ℕ → Bool) (at : List ℕ → Found X) →
    ((cs : List ℕ) (x : X) (left : List ℕ) → begins cs ≡ true → at cs ≡ Some (x, left) → Begins (Spells x) cs left) →
    (cs : List ℕ) (xs : List X) (left : List ℕ) → many begins at cs ≡ Some (xs, left) → Begins (Each Spells xs) cs left
unfolding many
many_begins Spells begins at sound cs xs left finds = many_within_begins Spells begins at sound (length cs) cs xs left finds

-- what is found leaves fewer characters
abbrev pub Shortens : {X : Type 0} → (List ℕ → Bool) → (List ℕ → Found X) → Type 0
Shortens {X} begins at = (cs : List ℕ) (x : X) (left : List ℕ) → begins cs ≡ true → at cs ≡ Some (x, left) → length left < length cs

within_stop : {X : Type 0} (most : ℕ) (begins : List ℕ → Bool) (at : List ℕ → Found X) (cs : List ℕ) → begins cs ≡ false → many_within most begins at cs ≡ Some ([], cs)
within_stop zero begins at cs stop = refl
within_stop (suc most) begins at cs stop = cond-false (begins cs) _ _ stop

within_some : {X : Type 0} (most : ℕ) (begins : List ℕ → Bool) (at : List ℕ → Found X) (cs : List ℕ) → begins cs ≡ true →
    many_within (suc most) begins at cs ≡ followed (at cs) (λ x left. made (onto x) (many_within most begins at left))
within_some most begins at cs some = cond-true (begins cs) _ _ some

same_behind : {X : Type 0} (begins : List ℕ → Bool) (at : List ℕ → Found X) (most other : ℕ) (found : Found X) →
    ((x : X) (left : List ℕ) → found ≡ Some (x, left) → many_within most begins at left ≡ many_within other begins at left) →
    followed found (λ x left. made (onto x) (many_within most begins at left)) ≡ followed found (λ x left. made (onto x) (many_within other begins at left))
same_behind begins at most other None same = refl
same_behind begins at most other (Some (x, left)) same = ap (made (onto x)) (same x left refl)

-- once there is room for each, more makes no difference
enough : {X : Type 0} (begins : List ℕ → Bool) (at : List ℕ → Found X) → begins [] ≡ false → Shortens begins at →
    (most other : ℕ) (cs : List ℕ) → length cs ≤ most → length cs ≤ other → many_within most begins at cs ≡ many_within other begins at cs
enough begins at empty shortens zero other [] few fewer = sym (within_stop other begins at [] empty)
enough begins at empty shortens zero other (c ∷ cs) few fewer = absurd (omega (arith, few))
enough begins at empty shortens (suc most) zero [] few fewer = within_stop (suc most) begins at [] empty
enough begins at empty shortens (suc most) zero (c ∷ cs) few fewer = absurd (omega (arith, fewer))
enough begins at empty shortens (suc most) (suc other) cs few fewer =
    elim (cases_Bool (begins cs)) [
      | inl some ↦
          within_some most begins at cs some
          ∙ same_behind begins at most other (at cs)
          (λ x left finds. enough begins at empty shortens most other left (omega (arith, shortens cs x left some finds, few)) (omega (arith, shortens cs x left some finds, fewer)))
          ∙ sym (within_some other begins at cs some)
      | inr stop ↦ within_stop (suc most) begins at cs stop ∙ sym (within_stop (suc other) begins at cs stop)
    ]

-- many, by the first of them
pub many_stop : {X : Type 0} (begins : List ℕ → Bool) (at : List ℕ → Found X) (cs : List ℕ) → begins cs ≡ false → many begins at cs ≡ Some ([], cs)
unfolding many
many_stop begins at cs stop = within_stop (length cs) begins at cs stop

some_left : (begins : List ℕ → Bool) (cs : List ℕ) → begins [] ≡ false → begins cs ≡ true → (most : ℕ) × (length cs ≡ suc most)
some_left begins [] empty some = absurd (false≢true (sym empty ∙ some))
some_left begins (c ∷ cs) empty some = (length cs, refl)

pub many_some : {X : Type 0} (begins : List ℕ → Bool) (at : List ℕ → Found X) → begins [] ≡ false → Shortens begins at →
    (cs : List ℕ) (x : X) (left : List ℕ) → begins cs ≡ true → at cs ≡ Some (x, left) → many begins at cs ≡ made (onto x) (many begins at left)
unfolding many
many_some begins at empty shortens cs x left some finds =
    let room = some_left begins cs empty some in
    ap (λ most. many_within most begins at cs) room.1
    ∙ within_some room.0 begins at cs some
    ∙ followed_by (at cs) (λ x left. made (onto x) (many_within room.0 begins at left)) x left finds
    ∙ ap (made (onto x)) (enough begins at empty shortens room.0 (length left) left (omega (arith, shortens cs x left some finds, room.1)) (omega arith))

pub many_none : {X : Type 0} (begins : List ℕ → Bool) (at : List ℕ → Found X) → begins [] ≡ false →
    (cs : List ℕ) → begins cs ≡ true → at cs ≡ None → many begins at cs ≡ None
unfolding many
many_none begins at empty cs some none =
    let room = some_left begins cs empty some in
    ap (λ most. many_within most begins at cs) room.1
    ∙ within_some room.0 begins at cs some
    ∙ ap (λ found. followed found (λ x left. made (onto x) (many_within room.0 begins at left))) none

-- nothing is found behind what isn't
pub followed_none : {X Y : Type 0} (found : Found X) (next : X → List ℕ → Found Y) → found ≡ None → followed found next ≡ None
followed_none found next h = ap (λ found. followed found next) h

pub behind_none : {Y : Type 0} (place : Option (List ℕ)) (next : List ℕ → Found Y) → place ≡ None → behind place next ≡ None
behind_none place next h = ap (λ place. behind place next) h

pub made_none : {X Y : Type 0} (f : X → Y) (found : Found X) → found ≡ None → made f found ≡ None
made_none f found h = ap (made f) h

pub placed_none : {X : Type 0} (x : X) (place : Option (List ℕ)) → place ≡ None → placed x place ≡ None
placed_none x place h = ap (placed x) h
