-- Languages of texts: what the rules of a grammar are made of (RFC 5234).
use Rattle.std.specs.Prelude.{◌≡◌, ℕ, Bool, IsTrue, ◌≤◌, length, List, [], ◌∷◌, ◌++◌, Option, Some, None, ◌⊎◌}
use Rattle.std.specs.List.{AllByRecursion}

-- the texts of a rule
abbrev pub Language : Type 1
Language = List ℕ → Type 0

-- "word": this one text
abbrev pub Word : List ℕ → Language
Word word text = text ≡ word

-- first second: a text of the first rule, and then one of the second
pub record Joined (First Second : Language) (text : List ℕ) : Type 0 where
  pub front : List ℕ
  pub back : List ℕ
  pub whole : text ≡ front ++ back
  pub first : First front
  pub second : Second back

infixr 60 ◌⋅◌
abbrev pub ◌⋅◌ : Language → Language → Language
◌⋅◌ First Second = Joined First Second

-- first / second: a text of either rule
infixr 50 ◌∣◌
abbrev pub ◌∣◌ : Language → Language → Language
◌∣◌ First Second text = First text ⊎ Second text

-- [rule]: a text of the rule, or none
abbrev pub Optional : Language → Language
Optional Rule = Word [] ∣ Rule

-- [rule], which spells a value where it stands
abbrev pub Maybe : {X : Type 0} → (X → Language) → Option X → Language
Maybe Rule None = Word []
Maybe Rule (Some x) = Rule x

-- *rule, which spells a value each time
abbrev pub Each : {X : Type 0} → (X → Language) → List X → Language
Each Rule [] = Word []
Each Rule (x ∷ xs) = Rule x ⋅ Each Rule xs

-- one character of a class
abbrev pub One : (ℕ → Bool) → Language
One is_member text = (c : ℕ) × (text ≡ c ∷ []) × IsTrue (is_member c)

-- any number of characters of a class
abbrev pub Any : (ℕ → Bool) → Language
Any is_member text = AllByRecursion (λ c. IsTrue (is_member c)) text

-- the characters begin with a text of the rule, behind which these are left
pub record Begins (Rule : Language) (characters left : List ℕ) : Type 0 where
  pub taken : List ℕ
  pub whole : characters ≡ taken ++ left
  pub is : Rule taken

-- no text of the rule, whatever it spells, begins here
abbrev pub BeginsNone : {X : Type 0} → (X → Language) → List ℕ → Type 0
BeginsNone {X} Spells characters = (x : X) (left : List ℕ) → Begins (Spells x) characters left → ⊥

-- the longest text of the rule that begins here spells this
pub record BeginsLongest {X : Type 0} (Spells : X → Language) (x : X) (characters left : List ℕ) : Type 0 where
  pub begins : Begins (Spells x) characters left
  pub longest : (other : X) (others : List ℕ) → Begins (Spells other) characters others → length left ≤ length others
