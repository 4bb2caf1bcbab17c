-- What a reader does: by the function that computes it, and by its rule.
use Rattle.std.specs.Prelude.{◌≡◌, ◌<◌, ℕ, length, Bool, true, false, List, Option, Some, None}
use Rattle.mf_text.specs.Languages.{Language, BeginsNone, BeginsLongest}
use Rattle.mf_text.specs.Grammar.{SpellsIdentifier}
use Rattle.mf_lex.specs.declared.ident.Ident.{Ident}

-- an identifier in its parts
abbrev pub SpellsIdent : Ident → Language
SpellsIdent ident = SpellsIdentifier ident.namespace ident.name

-- what is found in the characters is what the function gives, and nothing is passed where it gives nothing
abbrev pub Finds : {X : Type 0} → (List ℕ → Option (X × List ℕ)) → Option X → List ℕ → List ℕ → Type 0
Finds at None old new = (at old ≡ None) × (new ≡ old)
Finds at (Some x) old new = at old ≡ Some (x, new)

-- what is found is spelled by the longest text of the rule, and nothing is found only where no text of it begins
abbrev pub Reads : {X : Type 0} → (X → Language) → Option X → List ℕ → List ℕ → Type 0
Reads Spells None old new = BeginsNone Spells old
Reads Spells (Some x) old new = BeginsLongest Spells x old new

-- the same for a rule that spells nothing
abbrev pub Passes : Language → Bool → List ℕ → List ℕ → Type 0
Passes Rule false old new = BeginsNone {X = Unit {0}} (λ u. Rule) old
Passes Rule true old new = BeginsLongest {X = Unit {0}} (λ u. Rule) tt old new

-- what is found leaves fewer characters
abbrev pub Shortens : {X : Type 0} → Option X → List ℕ → List ℕ → Type 0
Shortens None old new = Unit {0}
Shortens (Some x) old new = length new < length old
