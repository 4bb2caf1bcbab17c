-- What holds of every text.
use Rattle.std.specs.Prelude.{◌≡◌, ℕ, List}
use Rattle.mf_text.specs.Languages.{Language}
use Rattle.mf_text.specs.Grammar.{SpellsName, SpellsLiteral}
use Rattle.mf_lex.specs.Readers.{SpellsIdent}

-- each text spells at most one value
abbrev pub SpellsOnce : {X : Type 0} → (X → Language) → Type 0
SpellsOnce {X} Spells = (text : List ℕ) (x other : X) → Spells x text → Spells other text → x ≡ other

abbrev pub NamesAreSpelledOnce : Type 0
NamesAreSpelledOnce = SpellsOnce SpellsName

abbrev pub IdentifiersAreSpelledOnce : Type 0
IdentifiersAreSpelledOnce = SpellsOnce SpellsIdent

abbrev pub LiteralsAreSpelledOnce : Type 0
LiteralsAreSpelledOnce = SpellsOnce SpellsLiteral
