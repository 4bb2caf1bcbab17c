-- The lexical rules: which texts each has, and what these spell (Unicode TS 35, Part 9, "Message syntax").
use Rattle.std.specs.Prelude.{◌≡◌, ℕ, Bool, false, ◌&&◌, IsTrue, List, [], ◌∷◌, Option}
use Rattle.std.specs.List.{list_all}
use Rattle.mf_text.specs.Characters.{is_ws, is_bidi, is_space, is_name_start, is_name_char, is_quoted, is_escapable}
use Rattle.mf_text.specs.Languages.{Language, Word, ◌⋅◌, ◌∣◌, Optional, Maybe, Each, One, Any}

-- o = *(ws / bidi)
abbrev pub O : Language
O = Any is_space

-- s = *bidi ws o
abbrev pub S : Language
S = Any is_bidi ⋅ One is_ws ⋅ O

-- escaped-char = "\" ("\" / "{" / "|" / "}"), which spells its second character
abbrev pub SpellsEscapedChar : ℕ → Language
SpellsEscapedChar c text = (text ≡ 0x5C ∷ c ∷ []) × IsTrue (is_escapable c)

-- name-start *name-char
abbrev pub is_bare_name : List ℕ → Bool
is_bare_name [] = false
is_bare_name (c ∷ cs) = is_name_start c && list_all is_name_char cs

-- name-start *name-char, which spells itself
abbrev pub SpellsBareName : List ℕ → Language
SpellsBareName spelled text = (text ≡ spelled) × IsTrue (is_bare_name spelled)

-- name = [bidi] name-start *name-char [bidi], which spells itself without the marks
abbrev pub SpellsName : List ℕ → Language
SpellsName spelled = Optional (One is_bidi) ⋅ SpellsBareName spelled ⋅ Optional (One is_bidi)

-- name ":"
abbrev pub SpellsNamespace : List ℕ → Language
SpellsNamespace spelled = SpellsName spelled ⋅ Word (0x3A ∷ [])

-- identifier = [name ":"] name
abbrev pub SpellsIdentifier : Option (List ℕ) → List ℕ → Language
SpellsIdentifier namespace name = Maybe SpellsNamespace namespace ⋅ SpellsName name

-- unquoted-literal = 1*name-char, which spells itself
abbrev pub is_unquoted : List ℕ → Bool
is_unquoted [] = false
is_unquoted (c ∷ cs) = list_all is_name_char (c ∷ cs)

abbrev pub SpellsUnquotedLiteral : List ℕ → Language
SpellsUnquotedLiteral value text = (text ≡ value) × IsTrue (is_unquoted value)

-- quoted-char, which spells itself
abbrev pub SpellsQuotedChar : ℕ → Language
SpellsQuotedChar c text = (text ≡ c ∷ []) × IsTrue (is_quoted c)

-- quoted-char / escaped-char
abbrev pub SpellsQuotedPart : ℕ → Language
SpellsQuotedPart c = SpellsQuotedChar c ∣ SpellsEscapedChar c

-- quoted-literal = "|" *(quoted-char / escaped-char) "|"
abbrev pub SpellsQuotedLiteral : List ℕ → Language
SpellsQuotedLiteral value = Word (0x7C ∷ []) ⋅ Each SpellsQuotedPart value ⋅ Word (0x7C ∷ [])

-- literal = quoted-literal / unquoted-literal
abbrev pub SpellsLiteral : List ℕ → Language
SpellsLiteral value = SpellsQuotedLiteral value ∣ SpellsUnquotedLiteral value
