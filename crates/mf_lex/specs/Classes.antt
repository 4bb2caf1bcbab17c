-- For private clauses: the classes of characters that the readers pass.
use Rattle.std.specs.Prelude.{ℕ, Bool}
use Rattle.mf_text.specs.Characters.{is_ws, is_bidi, is_space, is_name_char, is_quoted, is_text}
use Rattle.mf_lex.specs.declared.class.Class.{Class}
use Rattle.mf_lex.specs.declared.class.Class.TheVariants.{White, Space, Mark, NameChar, Quoted, Text}

-- whether a character is of the class
abbrev pub holds : Class → ℕ → Bool
holds White c = is_ws c
holds Space c = is_space c
holds Mark c = is_bidi c
holds NameChar c = is_name_char c
holds Quoted c = is_quoted c
holds Text c = is_text c
