-- The classes of characters of a message (Unicode TS 35, Part 9, "Message syntax").
use Rattle.std.specs.Prelude.{ℕ, Bool, false, ◌&&◌, ◌||◌, not, nat_le, List, [], ◌∷◌}

-- a table of code points: the first and the last of each range
abbrev pub Table : Type 0
Table = List (ℕ × ℕ)

-- whether a range of the table has the code point
abbrev pub is_in : Table → ℕ → Bool
is_in [] c = false
is_in (row ∷ rows) c = (nat_le row.0 c && nat_le c row.1) || is_in rows c

-- ws: tab, line feed, carriage return, space, ideographic space
abbrev pub ws : Table
ws = (0x9, 0xA) ∷ (0xD, 0xD) ∷ (0x20, 0x20) ∷ (0x3000, 0x3000) ∷ []

-- bidi: the marks of direction that may stand beside white space and names
abbrev pub bidi : Table
bidi = (0x61C, 0x61C) ∷ (0x200E, 0x200F) ∷ (0x2066, 0x2069) ∷ []

-- name-start in the first plane
abbrev pub name_start_below : Table
name_start_below =
    (0x2B, 0x2B)
    ∷ (0x41, 0x5A)
    ∷ (0x5F, 0x5F)
    ∷ (0x61, 0x7A)
    ∷ (0xA1, 0x61B)
    ∷ (0x61D, 0x167F)
    ∷ (0x1681, 0x1FFF)
    ∷ (0x200B, 0x200D)
    ∷ (0x2010, 0x2027)
    ∷ (0x2030, 0x205E)
    ∷ (0x2060, 0x2065)
    ∷ (0x206A, 0x2FFF)
    ∷ (0x3001, 0xD7FF)
    ∷ (0xE000, 0xFDCF)
    ∷ (0xFDF0, 0xFFFD)
    ∷ []

-- name-start in the planes from 1 to 16: all but the last two code points of each
abbrev pub name_start_above : Table
name_start_above =
    (0x10000, 0x1FFFD)
    ∷ (0x20000, 0x2FFFD)
    ∷ (0x30000, 0x3FFFD)
    ∷ (0x40000, 0x4FFFD)
    ∷ (0x50000, 0x5FFFD)
    ∷ (0x60000, 0x6FFFD)
    ∷ (0x70000, 0x7FFFD)
    ∷ (0x80000, 0x8FFFD)
    ∷ (0x90000, 0x9FFFD)
    ∷ (0xA0000, 0xAFFFD)
    ∷ (0xB0000, 0xBFFFD)
    ∷ (0xC0000, 0xCFFFD)
    ∷ (0xD0000, 0xDFFFD)
    ∷ (0xE0000, 0xEFFFD)
    ∷ (0xF0000, 0xFFFFD)
    ∷ (0x100000, 0x10FFFD)
    ∷ []

-- what a name has beside name-start: the hyphen, the full stop and the digits
abbrev pub name_rest : Table
name_rest = (0x2D, 0x2E) ∷ (0x30, 0x39) ∷ []

-- what stands for itself neither in a text nor in a quoted literal: U+0000 and the backslash
abbrev pub never_plain : Table
never_plain = (0, 0) ∷ (0x5C, 0x5C) ∷ []

-- what may follow a backslash: the backslash, and `{`, `|`, `}`
abbrev pub escapable : Table
escapable = (0x5C, 0x5C) ∷ (0x7B, 0x7D) ∷ []

abbrev pub is_ws : ℕ → Bool
is_ws c = is_in ws c

abbrev pub is_bidi : ℕ → Bool
is_bidi c = is_in bidi c

-- ws / bidi
abbrev pub is_space : ℕ → Bool
is_space c = is_ws c || is_bidi c

unfoldable pub is_name_start : ℕ → Bool
is_name_start c = is_in name_start_below c || is_in name_start_above c

-- name-char = name-start / DIGIT / "-" / "."
unfoldable pub is_name_char : ℕ → Bool
is_name_char c = is_name_start c || is_in name_rest c

-- text-char: every character but U+0000, the backslash and the braces
abbrev pub is_text : ℕ → Bool
is_text c = not (is_in never_plain c || is_in ((0x7B, 0x7B) ∷ (0x7D, 0x7D) ∷ []) c)

-- quoted-char: every character but U+0000, the backslash and the bar
abbrev pub is_quoted : ℕ → Bool
is_quoted c = not (is_in never_plain c || is_in ((0x7C, 0x7C) ∷ []) c)

-- the second character of escaped-char
abbrev pub is_escapable : ℕ → Bool
is_escapable c = is_in escapable c

-- simple-start-char: every text-char but ws and the full stop
abbrev pub is_simple_start : ℕ → Bool
is_simple_start c = is_text c && not (is_ws c || is_in ((0x2E, 0x2E) ∷ []) c)
