-- For private clauses: what each reader takes, computed from the characters that are left: what they spell, and what is left behind it.
use Rattle.std.specs.Prelude.{ℕ, Bool, true, false, ◌==◌, List, [], ◌∷◌, ◌++◌, Option, Some, None, if◌then◌else◌}
use Rattle.std.specs.Option.{option_map, option_and_then}
use Rattle.mf_text.specs.Characters.{is_ws, is_bidi, is_space, is_name_start, is_name_char, is_quoted, is_escapable}
use Rattle.mf_lex.specs.declared.ident.Ident.{Ident}

-- whether a character of this class is next
abbrev pub is_next : (ℕ → Bool) → List ℕ → Bool
is_next is_member [] = false
is_next is_member (c ∷ cs) = is_member c

-- the characters of this class at the front, and those that are left behind them
abbrev pub run : (ℕ → Bool) → List ℕ → List ℕ
run is_member [] = []
run is_member (c ∷ cs) = if is_member c then c ∷ run is_member cs else []

abbrev pub behind_run : (ℕ → Bool) → List ℕ → List ℕ
behind_run is_member [] = []
behind_run is_member (c ∷ cs) = if is_member c then behind_run is_member cs else c ∷ cs

-- behind one character of this class, if one is next
abbrev pub behind_one : (ℕ → Bool) → List ℕ → List ℕ
behind_one is_member [] = []
behind_one is_member (c ∷ cs) = if is_member c then cs else c ∷ cs

-- behind this character, if it is the next one
abbrev pub one_at : ℕ → List ℕ → Option (List ℕ)
one_at c [] = None
one_at c (d ∷ cs) = if d == c then Some cs else None

-- behind the white space and the marks
unfoldable pub after_space : List ℕ → List ℕ
after_space cs = behind_run is_space cs

-- whether a white space is next behind the marks
unfoldable pub has_space : List ℕ → Bool
has_space cs = is_next is_ws (behind_run is_bidi cs)

-- what a backslash stands before
abbrev pub escaped : List ℕ → Option (ℕ × List ℕ)
escaped [] = None
escaped (c ∷ cs) = if is_escapable c then Some (c, cs) else None

-- an escape, which spells its second character
unfoldable pub escape_at : List ℕ → Option (ℕ × List ℕ)
escape_at cs = option_and_then escaped (one_at 0x5C cs)

-- behind a mark, if one is next
abbrev pub after_mark : List ℕ → List ℕ
after_mark cs = behind_one is_bidi cs

-- a name without marks
abbrev pub bare_name_at : List ℕ → Option (List ℕ × List ℕ)
bare_name_at cs = if is_next is_name_start cs then Some (run is_name_char cs, behind_run is_name_char cs) else None

-- a name, with at most one mark before it and one behind it, neither of which it spells
unfoldable pub name_at : List ℕ → Option (List ℕ × List ℕ)
name_at cs = option_map (λ found. (found.0, after_mark found.1)) (bare_name_at (after_mark cs))

-- the name behind a colon, if both are next
abbrev pub second_name_at : List ℕ → Option (List ℕ × List ℕ)
second_name_at cs = option_and_then name_at (one_at 0x3A cs)

-- what a name is part of: it is a namespace where a colon and a name are next, and else a name alone
abbrev pub with_first_name : List ℕ → List ℕ → Option (List ℕ × List ℕ) → Ident × List ℕ
with_first_name first left None = (record { namespace = None; name = first }, left)
with_first_name first left (Some second) = (record { namespace = Some first; name = second.0 }, second.1)

-- an identifier
unfoldable pub identifier_at : List ℕ → Option (Ident × List ℕ)
identifier_at cs = option_map (λ first. with_first_name first.0 first.1 (second_name_at first.1)) (name_at cs)

-- an unquoted literal
abbrev pub unquoted_at : List ℕ → Option (List ℕ × List ℕ)
unquoted_at cs = if is_next is_name_char cs then Some (run is_name_char cs, behind_run is_name_char cs) else None

-- one more character in front of what is spelled
abbrev pub onto : ℕ → List ℕ × List ℕ → List ℕ × List ℕ
onto c found = (c ∷ found.0, found.1)

-- more characters in front of what is spelled
abbrev pub with_front : List ℕ → List ℕ × List ℕ → List ℕ × List ℕ
with_front front found = (front ++ found.0, found.1)

-- a quoted literal behind its first bar; `escaping` where a backslash was passed
abbrev pub quoted_from : Bool → List ℕ → Option (List ℕ × List ℕ)
quoted_from escaping [] = None
quoted_from true (c ∷ cs) = if is_escapable c then option_map (onto c) (quoted_from false cs) else None
quoted_from false (c ∷ cs) =
    if c == 0x7C then Some ([], cs)
    else if c == 0x5C then quoted_from true cs
    else if is_quoted c then option_map (onto c) (quoted_from false cs)
    else None

-- the same where these characters of its value were gathered
abbrev pub gathered : List ℕ → List ℕ → Option (List ℕ × List ℕ)
gathered value cs = option_map (with_front value) (quoted_from false cs)

-- a quoted literal
abbrev pub quoted_at : List ℕ → Option (List ℕ × List ℕ)
quoted_at cs = option_and_then (quoted_from false) (one_at 0x7C cs)

-- a literal: quoted where a bar is next, and else unquoted
unfoldable pub literal_at : List ℕ → Option (List ℕ × List ℕ)
literal_at cs = if is_next (λ c. c == 0x7C) cs then quoted_at cs else unquoted_at cs
