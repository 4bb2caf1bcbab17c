-- The characters of literals and texts.
use Rattle.std.proofs.Common.{◌≡◌, ◌≢◌, ℕ, true, List, [], ◌∷◌, subst, inl, inr}
use Rattle.std.proofs.lemmas.Bool.{and_parts, false≢true}
use Rattle.std.specs.List.{list_all}
use Rattle.mf_text.specs.Characters.{is_space, is_text, is_simple_start, is_quoted, is_escapable, is_name_char, is_name_start}
use Rattle.mf_text.specs.Languages.{Each}
use Rattle.mf_text.specs.Grammar.{SpellsQuotedPart, SpellsLiteral, is_unquoted}
use Rattle.mf_tree.specs.Nodes.{HasNoNull}

pub text_no_null : (c : ℕ) → is_text c ≡ true → c ≢ 0
text_no_null c is at = false≢true (subst (λ c. is_text c ≡ true) at is)

pub start_no_null : (c : ℕ) → is_simple_start c ≡ true → c ≢ 0
start_no_null c is at = false≢true (subst (λ c. is_simple_start c ≡ true) at is)

pub quoted_no_null : (c : ℕ) → is_quoted c ≡ true → c ≢ 0
quoted_no_null c is at = false≢true (subst (λ c. is_quoted c ≡ true) at is)

pub escapable_no_null : (c : ℕ) → is_escapable c ≡ true → c ≢ 0
escapable_no_null c is at = false≢true (subst (λ c. is_escapable c ≡ true) at is)

pub space_no_null : (c : ℕ) → is_space c ≡ true → c ≢ 0
space_no_null c is at = false≢true (subst (λ c. is_space c ≡ true) at is)

name_char_no_null : (c : ℕ) → is_name_char c ≡ true → c ≢ 0
unfolding is_name_char is_name_start
name_char_no_null c is at = false≢true (subst (λ c. is_name_char c ≡ true) at is)

name_chars : (cs : List ℕ) → list_all is_name_char cs ≡ true → HasNoNull cs
name_chars [] each = tt
name_chars (c ∷ cs) each =
    let parts = and_parts (is_name_char c) (list_all is_name_char cs) each in
    (name_char_no_null c parts.0, name_chars cs parts.1)

unquoted : (cs : List ℕ) → is_unquoted cs ≡ true → HasNoNull cs
unquoted [] is = absurd (false≢true is)
unquoted (c ∷ cs) is = name_chars (c ∷ cs) is

part : (c : ℕ) (text : List ℕ) → SpellsQuotedPart c text → c ≢ 0
part c text (inl plain) = quoted_no_null c plain.1
part c text (inr escape) = escapable_no_null c escape.1

parts : (cs text : List ℕ) → Each SpellsQuotedPart cs text → HasNoNull cs
parts [] text spelled = tt
parts (c ∷ cs) text spelled = (part c spelled.front spelled.first, parts cs spelled.back spelled.second)

pub literal : (value text : List ℕ) → SpellsLiteral value text → HasNoNull value
literal value text (inl quoted) = parts value quoted.second.front quoted.second.first
literal value text (inr plain) = unquoted value plain.1
