-- A character, escaped where it must be, is spelled.
use Rattle.std.proofs.Common.{◌≡◌, ◌≢◌, ℕ, Bool, true, false, ◌&&◌, ◌||◌, not, List, [], ◌∷◌, ◌++◌, refl, sym, subst, inl, inr, arith}
use Rattle.std.specs.Prelude.{nat_le}
use Rattle.std.specs.List.{flat_map}
use Rattle.std.proofs.lemmas.Bool.{and_parts, or_cases, cases_Bool, cond-true, cond-false, leb-true, false≢true}
use Rattle.mf_text.specs.Characters.{Table, is_in, is_text, is_quoted, is_escapable}
use Rattle.mf_text.specs.Languages.{Each}
use Rattle.mf_text.specs.Grammar.{SpellsQuotedPart, SpellsQuotedLiteral, SpellsLiteral, is_unquoted}
use Rattle.mf_tree.specs.Nodes.{HasNoNull}
use Rattle.mf_tree.specs.Grammar.{SpellsItem, character}
use Rattle.mf_tree.specs.Canonical.{escaped, escaped_in_text, escaped_in_quotes, quoted_source, literal_source}

-- the code point of a row of one
pub point : (k c : ℕ) → (nat_le k c && nat_le c k) ≡ true → k ≡ c
point k c is = let parts = and_parts (nat_le k c) (nat_le c k) is in omega (arith, leb-true _ _ parts.0, leb-true _ _ parts.1)

not_null : (c : ℕ) → c ≢ 0 → (nat_le 0 c && nat_le c 0) ≡ false
not_null c some =
    elim (cases_Bool (nat_le 0 c && nat_le c 0)) [
      | inl null ↦ absurd (some (sym (point 0 c null)))
      | inr other ↦ other
    ]

escapable_at : (k c : ℕ) → is_escapable k ≡ true → (nat_le k c && nat_le c k) ≡ true → is_escapable c ≡ true
escapable_at k c may is = subst (λ c. is_escapable c ≡ true) (point k c is) may

-- what holds of the backslash and the braces holds of all that is escaped in a text
pub of_escaped : (test : ℕ → Bool) (b : Bool) (c : ℕ) → test 0x5C ≡ b → test 0x7B ≡ b → test 0x7D ≡ b → is_in escaped_in_text c ≡ true → test c ≡ b
of_escaped test b c first second third is =
    elim (or_cases (nat_le 0x5C c && nat_le c 0x5C) _ is) [
      | inl backslash ↦ subst (λ c. test c ≡ b) (point 0x5C c backslash) first
      | inr brace ↦
          elim (or_cases (nat_le 0x7B c && nat_le c 0x7B) _ brace) [
            | inl left ↦ subst (λ c. test c ≡ b) (point 0x7B c left) second
            | inr other ↦
                elim (or_cases (nat_le 0x7D c && nat_le c 0x7D) false other) [
                  | inl right ↦ subst (λ c. test c ≡ b) (point 0x7D c right) third
                  | inr never ↦ absurd (false≢true never)
                ]
          ]
    ]

pub text_escapable : (c : ℕ) → is_in escaped_in_text c ≡ true → is_escapable c ≡ true
text_escapable c is = of_escaped is_escapable true c refl refl refl is

quotes_escapable : (c : ℕ) → is_in escaped_in_quotes c ≡ true → is_escapable c ≡ true
quotes_escapable c is =
    elim (or_cases (nat_le 0x5C c && nat_le c 0x5C) _ is) [
      | inl backslash ↦ escapable_at 0x5C c refl backslash
      | inr other ↦
          elim (or_cases (nat_le 0x7C c && nat_le c 0x7C) false other) [
            | inl bar ↦ escapable_at 0x7C c refl bar
            | inr never ↦ absurd (false≢true never)
          ]
    ]

plain_text : (z b l r : Bool) → z ≡ false → (b || (l || (r || false))) ≡ false → not ((z || (b || false)) || (l || (r || false))) ≡ true
plain_text true b l r some plain = absurd (false≢true (sym some))
plain_text false true l r some plain = absurd (false≢true (sym plain))
plain_text false false true r some plain = absurd (false≢true (sym plain))
plain_text false false false true some plain = absurd (false≢true (sym plain))
plain_text false false false false some plain = refl

plain_quoted : (z b l : Bool) → z ≡ false → (b || (l || false)) ≡ false → not ((z || (b || false)) || (l || false)) ≡ true
plain_quoted true b l some plain = absurd (false≢true (sym some))
plain_quoted false true l some plain = absurd (false≢true (sym plain))
plain_quoted false false true some plain = absurd (false≢true (sym plain))
plain_quoted false false false some plain = refl

pub is_plain_text : (c : ℕ) → c ≢ 0 → is_in escaped_in_text c ≡ false → is_text c ≡ true
is_plain_text c some plain = plain_text _ _ _ _ (not_null c some) plain

is_plain_quoted : (c : ℕ) → c ≢ 0 → is_in escaped_in_quotes c ≡ false → is_quoted c ≡ true
is_plain_quoted c some plain = plain_quoted _ _ _ (not_null c some) plain

pub escape_is : (table : Table) (c : ℕ) → is_in table c ≡ true → escaped table c ≡ 0x5C ∷ c ∷ []
escape_is table c is = cond-true (is_in table c) _ _ is

pub plain_is : (table : Table) (c : ℕ) → is_in table c ≡ false → escaped table c ≡ c ∷ []
plain_is table c is = cond-false (is_in table c) _ _ is

pub text_character : (c : ℕ) → c ≢ 0 → SpellsItem (character c) (escaped escaped_in_text c)
text_character c some =
    elim (cases_Bool (is_in escaped_in_text c)) [
      | inl is ↦ inr (escape_is escaped_in_text c is, text_escapable c is)
      | inr plain ↦ inl (plain_is escaped_in_text c plain, is_plain_text c some plain)
    ]

quoted_part : (c : ℕ) → c ≢ 0 → SpellsQuotedPart c (escaped escaped_in_quotes c)
quoted_part c some =
    elim (cases_Bool (is_in escaped_in_quotes c)) [
      | inl is ↦ inr (escape_is escaped_in_quotes c is, quotes_escapable c is)
      | inr plain ↦ inl (plain_is escaped_in_quotes c plain, is_plain_quoted c some plain)
    ]

quoted_parts : (value : List ℕ) → HasNoNull value → Each SpellsQuotedPart value (flat_map (escaped escaped_in_quotes) value)
quoted_parts [] some = refl
quoted_parts (c ∷ cs) some = record { front = escaped escaped_in_quotes c; back = flat_map (escaped escaped_in_quotes) cs; whole = refl; first = quoted_part c some.0; second = quoted_parts cs some.1 }

quoted : (value : List ℕ) → HasNoNull value → SpellsQuotedLiteral value (quoted_source value)
quoted value some = record {
  front = 0x7C ∷ [];
  back = flat_map (escaped escaped_in_quotes) value ++ 0x7C ∷ [];
  whole = refl;
  first = refl;
  second = record { front = flat_map (escaped escaped_in_quotes) value; back = 0x7C ∷ []; whole = refl; first = quoted_parts value some; second = refl };
}

pub literal : (value : List ℕ) → HasNoNull value → SpellsLiteral value (literal_source value)
literal value some =
    elim (cases_Bool (is_unquoted value)) [
      | inl is ↦ inr (cond-true (is_unquoted value) value (quoted_source value) is, is)
      | inr other ↦ inl (subst (SpellsQuotedLiteral value) (sym (cond-false (is_unquoted value) value (quoted_source value) other)) (quoted value some))
    ]
