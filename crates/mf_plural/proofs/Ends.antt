-- The bytes at the ends of tokens.
use Rattle.std.proofs.Common.{◌≡◌, ◌∙◌, inl, inr, ℕ, Bool, true, false, List, [], ◌∷◌, length, refl, ap, sym, subst, arith}
use Rattle.std.specs.Char.{is_ascii_digit}
use Rattle.std.specs.List.{list_all}
use Rattle.std.specs.Prelude.{◌==◌, ◌&&◌, ◌||◌, codes, nat_le, not}
use Rattle.std.proofs.lemmas.Bool.{and_parts, false≢true}
use Rattle.std.proofs.lemmas.Bool.Decides.{nat_tests}
use Rattle.mf_plural.specs.Computed.{are_joined, is_letter}
use Rattle.mf_plural.specs.Grammar.{SpellsOperand, SpellsToken, is_word, keyword_text, is_value, is_white}
use Rattle.mf_plural.specs.declared.rule.Category.{Category}
use Rattle.mf_plural.specs.declared.rule.Category.TheVariants.{Zero, One, Two, Few, Many, Other}
use Rattle.mf_plural.specs.declared.rule.Operand.{Operand}
use Rattle.mf_plural.specs.declared.rule.Operand.TheVariants.{Number, Whole, FractionLen, TrimmedLen, Fraction, Trimmed, Exponent}
use Rattle.mf_plural.specs.declared.token.Token.{Token}
use Rattle.mf_plural.specs.declared.token.Token.TheVariants as token

abbrev pub first_of : List ℕ → ℕ
first_of [] = 0
first_of (c ∷ cs) = c

abbrev pub last_of : List ℕ → ℕ
last_of [] = 0
last_of (c ∷ []) = c
last_of (c ∷ d ∷ cs) = last_of (d ∷ cs)

-- some bytes, none of them white space, each joined to the next
abbrev pub is_chain : List ℕ → Bool
is_chain [] = false
is_chain (c ∷ []) = not (is_white c)
is_chain (c ∷ d ∷ cs) = not (is_white c) && (are_joined c d && is_chain (d ∷ cs))

abbrev pub is_number : Token → Bool
is_number (token.Value n) = true
is_number _ = false

abbrev pub is_dots : Token → Bool
is_dots token.Dots = true
is_dots _ = false

-- what the bytes of a token are
pub record HasEnds (piece : List ℕ) (t : Token) : Type 0 where
  pub chain : is_chain piece ≡ true
  pub last_letter : is_letter (last_of piece) ≡ is_word t
  pub last_digit : is_ascii_digit (last_of piece) ≡ is_number t
  pub last_bang : (last_of piece == 33) ≡ false
  pub last_dot : (last_of piece == 46) ≡ is_dots t
  pub first_letter : is_letter (first_of piece) ≡ is_word t
  pub first_digit : is_ascii_digit (first_of piece) ≡ is_number t
  pub first_dot : (first_of piece == 46) ≡ is_dots t

fixed : (piece : List ℕ) (t : Token) → is_chain piece ≡ true → is_letter (last_of piece) ≡ is_word t → is_ascii_digit (last_of piece) ≡ is_number t → (last_of piece == 33) ≡ false → (last_of piece == 46) ≡ is_dots t
    → is_letter (first_of piece) ≡ is_word t → is_ascii_digit (first_of piece) ≡ is_number t → (first_of piece == 46) ≡ is_dots t → HasEnds piece t
fixed piece t a b c d e f g h = record { chain = a; last_letter = b; last_digit = c; last_bang = d; last_dot = e; first_letter = f; first_digit = g; first_dot = h }

keyword_ends : (k : Category) → HasEnds (keyword_text k) (token.Keyword k)
keyword_ends Zero = fixed (keyword_text Zero) (token.Keyword Zero) refl refl refl refl refl refl refl refl
keyword_ends One = fixed (keyword_text One) (token.Keyword One) refl refl refl refl refl refl refl refl
keyword_ends Two = fixed (keyword_text Two) (token.Keyword Two) refl refl refl refl refl refl refl refl
keyword_ends Few = fixed (keyword_text Few) (token.Keyword Few) refl refl refl refl refl refl refl refl
keyword_ends Many = fixed (keyword_text Many) (token.Keyword Many) refl refl refl refl refl refl refl refl
keyword_ends Other = fixed (keyword_text Other) (token.Keyword Other) refl refl refl refl refl refl refl refl

at_text : (text piece : List ℕ) (t : Token) → piece ≡ text → HasEnds text t → HasEnds piece t
at_text text piece t is ends = subst (λ p. HasEnds p t) (sym is) ends

operand_ends : (piece : List ℕ) (o : Operand) → SpellsOperand piece o → HasEnds piece (token.Operand o)
operand_ends piece Number is = at_text (codes "n") piece (token.Operand Number) is (fixed (codes "n") (token.Operand Number) refl refl refl refl refl refl refl refl)
operand_ends piece Whole is = at_text (codes "i") piece (token.Operand Whole) is (fixed (codes "i") (token.Operand Whole) refl refl refl refl refl refl refl refl)
operand_ends piece FractionLen is = at_text (codes "v") piece (token.Operand FractionLen) is (fixed (codes "v") (token.Operand FractionLen) refl refl refl refl refl refl refl refl)
operand_ends piece TrimmedLen is = at_text (codes "w") piece (token.Operand TrimmedLen) is (fixed (codes "w") (token.Operand TrimmedLen) refl refl refl refl refl refl refl refl)
operand_ends piece Fraction is = at_text (codes "f") piece (token.Operand Fraction) is (fixed (codes "f") (token.Operand Fraction) refl refl refl refl refl refl refl refl)
operand_ends piece Trimmed is = at_text (codes "t") piece (token.Operand Trimmed) is (fixed (codes "t") (token.Operand Trimmed) refl refl refl refl refl refl refl refl)
operand_ends piece Exponent (inl is) = at_text (codes "c") piece (token.Operand Exponent) is (fixed (codes "c") (token.Operand Exponent) refl refl refl refl refl refl refl refl)
operand_ends piece Exponent (inr is) = at_text (codes "e") piece (token.Operand Exponent) is (fixed (codes "e") (token.Operand Exponent) refl refl refl refl refl refl refl refl)

both_digits : (c d : ℕ) → is_ascii_digit c ≡ true → is_ascii_digit d ≡ true → are_joined c d ≡ true
both_digits c d left right = grind (arith, nat_tests, left, right)

digit_no_white : (c : ℕ) → is_ascii_digit c ≡ true → not (is_white c) ≡ true
digit_no_white c is = grind (arith, nat_tests, is)

digits_chain : (c : ℕ) (cs : List ℕ) → list_all is_ascii_digit (c ∷ cs) ≡ true → is_chain (c ∷ cs) ≡ true
digits_chain c [] each = digit_no_white c (and_parts (is_ascii_digit c) true each).0
digits_chain c (d ∷ cs) each =
    let parts = and_parts (is_ascii_digit c) (list_all is_ascii_digit (d ∷ cs)) each in
    let next = and_parts (is_ascii_digit d) (list_all is_ascii_digit cs) parts.1 in
    ap (λ (b : Bool). b && (are_joined c d && is_chain (d ∷ cs))) (digit_no_white c parts.0)
    ∙ ap (λ (b : Bool). b && is_chain (d ∷ cs)) (both_digits c d parts.0 next.0)
    ∙ digits_chain d cs parts.1

last_is_digit : (c : ℕ) (cs : List ℕ) → list_all is_ascii_digit (c ∷ cs) ≡ true → is_ascii_digit (last_of (c ∷ cs)) ≡ true
last_is_digit c [] each = (and_parts (is_ascii_digit c) true each).0
last_is_digit c (d ∷ cs) each = last_is_digit d cs (and_parts (is_ascii_digit c) (list_all is_ascii_digit (d ∷ cs)) each).1

digit_no_letter : (c : ℕ) → is_ascii_digit c ≡ true → is_letter c ≡ false
digit_no_letter c is = grind (arith, nat_tests, is)

digit_no_bang : (c : ℕ) → is_ascii_digit c ≡ true → (c == 33) ≡ false
digit_no_bang c is = grind (arith, nat_tests, is)

digit_no_dot : (c : ℕ) → is_ascii_digit c ≡ true → (c == 46) ≡ false
digit_no_dot c is = grind (arith, nat_tests, is)

digits_ends : (piece : List ℕ) (n : ℕ) → is_value piece ≡ true → HasEnds piece (token.Value n)
digits_ends [] n is = absurd (false≢true is)
digits_ends (c ∷ cs) n is =
    let each : list_all is_ascii_digit (c ∷ cs) ≡ true = (and_parts (nat_le 1 (length (c ∷ cs)) && nat_le (length (c ∷ cs)) 18) (list_all is_ascii_digit (c ∷ cs)) is).1 in
    let first : is_ascii_digit c ≡ true = (and_parts (is_ascii_digit c) (list_all is_ascii_digit cs) each).0 in
    let last = last_is_digit c cs each in
    record {
      chain = digits_chain c cs each;
      last_letter = digit_no_letter (last_of (c ∷ cs)) last;
      last_digit = last;
      last_bang = digit_no_bang (last_of (c ∷ cs)) last;
      last_dot = digit_no_dot (last_of (c ∷ cs)) last;
      first_letter = digit_no_letter c first;
      first_digit = first;
      first_dot = digit_no_dot c first;
    }

pub token_ends : (piece : List ℕ) (t : Token) → SpellsToken piece t → HasEnds piece t
token_ends piece (token.Keyword k) is = at_text (keyword_text k) piece (token.Keyword k) is (keyword_ends k)
token_ends piece (token.Operand o) is = operand_ends piece o is
token_ends piece (token.Value n) is = digits_ends piece n is.0
token_ends piece token.And is = at_text (codes "and") piece token.And is (fixed (codes "and") token.And refl refl refl refl refl refl refl refl)
token_ends piece token.Or is = at_text (codes "or") piece token.Or is (fixed (codes "or") token.Or refl refl refl refl refl refl refl refl)
token_ends piece token.Colon is = at_text (codes ":") piece token.Colon is (fixed (codes ":") token.Colon refl refl refl refl refl refl refl refl)
token_ends piece token.Percent is = at_text (codes "%") piece token.Percent is (fixed (codes "%") token.Percent refl refl refl refl refl refl refl refl)
token_ends piece token.Equals is = at_text (codes "=") piece token.Equals is (fixed (codes "=") token.Equals refl refl refl refl refl refl refl refl)
token_ends piece token.Differs is = at_text (codes "!=") piece token.Differs is (fixed (codes "!=") token.Differs refl refl refl refl refl refl refl refl)
token_ends piece token.Comma is = at_text (codes ",") piece token.Comma is (fixed (codes ",") token.Comma refl refl refl refl refl refl refl refl)
token_ends piece token.Dots is = at_text (codes "..") piece token.Dots is (fixed (codes "..") token.Dots refl refl refl refl refl refl refl refl)

-- two numbers, or twice `..`
abbrev pub is_close : Token → Token → Bool
is_close t u = (is_number t && is_number u) || (is_dots t && is_dots u)

gathered : (a b c : Bool) → (a || b || false || c) ≡ (a || (b || c))
gathered true b c = refl
gathered false true c = refl
gathered false false c = refl

-- two tokens side by side are joined where both are words, or where they are close
pub joined_is : (p q : List ℕ) (t u : Token) → HasEnds p t → HasEnds q u → are_joined (last_of p) (first_of q) ≡ ((is_word t && is_word u) || is_close t u)
joined_is p q t u left right =
    ap (λ (b : Bool). b && is_letter (first_of q) || is_ascii_digit (last_of p) && is_ascii_digit (first_of q) || (last_of p == 33) && (first_of q == 61) || (last_of p == 46) && (first_of q == 46)) left.last_letter
    ∙ ap (λ (b : Bool). is_word t && b || is_ascii_digit (last_of p) && is_ascii_digit (first_of q) || (last_of p == 33) && (first_of q == 61) || (last_of p == 46) && (first_of q == 46)) right.first_letter
    ∙ ap (λ (b : Bool). is_word t && is_word u || b && is_ascii_digit (first_of q) || (last_of p == 33) && (first_of q == 61) || (last_of p == 46) && (first_of q == 46)) left.last_digit
    ∙ ap (λ (b : Bool). is_word t && is_word u || is_number t && b || (last_of p == 33) && (first_of q == 61) || (last_of p == 46) && (first_of q == 46)) right.first_digit
    ∙ ap (λ (b : Bool). is_word t && is_word u || is_number t && is_number u || b && (first_of q == 61) || (last_of p == 46) && (first_of q == 46)) left.last_bang
    ∙ ap (λ (b : Bool). is_word t && is_word u || is_number t && is_number u || false || b && (first_of q == 46)) left.last_dot
    ∙ ap (λ (b : Bool). is_word t && is_word u || is_number t && is_number u || false || is_dots t && b) right.first_dot
    ∙ gathered (is_word t && is_word u) (is_number t && is_number u) (is_dots t && is_dots u)
