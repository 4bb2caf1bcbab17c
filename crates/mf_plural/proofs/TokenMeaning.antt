-- What a piece spells is the token that is computed of it.
use Rattle.std.proofs.Common.{◌≡◌, ◌∙◌, ◌⊎◌, inl, inr, ℕ, Bool, cond, List, [], ◌∷◌, Option, Some, None, refl, ap, sym, subst, codes}
use Rattle.std.proofs.lemmas.Option.{none-some}
use Rattle.std.proofs.lemmas.Slice.Eq.{bytes_eq-Decides}
use Rattle.std.specs.Option.{option_map}
use Rattle.std.specs.Str.{bytes_eq}
use Rattle.std.specs.Str.Parse.{digits_value}
use Rattle.mf_plural.specs.Grammar.{SpellsOperand, SpellsToken, keyword_text, is_value}
use Rattle.mf_plural.specs.Computed.{category_of, mark_of, operand_of, or_else, token_of, value_of}
use Rattle.mf_plural.specs.declared.rule.Category.{Category}
use Rattle.mf_plural.specs.declared.rule.Category.TheVariants.{Zero, One, Two, Few, Many, Other}
use Rattle.mf_plural.specs.declared.rule.Operand.{Operand}
use Rattle.mf_plural.specs.declared.rule.Operand.TheVariants.{Number, Whole, FractionLen, TrimmedLen, Fraction, Trimmed, Exponent}
use Rattle.mf_plural.specs.declared.token.Token.{Token}
use Rattle.mf_plural.specs.declared.token.Token.TheVariants as token
use Rattle.mf_plural.proofs.Options.{cond_first, cond_given, map_some}

-- a word is looked up in a table
abbrev look_up : {A : Type 0} → List (List ℕ × A) → List ℕ → Option A
look_up [] text = None
look_up (entry ∷ table) text = cond (bytes_eq text entry.0) (Some entry.1) (look_up table text)

abbrev Every : {A : Type 0} → (List ℕ → A → Type 0) → List (List ℕ × A) → Type 0
Every P [] = Unit {0}
Every P (entry ∷ table) = P entry.0 entry.1 × Every P table

-- what holds of every entry holds of the one that is found
looked_up : {A : Type 0} (P : List ℕ → A → Type 0) (table : List (List ℕ × A)) → Every P table → (text : List ℕ) (x : A) → look_up table text ≡ Some x → P text x
looked_up P [] each text x is = absurd (none-some x is)
looked_up P (entry ∷ table) each text x is = elim (cond_first (bytes_eq text entry.0) entry.1 x (look_up table text) is) [
  | inl here ↦ subst (λ y. P text y) here.1 (subst (λ word. P word entry.1) (sym ((bytes_eq-Decides text entry.0).0 here.0)) each.0)
  | inr later ↦ looked_up P table each.1 text x later
]

categories : List (List ℕ × Category)
categories = (codes "zero", Zero) ∷ (codes "one", One) ∷ (codes "two", Two) ∷ (codes "few", Few) ∷ (codes "many", Many) ∷ (codes "other", Other) ∷ []

operands : List (List ℕ × Operand)
operands =
    (codes "n", Number) ∷ (codes "i", Whole) ∷ (codes "v", FractionLen) ∷ (codes "w", TrimmedLen) ∷ (codes "f", Fraction) ∷ (codes "t", Trimmed)
    ∷ (codes "c", Exponent) ∷ (codes "e", Exponent) ∷ []

marks : List (List ℕ × Token)
marks =
    (codes "and", token.And) ∷ (codes "or", token.Or) ∷ (codes ":", token.Colon) ∷ (codes "%", token.Percent) ∷ (codes "=", token.Equals)
    ∷ (codes "!=", token.Differs) ∷ (codes ",", token.Comma) ∷ (codes "..", token.Dots) ∷ []

category_good : (text : List ℕ) (k : Category) → category_of text ≡ Some k → text ≡ keyword_text k
unfolding categories
category_good text k is = looked_up (λ word x. word ≡ keyword_text x) categories (refl, (refl, (refl, (refl, (refl, (refl, tt)))))) text k is

operand_good : (text : List ℕ) (o : Operand) → operand_of text ≡ Some o → SpellsOperand text o
unfolding operands
operand_good text o is =
    looked_up (λ word x. SpellsOperand word x) operands (refl, (refl, (refl, (refl, (refl, (refl, (inl refl, (inr refl, tt)))))))) text o is

mark_good : (text : List ℕ) (t : Token) → mark_of text ≡ Some t → SpellsToken text t
unfolding marks
mark_good text t is = looked_up (λ word x. SpellsToken word x) marks (refl, (refl, (refl, (refl, (refl, (refl, (refl, (refl, tt)))))))) text t is

one_of : (first second : Option Token) (t : Token) → or_else first second ≡ Some t → (first ≡ Some t) ⊎ (second ≡ Some t)
one_of None second t is = inr is
one_of (Some found) second t is = inl is

value_good : (text : List ℕ) (t : Token) → option_map (λ n. token.Value n) (value_of text) ≡ Some t → SpellsToken text t
value_good text t is =
    let found = map_some (λ n. token.Value n) (value_of text) t is in
    let parts = cond_given (is_value text) (digits_value 10 text) found.0 found.1 in
    subst (λ x. SpellsToken text x) found.2 (parts.0, sym parts.1)

word_good : (text : List ℕ) (t : Token) → option_map (λ k. token.Keyword k) (category_of text) ≡ Some t → SpellsToken text t
word_good text t is =
    let found = map_some (λ k. token.Keyword k) (category_of text) t is in
    subst (λ x. SpellsToken text x) found.2 (category_good text found.0 found.1)

letter_good : (text : List ℕ) (t : Token) → option_map (λ o. token.Operand o) (operand_of text) ≡ Some t → SpellsToken text t
letter_good text t is =
    let found = map_some (λ o. token.Operand o) (operand_of text) t is in
    subst (λ x. SpellsToken text x) found.2 (operand_good text found.0 found.1)

pub token_good : (text : List ℕ) (t : Token) → token_of text ≡ Some t → SpellsToken text t
token_good text t is =
    let letter = option_map (λ o. token.Operand o) (operand_of text) in
    let word = option_map (λ k. token.Keyword k) (category_of text) in
    elim (one_of (option_map (λ n. token.Value n) (value_of text)) (or_else word (or_else letter (mark_of text))) t is) [
      | inl value ↦ value_good text t value
      | inr other ↦ elim (one_of word (or_else letter (mark_of text)) t other) [
        | inl keyword ↦ word_good text t keyword
        | inr further ↦ elim (one_of letter (mark_of text) t further) [
          | inl operand ↦ letter_good text t operand
          | inr mark ↦ mark_good text t mark
        ]
      ]
    ]

keyword_is : (k : Category) → token_of (keyword_text k) ≡ Some (token.Keyword k)
keyword_is Zero = refl
keyword_is One = refl
keyword_is Two = refl
keyword_is Few = refl
keyword_is Many = refl
keyword_is Other = refl

operand_is : (text : List ℕ) (o : Operand) → SpellsOperand text o → token_of text ≡ Some (token.Operand o)
operand_is text Number spells = ap token_of spells
operand_is text Whole spells = ap token_of spells
operand_is text FractionLen spells = ap token_of spells
operand_is text TrimmedLen spells = ap token_of spells
operand_is text Fraction spells = ap token_of spells
operand_is text Trimmed spells = ap token_of spells
operand_is text Exponent (inl c) = ap token_of c
operand_is text Exponent (inr e) = ap token_of e

pub token_is : (text : List ℕ) (t : Token) → SpellsToken text t → token_of text ≡ Some t
token_is text (token.Keyword k) spells = ap token_of spells ∙ keyword_is k
token_is text (token.Operand o) spells = operand_is text o spells
token_is text (token.Value n) spells =
    let others = or_else (option_map (λ k. token.Keyword k) (category_of text)) (or_else (option_map (λ o. token.Operand o) (operand_of text)) (mark_of text)) in
    ap (λ (b : Bool). or_else (option_map (λ m. token.Value m) (cond b (Some (digits_value 10 text)) None)) others) spells.0
    ∙ ap (λ m. Some (token.Value m)) (sym spells.1)
token_is text token.And spells = ap token_of spells
token_is text token.Or spells = ap token_of spells
token_is text token.Colon spells = ap token_of spells
token_is text token.Percent spells = ap token_of spells
token_is text token.Equals spells = ap token_of spells
token_is text token.Differs spells = ap token_of spells
token_is text token.Comma spells = ap token_of spells
token_is text token.Dots spells = ap token_of spells
