-- The rules of a text, computed from its bytes.
use Rattle.std.specs.Prelude.{ℕ, Bool, ◌==◌, ◌&&◌, ◌||◌, List, [], ◌∷◌, if◌then◌else◌, codes, Option, Some, None, true, false, nat_le, ◌+◌, ◌++◌, length, Result, Ok, Err}
use Rattle.std.specs.Char.{is_ascii_digit, is_ascii_lowercase}
use Rattle.std.specs.List.{onto_first}
use Rattle.mf_plural.specs.Grammar.{is_white, is_value, before_samples, between, is_fit, rule_texts}
use Rattle.std.specs.Option.{option_map, option_and_then}
use Rattle.std.specs.Str.{bytes_eq}
use Rattle.std.specs.Str.Parse.{digits_value}
use Rattle.mf_plural.specs.declared.rule.Category.{Category}
use Rattle.mf_plural.specs.declared.rule.Category.TheVariants.{Zero, One, Two, Few, Many, Other}
use Rattle.mf_plural.specs.declared.rule.Operand.{Operand}
use Rattle.mf_plural.specs.declared.rule.Operand.TheVariants.{Number, Whole, FractionLen, TrimmedLen, Fraction, Trimmed, Exponent}
use Rattle.mf_plural.specs.declared.token.Token.{Token}
use Rattle.mf_plural.specs.declared.token.Token.TheVariants as token
use Rattle.mf_plural.specs.declared.rule.Item.{Item}
use Rattle.mf_plural.specs.declared.rule.Item.TheVariants as item
use Rattle.mf_plural.specs.declared.rule.Relation.{Relation}
use Rattle.mf_plural.specs.declared.rule.Rule.{Rule}
use Rattle.mf_plural.specs.declared.token.Separator.TheVariants.{BetweenItems, BetweenRelations, BetweenParts}
use Rattle.mf_plural.specs.Keywords.{has_keyword}

-- words are of small letters
abbrev pub is_letter : ℕ → Bool
is_letter c = is_ascii_lowercase c

-- side by side they are of one token: two letters of a word, two digits of a value, `!=` and `..`; in a rule no value stands
-- beside a value and no mark beside a mark, so only words need white space between them
abbrev pub are_joined : ℕ → ℕ → Bool
are_joined c d = (is_letter c && is_letter d) || (is_ascii_digit c && is_ascii_digit d) || (c == 33 && d == 61) || (c == 46 && d == 46)

-- a byte is of one token with the next one, or a token of its own
abbrev pub onto_next : ℕ → List ℕ → List (List ℕ) → List (List ℕ)
onto_next c [] pieces = (c ∷ []) ∷ pieces
onto_next c (d ∷ ds) pieces = if are_joined c d then onto_first c pieces else (c ∷ []) ∷ pieces

-- the text cut into the texts of its tokens
abbrev pub lexemes : List ℕ → List (List ℕ)
lexemes [] = []
lexemes (c ∷ cs) = if is_white c then lexemes cs else onto_next c cs (lexemes cs)

-- the category that a keyword names
abbrev pub category_of : List ℕ → Option Category
category_of text =
    if bytes_eq text (codes "zero") then Some Zero
    else if bytes_eq text (codes "one") then Some One
    else if bytes_eq text (codes "two") then Some Two
    else if bytes_eq text (codes "few") then Some Few
    else if bytes_eq text (codes "many") then Some Many
    else if bytes_eq text (codes "other") then Some Other
    else None

-- the operand that a letter names
abbrev pub operand_of : List ℕ → Option Operand
operand_of text =
    if bytes_eq text (codes "n") then Some Number
    else if bytes_eq text (codes "i") then Some Whole
    else if bytes_eq text (codes "v") then Some FractionLen
    else if bytes_eq text (codes "w") then Some TrimmedLen
    else if bytes_eq text (codes "f") then Some Fraction
    else if bytes_eq text (codes "t") then Some Trimmed
    else if bytes_eq text (codes "c") then Some Exponent
    else if bytes_eq text (codes "e") then Some Exponent
    else None

-- the number that a value writes
abbrev pub value_of : List ℕ → Option ℕ
value_of text = if is_value text then Some (digits_value 10 text) else None

-- the words between relations and parts, and the marks
abbrev pub mark_of : List ℕ → Option Token
mark_of text =
    if bytes_eq text (codes "and") then Some token.And
    else if bytes_eq text (codes "or") then Some token.Or
    else if bytes_eq text (codes ":") then Some token.Colon
    else if bytes_eq text (codes "%") then Some token.Percent
    else if bytes_eq text (codes "=") then Some token.Equals
    else if bytes_eq text (codes "!=") then Some token.Differs
    else if bytes_eq text (codes ",") then Some token.Comma
    else if bytes_eq text (codes "..") then Some token.Dots
    else None

-- the first, or else the second
abbrev pub or_else : Option Token → Option Token → Option Token
or_else None other = other
or_else (Some found) other = Some found

-- the token that a piece is
abbrev pub token_of : List ℕ → Option Token
token_of text =
    or_else (option_map (λ n. token.Value n) (value_of text))
    (or_else (option_map (λ k. token.Keyword k) (category_of text))
    (or_else (option_map (λ o. token.Operand o) (operand_of text)) (mark_of text)))

-- what each member gives, where each gives something
abbrev pub all_of : {A B : Type 0} → (A → Option B) → List A → Option (List B)
all_of f [] = Some []
all_of f (x ∷ xs) = option_and_then (λ y. option_map (λ ys. y ∷ ys) (all_of f xs)) (f x)

-- the tokens of a text
abbrev pub tokens_of : List ℕ → Option (List Token)
tokens_of text = all_of token_of (lexemes text)

-- item = value [".." value], the first one not above the second
abbrev pub item_of : List Token → Option Item
item_of (token.Value v ∷ []) = Some (item.Value v)
item_of (token.Value a ∷ token.Dots ∷ token.Value b ∷ []) = if nat_le a b then Some (item.Range a b) else None
item_of _ = None

-- list = item *("," item)
abbrev pub items_of : List Token → Option (List Item)
items_of tokens = all_of item_of (between BetweenItems tokens)

-- the relation of an operand whose sign and list these are
abbrev pub compared : Operand → Option ℕ → List Token → Option Relation
compared o m (token.Equals ∷ tokens) = option_map (λ items. record { operand = o; modulus = m; negated = false; items = items }) (items_of tokens)
compared o m (token.Differs ∷ tokens) = option_map (λ items. record { operand = o; modulus = m; negated = true; items = items }) (items_of tokens)
compared o m _ = None

-- relation = operand ["%" value] ("=" / "!=") list, the value not zero
abbrev pub relation_of : List Token → Option Relation
relation_of (token.Operand o ∷ token.Percent ∷ token.Value m ∷ tokens) = if m == 0 then None else compared o (Some m) tokens
relation_of (token.Operand o ∷ tokens) = compared o None tokens
relation_of _ = None

-- and-part = relation *("and" relation)
abbrev pub part_of : List Token → Option (List Relation)
part_of tokens = all_of relation_of (between BetweenRelations tokens)

-- condition = and-part *("or" and-part)
abbrev pub parts_of : List Token → Option (List (List Relation))
parts_of tokens = all_of part_of (between BetweenParts tokens)

-- [condition]
abbrev pub condition_of : List Token → Option (List (List Relation))
condition_of [] = Some []
condition_of (first ∷ tokens) = parts_of (first ∷ tokens)

-- the rule of a keyword, where such a condition is fit for it
abbrev pub fit_rule : Category → List (List Relation) → Option Rule
fit_rule k parts = if is_fit k parts then Some (record { keyword = k; condition = parts }) else None

-- rule = keyword ":" [condition]
abbrev pub rule_of : List Token → Option Rule
rule_of (token.Keyword k ∷ token.Colon ∷ tokens) = option_and_then (fit_rule k) (condition_of tokens)
rule_of _ = None

-- the rule that a text is
abbrev pub rule_from : List ℕ → Option Rule
rule_from text = option_and_then rule_of (tokens_of (before_samples text))

-- the same, where its keyword is that of no earlier rule
abbrev pub if_new : List Rule → Rule → Option Rule
if_new earlier rule = if has_keyword rule.keyword earlier then None else Some rule

abbrev pub new_rule : List Rule → List ℕ → Option Rule
new_rule earlier text = option_and_then (if_new earlier) (rule_from text)

-- what comes of a rule, or else the number of the text that is none
abbrev pub with_rule : Option Rule → ℕ → (Rule → Result (List Rule) ℕ) → Result (List Rule) ℕ
with_rule None number next = Err number
with_rule (Some rule) number next = next rule

-- some earlier rules and those of the texts behind them, or the number of the first text that is no new rule
abbrev pub rules_behind : List Rule → List (List ℕ) → Result (List Rule) ℕ
rules_behind earlier [] = Ok earlier
rules_behind earlier (text ∷ texts) = with_rule (new_rule earlier text) (length earlier + 1) (λ rule. rules_behind (earlier ++ rule ∷ []) texts)

-- the rules of a text, or the number of its first bad one
abbrev pub rules_of : List ℕ → Result (List Rule) ℕ
rules_of text = rules_behind [] (rule_texts text)
