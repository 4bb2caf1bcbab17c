-- The grammar of plural rules (Unicode TS 35, Part 3, "Plural rules syntax"): which rules a text spells, and which of its
-- rules is the first bad one. Texts are seen as their UTF-8 bytes: what isn't ASCII stands in samples alone. A rule that isn't
-- sound is spelled by no text.
use Rattle.std.specs.Prelude.{ℕ, Bool, ◌==◌, ◌&&◌, ◌||◌, nat_le, List, length, true, false, [], ◌∷◌, if◌then◌else◌, ◌≡◌, ◌≢◌, ◌⊎◌, ◌≤◌, ◌++◌, codes, Option, Some, None, IsTrue, ◌+◌}
use Rattle.std.specs.Char.{is_ascii_digit}
use Rattle.std.specs.List.{list_all, before_first, slice_split}
use Rattle.mf_plural.specs.declared.rule.Category.{Category}
use Rattle.mf_plural.specs.declared.rule.Category.TheVariants.{Other, Zero, One, Two, Few, Many}
use Rattle.mf_plural.specs.declared.rule.Relation.{Relation}
use Rattle.mf_plural.specs.declared.token.Separator.{Separator}
use Rattle.mf_plural.specs.declared.token.Separator.TheVariants.{BetweenItems, BetweenRelations, BetweenParts}
use Rattle.mf_plural.specs.declared.token.Token.{Token}
use Rattle.mf_plural.specs.declared.token.Token.TheVariants as token
use Rattle.std.specs.Str.Parse.{digits_value}
use Rattle.mf_plural.specs.declared.rule.Item.{Item}
use Rattle.mf_plural.specs.declared.rule.Item.TheVariants as item
use Rattle.mf_plural.specs.declared.rule.Operand.{Operand}
use Rattle.mf_plural.specs.declared.rule.Operand.TheVariants.{Number, Whole, FractionLen, TrimmedLen, Fraction, Trimmed, Exponent}
use Rattle.mf_plural.specs.declared.rule.Rule.{Rule}
use Rattle.mf_plural.specs.Keywords.{has_keyword}

-- white space is the space and the tab
abbrev pub is_white : ℕ → Bool
is_white c = c == 32 || c == 9

-- value = 1 to 18 digits
abbrev pub is_value : List ℕ → Bool
is_value text = nat_le 1 (length text) && nat_le (length text) 18 && list_all is_ascii_digit text

-- a comma stands between items, `and` between relations, `or` between and-parts
abbrev pub separates : Separator → Token → Bool
separates BetweenItems token.Comma = true
separates BetweenRelations token.And = true
separates BetweenParts token.Or = true
separates _ _ = false

-- the tokens between the separators
abbrev pub between : Separator → List Token → List (List Token)
between separator tokens = slice_split (separates separator) tokens

-- a rule for `other` has no condition, and every other one has one
abbrev pub is_fit : Category → List (List Relation) → Bool
is_fit Other [] = true
is_fit Other (part ∷ parts) = false
is_fit keyword [] = false
is_fit keyword (part ∷ parts) = true

-- a rule's text without its samples, which begin with `@`
abbrev pub before_samples : List ℕ → List ℕ
before_samples text = before_first (λ c. c == 64) text

-- a piece behind the last `;` is no rule where it is white space alone
abbrev pub without_blank_end : List (List ℕ) → List (List ℕ)
without_blank_end [] = []
without_blank_end (piece ∷ []) = if list_all is_white piece then [] else piece ∷ []
without_blank_end (piece ∷ next ∷ pieces) = piece ∷ without_blank_end (next ∷ pieces)

-- the texts of the rules: what stands between the `;`
abbrev pub rule_texts : List ℕ → List (List ℕ)
rule_texts text = without_blank_end (slice_split (λ c. c == 59) text)

-- the lists are of one length, and their members belong together in order
abbrev pub Each : {A B : Type 0} → (A → B → Type 0) → List A → List B → Type 0
Each R [] [] = Unit {0}
Each R (x ∷ xs) (y ∷ ys) = R x y × Each R xs ys
Each R [] (y ∷ ys) = ⊥
Each R (x ∷ xs) [] = ⊥

-- keyword = "zero" / "one" / "two" / "few" / "many" / "other"
abbrev pub keyword_text : Category → List ℕ
keyword_text Zero = codes "zero"
keyword_text One = codes "one"
keyword_text Two = codes "two"
keyword_text Few = codes "few"
keyword_text Many = codes "many"
keyword_text Other = codes "other"

-- operand = "n" / "i" / "v" / "w" / "f" / "t" / "c" / "e"
abbrev pub SpellsOperand : List ℕ → Operand → Type 0
SpellsOperand text Number = text ≡ codes "n"
SpellsOperand text Whole = text ≡ codes "i"
SpellsOperand text FractionLen = text ≡ codes "v"
SpellsOperand text TrimmedLen = text ≡ codes "w"
SpellsOperand text Fraction = text ≡ codes "f"
SpellsOperand text Trimmed = text ≡ codes "t"
SpellsOperand text Exponent = (text ≡ codes "c") ⊎ (text ≡ codes "e")

-- value = 1 to 18 digits
abbrev pub SpellsValue : List ℕ → ℕ → Type 0
SpellsValue text n = IsTrue (is_value text) × (n ≡ digits_value 10 text)

-- a token is a keyword, an operand, a value, `and`, `or` or a mark
abbrev pub SpellsToken : List ℕ → Token → Type 0
SpellsToken text (token.Keyword k) = text ≡ keyword_text k
SpellsToken text (token.Operand o) = SpellsOperand text o
SpellsToken text (token.Value n) = SpellsValue text n
SpellsToken text token.And = text ≡ codes "and"
SpellsToken text token.Or = text ≡ codes "or"
SpellsToken text token.Colon = text ≡ codes ":"
SpellsToken text token.Percent = text ≡ codes "%"
SpellsToken text token.Equals = text ≡ codes "="
SpellsToken text token.Differs = text ≡ codes "!="
SpellsToken text token.Comma = text ≡ codes ","
SpellsToken text token.Dots = text ≡ codes ".."

-- keywords, operands, `and` and `or` are words
abbrev pub is_word : Token → Bool
is_word (token.Keyword k) = true
is_word (token.Operand o) = true
is_word token.And = true
is_word token.Or = true
is_word _ = false

-- the text is white space, a token and a rest; between two words the white space isn't empty
pub record Begins (behind_word : Bool) (text : List ℕ) (first : Token) (rest : List ℕ) : Type 0 where
  pub white : List ℕ
  pub piece : List ℕ
  pub parts : text ≡ white ++ (piece ++ rest)
  pub is_space : IsTrue (list_all is_white white)
  pub spelled : SpellsToken piece first
  pub apart : IsTrue (behind_word && is_word first) → white ≢ []

-- the text is these tokens with white space between them, behind a word or not
abbrev pub SpellsSpaced : Bool → List ℕ → List Token → Type 0
SpellsSpaced behind_word text [] = IsTrue (list_all is_white text)
SpellsSpaced behind_word text (first ∷ tokens) = (rest : List ℕ) × Begins behind_word text first rest × SpellsSpaced (is_word first) rest tokens

-- item = value [".." value], the first one not above the second
abbrev pub SpellsItem : List Token → Item → Type 0
SpellsItem tokens (item.Value v) = tokens ≡ token.Value v ∷ []
SpellsItem tokens (item.Range a b) = (tokens ≡ token.Value a ∷ token.Dots ∷ token.Value b ∷ []) × (a ≤ b)

-- list = item *("," item)
abbrev pub SpellsItems : List Token → List Item → Type 0
SpellsItems tokens items = Each SpellsItem (between BetweenItems tokens) items

-- ["%" value], the value not zero
abbrev pub SpellsModulus : List Token → Option ℕ → Type 0
SpellsModulus tokens None = tokens ≡ []
SpellsModulus tokens (Some m) = (tokens ≡ token.Percent ∷ token.Value m ∷ []) × (m ≢ 0)

-- "=" / "!="
abbrev pub sign : Bool → Token
sign false = token.Equals
sign true = token.Differs

-- relation = operand ["%" value] ("=" / "!=") list
pub record SpellsRelation (tokens : List Token) (relation : Relation) : Type 0 where
  pub modulus : List Token
  pub list : List Token
  pub parts : tokens ≡ token.Operand relation.operand ∷ (modulus ++ sign relation.negated ∷ list)
  pub is_modulus : SpellsModulus modulus relation.modulus
  pub is_list : SpellsItems list relation.items

-- and-part = relation *("and" relation)
abbrev pub SpellsPart : List Token → List Relation → Type 0
SpellsPart tokens relations = Each SpellsRelation (between BetweenRelations tokens) relations

-- [condition], condition = and-part *("or" and-part)
abbrev pub SpellsCondition : List Token → List (List Relation) → Type 0
SpellsCondition [] parts = parts ≡ []
SpellsCondition (first ∷ tokens) parts = Each SpellsPart (between BetweenParts (first ∷ tokens)) parts

-- rule = keyword ":" [condition], the condition missing for `other` alone
pub record IsRule (tokens : List Token) (rule : Rule) : Type 0 where
  pub rest : List Token
  pub parts : tokens ≡ token.Keyword rule.keyword ∷ token.Colon ∷ rest
  pub condition : SpellsCondition rest rule.condition
  pub fit : IsTrue (is_fit rule.keyword rule.condition)

-- the text before its samples is the tokens of the rule with white space between them
pub record SpellsRule (text : List ℕ) (rule : Rule) : Type 0 where
  pub tokens : List Token
  pub spelled : SpellsSpaced false (before_samples text) tokens
  pub is_rule : IsRule tokens rule

-- the text spells the rule, and no earlier rule has its keyword
pub record SpellsNewRule (earlier : List Rule) (text : List ℕ) (rule : Rule) : Type 0 where
  pub spelled : SpellsRule text rule
  pub is_new : has_keyword rule.keyword earlier ≡ false

-- behind some earlier rules the texts spell these, each of another keyword
abbrev pub SpellEach : List Rule → List (List ℕ) → List Rule → Type 0
SpellEach earlier [] [] = Unit {0}
SpellEach earlier (text ∷ texts) (rule ∷ rules) = SpellsNewRule earlier text rule × SpellEach (earlier ++ rule ∷ []) texts rules
SpellEach earlier [] (rule ∷ rules) = ⊥
SpellEach earlier (text ∷ texts) [] = ⊥

-- the text is the rules, with `;` between them
abbrev pub SpellsRules : List ℕ → List Rule → Type 0
SpellsRules text rules = SpellEach [] (rule_texts text) rules

-- the rules before the one of this number are good, and it is bad
pub record IsFirstBad (text : List ℕ) (number : ℕ) : Type 0 where
  pub rules : List Rule
  pub before : List (List ℕ)
  pub bad : List ℕ
  pub after : List (List ℕ)
  pub parts : rule_texts text ≡ before ++ bad ∷ after
  pub good : SpellEach [] before rules
  pub is_bad : (rule : Rule) → SpellsNewRule rules bad rule → ⊥
  pub counted : number ≡ length rules + 1
