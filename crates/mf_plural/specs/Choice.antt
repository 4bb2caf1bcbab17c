-- The category of a shown number (Unicode TS 35, Part 3, "Operands" and "Relations").
use Rattle.std.specs.Prelude.{ℕ, ◌+◌, ◌*◌, ◌/◌, ◌%◌, ◌^◌, Bool, false, ◌==◌, ◌&&◌, not, nat_le, List, [], ◌∷◌, Option, Some, None, if◌then◌else◌}
use Rattle.std.specs.List.{list_all, list_any}
use Rattle.mf_decimal.specs.Amount.{Amount, shifted}
use Rattle.mf_decimal.specs.declared.shown.Shown.{Shown}
use Rattle.mf_plural.specs.Operands.{Operands, operands_of}
use Rattle.mf_plural.specs.declared.rule.Category.{Category}
use Rattle.mf_plural.specs.declared.rule.Category.TheVariants.{Other}
use Rattle.mf_plural.specs.declared.rule.Item.{Item}
use Rattle.mf_plural.specs.declared.rule.Item.TheVariants.{Value, Range}
use Rattle.mf_plural.specs.declared.rule.Operand.{Operand}
use Rattle.mf_plural.specs.declared.rule.Operand.TheVariants.{Number, Whole, FractionLen, TrimmedLen, Fraction, Trimmed, Exponent}
use Rattle.mf_plural.specs.declared.rule.Relation.{Relation}
use Rattle.mf_plural.specs.declared.rule.Rule.{Rule}

-- the value of an operand: n is the whole and the fraction without the sign, and c and e are 0
abbrev pub value_of : Operands → Operand → Amount
value_of o Number = shifted (o.whole * 10 ^ o.fraction_len + o.fraction) o.fraction_len
value_of o Whole = shifted o.whole 0
value_of o FractionLen = shifted o.fraction_len 0
value_of o TrimmedLen = shifted o.trimmed_len 0
value_of o Fraction = shifted o.fraction 0
value_of o Trimmed = shifted o.trimmed 0
value_of o Exponent = shifted 0 0

-- the remainder of a value by a modulus, where there is one
abbrev pub remainder : Option ℕ → Amount → Amount
remainder None x = x
remainder (Some m) x = record { over = x.over % (m * x.under); under = x.under }

-- the same of a whole number
abbrev pub whole_remainder : Option ℕ → ℕ → ℕ
whole_remainder None number = number
whole_remainder (Some m) number = number % m

-- the whole number that a value is, if it has no fraction
abbrev pub whole_of : Amount → Option ℕ
whole_of x = if x.over % x.under == 0 then Some (x.over / x.under) else None

-- the number is the value, or it lies in the range, of which both ends are part
abbrev pub is_at : ℕ → Item → Bool
is_at number (Value value) = number == value
is_at number (Range first last) = nat_le first number && nat_le number last

-- the number is at one of the items; a value with a fraction is at none
abbrev pub is_among : List Item → Option ℕ → Bool
is_among items None = false
is_among items (Some number) = list_any (is_at number) items

-- `!=` holds exactly where `=` doesn't
abbrev pub relation_holds : Operands → Relation → Bool
relation_holds o r =
    if r.negated then not (is_among r.items (whole_of (remainder r.modulus (value_of o r.operand))))
    else is_among r.items (whole_of (remainder r.modulus (value_of o r.operand)))

-- all relations of an and-part hold
abbrev pub part_holds : Operands → List Relation → Bool
part_holds o relations = list_all (relation_holds o) relations

-- one of the and-parts holds
abbrev pub condition_holds : Operands → List (List Relation) → Bool
condition_holds o parts = list_any (part_holds o) parts

-- the keyword of the first rule whose condition holds, else `other`
abbrev pub first_category : List Rule → Operands → Category
first_category [] o = Other
first_category (rule ∷ rules) o = if condition_holds o rule.condition then rule.keyword else first_category rules o

-- the category of a shown number
abbrev pub category_by : List Rule → Shown → Category
category_by rules shown = first_category rules (operands_of shown)
