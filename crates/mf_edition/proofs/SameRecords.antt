-- The equality of locale records is true exactly where they are the same.
use Rattle.std.proofs.Common.{◌≡◌, ℕ, Bool, true, false, ◌&&◌, ◌==◌, Option, None, Some, cond, refl, ap, ap₂, sym, subst, ◌∙◌, true≢false}
use Rattle.std.proofs.Props.{props}
use Rattle.std.proofs.lemmas.Bool.Decides.{Decides-eqb}
use Rattle.std.specs.Bool.{beq, IsTrue}
use Rattle.std.specs.Cmp.{IsEquivalence}
use Rattle.std.specs.Cmp.Lexicographic.{pointwise_decides, bytes_decides}
use Rattle.std.specs.Option.{option_eq}
use mathlib.Core.HLevel.{is_prop→PathP}
use Rattle.mf_text.specs.contracts.direction.DirectionPartialEq.TheImpl as direction
use Rattle.mf_text.specs.contracts.direction.DirectionEq.TheImpl.Laws as direction_eq
use Rattle.mf_text.specs.declared.direction.Direction.{Direction}
use Rattle.mf_text.specs.declared.direction.Direction.TheVariants.{Ltr, Rtl, Unknown}
use Rattle.mf_numfmt.specs.Sizes.{is_size}
use Rattle.mf_numfmt.specs.contracts.layout.LayoutPartialEq.TheImpl as layout
use Rattle.mf_numfmt.specs.contracts.layout.LayoutEq.TheImpl.Laws as layout_eq
use Rattle.mf_numfmt.specs.declared.layout.Layout.{Layout}
use Rattle.mf_plural.specs.contracts.rule.CategoryPartialEq.TheImpl as category
use Rattle.mf_plural.specs.contracts.rule.CategoryEq.TheImpl.Laws as category_eq
use Rattle.mf_plural.specs.contracts.rule.OperandPartialEq.TheImpl as operand
use Rattle.mf_plural.specs.contracts.rule.OperandEq.TheImpl.Laws as operand_eq
use Rattle.mf_plural.specs.contracts.rule.ItemPartialEq.TheImpl as item
use Rattle.mf_plural.specs.contracts.rule.ItemEq.TheImpl.Laws as item_eq
use Rattle.mf_plural.specs.contracts.rule.RelationPartialEq.TheImpl as relation
use Rattle.mf_plural.specs.contracts.rule.RelationEq.TheImpl.Laws as relation_eq
use Rattle.mf_plural.specs.contracts.rule.RulePartialEq.TheImpl as rule
use Rattle.mf_plural.specs.contracts.rule.RuleEq.TheImpl.Laws as rule_eq
use Rattle.mf_plural.specs.declared.rule.Category.{Category}
use Rattle.mf_plural.specs.declared.rule.Category.TheVariants.{Zero, One, Two, Few, Many, Other}
use Rattle.mf_plural.specs.declared.rule.Operand.{Operand}
use Rattle.mf_plural.specs.declared.rule.Operand.TheVariants.{Number, Whole, FractionLen, TrimmedLen, Fraction, Trimmed, Exponent}
use Rattle.mf_plural.specs.declared.rule.Item.{Item}
use Rattle.mf_plural.specs.declared.rule.Item.TheVariants.{Value, Range}
use Rattle.mf_plural.specs.declared.rule.Relation.{Relation}
use Rattle.mf_plural.specs.declared.rule.Rule.{Rule}
use Rattle.mf_locale.specs.contracts.record.LocaleRecordPartialEq.TheImpl as record_of
use Rattle.mf_locale.specs.contracts.record.LocaleRecordEq.TheImpl.Laws as record_eq
use Rattle.mf_locale.specs.declared.record.LocaleRecord.{LocaleRecord}
use Rattle.mf_edition.specs.Equality.{IsExact}

pub both : {x y : Bool} → (x && y) ≡ true → (x ≡ true) × (y ≡ true)
both {x = true} e = (refl, e)
both {x = false} e = absurd (true≢false (sym e))

-- an equality is true of a thing and itself
pub exact : {T : Type 0} {eq : T → T → Bool} → IsEquivalence eq → ((a b : T) → eq a b ≡ true → a ≡ b) → IsExact eq
exact {eq = eq} laws same a b = (same a b, λ e. subst (λ other. eq a other ≡ true) e (laws.refl a))

-- a thing is known by what it is equal to
by_answers : {T : Type 0} {eq : T → T → Bool} → IsEquivalence eq → (of : (T → Bool) → T) → ((a : T) → of (eq a) ≡ a) → IsExact eq
by_answers laws of back = exact laws (λ a b e. sym (back a) ∙ ap of (λ i other. laws.congr a b other e i) ∙ back b)

abbrev direction_of : (Direction → Bool) → Direction
direction_of is = cond (is Ltr) Ltr (cond (is Rtl) Rtl Unknown)

back_direction : (a : Direction) → direction_of (direction.ghosts.eq a) ≡ a
back_direction Ltr = refl
back_direction Rtl = refl
back_direction Unknown = refl

exact_direction : IsExact direction.ghosts.eq
exact_direction = by_answers direction_eq.laws-law direction_of back_direction

abbrev category_of : (Category → Bool) → Category
category_of is = cond (is Zero) Zero (cond (is One) One (cond (is Two) Two (cond (is Few) Few (cond (is Many) Many Other))))

back_category : (a : Category) → category_of (category.ghosts.eq a) ≡ a
back_category Zero = refl
back_category One = refl
back_category Two = refl
back_category Few = refl
back_category Many = refl
back_category Other = refl

exact_category : IsExact category.ghosts.eq
exact_category = by_answers category_eq.laws-law category_of back_category

abbrev operand_of : (Operand → Bool) → Operand
operand_of is =
    cond (is Number) Number (cond (is Whole) Whole (cond (is FractionLen) FractionLen (cond (is TrimmedLen) TrimmedLen
    (cond (is Fraction) Fraction (cond (is Trimmed) Trimmed Exponent)))))

back_operand : (a : Operand) → operand_of (operand.ghosts.eq a) ≡ a
back_operand Number = refl
back_operand Whole = refl
back_operand FractionLen = refl
back_operand TrimmedLen = refl
back_operand Fraction = refl
back_operand Trimmed = refl
back_operand Exponent = refl

exact_operand : IsExact operand.ghosts.eq
exact_operand = by_answers operand_eq.laws-law operand_of back_operand

same_item : (a b : Item) → item.ghosts.eq a b ≡ true → a ≡ b
same_item (Value m) (Value n) e = ap Value ((Decides-eqb m n).0 e)
same_item (Value m) (Range c d) e = absurd (true≢false (sym e))
same_item (Range a b) (Value n) e = absurd (true≢false (sym e))
same_item (Range a b) (Range c d) e = let ends = both e in ap₂ Range ((Decides-eqb a c).0 ends.0) ((Decides-eqb b d).0 ends.1)

exact_item : IsExact item.ghosts.eq
exact_item = exact item_eq.laws-law same_item

same_modulus : (a b : Option ℕ) → option_eq ◌==◌ a b ≡ true → a ≡ b
same_modulus None None e = refl
same_modulus None (Some n) e = absurd (true≢false (sym e))
same_modulus (Some m) None e = absurd (true≢false (sym e))
same_modulus (Some m) (Some n) e = ap Some ((Decides-eqb m n).0 e)

same_flag : (a b : Bool) → beq a b ≡ true → a ≡ b
same_flag true true e = refl
same_flag true false e = absurd (true≢false (sym e))
same_flag false true e = absurd (true≢false (sym e))
same_flag false false e = refl

same_relation : (a b : Relation) → relation.ghosts.eq a b ≡ true → a ≡ b
same_relation a b e =
    let operands = both e in
    let moduli = both operands.1 in
    let flags = both moduli.1 in
    let operand = (exact_operand a.operand b.operand).0 operands.0 in
    let modulus = same_modulus a.modulus b.modulus moduli.0 in
    let negated = same_flag a.negated b.negated flags.0 in
    let items = (pointwise_decides exact_item a.items b.items).0 flags.1 in
    λ i. record { operand = operand i; modulus = modulus i; negated = negated i; items = items i }

exact_relation : IsExact relation.ghosts.eq
exact_relation = exact relation_eq.laws-law same_relation

same_rule : (a b : Rule) → rule.ghosts.eq a b ≡ true → a ≡ b
same_rule a b e =
    let parts = both e in
    let keyword = (exact_category a.keyword b.keyword).0 parts.0 in
    let condition = (pointwise_decides (pointwise_decides exact_relation) a.condition b.condition).0 parts.1 in
    λ i. record { keyword = keyword i; condition = condition i }

exact_rule : IsExact rule.ghosts.eq
exact_rule = exact rule_eq.laws-law same_rule

same_layout : (a b : Layout) → layout.ghosts.eq a b ≡ true → a ≡ b
same_layout a b e =
    let decimals = both e in
    let groups = both decimals.1 in
    let minuses = both groups.1 in
    let pluses = both minuses.1 in
    let primaries = both pluses.1 in
    let sizes = both primaries.1 in
    let decimal = (bytes_decides a.decimal b.decimal).0 decimals.0 in
    let group = (bytes_decides a.group b.group).0 groups.0 in
    let minus = (bytes_decides a.minus b.minus).0 minuses.0 in
    let plus = (bytes_decides a.plus b.plus).0 pluses.0 in
    let primary = (Decides-eqb a.primary b.primary).0 primaries.0 in
    let secondary = (Decides-eqb a.secondary b.secondary).0 sizes.0 in
    let least = (Decides-eqb a.min_group b.min_group).0 sizes.1 in
    λ i. record {
      decimal = decimal i;
      group = group i;
      minus = minus i;
      plus = plus i;
      primary = primary i;
      secondary = secondary i;
      min_group = least i;
      primary_fits = is_prop→PathP (λ j. IsTrue (is_size (primary j))) (λ j. hlevel props) a.primary_fits b.primary_fits i;
      secondary_fits = is_prop→PathP (λ j. IsTrue (is_size (secondary j))) (λ j. hlevel props) a.secondary_fits b.secondary_fits i;
      min_group_fits = is_prop→PathP (λ j. IsTrue (is_size (least j))) (λ j. hlevel props) a.min_group_fits b.min_group_fits i;
    }

exact_layout : IsExact layout.ghosts.eq
exact_layout = exact layout_eq.laws-law same_layout

same_record : (a b : LocaleRecord) → record_of.ghosts.eq a b ≡ true → a ≡ b
same_record a b e =
    let directions = both e in
    let layouts = both directions.1 in
    let rules = both layouts.1 in
    let dir = (exact_direction a.dir b.dir).0 directions.0 in
    let layout = (exact_layout a.layout b.layout).0 layouts.0 in
    let plural = (pointwise_decides exact_rule a.plural b.plural).0 rules.0 in
    let ordinal = (pointwise_decides exact_rule a.ordinal b.ordinal).0 rules.1 in
    λ i. record { dir = dir i; layout = layout i; plural = plural i; ordinal = ordinal i }

pub exact_record : IsExact record_of.ghosts.eq
exact_record = exact record_eq.laws-law same_record
