-- What was read of a list of options is what the definitions look for in it, one after the other.
use Rattle.std.proofs.Common.{◌≡◌, ℕ, Bool, true, false, not, List, [], ◌∷◌, refl, sym, ap, subst, ◌∙◌}
use Rattle.std.specs.Prelude.{◌||◌, ◌&&◌, Option, Some, None, encode_utf8_all}
use Rattle.std.specs.Option.{is_some, option_or}
use Rattle.mf_text.specs.declared.pair.Pair.{Pair}
use Rattle.mf_value.specs.declared.given.Given.{Given}
use Rattle.mf_value.specs.declared.number_option.NumberFunction.{NumberFunction}
use Rattle.mf_value.specs.declared.number_option.NumberOption.{NumberOption}
use Rattle.mf_value.specs.declared.number_option.NumberOption.TheVariants.{Select, SignDisplay, UseGrouping, MinimumIntegerDigits, MinimumFractionDigits, MaximumFractionDigits, MinimumSignificantDigits, MaximumSignificantDigits}
use Rattle.mf_meaning.specs.Options.{Setting, inherited_from, option_of, value_at, written_value, preset_value, first_of, allows_text, is_allowed, is_preset_allowed, is_select, is_select_by_variable, selects_by_variable, select, sign_display, use_grouping, minimum_integer_digits, minimum_fraction_digits, maximum_fraction_digits, minimum_significant_digits, maximum_significant_digits}
use Rattle.mf_value.proofs.Same.{same_kept}
use Rattle.mf_value.specs.NumberOptions.{is_of}
use Rattle.mf_value.specs.Ranges.{is_within, is_way_of_number}
use Rattle.mf_value.specs.declared.kept.Kept.{Kept}
use Rattle.mf_meaning.specs.Fitting.{or_fits, if_fits, written_fits, presets_fit, count_within, way_fits}
use Rattle.mf_meaning.specs.Kept.{kept_after}
use Rattle.mf_functions.specs.declared.written.Written.{Written}
use Rattle.mf_functions.specs.Written.{nothing_written, with_option, with_given, written_from, preset_option, with_preset, preset_from, takes_option, takes_given, takes_preset, AreInRange, IsKept}

or_none : {V : Type 0} (o : Option V) → o ≡ option_or o None
or_none None = refl
or_none (Some x) = refl

or_assoc : {V : Type 0} (o p q : Option V) → option_or (option_or o p) q ≡ option_or o (option_or p q)
or_assoc None p q = refl
or_assoc (Some x) p q = refl

or_false : (b : Bool) → b ≡ (b || false)
or_false true = refl
or_false false = refl

either_assoc : (a b c : Bool) → ((a || b) || c) ≡ (a || (b || c))
either_assoc true b c = refl
either_assoc false b c = refl

-- a field that takes up the first value that it is given
first_kept : {V : Type 0} (function : NumberFunction) (field : Written → Option V) (value : Given → Option V) → ((w : Written) (g : Given) → field (with_given function w g) ≡ option_or (field w) (value g)) → (w : Written) (gs : List Given) → field (written_from function w gs) ≡ option_or (field w) (first_of value gs)
first_kept function field value step w [] = or_none (field w)
first_kept {V} function field value step w (g ∷ gs) =
    first_kept function field value step (with_given function w g) gs
    ∙ ap (λ (o : Option V). option_or o (first_of value gs)) (step w g)
    ∙ or_assoc (field w) (value g) (first_of value gs)

-- and with presets behind the options
preset_kept : {V : Type 0} (function : NumberFunction) (field : Written → Option V) (value : Pair → Option V) → ((w : Written) (p : Pair) → field (with_preset function w p) ≡ option_or (field w) (value p)) → (w : Written) (ps : List Pair) → field (preset_from function w ps) ≡ option_or (field w) (first_of value ps)
preset_kept function field value step w [] = or_none (field w)
preset_kept {V} function field value step w (p ∷ ps) =
    preset_kept function field value step (with_preset function w p) ps
    ∙ ap (λ (o : Option V). option_or o (first_of value ps)) (step w p)
    ∙ or_assoc (field w) (value p) (first_of value ps)

-- the option or preset that counts for a setting
abbrev pub read : {V : Type 0} → NumberFunction → Setting V → List Given → List Pair → Option V
read function setting gs ps = option_or (first_of (written_value function setting) gs) (first_of (preset_value function setting) ps)

select_step : (w : Written) (n : Option NumberOption) (literal : Bool) (text : List ℕ) → (with_option w n literal text).select ≡ option_or w.select (value_at select n literal text)
select_step w None l t = or_none w.select
select_step w (Some Select) l t = refl
select_step w (Some SignDisplay) l t = or_none w.select
select_step w (Some UseGrouping) l t = or_none w.select
select_step w (Some MinimumIntegerDigits) l t = or_none w.select
select_step w (Some MinimumFractionDigits) l t = or_none w.select
select_step w (Some MaximumFractionDigits) l t = or_none w.select
select_step w (Some MinimumSignificantDigits) l t = or_none w.select
select_step w (Some MaximumSignificantDigits) l t = or_none w.select

select_written : (function : NumberFunction) (gs : List Given) → (written_from function nothing_written gs).select ≡ first_of (written_value function select) gs
select_written function gs = first_kept function (λ w. w.select) (written_value function select) (λ w g. select_step w (option_of function g.name) g.literal (encode_utf8_all g.value)) nothing_written gs

pub select_read : (function : NumberFunction) (gs : List Given) (ps : List Pair) → (preset_from function (written_from function nothing_written gs) ps).select ≡ read function select gs ps
select_read function gs ps =
    preset_kept function (λ w. w.select) (preset_value function select) (λ w p. select_step w (preset_option function p) true (encode_utf8_all p.value)) (written_from function nothing_written gs) ps
    ∙ ap (λ (o : Option _). option_or o (first_of (preset_value function select) ps)) (select_written function gs)

sign_step : (w : Written) (n : Option NumberOption) (literal : Bool) (text : List ℕ) → (with_option w n literal text).sign ≡ option_or w.sign (value_at sign_display n literal text)
sign_step w None l t = or_none w.sign
sign_step w (Some Select) l t = or_none w.sign
sign_step w (Some SignDisplay) l t = refl
sign_step w (Some UseGrouping) l t = or_none w.sign
sign_step w (Some MinimumIntegerDigits) l t = or_none w.sign
sign_step w (Some MinimumFractionDigits) l t = or_none w.sign
sign_step w (Some MaximumFractionDigits) l t = or_none w.sign
sign_step w (Some MinimumSignificantDigits) l t = or_none w.sign
sign_step w (Some MaximumSignificantDigits) l t = or_none w.sign

sign_written : (function : NumberFunction) (gs : List Given) → (written_from function nothing_written gs).sign ≡ first_of (written_value function sign_display) gs
sign_written function gs = first_kept function (λ w. w.sign) (written_value function sign_display) (λ w g. sign_step w (option_of function g.name) g.literal (encode_utf8_all g.value)) nothing_written gs

pub sign_read : (function : NumberFunction) (gs : List Given) (ps : List Pair) → (preset_from function (written_from function nothing_written gs) ps).sign ≡ read function sign_display gs ps
sign_read function gs ps =
    preset_kept function (λ w. w.sign) (preset_value function sign_display) (λ w p. sign_step w (preset_option function p) true (encode_utf8_all p.value)) (written_from function nothing_written gs) ps
    ∙ ap (λ (o : Option _). option_or o (first_of (preset_value function sign_display) ps)) (sign_written function gs)

grouping_step : (w : Written) (n : Option NumberOption) (literal : Bool) (text : List ℕ) → (with_option w n literal text).grouping ≡ option_or w.grouping (value_at use_grouping n literal text)
grouping_step w None l t = or_none w.grouping
grouping_step w (Some Select) l t = or_none w.grouping
grouping_step w (Some SignDisplay) l t = or_none w.grouping
grouping_step w (Some UseGrouping) l t = refl
grouping_step w (Some MinimumIntegerDigits) l t = or_none w.grouping
grouping_step w (Some MinimumFractionDigits) l t = or_none w.grouping
grouping_step w (Some MaximumFractionDigits) l t = or_none w.grouping
grouping_step w (Some MinimumSignificantDigits) l t = or_none w.grouping
grouping_step w (Some MaximumSignificantDigits) l t = or_none w.grouping

grouping_written : (function : NumberFunction) (gs : List Given) → (written_from function nothing_written gs).grouping ≡ first_of (written_value function use_grouping) gs
grouping_written function gs = first_kept function (λ w. w.grouping) (written_value function use_grouping) (λ w g. grouping_step w (option_of function g.name) g.literal (encode_utf8_all g.value)) nothing_written gs

pub grouping_read : (function : NumberFunction) (gs : List Given) (ps : List Pair) → (preset_from function (written_from function nothing_written gs) ps).grouping ≡ read function use_grouping gs ps
grouping_read function gs ps =
    preset_kept function (λ w. w.grouping) (preset_value function use_grouping) (λ w p. grouping_step w (preset_option function p) true (encode_utf8_all p.value)) (written_from function nothing_written gs) ps
    ∙ ap (λ (o : Option _). option_or o (first_of (preset_value function use_grouping) ps)) (grouping_written function gs)

min_whole_step : (w : Written) (n : Option NumberOption) (literal : Bool) (text : List ℕ) → (with_option w n literal text).min_whole ≡ option_or w.min_whole (value_at minimum_integer_digits n literal text)
min_whole_step w None l t = or_none w.min_whole
min_whole_step w (Some Select) l t = or_none w.min_whole
min_whole_step w (Some SignDisplay) l t = or_none w.min_whole
min_whole_step w (Some UseGrouping) l t = or_none w.min_whole
min_whole_step w (Some MinimumIntegerDigits) l t = refl
min_whole_step w (Some MinimumFractionDigits) l t = or_none w.min_whole
min_whole_step w (Some MaximumFractionDigits) l t = or_none w.min_whole
min_whole_step w (Some MinimumSignificantDigits) l t = or_none w.min_whole
min_whole_step w (Some MaximumSignificantDigits) l t = or_none w.min_whole

min_whole_written : (function : NumberFunction) (gs : List Given) → (written_from function nothing_written gs).min_whole ≡ first_of (written_value function minimum_integer_digits) gs
min_whole_written function gs = first_kept function (λ w. w.min_whole) (written_value function minimum_integer_digits) (λ w g. min_whole_step w (option_of function g.name) g.literal (encode_utf8_all g.value)) nothing_written gs

pub min_whole_read : (function : NumberFunction) (gs : List Given) (ps : List Pair) → (preset_from function (written_from function nothing_written gs) ps).min_whole ≡ read function minimum_integer_digits gs ps
min_whole_read function gs ps =
    preset_kept function (λ w. w.min_whole) (preset_value function minimum_integer_digits) (λ w p. min_whole_step w (preset_option function p) true (encode_utf8_all p.value)) (written_from function nothing_written gs) ps
    ∙ ap (λ (o : Option _). option_or o (first_of (preset_value function minimum_integer_digits) ps)) (min_whole_written function gs)

min_fraction_step : (w : Written) (n : Option NumberOption) (literal : Bool) (text : List ℕ) → (with_option w n literal text).min_fraction ≡ option_or w.min_fraction (value_at minimum_fraction_digits n literal text)
min_fraction_step w None l t = or_none w.min_fraction
min_fraction_step w (Some Select) l t = or_none w.min_fraction
min_fraction_step w (Some SignDisplay) l t = or_none w.min_fraction
min_fraction_step w (Some UseGrouping) l t = or_none w.min_fraction
min_fraction_step w (Some MinimumIntegerDigits) l t = or_none w.min_fraction
min_fraction_step w (Some MinimumFractionDigits) l t = refl
min_fraction_step w (Some MaximumFractionDigits) l t = or_none w.min_fraction
min_fraction_step w (Some MinimumSignificantDigits) l t = or_none w.min_fraction
min_fraction_step w (Some MaximumSignificantDigits) l t = or_none w.min_fraction

min_fraction_written : (function : NumberFunction) (gs : List Given) → (written_from function nothing_written gs).min_fraction ≡ first_of (written_value function minimum_fraction_digits) gs
min_fraction_written function gs = first_kept function (λ w. w.min_fraction) (written_value function minimum_fraction_digits) (λ w g. min_fraction_step w (option_of function g.name) g.literal (encode_utf8_all g.value)) nothing_written gs

pub min_fraction_read : (function : NumberFunction) (gs : List Given) (ps : List Pair) → (preset_from function (written_from function nothing_written gs) ps).min_fraction ≡ read function minimum_fraction_digits gs ps
min_fraction_read function gs ps =
    preset_kept function (λ w. w.min_fraction) (preset_value function minimum_fraction_digits) (λ w p. min_fraction_step w (preset_option function p) true (encode_utf8_all p.value)) (written_from function nothing_written gs) ps
    ∙ ap (λ (o : Option _). option_or o (first_of (preset_value function minimum_fraction_digits) ps)) (min_fraction_written function gs)

max_fraction_step : (w : Written) (n : Option NumberOption) (literal : Bool) (text : List ℕ) → (with_option w n literal text).max_fraction ≡ option_or w.max_fraction (value_at maximum_fraction_digits n literal text)
max_fraction_step w None l t = or_none w.max_fraction
max_fraction_step w (Some Select) l t = or_none w.max_fraction
max_fraction_step w (Some SignDisplay) l t = or_none w.max_fraction
max_fraction_step w (Some UseGrouping) l t = or_none w.max_fraction
max_fraction_step w (Some MinimumIntegerDigits) l t = or_none w.max_fraction
max_fraction_step w (Some MinimumFractionDigits) l t = or_none w.max_fraction
max_fraction_step w (Some MaximumFractionDigits) l t = refl
max_fraction_step w (Some MinimumSignificantDigits) l t = or_none w.max_fraction
max_fraction_step w (Some MaximumSignificantDigits) l t = or_none w.max_fraction

max_fraction_written : (function : NumberFunction) (gs : List Given) → (written_from function nothing_written gs).max_fraction ≡ first_of (written_value function maximum_fraction_digits) gs
max_fraction_written function gs = first_kept function (λ w. w.max_fraction) (written_value function maximum_fraction_digits) (λ w g. max_fraction_step w (option_of function g.name) g.literal (encode_utf8_all g.value)) nothing_written gs

pub max_fraction_read : (function : NumberFunction) (gs : List Given) (ps : List Pair) → (preset_from function (written_from function nothing_written gs) ps).max_fraction ≡ read function maximum_fraction_digits gs ps
max_fraction_read function gs ps =
    preset_kept function (λ w. w.max_fraction) (preset_value function maximum_fraction_digits) (λ w p. max_fraction_step w (preset_option function p) true (encode_utf8_all p.value)) (written_from function nothing_written gs) ps
    ∙ ap (λ (o : Option _). option_or o (first_of (preset_value function maximum_fraction_digits) ps)) (max_fraction_written function gs)

min_significant_step : (w : Written) (n : Option NumberOption) (literal : Bool) (text : List ℕ) → (with_option w n literal text).min_significant ≡ option_or w.min_significant (value_at minimum_significant_digits n literal text)
min_significant_step w None l t = or_none w.min_significant
min_significant_step w (Some Select) l t = or_none w.min_significant
min_significant_step w (Some SignDisplay) l t = or_none w.min_significant
min_significant_step w (Some UseGrouping) l t = or_none w.min_significant
min_significant_step w (Some MinimumIntegerDigits) l t = or_none w.min_significant
min_significant_step w (Some MinimumFractionDigits) l t = or_none w.min_significant
min_significant_step w (Some MaximumFractionDigits) l t = or_none w.min_significant
min_significant_step w (Some MinimumSignificantDigits) l t = refl
min_significant_step w (Some MaximumSignificantDigits) l t = or_none w.min_significant

min_significant_written : (function : NumberFunction) (gs : List Given) → (written_from function nothing_written gs).min_significant ≡ first_of (written_value function minimum_significant_digits) gs
min_significant_written function gs = first_kept function (λ w. w.min_significant) (written_value function minimum_significant_digits) (λ w g. min_significant_step w (option_of function g.name) g.literal (encode_utf8_all g.value)) nothing_written gs

pub min_significant_read : (function : NumberFunction) (gs : List Given) (ps : List Pair) → (preset_from function (written_from function nothing_written gs) ps).min_significant ≡ read function minimum_significant_digits gs ps
min_significant_read function gs ps =
    preset_kept function (λ w. w.min_significant) (preset_value function minimum_significant_digits) (λ w p. min_significant_step w (preset_option function p) true (encode_utf8_all p.value)) (written_from function nothing_written gs) ps
    ∙ ap (λ (o : Option _). option_or o (first_of (preset_value function minimum_significant_digits) ps)) (min_significant_written function gs)

max_significant_step : (w : Written) (n : Option NumberOption) (literal : Bool) (text : List ℕ) → (with_option w n literal text).max_significant ≡ option_or w.max_significant (value_at maximum_significant_digits n literal text)
max_significant_step w None l t = or_none w.max_significant
max_significant_step w (Some Select) l t = or_none w.max_significant
max_significant_step w (Some SignDisplay) l t = or_none w.max_significant
max_significant_step w (Some UseGrouping) l t = or_none w.max_significant
max_significant_step w (Some MinimumIntegerDigits) l t = or_none w.max_significant
max_significant_step w (Some MinimumFractionDigits) l t = or_none w.max_significant
max_significant_step w (Some MaximumFractionDigits) l t = or_none w.max_significant
max_significant_step w (Some MinimumSignificantDigits) l t = or_none w.max_significant
max_significant_step w (Some MaximumSignificantDigits) l t = refl

max_significant_written : (function : NumberFunction) (gs : List Given) → (written_from function nothing_written gs).max_significant ≡ first_of (written_value function maximum_significant_digits) gs
max_significant_written function gs = first_kept function (λ w. w.max_significant) (written_value function maximum_significant_digits) (λ w g. max_significant_step w (option_of function g.name) g.literal (encode_utf8_all g.value)) nothing_written gs

pub max_significant_read : (function : NumberFunction) (gs : List Given) (ps : List Pair) → (preset_from function (written_from function nothing_written gs) ps).max_significant ≡ read function maximum_significant_digits gs ps
max_significant_read function gs ps =
    preset_kept function (λ w. w.max_significant) (preset_value function maximum_significant_digits) (λ w p. max_significant_step w (preset_option function p) true (encode_utf8_all p.value)) (written_from function nothing_written gs) ps
    ∙ ap (λ (o : Option _). option_or o (first_of (preset_value function maximum_significant_digits) ps)) (max_significant_written function gs)

-- whether a variable gives `select`
variable_step : (w : Written) (n : Option NumberOption) (literal : Bool) (text : List ℕ) → (with_option w n literal text).by_variable ≡ (w.by_variable || (is_select n && not literal))
variable_step w None l t = or_false w.by_variable
variable_step w (Some Select) l t = refl
variable_step w (Some SignDisplay) l t = or_false w.by_variable
variable_step w (Some UseGrouping) l t = or_false w.by_variable
variable_step w (Some MinimumIntegerDigits) l t = or_false w.by_variable
variable_step w (Some MinimumFractionDigits) l t = or_false w.by_variable
variable_step w (Some MaximumFractionDigits) l t = or_false w.by_variable
variable_step w (Some MinimumSignificantDigits) l t = or_false w.by_variable
variable_step w (Some MaximumSignificantDigits) l t = or_false w.by_variable

variable_kept : (function : NumberFunction) (w : Written) (gs : List Given) → (written_from function w gs).by_variable ≡ (w.by_variable || selects_by_variable function gs)
variable_kept function w [] = or_false w.by_variable
variable_kept function w (g ∷ gs) =
    variable_kept function (with_given function w g) gs
    ∙ ap (λ (b : Bool). b || selects_by_variable function gs) (variable_step w (option_of function g.name) g.literal (encode_utf8_all g.value))
    ∙ either_assoc w.by_variable (is_select_by_variable function g) (selects_by_variable function gs)

by_variable_written : (function : NumberFunction) (gs : List Given) → (written_from function nothing_written gs).by_variable ≡ selects_by_variable function gs
by_variable_written function gs = variable_kept function nothing_written gs

-- no preset is given by a variable
variable_preset : (function : NumberFunction) (w : Written) (ps : List Pair) → (preset_from function w ps).by_variable ≡ w.by_variable
variable_preset function w [] = refl
variable_preset function w (p ∷ ps) =
    variable_preset function (with_preset function w p) ps
    ∙ variable_step w (preset_option function p) true (encode_utf8_all p.value)
    ∙ ap (λ (b : Bool). w.by_variable || b) (never (is_select (preset_option function p)))
    ∙ sym (or_false w.by_variable)
  where
    never : (b : Bool) → (b && not true) ≡ false
    never true = refl
    never false = refl

pub by_variable_read : (function : NumberFunction) (gs : List Given) (ps : List Pair) → (preset_from function (written_from function nothing_written gs) ps).by_variable ≡ selects_by_variable function gs
by_variable_read function gs ps = variable_preset function (written_from function nothing_written gs) ps ∙ by_variable_written function gs

-- an option is taken exactly where some setting allows it
allowed_step : (n : Option NumberOption) (literal : Bool) (text : List ℕ) → takes_option n literal text ≡ allows_text n literal text
allowed_step None l t = refl
allowed_step (Some Select) l t = or_false (is_some (value_at select (Some Select) l t))
allowed_step (Some SignDisplay) l t = or_false (is_some (value_at sign_display (Some SignDisplay) l t))
allowed_step (Some UseGrouping) l t = or_false (is_some (value_at use_grouping (Some UseGrouping) l t))
allowed_step (Some MinimumIntegerDigits) l t = or_false (is_some (value_at minimum_integer_digits (Some MinimumIntegerDigits) l t))
allowed_step (Some MinimumFractionDigits) l t = or_false (is_some (value_at minimum_fraction_digits (Some MinimumFractionDigits) l t))
allowed_step (Some MaximumFractionDigits) l t = or_false (is_some (value_at maximum_fraction_digits (Some MaximumFractionDigits) l t))
allowed_step (Some MinimumSignificantDigits) l t = or_false (is_some (value_at minimum_significant_digits (Some MinimumSignificantDigits) l t))
allowed_step (Some MaximumSignificantDigits) l t = refl

pub takes_allowed_preset : (function : NumberFunction) (p : Pair) → takes_preset function p ≡ is_preset_allowed function p
takes_allowed_preset function p = allowed_step (preset_option function p) true (encode_utf8_all p.value)

pub takes_allowed : (function : NumberFunction) (g : Given) → takes_given function g ≡ is_allowed function g
takes_allowed function g = allowed_step (option_of function g.name) g.literal (encode_utf8_all g.value)

-- what is read is in its range
range_of : {V : Type 0} (function : NumberFunction) (setting : Setting V) (fits : Option V → Bool) (gs : List Given) (ps : List Pair) (o : Option V) → fits None ≡ true → ((bytes : List ℕ) → fits (setting.value_of bytes) ≡ true) → o ≡ read function setting gs ps → fits o ≡ true
range_of {V} function setting fits gs ps o none each is =
    let P : Option V → Type 0 = λ x. fits x ≡ true in
    subst P (sym is) (or_fits fits (first_of (written_value function setting) gs) (first_of (preset_value function setting) ps) (written_fits function setting fits gs none each) (presets_fit function setting fits ps none each))

pub are_in_range : (function : NumberFunction) (gs : List Given) (ps : List Pair) → AreInRange (preset_from function (written_from function nothing_written gs) ps)
are_in_range function gs ps = record {
  select = range_of function select is_way_of_number gs ps _ refl way_fits (select_read function gs ps);
  min_whole = range_of function minimum_integer_digits (is_within 1 21) gs ps _ refl (count_within 1 21) (min_whole_read function gs ps);
  min_fraction = range_of function minimum_fraction_digits (is_within 0 20) gs ps _ refl (count_within 0 20) (min_fraction_read function gs ps);
  max_fraction = range_of function maximum_fraction_digits (is_within 0 20) gs ps _ refl (count_within 0 20) (max_fraction_read function gs ps);
  min_significant = range_of function minimum_significant_digits (is_within 1 21) gs ps _ refl (count_within 1 21) (min_significant_read function gs ps);
  max_significant = range_of function maximum_significant_digits (is_within 1 21) gs ps _ refl (count_within 1 21) (max_significant_read function gs ps);
}

-- what is kept after a call
effective_by : {V : Type 0} (function : NumberFunction) (setting : Setting V) (gs : List Given) (ps : List Pair) (k kept o : Option V) → kept ≡ option_or o k → o ≡ read function setting gs ps → kept ≡ option_or (first_of (written_value function setting) gs) (option_or (first_of (preset_value function setting) ps) k)
effective_by function setting gs ps k kept o is of =
    is ∙ ap (λ (o : Option _). option_or o k) of ∙ or_assoc (first_of (written_value function setting) gs) (first_of (preset_value function setting) ps) k

pub kept_is : (function : NumberFunction) (gs : List Given) (ps : List Pair) (k kept : Kept) → IsKept function (preset_from function (written_from function nothing_written gs) ps) k kept → kept ≡ kept_after function gs ps k
kept_is function gs ps k kept h =
    same_kept kept (kept_after function gs ps k)
    (effective_by function select gs ps k.select _ _ h.select (select_read function gs ps))
    (effective_by function sign_display gs ps k.sign _ _ h.sign (sign_read function gs ps))
    (effective_by function use_grouping gs ps k.grouping _ _ h.grouping (grouping_read function gs ps))
    (effective_by function minimum_integer_digits gs ps k.min_whole _ _ h.min_whole (min_whole_read function gs ps))
    (effective_by function minimum_fraction_digits gs ps (inherited_from function MinimumFractionDigits k.min_fraction) _ _ h.min_fraction (min_fraction_read function gs ps))
    (effective_by function maximum_fraction_digits gs ps (inherited_from function MaximumFractionDigits k.max_fraction) _ _ h.max_fraction (max_fraction_read function gs ps))
    (effective_by function minimum_significant_digits gs ps (inherited_from function MinimumSignificantDigits k.min_significant) _ _ h.min_significant (min_significant_read function gs ps))
    (effective_by function maximum_significant_digits gs ps k.max_significant _ _ h.max_significant (max_significant_read function gs ps))

pub fits_or : {V : Type 0} (fits : Option V → Bool) (a b r : Option V) → r ≡ option_or a b → fits a ≡ true → fits b ≡ true → fits r ≡ true
fits_or {V} fits a b r is one other = let P : Option V → Type 0 = λ x. fits x ≡ true in subst P (sym is) (or_fits fits a b one other)

pub fits_inherited : (fits : Option ℕ → Bool) (function : NumberFunction) (option : NumberOption) (kept r : Option ℕ) → r ≡ inherited_from function option kept → fits None ≡ true → fits kept ≡ true → fits r ≡ true
fits_inherited fits function option kept r is none one = let P : Option ℕ → Type 0 = λ x. fits x ≡ true in subst P (sym is) (if_fits fits (is_of function option) kept none one)
