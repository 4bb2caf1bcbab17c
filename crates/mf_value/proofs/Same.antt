-- Values whose fields are the same are the same: the facts that go with them say nothing more.
use Rattle.std.proofs.Common.{◌≡◌, ℕ, Bool, true, List, ap, subst, ◌∙◌}
use Rattle.std.specs.Prelude.{Option}
use Rattle.std.proofs.Math.Bool.{Bool-set}
use Rattle.mf_numfmt.specs.declared.options.Grouping.{Grouping}
use Rattle.mf_numfmt.specs.declared.options.Sign.{Sign}
use Rattle.mf_text.specs.declared.direction.Direction.{Direction}
use Rattle.mf_value.specs.Ranges.{is_within, is_way_of_number}
use Rattle.mf_value.specs.Values.{selects_so}
use Rattle.mf_value.specs.declared.content.Content.{Content}
use Rattle.mf_value.specs.declared.content.Selects.{Selects}
use Rattle.mf_value.specs.declared.kept.Kept.{Kept}
use Rattle.mf_value.specs.declared.value.Value.{Value}

-- a part with the fact that a test of it holds
abbrev Tested : (A : Type 0) → (A → Bool) → Type 0
Tested A test = (a : A) × (test a ≡ true)

same_tested : {A : Type 0} (test : A → Bool) (a b : A) (p : test a ≡ true) (q : test b ≡ true) → a ≡ b → (let x : Tested A test = (a, p) in x) ≡ (b, q)
same_tested {A} test a b p q e =
    let P : A → Type 0 = λ c. (q : test c ≡ true) → (let x : Tested A test = (a, p) in x) ≡ (c, q) in
    subst P e (λ q. ap (λ (r : test a ≡ true). let x : Tested A test = (a, r) in x) (Bool-set (test a) true p q)) q

kept_of : Tested (Option Selects) is_way_of_number → Option Sign → Option Grouping → Tested (Option ℕ) (is_within 1 21) → Tested (Option ℕ) (is_within 0 20) → Tested (Option ℕ) (is_within 0 20) → Tested (Option ℕ) (is_within 1 21) → Tested (Option ℕ) (is_within 1 21) → Kept
kept_of s sign grouping w f g m n = record {
  select = s.0;
  sign = sign;
  grouping = grouping;
  min_whole = w.0;
  min_fraction = f.0;
  max_fraction = g.0;
  min_significant = m.0;
  max_significant = n.0;
  select_fits = s.1;
  min_whole_fits = w.1;
  min_fraction_fits = f.1;
  max_fraction_fits = g.1;
  min_significant_fits = m.1;
  max_significant_fits = n.1;
}

same_parts : (s s' : Tested (Option Selects) is_way_of_number) (sign sign' : Option Sign) (grouping grouping' : Option Grouping) (w w' : Tested (Option ℕ) (is_within 1 21)) (f f' g g' : Tested (Option ℕ) (is_within 0 20)) (m m' n n' : Tested (Option ℕ) (is_within 1 21)) → s ≡ s' → sign ≡ sign' → grouping ≡ grouping' → w ≡ w' → f ≡ f' → g ≡ g' → m ≡ m' → n ≡ n' → kept_of s sign grouping w f g m n ≡ kept_of s' sign' grouping' w' f' g' m' n'
same_parts s s' sign sign' grouping grouping' w w' f f' g g' m m' n n' a b c d e h i j =
    ap (λ (x : Tested (Option Selects) is_way_of_number). kept_of x sign grouping w f g m n) a
    ∙ ap (λ (x : Option Sign). kept_of s' x grouping w f g m n) b
    ∙ ap (λ (x : Option Grouping). kept_of s' sign' x w f g m n) c
    ∙ ap (λ (x : Tested (Option ℕ) (is_within 1 21)). kept_of s' sign' grouping' x f g m n) d
    ∙ ap (λ (x : Tested (Option ℕ) (is_within 0 20)). kept_of s' sign' grouping' w' x g m n) e
    ∙ ap (λ (x : Tested (Option ℕ) (is_within 0 20)). kept_of s' sign' grouping' w' f' x m n) h
    ∙ ap (λ (x : Tested (Option ℕ) (is_within 1 21)). kept_of s' sign' grouping' w' f' g' x n) i
    ∙ ap (λ (x : Tested (Option ℕ) (is_within 1 21)). kept_of s' sign' grouping' w' f' g' m' x) j

pub same_kept : (x y : Kept) → x.select ≡ y.select → x.sign ≡ y.sign → x.grouping ≡ y.grouping → x.min_whole ≡ y.min_whole → x.min_fraction ≡ y.min_fraction → x.max_fraction ≡ y.max_fraction → x.min_significant ≡ y.min_significant → x.max_significant ≡ y.max_significant → x ≡ y
unfolding kept_of
same_kept x y a b c d e h i j =
    same_parts (x.select, x.select_fits) (y.select, y.select_fits) x.sign y.sign x.grouping y.grouping
    (x.min_whole, x.min_whole_fits) (y.min_whole, y.min_whole_fits) (x.min_fraction, x.min_fraction_fits) (y.min_fraction, y.min_fraction_fits)
    (x.max_fraction, x.max_fraction_fits) (y.max_fraction, y.max_fraction_fits) (x.min_significant, x.min_significant_fits) (y.min_significant, y.min_significant_fits)
    (x.max_significant, x.max_significant_fits) (y.max_significant, y.max_significant_fits)
    (same_tested is_way_of_number x.select y.select x.select_fits y.select_fits a) b c
    (same_tested (is_within 1 21) x.min_whole y.min_whole x.min_whole_fits y.min_whole_fits d)
    (same_tested (is_within 0 20) x.min_fraction y.min_fraction x.min_fraction_fits y.min_fraction_fits e)
    (same_tested (is_within 0 20) x.max_fraction y.max_fraction x.max_fraction_fits y.max_fraction_fits h)
    (same_tested (is_within 1 21) x.min_significant y.min_significant x.min_significant_fits y.min_significant_fits i)
    (same_tested (is_within 1 21) x.max_significant y.max_significant x.max_significant_fits y.max_significant_fits j)

abbrev selects_well : Content × Selects → Bool
selects_well c = selects_so c.0 c.1

value_of : Tested (Content × Selects) selects_well → Direction → Bool → Option (List ℕ) → List ℕ → List ℕ → Value
value_of c dir forced id prefix suffix = record {
  content = c.0.0;
  dir = dir;
  forced = forced;
  id = id;
  prefix = prefix;
  suffix = suffix;
  selects = c.0.1;
  selects_fits = c.1;
}

pub same_value : (x y : Value) → x.content ≡ y.content → x.dir ≡ y.dir → x.forced ≡ y.forced → x.id ≡ y.id → x.prefix ≡ y.prefix → x.suffix ≡ y.suffix → x.selects ≡ y.selects → x ≡ y
unfolding value_of
same_value x y a b c d e f g =
    let both : (let p : Content × Selects = (x.content, x.selects) in p) ≡ (y.content, y.selects) =
    ap (λ (k : Content). let p : Content × Selects = (k, x.selects) in p) a ∙ ap (λ (s : Selects). let p : Content × Selects = (y.content, s) in p) g in
    let tested = same_tested selects_well (x.content, x.selects) (y.content, y.selects) x.selects_fits y.selects_fits both in
    ap (λ (k : Tested (Content × Selects) selects_well). value_of k x.dir x.forced x.id x.prefix x.suffix) tested
    ∙ ap (λ (k : Direction). value_of ((y.content, y.selects), y.selects_fits) k x.forced x.id x.prefix x.suffix) b
    ∙ ap (λ (k : Bool). value_of ((y.content, y.selects), y.selects_fits) y.dir k x.id x.prefix x.suffix) c
    ∙ ap (λ (k : Option (List ℕ)). value_of ((y.content, y.selects), y.selects_fits) y.dir y.forced k x.prefix x.suffix) d
    ∙ ap (λ (k : List ℕ). value_of ((y.content, y.selects), y.selects_fits) y.dir y.forced y.id k x.suffix) e
    ∙ ap (λ (k : List ℕ). value_of ((y.content, y.selects), y.selects_fits) y.dir y.forced y.id y.prefix k) f
