-- Names are passed by their rule.
use Rattle.std.proofs.Common.{◌≡◌, ℕ, ◌≤◌, true, false, Option, Some, None, List, [], ◌∷◌, ◌++◌, refl, ap, sym, ◌∙◌, subst, length, ◌⊎◌, inl, inr, arith}
use Rattle.std.proofs.lemmas.Bool.{cases_Bool, and_parts, and_from, cond-true, cond-false, false≢true}
use Rattle.std.proofs.lemmas.List.{append-nil}
use Rattle.std.specs.List.{list_all}
use Rattle.std.specs.Option.{option_map}
use Rattle.mf_text.specs.Characters.{is_bidi, is_name_start, is_name_char}
use Rattle.mf_text.specs.Languages.{One, Optional, Begins, BeginsNone, BeginsLongest, ◌⋅◌}
use Rattle.mf_text.specs.Grammar.{is_bare_name, SpellsBareName, SpellsName}
use Rattle.mf_text.proofs.Classes.{mark_is_no_name_char, name_start_is_name_char, name_start_is_no_mark}
use Rattle.mf_lex.specs.Computed.{is_next, run, behind_run, after_mark, bare_name_at, name_at}
use Rattle.mf_lex.proofs.Begins.{begins_whole, parted, joined, run_passes, behind_passes, all_are_of, of_are_all, run_is_of, same_left}
use Rattle.mf_lex.proofs.Gathering.{nothing_found, pair_first, pair_second, run_shortens}
use Rattle.mf_lex.proofs.Runs.{run_more, run_ends, behind_ends, run_splits}

-- a mark that is next, and one that isn't
pub mark_passes : (c : ℕ) (cs : List ℕ) → is_bidi c ≡ true → after_mark (c ∷ cs) ≡ cs
mark_passes c cs is = cond-true (is_bidi c) _ _ is

pub mark_stays : (cs : List ℕ) → is_next is_bidi cs ≡ false → after_mark cs ≡ cs
mark_stays [] ends = refl
mark_stays (c ∷ cs) ends = cond-false (is_bidi c) _ _ ends

mark_shortens : (cs : List ℕ) → length (after_mark cs) ≤ length cs
mark_shortens [] = omega arith
mark_shortens (c ∷ cs) =
    elim (cases_Bool (is_bidi c)) [
      | inl is ↦ omega (arith, ap length (mark_passes c cs is))
      | inr other ↦ omega (arith, ap length (mark_stays (c ∷ cs) other))
    ]

mark_begins : (cs : List ℕ) → Begins (Optional (One is_bidi)) cs (after_mark cs)
mark_begins [] = record { taken = []; whole = refl; is = inl refl }
mark_begins (c ∷ cs) =
    elim (cases_Bool (is_bidi c)) [
      | inl is ↦ record { taken = c ∷ []; whole = ap (λ ds. c ∷ ds) (sym (mark_passes c cs is)); is = inr (c, refl, is) }
      | inr other ↦ record { taken = []; whole = sym (mark_stays (c ∷ cs) other); is = inl refl }
    ]

-- a name without marks
bare_passes : (spelled cs : List ℕ) → is_bare_name spelled ≡ true →
    bare_name_at (spelled ++ cs) ≡ Some (spelled ++ run is_name_char cs, behind_run is_name_char cs)
bare_passes [] cs is = absurd (false≢true is)
bare_passes (c ∷ spelled) cs is =
    let parts = and_parts (is_name_start c) (list_all is_name_char spelled) is in
    let each = all_are_of is_name_char (c ∷ spelled) (and_from (is_name_char c) (list_all is_name_char spelled) (name_start_is_name_char c parts.0) parts.1) in
    cond-true (is_name_start c) _ _ parts.0
    ∙ ap (λ ds. Some (ds, behind_run is_name_char (c ∷ spelled ++ cs))) (run_passes is_name_char (c ∷ spelled) cs each)
    ∙ ap (λ ds. Some (c ∷ spelled ++ run is_name_char cs, ds)) (behind_passes is_name_char (c ∷ spelled) cs each)

bare_is_no_mark : (spelled cs : List ℕ) → is_bare_name spelled ≡ true → is_next is_bidi (spelled ++ cs) ≡ false
bare_is_no_mark [] cs is = absurd (false≢true is)
bare_is_no_mark (c ∷ spelled) cs is = name_start_is_no_mark c (and_parts (is_name_start c) (list_all is_name_char spelled) is).0

bare_found : (cs spelled left : List ℕ) → bare_name_at cs ≡ Some (spelled, left) → Begins (SpellsBareName spelled) cs left
bare_found [] spelled left finds = absurd (cc)
bare_found (c ∷ cs) spelled left finds =
    elim (cases_Bool (is_name_start c)) [
      | inl start ↦
          let same : ◌≡◌ {A = Option (List ℕ × List ℕ)} (Some (run is_name_char (c ∷ cs), behind_run is_name_char (c ∷ cs))) (Some (spelled, left)) =
          sym (cond-true (is_name_start c) _ _ start) ∙ finds in
          let first : run is_name_char (c ∷ cs) ≡ spelled = pair_first (run is_name_char (c ∷ cs)) spelled (behind_run is_name_char (c ∷ cs)) left same in
          let bare : is_bare_name (c ∷ run is_name_char cs) ≡ true =
          and_from (is_name_start c) (list_all is_name_char (run is_name_char cs)) start (of_are_all is_name_char (run is_name_char cs) (run_is_of is_name_char cs)) in
          record {
            taken = spelled;
            whole =
                run_splits is_name_char (c ∷ cs)
                ∙ ap (λ ds. ds ++ behind_run is_name_char (c ∷ cs)) first
                ∙ ap (λ ds. spelled ++ ds) (pair_second (run is_name_char (c ∷ cs)) spelled (behind_run is_name_char (c ∷ cs)) left same);
            is = (refl, subst (λ (ds : List ℕ). is_bare_name ds ≡ true) (sym (run_more is_name_char c cs (name_start_is_name_char c start)) ∙ first) bare);
          }
      | inr other ↦ absurd (nothing_found (bare_name_at (c ∷ cs)) (spelled, left) (cond-false (is_name_start c) _ _ other) finds)
    ]

-- what was mapped
pub mapped_parts : {X Y : Type 0} (f : X → Y) (o : Option X) (y : Y) → option_map f o ≡ Some y → (x : X) × (o ≡ Some x) × (f x ≡ y)
mapped_parts f None y finds = absurd (cc)
mapped_parts f (Some x) y finds = let same : f x ≡ y = cc in (x, refl, same)

-- a mark at the front is taken or there is none
abbrev pub MarkOrNone : List ℕ → List ℕ → Type 0
MarkOrNone cs left = (cs ≡ left) ⊎ ((c : ℕ) × (cs ≡ c ∷ left) × (is_bidi c ≡ true))

mark_or_none : (cs left : List ℕ) → Begins (Optional (One is_bidi)) cs left → MarkOrNone cs left
mark_or_none cs left begins =
    elim begins.is [
      | inl empty ↦ inl (begins.whole ∙ ap (λ ds. ds ++ left) empty)
      | inr one ↦ inr (one.0, begins.whole ∙ ap (λ ds. ds ++ left) one.1, one.2)
    ]

mark_taken : (cs left : List ℕ) → MarkOrNone cs left → is_next is_bidi left ≡ false → after_mark cs ≡ left
mark_taken cs left mark ends =
    elim mark [
      | inl none ↦ ap after_mark none ∙ mark_stays left ends
      | inr one ↦ ap after_mark one.1 ∙ mark_passes one.0 left one.2
    ]

-- a name whose bare name is found
named_by : (cs next : List ℕ) (bare : List ℕ × List ℕ) → after_mark cs ≡ next → bare_name_at next ≡ Some bare → name_at cs ≡ Some (bare.0, after_mark bare.1)
unfolding name_at
named_by cs next bare behind finds = ap (option_map (λ (found : List ℕ × List ℕ). (found.0, after_mark found.1))) (ap bare_name_at behind ∙ finds)

-- how far a name reaches at least
pub record Reaches (spelled cs left : List ℕ) : Type 0 where
  pub between : List ℕ
  pub mark : MarkOrNone between left
  pub finds : name_at cs ≡ Some (spelled ++ run is_name_char between, after_mark (behind_run is_name_char between))

pub reaches : (spelled cs left : List ℕ) → Begins (SpellsName spelled) cs left → Reaches spelled cs left
reaches spelled cs left begins =
    let outer = parted (Optional (One is_bidi)) (SpellsBareName spelled ⋅ Optional (One is_bidi)) cs left begins in
    let inner = parted (SpellsBareName spelled) (Optional (One is_bidi)) outer.between left outer.second in
    let bare : is_bare_name spelled ≡ true = inner.first.is.1 in
    let next : outer.between ≡ spelled ++ inner.between = inner.first.whole ∙ ap (λ ds. ds ++ inner.between) inner.first.is.0 in
    let no_mark : is_next is_bidi outer.between ≡ false = ap (is_next is_bidi) next ∙ bare_is_no_mark spelled inner.between bare in
    let behind : after_mark cs ≡ spelled ++ inner.between = mark_taken cs outer.between (mark_or_none cs outer.between outer.first) no_mark ∙ next in
    record {
      between = inner.between;
      mark = mark_or_none inner.between left inner.second;
      finds =
          named_by cs (spelled ++ inner.between) (spelled ++ run is_name_char inner.between, behind_run is_name_char inner.between) behind
          (bare_passes spelled inner.between bare);
    }

mark_ends_run : (c : ℕ) (left : List ℕ) → is_bidi c ≡ true → after_mark (behind_run is_name_char (c ∷ left)) ≡ left
mark_ends_run c left is = ap after_mark (behind_ends is_name_char (c ∷ left) (mark_is_no_name_char c is)) ∙ mark_passes c left is

pub reaches_length : (between left : List ℕ) → MarkOrNone between left → length (after_mark (behind_run is_name_char between)) ≤ length left
reaches_length between left mark =
    elim mark [
      | inl none ↦ omega (arith, ap length none, mark_shortens (behind_run is_name_char between), run_shortens is_name_char between)
      | inr one ↦
          omega (arith, ap (λ ds. length (after_mark (behind_run is_name_char ds))) one.1, ap length (mark_ends_run one.0 left one.2))
    ]

-- a name that is found ends no later than one that begins here
pub name_reaches : (spelled cs left others : List ℕ) (other : List ℕ) → name_at cs ≡ Some (spelled, left) → Begins (SpellsName other) cs others →
    length left ≤ length others
name_reaches spelled cs left others other finds begins =
    let reach = reaches other cs others begins in
    let lefts = same_left (name_at cs) spelled (other ++ run is_name_char reach.between) left (after_mark (behind_run is_name_char reach.between)) finds reach.finds in
    omega (arith, ap length lefts, reaches_length reach.between others reach.mark)

-- a name that no name-char follows is found, with the mark behind it or without
pub name_complete : (spelled cs left : List ℕ) → Begins (SpellsName spelled) cs left → is_next is_name_char left ≡ false →
    (name_at cs ≡ Some (spelled, left)) ⊎ (name_at cs ≡ Some (spelled, after_mark left))
name_complete spelled cs left begins ends =
    let reach = reaches spelled cs left begins in
    elim reach.mark [
      | inl none ↦
          inr (reach.finds
          ∙ ap (λ ds. Some (spelled ++ run is_name_char ds, after_mark (behind_run is_name_char ds))) none
          ∙ ap (λ ds. Some (spelled ++ ds, after_mark (behind_run is_name_char left))) (run_ends is_name_char left ends)
          ∙ ap (λ ds. Some (ds, after_mark (behind_run is_name_char left))) (append-nil spelled)
          ∙ ap (λ ds. Some (spelled, after_mark ds)) (behind_ends is_name_char left ends))
      | inr one ↦
          inl (reach.finds
          ∙ ap (λ ds. Some (spelled ++ run is_name_char ds, after_mark (behind_run is_name_char ds))) one.1
          ∙ ap (λ ds. Some (spelled ++ ds, after_mark (behind_run is_name_char (one.0 ∷ left)))) (run_ends is_name_char (one.0 ∷ left) (mark_is_no_name_char one.0 one.2))
          ∙ ap (λ ds. Some (ds, after_mark (behind_run is_name_char (one.0 ∷ left)))) (append-nil spelled)
          ∙ ap (λ ds. Some (spelled, ds)) (mark_ends_run one.0 left one.2))
    ]

-- what is found is a name
pub name_begins : (cs spelled left : List ℕ) → name_at cs ≡ Some (spelled, left) → Begins (SpellsName spelled) cs left
unfolding name_at
name_begins cs spelled left finds =
    let bare = mapped_parts (λ (found : List ℕ × List ℕ). (found.0, after_mark found.1)) (bare_name_at (after_mark cs)) (spelled, left) finds in
    let first : bare.0.0 ≡ spelled = ap (λ (p : List ℕ × List ℕ). p.0) bare.2 in
    let second : after_mark bare.0.1 ≡ left = ap (λ (p : List ℕ × List ℕ). p.1) bare.2 in
    let begins : Begins (SpellsBareName bare.0.0) (after_mark cs) bare.0.1 = bare_found (after_mark cs) bare.0.0 bare.0.1 bare.1 in
    let closes : Begins (SpellsBareName bare.0.0 ⋅ Optional (One is_bidi)) (after_mark cs) (after_mark bare.0.1) =
    joined (SpellsBareName bare.0.0) (Optional (One is_bidi)) (after_mark cs) bare.0.1 (after_mark bare.0.1) begins (mark_begins bare.0.1) in
    let whole : Begins (SpellsName bare.0.0) cs (after_mark bare.0.1) =
    joined (Optional (One is_bidi)) (SpellsBareName bare.0.0 ⋅ Optional (One is_bidi)) cs (after_mark cs) (after_mark bare.0.1) (mark_begins cs) closes in
    subst (λ (ds : List ℕ). Begins (SpellsName ds) cs left) first (subst (Begins (SpellsName bare.0.0) cs) second whole)

pub name_found : (cs spelled left : List ℕ) → name_at cs ≡ Some (spelled, left) → BeginsLongest SpellsName spelled cs left
name_found cs spelled left finds = record {
  begins = name_begins cs spelled left finds;
  longest = λ other others begins. name_reaches spelled cs left others other finds begins;
}

pub name_none : (cs : List ℕ) → name_at cs ≡ None → BeginsNone SpellsName cs
name_none cs none other others begins =
    let reach = reaches other cs others begins in
    nothing_found (name_at cs) (other ++ run is_name_char reach.between, after_mark (behind_run is_name_char reach.between)) none reach.finds

-- each text spells at most one name
pub name_whole : (text spelled : List ℕ) → SpellsName spelled text → name_at text ≡ Some (spelled, [])
name_whole text spelled is =
    elim (name_complete spelled text [] (begins_whole (SpellsName spelled) text is) refl) [ inl finds ↦ finds | inr finds ↦ finds ]

pub names_once : (text spelled other : List ℕ) → SpellsName spelled text → SpellsName other text → spelled ≡ other
names_once text spelled other one two = pair_first spelled other [] [] (sym (name_whole text spelled one) ∙ name_whole text other two)
