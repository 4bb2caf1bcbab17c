-- The value of a quoted literal, gathered from its parts.
use Rattle.std.proofs.Common.{◌≡◌, ℕ, ◌≤◌, Bool, true, false, Option, Some, None, List, [], ◌∷◌, ◌++◌, refl, ap, sym, ◌∙◌, subst, inl, inr, eqb, length, append_assoc, length-append, arith}
use Rattle.std.proofs.lemmas.Bool.{cases_Bool, cond-true, cond-false, eqb-true, false≢true}
use Rattle.std.proofs.lemmas.List.{append-nil}
use Rattle.std.specs.Option.{option_map, option_and_then}
use Rattle.mf_text.specs.Characters.{is_quoted, is_escapable}
use Rattle.mf_lex.specs.Computed.{is_next, run, behind_run, one_at, escaped, escape_at, onto, with_front, quoted_from, gathered}
use Rattle.mf_lex.proofs.Runs.{run_more, run_ends, behind_more, behind_ends, run_splits}

-- a character that is next
pub one_parts : (c : ℕ) (cs left : List ℕ) → one_at c cs ≡ Some left → cs ≡ c ∷ left
one_parts c [] left finds = cc
one_parts c (d ∷ cs) left finds =
    elim (cases_Bool (eqb d c)) [
      | inl same ↦
          let at : d ≡ c = eqb-true d c same in
          let rest : Some cs ≡ Some left = sym (cond-true (eqb d c) _ _ same) ∙ finds in
          cc
      | inr other ↦
          let none : None ≡ Some left = sym (cond-false (eqb d c) _ _ other) ∙ finds in
          cc
    ]

pub nothing_found : {X : Type 0} (o : Option X) (x : X) → o ≡ None → o ≡ Some x → ⊥
nothing_found o x none some = cc

-- two pairs that are found
pub pair_first : {X Y : Type 0} (x a : X) (y b : Y) → ◌≡◌ {A = Option (X × Y)} (Some (x, y)) (Some (a, b)) → x ≡ a
pair_first {X} {Y} x a y b same = ap (λ (o : Option (X × Y)). elim o as (λ p. X) [ None ↦ x | Some p ↦ p.0 ]) same

pub pair_second : {X Y : Type 0} (x a : X) (y b : Y) → ◌≡◌ {A = Option (X × Y)} (Some (x, y)) (Some (a, b)) → y ≡ b
pair_second {X} {Y} x a y b same = ap (λ (o : Option (X × Y)). elim o as (λ p. Y) [ None ↦ y | Some p ↦ p.1 ]) same

-- an escape that is next
pub record Escape (c : ℕ) (cs left : List ℕ) : Type 0 where
  pub split : cs ≡ 0x5C ∷ c ∷ left
  pub may : is_escapable c ≡ true

pub escape_parts : (c : ℕ) (cs left : List ℕ) → escape_at cs ≡ Some (c, left) → Escape c cs left
unfolding escape_at
escape_parts c [] left finds = absurd (cc)
escape_parts c (b ∷ []) left finds =
    elim (cases_Bool (eqb b 0x5C)) [
      | inl backslash ↦
          absurd (nothing_found (escape_at (b ∷ [])) (c, left) (ap (option_and_then escaped) (cond-true (eqb b 0x5C) _ _ backslash)) finds)
      | inr other ↦
          absurd (nothing_found (escape_at (b ∷ [])) (c, left) (ap (option_and_then escaped) (cond-false (eqb b 0x5C) _ _ other)) finds)
    ]
escape_parts c (b ∷ d ∷ cs) left finds =
    elim (cases_Bool (eqb b 0x5C)) [
      | inl backslash ↦
          let behind : escaped (d ∷ cs) ≡ Some (c, left) = sym (ap (option_and_then escaped) (cond-true (eqb b 0x5C) _ _ backslash)) ∙ finds in
          elim (cases_Bool (is_escapable d)) [
            | inl may ↦
                let same : ◌≡◌ {A = Option (ℕ × List ℕ)} (Some (d, cs)) (Some (c, left)) = sym (cond-true (is_escapable d) _ _ may) ∙ behind in
                let first : d ≡ c = pair_first d c cs left same in
                record {
                  split =
                      ap (λ a. a ∷ d ∷ cs) (eqb-true b 0x5C backslash)
                      ∙ ap (λ e. 0x5C ∷ e ∷ cs) first
                      ∙ ap (λ ds. 0x5C ∷ c ∷ ds) (pair_second d c cs left same);
                  may = subst (λ (e : ℕ). is_escapable e ≡ true) first may;
                }
            | inr other ↦
                absurd (nothing_found (escaped (d ∷ cs)) (c, left) (cond-false (is_escapable d) _ _ other) behind)
          ]
      | inr other ↦
          absurd (nothing_found (escape_at (b ∷ d ∷ cs)) (c, left) (ap (option_and_then escaped) (cond-false (eqb b 0x5C) _ _ other)) finds)
    ]

-- quoted literals, by what is next
pub quoted_plain : (c : ℕ) (cs : List ℕ) → is_quoted c ≡ true → quoted_from false (c ∷ cs) ≡ option_map (onto c) (quoted_from false cs)
quoted_plain c cs is =
    elim (cases_Bool (eqb c 0x7C)) [
      | inl bar ↦ absurd (false≢true (subst (λ (b : ℕ). is_quoted b ≡ true) (eqb-true c 0x7C bar) is))
      | inr no_bar ↦
          elim (cases_Bool (eqb c 0x5C)) [
            | inl backslash ↦ absurd (false≢true (subst (λ (b : ℕ). is_quoted b ≡ true) (eqb-true c 0x5C backslash) is))
            | inr no_backslash ↦
                cond-false (eqb c 0x7C) _ _ no_bar
                ∙ cond-false (eqb c 0x5C) _ _ no_backslash
                ∙ cond-true (is_quoted c) _ _ is
          ]
    ]

pub quoted_escape : (c : ℕ) (cs : List ℕ) → is_escapable c ≡ true → quoted_from false (0x5C ∷ c ∷ cs) ≡ option_map (onto c) (quoted_from false cs)
quoted_escape c cs may = cond-true (is_escapable c) _ _ may

pub mapped_twice : {X : Type 0} (f g h : X → X) (o : Option X) → ((x : X) → f (g x) ≡ h x) → option_map f (option_map g o) ≡ option_map h o
mapped_twice f g h None twice = refl
mapped_twice f g h (Some x) twice = ap Some (twice x)

-- nothing gathered in front changes nothing
pub gathered_nothing : (cs : List ℕ) → gathered [] cs ≡ quoted_from false cs
gathered_nothing cs = elim (quoted_from false cs) as (λ o. option_map (with_front []) o ≡ o) [ None ↦ refl | Some found ↦ refl ]

-- characters that stand for themselves are gathered
pub gathered_plain : (value : List ℕ) (cs : List ℕ) → gathered value cs ≡ gathered (value ++ run is_quoted cs) (behind_run is_quoted cs)
gathered_plain value [] = refl
gathered_plain value (c ∷ cs) =
    elim (cases_Bool (is_quoted c)) [
      | inl is ↦
          ap (option_map (with_front value)) (quoted_plain c cs is)
          ∙ mapped_twice (with_front value) (onto c) (with_front (value ++ c ∷ [])) (quoted_from false cs)
          (λ found. ap (λ ds. (ds, found.1)) (sym (append_assoc value (c ∷ []) found.0)))
          ∙ gathered_plain (value ++ c ∷ []) cs
          ∙ ap (λ ds. gathered ds (behind_run is_quoted cs)) (append_assoc value (c ∷ []) (run is_quoted cs))
          ∙ ap (λ ds. gathered (value ++ ds) (behind_run is_quoted cs)) (sym (run_more is_quoted c cs is))
          ∙ ap (gathered (value ++ run is_quoted (c ∷ cs))) (sym (behind_more is_quoted c cs is))
      | inr ends ↦
          ap (λ ds. gathered ds (c ∷ cs)) (sym (append-nil value))
          ∙ ap (λ ds. gathered (value ++ ds) (c ∷ cs)) (sym (run_ends is_quoted (c ∷ cs) ends))
          ∙ ap (gathered (value ++ run is_quoted (c ∷ cs))) (sym (behind_ends is_quoted (c ∷ cs) ends))
    ]

-- the character of an escape is gathered
pub gathered_escape : (value cs left : List ℕ) (c : ℕ) → escape_at cs ≡ Some (c, left) → gathered value cs ≡ gathered (value ++ c ∷ []) left
gathered_escape value cs left c finds =
    let escape = escape_parts c cs left finds in
    ap (gathered value) escape.split
    ∙ ap (option_map (with_front value)) (quoted_escape c left escape.may)
    ∙ mapped_twice (with_front value) (onto c) (with_front (value ++ c ∷ [])) (quoted_from false left)
    (λ found. ap (λ ds. (ds, found.1)) (sym (append_assoc value (c ∷ []) found.0)))

-- behind a run the class ends
pub run_stops : (p : ℕ → Bool) (cs : List ℕ) → is_next p (behind_run p cs) ≡ false
run_stops p [] = refl
run_stops p (c ∷ cs) =
    elim (cases_Bool (p c)) [
      | inl is ↦ ap (is_next p) (behind_more p c cs is) ∙ run_stops p cs
      | inr ends ↦ ap (is_next p) (behind_ends p (c ∷ cs) ends) ∙ ends
    ]

pub run_shortens : (p : ℕ → Bool) (cs : List ℕ) → length (behind_run p cs) ≤ length cs
run_shortens p cs = omega (arith, ap length (run_splits p cs), length-append (run p cs) (behind_run p cs))

-- what the parts of a quoted literal leave
pub with_plain : (old new taken value more : List ℕ) → taken ≡ run is_quoted old → new ≡ behind_run is_quoted old → more ≡ value ++ taken →
    gathered more new ≡ gathered value old
with_plain old new taken value more takes leaves is =
    ap (λ ds. gathered ds new) is
    ∙ ap (λ ds. gathered (value ++ ds) new) takes
    ∙ ap (gathered (value ++ run is_quoted old)) leaves
    ∙ sym (gathered_plain value old)

pub with_escape : (whole cs left next : List ℕ) (value more : List ℕ) (c : ℕ) → gathered value cs ≡ quoted_from false whole →
    escape_at next ≡ Some (c, left) → next ≡ cs → more ≡ value ++ c ∷ [] → gathered more left ≡ quoted_from false whole
with_escape whole cs left next value more c behind finds same is =
    ap (λ ds. gathered ds left) is
    ∙ sym (gathered_escape value next left c finds)
    ∙ ap (gathered value) same
    ∙ behind
