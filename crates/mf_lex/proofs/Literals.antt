-- Literals are passed by their rule.
use Rattle.std.proofs.Common.{◌≡◌, ℕ, Bool, true, false, Option, Some, None, List, [], ◌∷◌, ◌++◌, refl, ap, sym, ◌∙◌, subst, length, ◌⊎◌, inl, inr, eqb, append_assoc, arith}
use Rattle.std.proofs.lemmas.Bool.{cases_Bool, cond-true, cond-false, eqb-true, false≢true}
use Rattle.std.proofs.lemmas.List.{append-nil}
use Rattle.std.specs.Option.{option_map}
use Rattle.mf_text.specs.Characters.{is_name_char, is_quoted, is_escapable}
use Rattle.mf_text.specs.Languages.{Word, Each, Begins, BeginsNone, BeginsLongest, ◌⋅◌}
use Rattle.mf_text.specs.Grammar.{is_unquoted, SpellsQuotedPart, SpellsQuotedLiteral, SpellsUnquotedLiteral, SpellsLiteral}
use Rattle.mf_lex.specs.Computed.{is_next, run, behind_run, onto, with_front, quoted_from, gathered, literal_at}
use Rattle.mf_lex.proofs.Begins.{begins_whole, parted, joined, run_passes, behind_passes, all_are_of, of_are_all, run_is_of, same_left, same_length}
use Rattle.mf_lex.proofs.Gathering.{nothing_found, pair_first, pair_second, mapped_twice, gathered_nothing, quoted_plain, quoted_escape, run_shortens}
use Rattle.mf_lex.proofs.Members.{bar_is_no_name_char}
use Rattle.mf_lex.proofs.Names.{mapped_parts}
use Rattle.mf_lex.proofs.Runs.{run_more, run_ends, behind_ends, run_splits}

-- the parts of a quoted literal are gathered
parts_pass : (value parts cs : List ℕ) → Each SpellsQuotedPart value parts → quoted_from false (parts ++ cs) ≡ gathered value cs
parts_pass [] parts cs each = ap (λ ds. quoted_from false (ds ++ cs)) each ∙ sym (gathered_nothing cs)
parts_pass (c ∷ value) parts cs each =
    let behind : quoted_from false (each.back ++ cs) ≡ gathered value cs = parts_pass value each.back cs each.second in
    let onto_all : option_map (onto c) (quoted_from false (each.back ++ cs)) ≡ gathered (c ∷ value) cs =
    ap (option_map (onto c)) behind
    ∙ mapped_twice (onto c) (with_front value) (with_front (c ∷ value)) (quoted_from false cs) (λ found. refl) in
    let split : parts ++ cs ≡ each.front ++ (each.back ++ cs) = ap (λ ds. ds ++ cs) each.whole ∙ append_assoc each.front each.back cs in
    elim each.first [
      | inl plain ↦
          ap (quoted_from false) (split ∙ ap (λ ds. ds ++ (each.back ++ cs)) plain.0)
          ∙ quoted_plain c (each.back ++ cs) plain.1
          ∙ onto_all
      | inr escape ↦
          ap (quoted_from false) (split ∙ ap (λ ds. ds ++ (each.back ++ cs)) escape.0)
          ∙ quoted_escape c (each.back ++ cs) escape.1
          ∙ onto_all
    ]

-- a quoted literal is found, whatever follows it
pub quoted_complete : (value cs left : List ℕ) → Begins (SpellsQuotedLiteral value) cs left → literal_at cs ≡ Some (value, left)
unfolding literal_at
quoted_complete value cs left begins =
    let outer = parted (Word (0x7C ∷ [])) (Each SpellsQuotedPart value ⋅ Word (0x7C ∷ [])) cs left begins in
    let inner = parted (Each SpellsQuotedPart value) (Word (0x7C ∷ [])) outer.between left outer.second in
    let first : cs ≡ 0x7C ∷ outer.between = outer.first.whole ∙ ap (λ ds. ds ++ outer.between) outer.first.is in
    let last : inner.between ≡ 0x7C ∷ left = inner.second.whole ∙ ap (λ ds. ds ++ left) inner.second.is in
    ap literal_at first
    ∙ ap (quoted_from false) inner.first.whole
    ∙ parts_pass value inner.first.taken inner.between inner.first.is
    ∙ ap (gathered value) last
    ∙ ap (λ ds. Some (ds, left)) (append-nil value)

-- the parts of a quoted literal that is found
record Quoted (value cs left : List ℕ) : Type 0 where
  parts : List ℕ
  split : cs ≡ parts ++ 0x7C ∷ left
  each : Each SpellsQuotedPart value parts

with_plain_part : (c : ℕ) (value cs left : List ℕ) → is_quoted c ≡ true → Quoted value cs left → Quoted (c ∷ value) (c ∷ cs) left
with_plain_part c value cs left is quoted = record {
  parts = c ∷ quoted.parts;
  split = ap (λ ds. c ∷ ds) quoted.split;
  each = record { front = c ∷ []; back = quoted.parts; whole = refl; first = inl (refl, is); second = quoted.each };
}

with_escaped_part : (c : ℕ) (value cs left : List ℕ) → is_escapable c ≡ true → Quoted value cs left → Quoted (c ∷ value) (0x5C ∷ c ∷ cs) left
with_escaped_part c value cs left may quoted = record {
  parts = 0x5C ∷ c ∷ quoted.parts;
  split = ap (λ ds. 0x5C ∷ c ∷ ds) quoted.split;
  each = record { front = 0x5C ∷ c ∷ []; back = quoted.parts; whole = refl; first = inr (refl, may); second = quoted.each };
}

abbrev behind_backslash : Bool → List ℕ → List ℕ
behind_backslash true cs = 0x5C ∷ cs
behind_backslash false cs = cs

quoted_parts : (cs : List ℕ) (escaping : Bool) (value left : List ℕ) → quoted_from escaping cs ≡ Some (value, left) → Quoted value (behind_backslash escaping cs) left
quoted_parts [] true value left finds = absurd (cc)
quoted_parts [] false value left finds = absurd (cc)
quoted_parts (c ∷ cs) true value left finds =
    elim (cases_Bool (is_escapable c)) [
      | inl may ↦
          let rest = mapped_parts (onto c) (quoted_from false cs) (value, left) (sym (cond-true (is_escapable c) _ _ may) ∙ finds) in
          let quoted : Quoted rest.0.0 cs rest.0.1 = quoted_parts cs false rest.0.0 rest.0.1 rest.1 in
          subst (λ (found : List ℕ × List ℕ). Quoted found.0 (0x5C ∷ c ∷ cs) found.1) rest.2 (with_escaped_part c rest.0.0 cs rest.0.1 may quoted)
      | inr other ↦ absurd (nothing_found (quoted_from true (c ∷ cs)) (value, left) (cond-false (is_escapable c) _ _ other) finds)
    ]
quoted_parts (c ∷ cs) false value left finds =
    elim (cases_Bool (eqb c 0x7C)) [
      | inl bar ↦
          let same : ◌≡◌ {A = Option (List ℕ × List ℕ)} (Some ([], cs)) (Some (value, left)) = sym (cond-true (eqb c 0x7C) _ _ bar) ∙ finds in
          let none : [] ≡ value = pair_first [] value cs left same in
          let rest : cs ≡ left = pair_second [] value cs left same in
          record {
            parts = [];
            split = ap (λ b. b ∷ cs) (eqb-true c 0x7C bar) ∙ ap (λ ds. 0x7C ∷ ds) rest;
            each = subst (λ (ds : List ℕ). Each SpellsQuotedPart ds []) none refl;
          }
      | inr no_bar ↦
          elim (cases_Bool (eqb c 0x5C)) [
            | inl backslash ↦
                let behind : quoted_from true cs ≡ Some (value, left) =
                sym (cond-false (eqb c 0x7C) _ _ no_bar ∙ cond-true (eqb c 0x5C) _ _ backslash) ∙ finds in
                subst (λ (b : ℕ). Quoted value (b ∷ cs) left) (sym (eqb-true c 0x5C backslash)) (quoted_parts cs true value left behind)
            | inr no_backslash ↦
                elim (cases_Bool (is_quoted c)) [
                  | inl is ↦
                      let rest = mapped_parts (onto c) (quoted_from false cs) (value, left) (sym (quoted_plain c cs is) ∙ finds) in
                      let quoted : Quoted rest.0.0 cs rest.0.1 = quoted_parts cs false rest.0.0 rest.0.1 rest.1 in
                      subst (λ (found : List ℕ × List ℕ). Quoted found.0 (c ∷ cs) found.1) rest.2 (with_plain_part c rest.0.0 cs rest.0.1 is quoted)
                  | inr other ↦
                      absurd (nothing_found (quoted_from false (c ∷ cs)) (value, left)
                      (cond-false (eqb c 0x7C) _ _ no_bar ∙ cond-false (eqb c 0x5C) _ _ no_backslash ∙ cond-false (is_quoted c) _ _ other)
                      finds)
                ]
          ]
    ]

quoted_begins : (value cs left : List ℕ) → Quoted value cs left → Begins (SpellsQuotedLiteral value) (0x7C ∷ cs) left
quoted_begins value cs left quoted =
    joined (Word (0x7C ∷ [])) (Each SpellsQuotedPart value ⋅ Word (0x7C ∷ [])) (0x7C ∷ cs) cs left
    (record { taken = 0x7C ∷ []; whole = refl; is = refl })
    (joined (Each SpellsQuotedPart value) (Word (0x7C ∷ [])) cs (0x7C ∷ left) left
    (record { taken = quoted.parts; whole = quoted.split; is = quoted.each })
    (record { taken = 0x7C ∷ []; whole = refl; is = refl }))

-- an unquoted literal
name_char_is_no_bar : (c : ℕ) → is_name_char c ≡ true → eqb c 0x7C ≡ false
name_char_is_no_bar c is =
    elim (cases_Bool (eqb c 0x7C)) [
      | inl bar ↦ absurd (false≢true (sym bar_is_no_name_char ∙ subst (λ (b : ℕ). is_name_char b ≡ true) (eqb-true c 0x7C bar) is))
      | inr other ↦ other
    ]

unquoted_next : (c : ℕ) (cs : List ℕ) → is_name_char c ≡ true →
    literal_at (c ∷ cs) ≡ Some (run is_name_char (c ∷ cs), behind_run is_name_char (c ∷ cs))
unfolding literal_at
unquoted_next c cs is = cond-false (eqb c 0x7C) _ _ (name_char_is_no_bar c is) ∙ cond-true (is_name_char c) _ _ is

unquoted_passes : (value cs : List ℕ) → is_unquoted value ≡ true → literal_at (value ++ cs) ≡ Some (value ++ run is_name_char cs, behind_run is_name_char cs)
unquoted_passes [] cs is = absurd (false≢true is)
unquoted_passes (c ∷ value) cs is =
    let each = all_are_of is_name_char (c ∷ value) is in
    unquoted_next c (value ++ cs) each.0
    ∙ ap (λ ds. Some (ds, behind_run is_name_char (c ∷ value ++ cs))) (run_passes is_name_char (c ∷ value) cs each)
    ∙ ap (λ ds. Some (c ∷ value ++ run is_name_char cs, ds)) (behind_passes is_name_char (c ∷ value) cs each)

unquoted_reaches : (value cs left : List ℕ) → Begins (SpellsUnquotedLiteral value) cs left →
    literal_at cs ≡ Some (value ++ run is_name_char left, behind_run is_name_char left)
unquoted_reaches value cs left begins =
    ap literal_at (begins.whole ∙ ap (λ ds. ds ++ left) begins.is.0) ∙ unquoted_passes value left begins.is.1

-- an unquoted literal that no name-char follows is found
pub unquoted_complete : (value cs left : List ℕ) → Begins (SpellsUnquotedLiteral value) cs left → is_next is_name_char left ≡ false →
    literal_at cs ≡ Some (value, left)
unquoted_complete value cs left begins ends =
    unquoted_reaches value cs left begins
    ∙ ap (λ ds. Some (value ++ ds, behind_run is_name_char left)) (run_ends is_name_char left ends)
    ∙ ap (λ ds. Some (ds, behind_run is_name_char left)) (append-nil value)
    ∙ ap (λ ds. Some (value, ds)) (behind_ends is_name_char left ends)

-- a literal begins as one or the other
either : (value cs left : List ℕ) → Begins (SpellsLiteral value) cs left → Begins (SpellsQuotedLiteral value) cs left ⊎ Begins (SpellsUnquotedLiteral value) cs left
either value cs left begins =
    elim begins.is [
      | inl quoted ↦ inl (record { taken = begins.taken; whole = begins.whole; is = quoted })
      | inr unquoted ↦ inr (record { taken = begins.taken; whole = begins.whole; is = unquoted })
    ]

-- a literal that no name-char follows is found
pub literal_complete : (value cs left : List ℕ) → Begins (SpellsLiteral value) cs left → is_next is_name_char left ≡ false → literal_at cs ≡ Some (value, left)
literal_complete value cs left begins ends =
    elim (either value cs left begins) [
      | inl quoted ↦ quoted_complete value cs left quoted
      | inr unquoted ↦ unquoted_complete value cs left unquoted ends
    ]

-- what is found is a literal
pub literal_begins : (cs value left : List ℕ) → literal_at cs ≡ Some (value, left) → Begins (SpellsLiteral value) cs left
unfolding literal_at
literal_begins [] value left finds = absurd (cc)
literal_begins (c ∷ cs) value left finds =
    elim (cases_Bool (eqb c 0x7C)) [
      | inl bar ↦
          let at : c ≡ 0x7C = eqb-true c 0x7C bar in
          let quoted : quoted_from false cs ≡ Some (value, left) = subst (λ (b : ℕ). literal_at (b ∷ cs) ≡ Some (value, left)) at finds in
          let begins : Begins (SpellsQuotedLiteral value) (0x7C ∷ cs) left = quoted_begins value cs left (quoted_parts cs false value left quoted) in
          subst (λ (b : ℕ). Begins (SpellsLiteral value) (b ∷ cs) left) (sym at)
          (record { taken = begins.taken; whole = begins.whole; is = inl begins.is })
      | inr no_bar ↦
          elim (cases_Bool (is_name_char c)) [
            | inl is ↦
                let same : ◌≡◌ {A = Option (List ℕ × List ℕ)} (Some (run is_name_char (c ∷ cs), behind_run is_name_char (c ∷ cs))) (Some (value, left)) =
                sym (unquoted_next c cs is) ∙ finds in
                let first : run is_name_char (c ∷ cs) ≡ value = pair_first (run is_name_char (c ∷ cs)) value (behind_run is_name_char (c ∷ cs)) left same in
                let all : is_unquoted (c ∷ run is_name_char cs) ≡ true =
                of_are_all is_name_char (c ∷ run is_name_char cs) (is, run_is_of is_name_char cs) in
                record {
                  taken = value;
                  whole =
                      run_splits is_name_char (c ∷ cs)
                      ∙ ap (λ ds. ds ++ behind_run is_name_char (c ∷ cs)) first
                      ∙ ap (λ ds. value ++ ds) (pair_second (run is_name_char (c ∷ cs)) value (behind_run is_name_char (c ∷ cs)) left same);
                  is = inr (refl, subst (λ (ds : List ℕ). is_unquoted ds ≡ true) (sym (run_more is_name_char c cs is) ∙ first) all);
                }
            | inr other ↦
                absurd (nothing_found (literal_at (c ∷ cs)) (value, left) (cond-false (eqb c 0x7C) _ _ no_bar ∙ cond-false (is_name_char c) _ _ other) finds)
          ]
    ]

pub literal_found : (cs value left : List ℕ) → literal_at cs ≡ Some (value, left) → BeginsLongest SpellsLiteral value cs left
literal_found cs value left finds = record {
  begins = literal_begins cs value left finds;
  longest = λ other others begins.
      elim (either other cs others begins) [
        | inl quoted ↦ same_length left others (same_left (literal_at cs) value other left others finds (quoted_complete other cs others quoted))
        | inr unquoted ↦
            omega (
              arith,
              ap length (same_left (literal_at cs) value (other ++ run is_name_char others) left (behind_run is_name_char others) finds (unquoted_reaches other cs others unquoted)),
              run_shortens is_name_char others,
            )
      ];
}

pub literal_none : (cs : List ℕ) → literal_at cs ≡ None → BeginsNone SpellsLiteral cs
literal_none cs none other others begins =
    elim (either other cs others begins) [
      | inl quoted ↦ nothing_found (literal_at cs) (other, others) none (quoted_complete other cs others quoted)
      | inr unquoted ↦
          nothing_found (literal_at cs) (other ++ run is_name_char others, behind_run is_name_char others) none (unquoted_reaches other cs others unquoted)
    ]

-- each text spells at most one literal
pub literals_once : (text value other : List ℕ) → SpellsLiteral value text → SpellsLiteral other text → value ≡ other
literals_once text value other one two =
    pair_first value other [] []
    (sym (literal_complete value text [] (begins_whole (SpellsLiteral value) text one) refl)
    ∙ literal_complete other text [] (begins_whole (SpellsLiteral other) text two) refl)
