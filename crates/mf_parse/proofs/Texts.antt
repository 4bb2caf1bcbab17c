-- Texts of a pattern: what is passed joins the text so far.
use Rattle.std.proofs.Common.{◌≡◌, ◌≢◌, ◌<◌, ◌≤◌, ◌+◌, ℕ, Bool, true, false, ◌==◌, ◌||◌, not, Option, Some, None, List, [], ◌∷◌, ◌++◌, refl, ap, sym, ◌∙◌, subst, MatchOption, inl, inr, length, length-append, arith}
use Rattle.std.proofs.lemmas.Bool.{cases_Bool, cond-true, cond-false, eqb-true, or_cases, false≢true}
use Rattle.std.specs.Option.{option_map, option_and_then}
use Rattle.std.proofs.lemmas.List.{append-nil}
use Rattle.mf_text.specs.Characters.{is_text, is_escapable}
use Rattle.mf_lex.specs.Computed.{is_next, run, behind_run, one_at, after_space, escaped, escape_at}
use Rattle.mf_lex.proofs.Gathering.{Escape, escape_parts}
use Rattle.mf_lex.proofs.Runs.{run_more, run_ends, behind_more, behind_ends}
use Rattle.mf_tree.specs.Grammar.{character, placeholder, onto_text, pattern_of, SpellsPlaceholder}
use Rattle.mf_tree.specs.declared.pattern.Piece.{Piece}
use Rattle.mf_tree.specs.declared.pattern.Piece.TheVariants as Pieces
use Rattle.mf_parse.specs.Computed.{Found, made, onto, many, is_at, inside, inner_placeholder_at, placeholder_at, item_at, goes_on, text_ends, pattern_at}
use Rattle.mf_parse.proofs.Finding.{made_by, made_none, behind_none, many_stop, many_some, many_none}
use Rattle.mf_parse.proofs.Sound.{placeholder_sound}
use Rattle.mf_parse.proofs.CompleteMessages.{items_shorten}
use Rattle.mf_parse.proofs.Gathers.{Gathered}

-- the characters of a text in front of pieces
abbrev pub onto_all : List ℕ → List Piece → List Piece
onto_all [] pieces = pieces
onto_all (c ∷ cs) pieces = onto_text c (onto_all cs pieces)

-- a text was passed: it stands in front of what is found behind it, and is empty only where nothing was passed
pub record Passed (text start cs : List ℕ) : Type 0 where
  pub joins : pattern_at start ≡ made (onto_all text) (pattern_at cs)
  pub empty : text ≡ [] → cs ≡ start
  pub longer : length text + length cs ≤ length start

made_twice : {X Y Z : Type 0} (f : Y → Z) (g : X → Y) (h : X → Z) (found : Found X) → ((x : X) → f (g x) ≡ h x) → made f (made g found) ≡ made h found
made_twice f g h None same = refl
made_twice f g h (Some (x, left)) same = ap (λ z. Some (z, left)) (same x)

onto_both : (text more : List ℕ) (pieces : List Piece) → onto_all (text ++ more) pieces ≡ onto_all text (onto_all more pieces)
onto_both [] more pieces = refl
onto_both (c ∷ text) more pieces = ap (onto_text c) (onto_both text more pieces)

onto_nothing : (found : Found (List Piece)) → found ≡ made (onto_all []) found
onto_nothing None = refl
onto_nothing (Some (pieces, left)) = refl

pub passed_nothing : (text cs : List ℕ) → text ≡ [] → Passed text cs cs
passed_nothing text cs empty = record {
  joins = onto_nothing (pattern_at cs) ∙ ap (λ text. made (onto_all text) (pattern_at cs)) (sym empty);
  empty = λ is. refl;
  longer = omega (arith, ap length empty);
}

-- one text behind the other
both_empty : (text taken : List ℕ) → text ++ taken ≡ [] → (text ≡ []) × (taken ≡ [])
both_empty [] taken empty = (refl, empty)
both_empty (c ∷ text) taken empty = absurd (cc)

pub passed_more : (text taken more start cs left : List ℕ) → Passed text start cs → Passed taken cs left → more ≡ text ++ taken → Passed more start left
passed_more text taken more start cs left first second is = record {
  joins =
      first.joins
      ∙ ap (made (onto_all text)) second.joins
      ∙ made_twice (onto_all text) (onto_all taken) (onto_all more) (pattern_at left) (λ pieces. sym (onto_both text taken pieces) ∙ ap (λ all. onto_all all pieces) (sym is));
  empty = λ none. let parts = both_empty text taken (sym is ∙ none) in second.empty parts.1 ∙ first.empty parts.0;
  longer = omega (arith, first.longer, second.longer, ap length is, length-append text taken);
}

pattern_step : (c : ℕ) (cs left : List ℕ) → goes_on cs ≡ true → item_at cs ≡ Some (character c, left) → pattern_at cs ≡ made (onto_text c) (pattern_at left)
unfolding pattern_at
pattern_step c cs left some finds =
    ap (made pattern_of) (many_some goes_on item_at refl items_shorten cs (character c) left some finds)
    ∙ made_twice pattern_of (onto (character c)) (λ items. onto_text c (pattern_of items)) (many goes_on item_at left) (λ items. refl)
    ∙ sym (made_twice (onto_text c) pattern_of (λ items. onto_text c (pattern_of items)) (many goes_on item_at left) (λ items. refl))

pattern_none : (cs : List ℕ) → goes_on cs ≡ true → item_at cs ≡ None → pattern_at cs ≡ None
unfolding pattern_at
pattern_none cs some none = made_none pattern_of (many goes_on item_at cs) (many_none goes_on item_at refl cs some none)

pub passed_none : (text start cs : List ℕ) → Passed text start cs → goes_on cs ≡ true → item_at cs ≡ None → pattern_at start ≡ None
passed_none text start cs passed some none = passed.joins ∙ made_none (onto_all text) (pattern_at cs) (pattern_none cs some none)

pub pattern_stop : (cs : List ℕ) → goes_on cs ≡ false → pattern_at cs ≡ Some ([], cs)
unfolding pattern_at
pattern_stop cs stop = made_by pattern_of (many goes_on item_at cs) [] cs (many_stop goes_on item_at cs stop)

brace_is_item : (cs : List ℕ) → is_at 0x7B cs ≡ true → item_at cs ≡ made placeholder (placeholder_at cs)
brace_is_item [] is = absurd (false≢true is)
brace_is_item (c ∷ cs) is =
    let at : c ≡ 0x7B = eqb-true c 0x7B is in
    subst (λ (c : ℕ). item_at (c ∷ cs) ≡ made placeholder (placeholder_at (c ∷ cs))) (sym at) refl

brace_goes_on : (cs : List ℕ) → is_at 0x7B cs ≡ true → goes_on cs ≡ true
brace_goes_on [] is = absurd (false≢true is)
brace_goes_on (c ∷ cs) is = ap (λ c. not (c == 0x7D)) (eqb-true c 0x7B is)

pub placeholder_step : (piece : Piece) (cs left : List ℕ) → is_at 0x7B cs ≡ true → placeholder_at cs ≡ Some (piece, left) → pattern_at cs ≡ made (onto piece) (pattern_at left)
unfolding pattern_at
placeholder_step piece cs left is finds =
    ap (made pattern_of) (many_some goes_on item_at refl items_shorten cs (placeholder piece) left (brace_goes_on cs is) (brace_is_item cs is ∙ made_by placeholder (placeholder_at cs) piece left finds))
    ∙ made_twice pattern_of (onto (placeholder piece)) (λ items. piece ∷ pattern_of items) (many goes_on item_at left) (λ items. refl)
    ∙ sym (made_twice (onto piece) pattern_of (λ items. piece ∷ pattern_of items) (many goes_on item_at left) (λ items. refl))

pub placeholder_none : (cs : List ℕ) → is_at 0x7B cs ≡ true → placeholder_at cs ≡ None → pattern_at cs ≡ None
placeholder_none cs is none = pattern_none cs (brace_goes_on cs is) (brace_is_item cs is ∙ made_none placeholder (placeholder_at cs) none)

pub placeholder_shorter : (piece : Piece) (cs left : List ℕ) → is_at 0x7B cs ≡ true → placeholder_at cs ≡ Some (piece, left) → length left < length cs
placeholder_shorter piece cs left is finds = items_shorten cs (placeholder piece) left (brace_goes_on cs is) (brace_is_item cs is ∙ made_by placeholder (placeholder_at cs) piece left finds)

-- before no text, the characters make one text
onto_empty : (c : ℕ) (cs : List ℕ) → onto_all (c ∷ cs) [] ≡ Pieces.Text (c ∷ cs) ∷ []
onto_empty c [] = refl
onto_empty c (d ∷ cs) = ap (onto_text c) (onto_empty d cs)

onto_expression : (c : ℕ) (cs : List ℕ) (piece : Piece) (pieces : List Piece) → ((value : List ℕ) → piece ≡ Pieces.Text value → ⊥) → onto_all (c ∷ cs) (piece ∷ pieces) ≡ Pieces.Text (c ∷ cs) ∷ piece ∷ pieces
onto_expression c [] (Pieces.Text value) pieces other = absurd (other value refl)
onto_expression c [] (Pieces.Expression node) pieces other = refl
onto_expression c [] (Pieces.Markup node) pieces other = refl
onto_expression c (d ∷ cs) piece pieces other = ap (onto_text c) (onto_expression d cs piece pieces other)

placeholder_is_no_text : (cs : List ℕ) (piece : Piece) (left : List ℕ) → placeholder_at cs ≡ Some (piece, left) → (value : List ℕ) → piece ≡ Pieces.Text value → ⊥
placeholder_is_no_text cs piece left finds value is =
    let spelled = placeholder_sound cs piece left finds in
    subst (λ piece. SpellsPlaceholder piece spelled.taken) is spelled.is

text_before_placeholder : (c : ℕ) (text cs : List ℕ) (found : Found Piece) → is_at 0x7B cs ≡ true → placeholder_at cs ≡ found → made (onto_all (c ∷ text)) (pattern_at cs) ≡ made (onto (Pieces.Text (c ∷ text))) (pattern_at cs)
text_before_placeholder c text cs None is at =
    let none = placeholder_none cs is at in
    ap (made (onto_all (c ∷ text))) none ∙ sym (ap (made (onto (Pieces.Text (c ∷ text)))) none)
text_before_placeholder c text cs (Some (piece, left)) is at =
    let step = placeholder_step piece cs left is at in
    ap (made (onto_all (c ∷ text))) step
    ∙ made_twice (onto_all (c ∷ text)) (onto piece) (λ pieces. Pieces.Text (c ∷ text) ∷ piece ∷ pieces) (pattern_at left) (λ pieces. onto_expression c text piece pieces (placeholder_is_no_text cs piece left at))
    ∙ sym (made_twice (onto (Pieces.Text (c ∷ text))) (onto piece) (λ pieces. Pieces.Text (c ∷ text) ∷ piece ∷ pieces) (pattern_at left) (λ pieces. refl))
    ∙ sym (ap (made (onto (Pieces.Text (c ∷ text)))) step)

text_before_stop : (c : ℕ) (text cs : List ℕ) → goes_on cs ≡ false → made (onto_all (c ∷ text)) (pattern_at cs) ≡ made (onto (Pieces.Text (c ∷ text))) (pattern_at cs)
text_before_stop c text cs stop =
    ap (made (onto_all (c ∷ text))) (pattern_stop cs stop) ∙ ap (λ pieces. Some (pieces, cs)) (onto_empty c text) ∙ sym (ap (made (onto (Pieces.Text (c ∷ text)))) (pattern_stop cs stop))

text_before_end : (c : ℕ) (text cs : List ℕ) → text_ends cs ≡ true → made (onto_all (c ∷ text)) (pattern_at cs) ≡ made (onto (Pieces.Text (c ∷ text))) (pattern_at cs)
text_before_end c text [] ends = text_before_stop c text [] refl
text_before_end c text (d ∷ cs) ends =
    elim (or_cases (d == 0x7B) (d == 0x7D) ends) [
      | inl brace ↦ text_before_placeholder c text (d ∷ cs) (placeholder_at (d ∷ cs)) brace refl
      | inr close ↦ text_before_stop c text (d ∷ cs) (ap not close)
    ]

pub passed_stop : (text start cs : List ℕ) → Passed text start cs → text_ends cs ≡ true → text ≢ [] → pattern_at start ≡ made (onto (Pieces.Text text)) (pattern_at cs)
passed_stop [] start cs passed ends some = absurd (some refl)
passed_stop (c ∷ text) start cs passed ends some = passed.joins ∙ text_before_end c text cs ends

-- behind a text that began, something was passed
pub passed_some : (text start cs : List ℕ) → Passed text start cs → text_ends cs ≡ true → text_ends start ≡ false → (text ≢ []) × (length cs < length start)
passed_some [] start cs passed ends goes = absurd (false≢true (sym goes ∙ ap text_ends (sym (passed.empty refl)) ∙ ends))
passed_some (c ∷ text) start cs passed ends goes = ((λ empty. cc), omega (arith, passed.longer))

-- a pattern, piece by piece
pub piece_stop : (all : Found (List Piece)) (pieces : List Piece) (cs : List ℕ) → Gathered all pieces (pattern_at cs) → goes_on cs ≡ false → all ≡ Some (pieces, cs)
piece_stop all pieces cs gathered stop = gathered ∙ ap (made (λ more. pieces ++ more)) (pattern_stop cs stop) ∙ ap (λ pieces. Some (pieces, cs)) (append-nil pieces)

pub piece_none : (all : Found (List Piece)) (pieces : List Piece) (cs : List ℕ) → Gathered all pieces (pattern_at cs) → pattern_at cs ≡ None → all ≡ None
piece_none all pieces cs gathered none = gathered ∙ made_none (λ more. pieces ++ more) (pattern_at cs) none

-- one character
no_brace : (c : ℕ) → is_text c ≡ true → not (c == 0x7D) ≡ true
no_brace c text = by (c == 0x7D) refl where
  by : (is : Bool) → (c == 0x7D) ≡ is → not (c == 0x7D) ≡ true
  by true is = absurd (false≢true (subst (λ (c : ℕ). is_text c ≡ true) (eqb-true c 0x7D is) text))
  by false is = ap not is

passed_character : (c : ℕ) (cs left : List ℕ) → goes_on cs ≡ true → item_at cs ≡ Some (character c, left) → Passed (c ∷ []) cs left
passed_character c cs left some finds = record {
  joins = pattern_step c cs left some finds;
  empty = λ empty. absurd (cc);
  longer = omega (arith, items_shorten cs (character c) left some finds);
}

-- a run of characters that stand for themselves
run_passed : (cs : List ℕ) → Passed (run is_text cs) cs (behind_run is_text cs)
run_passed [] = passed_nothing [] [] refl
run_passed (c ∷ cs) =
    elim (cases_Bool (is_text c)) [
      | inl plain ↦
          let first = passed_character c (c ∷ cs) cs (no_brace c plain) (cond-true (is_text c) _ _ plain) in
          subst (Passed (run is_text (c ∷ cs)) (c ∷ cs)) (sym (behind_more is_text c cs plain))
          (passed_more (c ∷ []) (run is_text cs) (run is_text (c ∷ cs)) (c ∷ cs) cs (behind_run is_text cs) first (run_passed cs) (run_more is_text c cs plain))
      | inr other ↦
          subst (Passed (run is_text (c ∷ cs)) (c ∷ cs)) (sym (behind_ends is_text (c ∷ cs) other))
          (passed_nothing (run is_text (c ∷ cs)) (c ∷ cs) (run_ends is_text (c ∷ cs) other))
    ]

pub passed_run : (text more start cs left : List ℕ) → Passed text start cs → more ≡ text ++ run is_text cs → left ≡ behind_run is_text cs → Passed more start left
passed_run text more start cs left passed is leaves =
    subst (Passed more start) (sym leaves) (passed_more text (run is_text cs) more start cs (behind_run is_text cs) passed (run_passed cs) is)

-- an escape
escape_passed : (c : ℕ) (cs left : List ℕ) → Escape c cs left → Passed (c ∷ []) cs left
escape_passed c cs left escape =
    let finds : item_at (0x5C ∷ c ∷ left) ≡ Some (character c, left) = ap (made character) (cond-true (is_escapable c) _ _ escape.may) in
    subst (λ cs. Passed (c ∷ []) cs left) (sym escape.split) (passed_character c (0x5C ∷ c ∷ left) left refl finds)

pub passed_escape : (c : ℕ) (text more start cs left : List ℕ) → Passed text start cs → escape_at cs ≡ Some (c, left) → more ≡ text ++ c ∷ [] → Passed more start left
passed_escape c text more start cs left passed finds is = passed_more text (c ∷ []) more start cs left passed (escape_passed c cs left (escape_parts c cs left finds)) is

or_false : (a b : Bool) → (a || b) ≡ false → (a ≡ false) × (b ≡ false)
or_false false false is = (refl, refl)
or_false false true is = absurd (false≢true (sym is))
or_false true b is = absurd (false≢true (sym is))

-- neither of the two, nor the end
no_placeholder : (c : ℕ) (cs : List ℕ) → (c == 0x7B) ≡ false → placeholder_at (c ∷ cs) ≡ None
unfolding placeholder_at inside
no_placeholder c cs other = behind_none (option_map after_space (one_at 0x7B (c ∷ cs))) inner_placeholder_at (ap (option_map after_space) (cond-false (c == 0x7B) _ _ other))

escape_is_item : (c : ℕ) (rest : List ℕ) → is_text c ≡ false → (c == 0x7B) ≡ false → item_at (c ∷ rest) ≡ made character (escape_at (c ∷ rest))
unfolding escape_at
escape_is_item c rest other no_brace =
    elim (cases_Bool (c == 0x5C)) [
      | inl backslash ↦
          cond-false (is_text c) _ _ other ∙ cond-true (c == 0x5C) _ _ backslash
          ∙ ap (made character) (sym (ap (option_and_then escaped) (cond-true (c == 0x5C) (Some rest) None backslash)))
      | inr no_backslash ↦
          cond-false (is_text c) _ _ other ∙ cond-false (c == 0x5C) _ _ no_backslash ∙ made_none placeholder (placeholder_at (c ∷ rest)) (no_placeholder c rest no_brace)
          ∙ sym (ap (made character) (ap (option_and_then escaped) (cond-false (c == 0x5C) (Some rest) None no_backslash)))
    ]

pub no_item : (cs : List ℕ) → is_next is_text cs ≡ false → text_ends cs ≡ false → escape_at cs ≡ None → (goes_on cs ≡ true) × (item_at cs ≡ None)
no_item [] plain goes none = absurd (false≢true (sym goes))
no_item (c ∷ rest) plain goes none =
    let braces = or_false (c == 0x7B) (c == 0x7D) goes in (
      ap not braces.1,
      escape_is_item c rest plain braces.0 ∙ made_none character (escape_at (c ∷ rest)) none,
    )

pub passed_wrong : (text start cs : List ℕ) → Passed text start cs → is_next is_text cs ≡ false → text_ends cs ≡ false → escape_at cs ≡ None → pattern_at start ≡ None
passed_wrong text start cs passed plain goes none = let item = no_item cs plain goes none in passed_none text start cs passed item.0 item.1

-- what was found, by cases
pub match_some : {X : Type 0} (found : Option X) (x : X) (Nothing : Type 0) (Some_ : X → Type 0) → found ≡ Some x → MatchOption found Nothing Some_ → Some_ x
match_some None x Nothing Some_ is given = absurd (cc)
match_some {X = X} (Some y) x Nothing Some_ is given = subst Some_ (same y x is) given where
  same : (y x : X) → Some y ≡ Some x → y ≡ x
  same y x is = cc

pub match_none : {X : Type 0} (found : Option X) (Nothing : Type 0) (Some_ : X → Type 0) → found ≡ None → MatchOption found Nothing Some_ → Nothing
match_none None Nothing Some_ is given = given
match_none (Some y) Nothing Some_ is given = absurd (cc)
