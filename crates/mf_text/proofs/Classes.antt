-- Classes of characters that have none in common.
use Rattle.std.proofs.Common.{◌≡◌, ℕ, suc, Bool, true, false, ◌&&◌, ◌||◌, [], ◌∷◌, refl, sym, ◌∙◌, inl, inr, arith}
use Rattle.std.proofs.lemmas.Bool.{and_parts, or_cases, or_left, or_right, cases_Bool, leb-true, false≢true}
use Rattle.std.specs.Prelude.{nat_le}
use Rattle.mf_text.specs.Characters.{Table, is_in, ws, bidi, name_start_below, name_start_above, name_rest, is_ws, is_bidi, is_space, is_name_start, is_name_char}

-- one range ends before the other begins
abbrev ends_before : ℕ × ℕ → ℕ × ℕ → Bool
ends_before row other = nat_le (suc row.1) other.0

abbrev is_apart : ℕ × ℕ → Table → Bool
is_apart row [] = true
is_apart row (other ∷ others) = (ends_before row other || ends_before other row) && is_apart row others

-- no code point is in both tables
abbrev pub are_apart : Table → Table → Bool
are_apart [] others = true
are_apart (row ∷ rows) others = is_apart row others && are_apart rows others

abbrev within : ℕ × ℕ → ℕ → Bool
within row c = nat_le row.0 c && nat_le c row.1

not_both : (row other : ℕ × ℕ) (c : ℕ) → (ends_before row other || ends_before other row) ≡ true → within row c ≡ true → within other c ≡ true → ⊥
not_both row other c apart one two =
    let low = and_parts (nat_le row.0 c) (nat_le c row.1) one in
    let high = and_parts (nat_le other.0 c) (nat_le c other.1) two in
    elim (or_cases (ends_before row other) (ends_before other row) apart) [
      | inl before ↦ omega (arith, leb-true _ _ before, leb-true _ _ low.0, leb-true _ _ low.1, leb-true _ _ high.0, leb-true _ _ high.1)
      | inr behind ↦ omega (arith, leb-true _ _ behind, leb-true _ _ low.0, leb-true _ _ low.1, leb-true _ _ high.0, leb-true _ _ high.1)
    ]

not_in : (row : ℕ × ℕ) (others : Table) (c : ℕ) → is_apart row others ≡ true → within row c ≡ true → is_in others c ≡ true → ⊥
not_in row [] c apart one two = false≢true two
not_in row (other ∷ others) c apart one two =
    let parts = and_parts (ends_before row other || ends_before other row) (is_apart row others) apart in
    elim (or_cases (within other c) (is_in others c) two) [
      | inl here ↦ not_both row other c parts.0 one here
      | inr behind ↦ not_in row others c parts.1 one behind
    ]

-- what is in one of two tables that are apart is not in the other
pub apart : (rows others : Table) (c : ℕ) → are_apart rows others ≡ true → is_in rows c ≡ true → is_in others c ≡ true → ⊥
apart [] others c are one two = false≢true one
apart (row ∷ rows) others c are one two =
    let parts = and_parts (is_apart row others) (are_apart rows others) are in
    elim (or_cases (within row c) (is_in rows c) one) [
      | inl here ↦ not_in row others c parts.0 here two
      | inr behind ↦ apart rows others c parts.1 behind two
    ]

no_name_char : (rows : Table) (c : ℕ) → are_apart rows name_start_below ≡ true → are_apart rows name_start_above ≡ true → are_apart rows name_rest ≡ true →
    is_in rows c ≡ true → is_name_char c ≡ false
unfolding is_name_char is_name_start
no_name_char rows c below above rest is =
    elim (cases_Bool (is_name_char c)) [
      | inl name ↦
          elim (or_cases (is_name_start c) (is_in name_rest c) name) [
            | inl start ↦
                elim (or_cases (is_in name_start_below c) (is_in name_start_above c) start) [
                  | inl low ↦ absurd (apart rows name_start_below c below is low)
                  | inr high ↦ absurd (apart rows name_start_above c above is high)
                ]
            | inr rests ↦ absurd (apart rows name_rest c rest is rests)
          ]
      | inr other ↦ other
    ]

-- no white space is a name-char
pub ws_is_no_name_char : (c : ℕ) → is_ws c ≡ true → is_name_char c ≡ false
ws_is_no_name_char c is = no_name_char ws c refl refl refl is

-- no mark of direction is a name-char
pub mark_is_no_name_char : (c : ℕ) → is_bidi c ≡ true → is_name_char c ≡ false
mark_is_no_name_char c is = no_name_char bidi c refl refl refl is

pub space_is_no_name_char : (c : ℕ) → is_space c ≡ true → is_name_char c ≡ false
space_is_no_name_char c is =
    elim (or_cases (is_ws c) (is_bidi c) is) [
      | inl white ↦ ws_is_no_name_char c white
      | inr mark ↦ mark_is_no_name_char c mark
    ]

-- no mark of direction is white space
pub mark_is_no_ws : (c : ℕ) → is_bidi c ≡ true → is_ws c ≡ true → ⊥
mark_is_no_ws c mark white = apart bidi ws c refl mark white

-- what a name begins with it may go on with
pub name_start_is_name_char : (c : ℕ) → is_name_start c ≡ true → is_name_char c ≡ true
unfolding is_name_char
name_start_is_name_char c is = or_left (is_name_start c) (is_in name_rest c) is

pub mark_is_no_name_start : (c : ℕ) → is_bidi c ≡ true → is_name_start c ≡ false
mark_is_no_name_start c is =
    elim (cases_Bool (is_name_start c)) [
      | inl start ↦ absurd (false≢true (sym (mark_is_no_name_char c is) ∙ name_start_is_name_char c start))
      | inr other ↦ other
    ]

pub name_start_is_no_mark : (c : ℕ) → is_name_start c ≡ true → is_bidi c ≡ false
name_start_is_no_mark c is =
    elim (cases_Bool (is_bidi c)) [
      | inl mark ↦ absurd (false≢true (sym (mark_is_no_name_start c mark) ∙ is))
      | inr other ↦ other
    ]

pub ws_is_no_mark : (c : ℕ) → is_ws c ≡ true → is_bidi c ≡ false
ws_is_no_mark c is = elim (cases_Bool (is_bidi c)) [ inl mark ↦ absurd (mark_is_no_ws c mark is) | inr other ↦ other ]

-- white space and marks are the space
pub ws_is_space : (c : ℕ) → is_ws c ≡ true → is_space c ≡ true
ws_is_space c is = or_left (is_ws c) (is_bidi c) is

pub mark_is_space : (c : ℕ) → is_bidi c ≡ true → is_space c ≡ true
mark_is_space c is = or_right (is_ws c) (is_bidi c) is

pub name_char_is_no_mark : (c : ℕ) → is_name_char c ≡ true → is_bidi c ≡ false
name_char_is_no_mark c is =
    elim (cases_Bool (is_bidi c)) [
      | inl mark ↦ absurd (false≢true (sym (mark_is_no_name_char c mark) ∙ is))
      | inr other ↦ other
    ]
