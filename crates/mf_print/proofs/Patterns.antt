-- The canonical source of a pattern spells it.
use Rattle.std.proofs.Common.{◌≡◌, ◌≢◌, ℕ, Bool, true, false, ◌&&◌, ◌||◌, ◌==◌, not, List, [], ◌∷◌, ◌++◌, map, codes, refl, ap, sym, ◌∙◌, subst, inl, inr, append_assoc}
use Rattle.std.specs.Prelude.{nat_le}
use Rattle.std.proofs.lemmas.Bool.{cases_Bool, cond-true, cond-false, false≢true}
use Rattle.std.specs.List.{AllByRecursion}
use Rattle.mf_text.specs.Characters.{is_in, is_ws, is_bidi, is_space, is_text}
use Rattle.mf_text.specs.Languages.{Word, ◌⋅◌}
use Rattle.mf_tree.specs.declared.pattern.Piece.{Piece}
use Rattle.mf_tree.specs.declared.pattern.Piece.TheVariants as Pieces
use Rattle.mf_tree.specs.Nodes.{HasNoNull, IsPiece, AreApart, IsPattern}
use Rattle.mf_tree.specs.Grammar.{Item, character, placeholder, SpellsItem, SpellsItems, SpellsPlaceholder, SpellsSimpleStart, SpellsFromStart, SpellsSpace, SpellsSimpleMessage, SpellsQuotedPattern, onto_text, pattern_of}
use Rattle.mf_tree.specs.Canonical.{escaped, escaped_in_text, text_source, piece_source, pattern_source, quoted_pattern_source, begins_with_full_stop, must_be_quoted}
use Rattle.mf_print.proofs.Escapes.{text_character, is_plain_text, escape_is, plain_is, of_escaped, text_escapable, point}
use Rattle.mf_print.proofs.Spelling.{both, behind_word, expression, markup}

-- the items that a pattern is printed by
abbrev items_of : List Piece → List Item
items_of [] = []
items_of (Pieces.Text text ∷ pieces) = map character text ++ items_of pieces
items_of (Pieces.Expression node ∷ pieces) = placeholder (Pieces.Expression node) ∷ items_of pieces
items_of (Pieces.Markup node ∷ pieces) = placeholder (Pieces.Markup node) ∷ items_of pieces

-- characters before items
characters : (text : List ℕ) (items : List Item) (rest : List ℕ) → HasNoNull text → SpellsItems items rest → SpellsItems (map character text ++ items) (text_source text ++ rest)
characters [] items rest some spelled = spelled
characters (c ∷ cs) items rest some spelled =
    subst (SpellsItems (map character (c ∷ cs) ++ items)) (sym (append_assoc (escaped escaped_in_text c) (text_source cs) rest))
    (both (SpellsItem (character c)) (SpellsItems (map character cs ++ items)) (escaped escaped_in_text c) (text_source cs ++ rest) (text_character c some.0) (characters cs items rest some.1 spelled))

no_null : (text : List ℕ) → IsPiece (Pieces.Text text) → HasNoNull text
no_null [] is = absurd is
no_null (c ∷ cs) is = is

spelled : (pieces : List Piece) → AllByRecursion IsPiece pieces → SpellsItems (items_of pieces) (pattern_source pieces)
spelled [] good = refl
spelled (Pieces.Text text ∷ pieces) good = characters text (items_of pieces) (pattern_source pieces) (no_null text good.0) (spelled pieces good.1)
spelled (Pieces.Expression node ∷ pieces) good =
    both (SpellsPlaceholder (Pieces.Expression node)) (SpellsItems (items_of pieces)) (piece_source (Pieces.Expression node)) (pattern_source pieces) (expression node good.0) (spelled pieces good.1)
spelled (Pieces.Markup node ∷ pieces) good =
    both (SpellsPlaceholder (Pieces.Markup node)) (SpellsItems (items_of pieces)) (piece_source (Pieces.Markup node)) (pattern_source pieces) (markup node good.0) (spelled pieces good.1)

-- pieces that don't begin with a text
abbrev BeginsOtherwise : List Piece → Type 0
BeginsOtherwise [] = Unit {0}
BeginsOtherwise (Pieces.Text text ∷ pieces) = ⊥
BeginsOtherwise (Pieces.Expression node ∷ pieces) = Unit {0}
BeginsOtherwise (Pieces.Markup node ∷ pieces) = Unit {0}

-- characters before such pieces make one text
one_text : (c : ℕ) (cs : List ℕ) (items : List Item) (pieces : List Piece) → pattern_of items ≡ pieces → BeginsOtherwise pieces →
    pattern_of (map character (c ∷ cs) ++ items) ≡ Pieces.Text (c ∷ cs) ∷ pieces
one_text c (d ∷ cs) items pieces meant other = ap (onto_text c) (one_text d cs items pieces meant other)
one_text c [] items [] meant other = ap (onto_text c) meant
one_text c [] items (Pieces.Text text ∷ pieces) meant other = absurd other
one_text c [] items (Pieces.Expression node ∷ pieces) meant other = ap (onto_text c) meant
one_text c [] items (Pieces.Markup node ∷ pieces) meant other = ap (onto_text c) meant

apart_behind : (text : List ℕ) (pieces : List Piece) → AreApart (Pieces.Text text ∷ pieces) → BeginsOtherwise pieces × AreApart pieces
apart_behind text [] apart = (tt, tt)
apart_behind text (Pieces.Text other ∷ pieces) apart = absurd apart
apart_behind text (Pieces.Expression node ∷ pieces) apart = (tt, apart)
apart_behind text (Pieces.Markup node ∷ pieces) apart = (tt, apart)

-- the items mean the pattern again
meant : (pieces : List Piece) → AllByRecursion IsPiece pieces → AreApart pieces → pattern_of (items_of pieces) ≡ pieces
meant [] good apart = refl
meant (Pieces.Text [] ∷ pieces) good apart = absurd good.0
meant (Pieces.Text (c ∷ cs) ∷ pieces) good apart =
    let behind = apart_behind (c ∷ cs) pieces apart in
    one_text c cs (items_of pieces) pieces (meant pieces good.1 behind.1) behind.0
meant (Pieces.Expression node ∷ pieces) good apart = ap (λ rest. Pieces.Expression node ∷ rest) (meant pieces good.1 apart)
meant (Pieces.Markup node ∷ pieces) good apart = ap (λ rest. Pieces.Markup node ∷ rest) (meant pieces good.1 apart)

pub quoted : (pieces : List Piece) → IsPattern pieces → SpellsQuotedPattern pieces (quoted_pattern_source pieces)
quoted pieces is = record {
  items = items_of pieces;
  meant = sym (meant pieces is.0 is.1);
  spelled =
      behind_word (codes "{{") (SpellsItems (items_of pieces) ⋅ Word (codes "}}")) (pattern_source pieces ++ codes "}}")
      (both (SpellsItems (items_of pieces)) (Word (codes "}}")) (pattern_source pieces) (codes "}}") (spelled pieces is.0) refl);
}

-- white space and marks before a simple start
record Starts (text : List ℕ) (items : List Item) (rest : List ℕ) : Type 0 where
  pub space : List ℕ
  pub items_behind : List Item
  pub same_items : map character text ++ items ≡ map character space ++ items_behind
  pub starts : (SpellsSpace space ⋅ SpellsFromStart items_behind) (text_source text ++ rest)

space_is_plain : (c : ℕ) → is_space c ≡ true → is_in escaped_in_text c ≡ false
space_is_plain c is =
    elim (cases_Bool (is_in escaped_in_text c)) [
      | inl other ↦ absurd (false≢true (sym (of_escaped is_space false c refl refl refl other) ∙ is))
      | inr plain ↦ plain
    ]

simple_start : (t w b s : Bool) → t ≡ true → (w || b) ≡ false → s ≡ false → (t && not (w || (s || false))) ≡ true
simple_start false w b s text other no_stop = absurd (false≢true text)
simple_start true true b s text other no_stop = absurd (false≢true (sym other))
simple_start true false b true text other no_stop = absurd (false≢true (sym no_stop))
simple_start true false b false text other no_stop = refl

no_full_stop : (c : ℕ) → (c == 0x2E) ≡ false → (nat_le 0x2E c && nat_le c 0x2E) ≡ false
no_full_stop c other =
    elim (cases_Bool (nat_le 0x2E c && nat_le c 0x2E)) [
      | inl is ↦ absurd (false≢true (sym other ∙ subst (λ (c : ℕ). (c == 0x2E) ≡ true) (point 0x2E c is) refl))
      | inr is ↦ is
    ]

-- a character that is neither space nor a full stop begins a simple message
start_character : (c : ℕ) → c ≢ 0 → is_space c ≡ false → (c == 0x2E) ≡ false → SpellsSimpleStart (character c) (escaped escaped_in_text c)
start_character c some other no_stop =
    elim (cases_Bool (is_in escaped_in_text c)) [
      | inl is ↦ inr (escape_is escaped_in_text c is, text_escapable c is)
      | inr plain ↦ inl (plain_is escaped_in_text c plain, simple_start (is_text c) (is_ws c) (is_bidi c) _ (is_plain_text c some plain) other (no_full_stop c no_stop))
    ]

-- one more character of the space
more_space : (c : ℕ) (cs : List ℕ) (items : List Item) (rest : List ℕ) → is_space c ≡ true → Starts cs items rest → Starts (c ∷ cs) items rest
more_space c cs items rest is behind =
    let parts = behind.starts in
    record {
      space = c ∷ behind.space;
      items_behind = behind.items_behind;
      same_items = ap (λ (items : List Item). character c ∷ items) behind.same_items;
      starts = record {
        front = c ∷ parts.front;
        back = parts.back;
        whole =
            ap (λ (front : List ℕ). (front ++ text_source cs) ++ rest) (plain_is escaped_in_text c (space_is_plain c is))
            ∙ ap (λ (cs : List ℕ). c ∷ cs) parts.whole;
        first = (ap (λ (cs : List ℕ). c ∷ cs) parts.first.0, (is, parts.first.1));
        second = parts.second;
      };
    }

starts : (text : List ℕ) (items : List Item) (rest : List ℕ) → HasNoNull text → begins_with_full_stop text ≡ false → SpellsFromStart items rest → SpellsItems items rest → Starts text items rest
starts [] items rest some simple begins spelled =
    record { space = []; items_behind = items; same_items = refl; starts = both (SpellsSpace []) (SpellsFromStart items) [] rest (refl, tt) begins }
starts (c ∷ cs) items rest some simple begins spelled =
    elim (cases_Bool (is_space c)) [
      | inl is ↦ more_space c cs items rest is (starts cs items rest some.1 (sym (cond-true (is_space c) _ _ is) ∙ simple) begins spelled)
      | inr other ↦
          let first = start_character c some.0 other (sym (cond-false (is_space c) _ _ other) ∙ simple) in
          let behind = map character cs ++ items in
          record {
            space = [];
            items_behind = character c ∷ behind;
            same_items = refl;
            starts =
                both (SpellsSpace []) (SpellsFromStart (character c ∷ behind)) [] (text_source (c ∷ cs) ++ rest) (refl, tt)
                (subst (SpellsFromStart (character c ∷ behind)) (sym (append_assoc (escaped escaped_in_text c) (text_source cs) rest))
                (both (SpellsSimpleStart (character c)) (SpellsItems behind) (escaped escaped_in_text c) (text_source cs ++ rest) first (characters cs items rest some.1 spelled)));
          }
    ]

from_start : (pieces : List Piece) → AllByRecursion IsPiece pieces → BeginsOtherwise pieces → SpellsFromStart (items_of pieces) (pattern_source pieces)
from_start [] good other = refl
from_start (Pieces.Text text ∷ pieces) good other = absurd other
from_start (Pieces.Expression node ∷ pieces) good other =
    both (SpellsSimpleStart (placeholder (Pieces.Expression node))) (SpellsItems (items_of pieces)) (piece_source (Pieces.Expression node)) (pattern_source pieces) (expression node good.0) (spelled pieces good.1)
from_start (Pieces.Markup node ∷ pieces) good other =
    both (SpellsSimpleStart (placeholder (Pieces.Markup node))) (SpellsItems (items_of pieces)) (piece_source (Pieces.Markup node)) (pattern_source pieces) (markup node good.0) (spelled pieces good.1)

no_text_first : (pieces : List Piece) → IsPattern pieces → BeginsOtherwise pieces → SpellsSimpleMessage pieces (pattern_source pieces)
no_text_first pieces is other = record {
  space = [];
  items = items_of pieces;
  meant = sym (meant pieces is.0 is.1);
  spelled = both (SpellsSpace []) (SpellsFromStart (items_of pieces)) [] (pattern_source pieces) (refl, tt) (from_start pieces is.0 other);
}

pub simple : (pieces : List Piece) → IsPattern pieces → must_be_quoted pieces ≡ false → SpellsSimpleMessage pieces (pattern_source pieces)
simple [] is plain = no_text_first [] is tt
simple (Pieces.Expression node ∷ pieces) is plain = no_text_first (Pieces.Expression node ∷ pieces) is tt
simple (Pieces.Markup node ∷ pieces) is plain = no_text_first (Pieces.Markup node ∷ pieces) is tt
simple (Pieces.Text text ∷ pieces) is plain =
    let other = (apart_behind text pieces is.1).0 in
    let begins = starts text (items_of pieces) (pattern_source pieces) (no_null text is.0.0) plain (from_start pieces is.0.1 other) (spelled pieces is.0.1) in
    record {
      space = begins.space;
      items = begins.items_behind;
      meant = sym (meant (Pieces.Text text ∷ pieces) is.0 is.1) ∙ ap pattern_of begins.same_items;
      spelled = begins.starts;
    }
