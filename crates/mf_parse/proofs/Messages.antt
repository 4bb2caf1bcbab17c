-- A text spells a message exactly where one is found, and then the one that is found.
use Rattle.std.proofs.Common.{◌≡◌, ℕ, Bool, true, false, ◌==◌, ◌||◌, not, Option, Some, None, List, [], ◌∷◌, ◌++◌, map, refl, ap, sym, ◌∙◌, subst, inl, inr}
use Rattle.std.proofs.lemmas.Bool.{cases_Bool, cond-true, and_parts, or_left, eqb-true, false≢true}
use Rattle.mf_text.specs.Characters.{Table, is_in, is_ws, is_bidi, is_space, is_text, is_simple_start, never_plain, ws, bidi}
use Rattle.mf_text.specs.Languages.{Begins}
use Rattle.mf_text.specs.Grammar.{O}
use Rattle.mf_text.proofs.Classes.{apart, are_apart}
use Rattle.mf_lex.proofs.Begins.{begins_whole}
use Rattle.mf_lex.proofs.Runs.{behind_more, behind_ends}
use Rattle.mf_tree.specs.Grammar.{Item, character, placeholder, pattern_of, SpellsItem, SpellsItems, SpellsSimpleStart, SpellsFromStart, SpellsSimpleMessage, SpellsSimpleBody, SpellsMessage}
use Rattle.mf_tree.specs.declared.pattern.Piece.{Piece}
use Rattle.mf_tree.specs.declared.message.Declaration.{Declaration}
use Rattle.mf_tree.specs.declared.message.Body.{Body}
use Rattle.mf_tree.specs.declared.message.Message.{Message}
use Rattle.mf_tree.specs.declared.message.Body.TheVariants as Bodies
use Rattle.mf_parse.specs.Computed.{is_at, pattern_at, message_node, whole, complex_at, begins_simply, simple_at, or_else, message_of}
use Rattle.mf_parse.proofs.Finding.{made_by}
use Rattle.mf_parse.proofs.SoundMessages.{complex_sound}
use Rattle.mf_parse.proofs.CompleteMessages.{placeholder_here, pattern_complete, complex_complete}
use Rattle.mf_parse.proofs.Apart.{complex_is_no_pattern}

not_in : (rows others : Table) (c : ℕ) → are_apart rows others ≡ true → is_in rows c ≡ true → is_in others c ≡ false
not_in rows others c are is =
    elim (cases_Bool (is_in others c)) [
      | inl both ↦ absurd (apart rows others c are is both)
      | inr other ↦ other
    ]

braces : Table
braces = (0x7B, 0x7B) ∷ (0x7D, 0x7D) ∷ []

text_of : (rows : Table) (c : ℕ) → are_apart rows never_plain ≡ true → are_apart rows braces ≡ true → is_in rows c ≡ true → is_text c ≡ true
unfolding braces
text_of rows c one other is = ap not (ap (λ b. b || is_in braces c) (not_in rows never_plain c one is) ∙ not_in rows braces c other is)

space_is_text : (c : ℕ) → is_space c ≡ true → is_text c ≡ true
unfolding braces
space_is_text c is = of_cases (is_ws c) (is_bidi c) refl refl is where
  of_cases : (white mark : Bool) → is_ws c ≡ white → is_bidi c ≡ mark → (white || mark) ≡ true → is_text c ≡ true
  of_cases true mark white_is mark_is either = text_of ws c refl refl white_is
  of_cases false true white_is mark_is either = text_of bidi c refl refl mark_is
  of_cases false false white_is mark_is either = absurd (false≢true either)

start_is_item : (item : Item) (text : List ℕ) → SpellsSimpleStart item text → SpellsItem item text
start_is_item (character c) text (inl plain) = inl (plain.0, (and_parts (is_text c) _ plain.1).0)
start_is_item (character c) text (inr escape) = inr escape
start_is_item (placeholder piece) text spelled = spelled

from_start_are_items : (items : List Item) (text : List ℕ) → SpellsFromStart items text → SpellsItems items text
from_start_are_items [] text spelled = spelled
from_start_are_items (item ∷ items) text spelled = record { front = spelled.front; back = spelled.back; whole = spelled.whole; first = start_is_item item spelled.front spelled.first; second = spelled.second }

-- the space of a simple message is a row of items too
with_space_items : (space : List ℕ) (items : List Item) (back : List ℕ) → O space → SpellsItems items back → SpellsItems (map character space ++ items) (space ++ back)
with_space_items [] items back spaces spelled = spelled
with_space_items (c ∷ space) items back spaces spelled =
    record { front = c ∷ []; back = space ++ back; whole = refl; first = inl (refl, space_is_text c spaces.0); second = with_space_items space items back spaces.1 spelled }

not_stop : (c : ℕ) → is_simple_start c ≡ true → (is_ws c ≡ false) × ((c == 0x2E) ≡ false)
not_stop c start = (white, stop) where
  white : is_ws c ≡ false
  white =
      elim (cases_Bool (is_ws c)) [
        | inl is ↦ absurd (false≢true (sym (ap not (or_left (is_ws c) (is_in ((0x2E, 0x2E) ∷ []) c) is)) ∙ (and_parts (is_text c) _ start).1))
        | inr other ↦ other
      ]

  stop : (c == 0x2E) ≡ false
  stop =
      elim (cases_Bool (c == 0x2E)) [
        | inl is ↦ absurd (false≢true (subst (λ (c : ℕ). is_simple_start c ≡ true) (eqb-true c 0x2E is) start))
        | inr other ↦ other
      ]

start_begins : (items : List Item) (text : List ℕ) → SpellsFromStart items text → begins_simply text ≡ true
start_begins [] text spelled = ap begins_simply spelled
start_begins (character c ∷ items) text spelled =
    elim spelled.first [
      | inl plain ↦
          let parts = not_stop c plain.1 in
          ap begins_simply (spelled.whole ∙ ap (λ front. front ++ spelled.back) plain.0) ∙ ap (λ cs. not (is_at 0x2E cs)) (behind_ends is_ws (c ∷ spelled.back) parts.0) ∙ ap not parts.1
      | inr escape ↦ ap begins_simply (spelled.whole ∙ ap (λ front. front ++ spelled.back) escape.0)
    ]
start_begins (placeholder piece ∷ items) text spelled =
    let begins : Begins (SpellsItem (placeholder piece)) text spelled.back = record { taken = spelled.front; whole = spelled.whole; is = spelled.first } in
    ap begins_simply (placeholder_here piece text spelled.back begins).1

space_is_no_stop : (c : ℕ) → is_space c ≡ true → (c == 0x2E) ≡ false
space_is_no_stop c space =
    elim (cases_Bool (c == 0x2E)) [
      | inl stop ↦ absurd (false≢true (subst (λ (c : ℕ). is_space c ≡ true) (eqb-true c 0x2E stop) space))
      | inr other ↦ other
    ]

simple_begins : (space : List ℕ) (items : List Item) (back : List ℕ) → O space → SpellsFromStart items back → begins_simply (space ++ back) ≡ true
simple_begins [] items back spaces spelled = start_begins items back spelled
simple_begins (c ∷ space) items back spaces spelled =
    elim (cases_Bool (is_ws c)) [
      | inl white ↦ ap (λ cs. not (is_at 0x2E cs)) (behind_more is_ws c (space ++ back) white) ∙ simple_begins space items back spaces.1 spelled
      | inr other ↦ ap (λ cs. not (is_at 0x2E cs)) (behind_ends is_ws (c ∷ space ++ back) other) ∙ ap not (space_is_no_stop c spaces.0)
    ]

-- the items of a simple message
record Simple (pieces : List Piece) (cs : List ℕ) : Type 0 where
  items : List Item
  spelled : SpellsItems items cs
  meant : pattern_of items ≡ pieces
  begins : begins_simply cs ≡ true

simple_items : (pieces : List Piece) (cs : List ℕ) → SpellsSimpleMessage pieces cs → Simple pieces cs
simple_items pieces cs message =
    let parts = message.spelled in
    let spaces : O message.space = subst O parts.first.0 parts.first.1 in
    let at : cs ≡ message.space ++ parts.back = parts.whole ∙ ap (λ front. front ++ parts.back) parts.first.0 in record {
      items = map character message.space ++ message.items;
      spelled = subst (SpellsItems (map character message.space ++ message.items)) (sym at) (with_space_items message.space message.items parts.back spaces (from_start_are_items message.items parts.back parts.second));
      meant = sym message.meant;
      begins = ap begins_simply at ∙ simple_begins message.space message.items parts.back spaces parts.second;
    }

simple_complete : (pieces : List Piece) (cs : List ℕ) → SpellsSimpleMessage pieces cs → simple_at cs ≡ Some (message_node [] (Bodies.Pattern pieces))
unfolding simple_at
simple_complete pieces cs message =
    let simple = simple_items pieces cs message in
    cond-true (begins_simply cs) _ _ simple.begins
    ∙ ap whole (made_by (λ pattern. message_node [] (Bodies.Pattern pattern)) (pattern_at cs) (pattern_of simple.items) [] (pattern_complete simple.items cs [] (begins_whole (SpellsItems simple.items) cs simple.spelled) refl))
    ∙ ap (λ pieces. Some (message_node [] (Bodies.Pattern pieces))) simple.meant

simple_is_not_complex : (pieces : List Piece) (cs : List ℕ) → SpellsSimpleMessage pieces cs → complex_at cs ≡ None
simple_is_not_complex pieces cs message = of_found (complex_at cs) refl where
  of_found : (found : Option Message) → complex_at cs ≡ found → complex_at cs ≡ None
  of_found None is = is
  of_found (Some other) is =
      let simple = simple_items pieces cs message in
      absurd (complex_is_no_pattern other simple.items cs (complex_sound cs other is) simple.spelled)

simple_message : (declarations : List Declaration) (body : Body) (cs : List ℕ) → declarations ≡ [] → SpellsSimpleBody body cs → message_of cs ≡ Some (message_node declarations body)
unfolding message_of
simple_message declarations (Bodies.Pattern pieces) cs none spelled =
    ap (λ found. or_else found (simple_at cs)) (simple_is_not_complex pieces cs spelled)
    ∙ simple_complete pieces cs spelled
    ∙ ap (λ declarations. Some (message_node declarations (Bodies.Pattern pieces))) (sym none)
simple_message declarations (Bodies.Match selectors variants) cs none spelled = absurd spelled

-- the message that is spelled is found
pub message_complete : (cs : List ℕ) (message : Message) → SpellsMessage message cs → message_of cs ≡ Some message
unfolding message_of
message_complete cs message (inl simple) = simple_message message.declarations message.body cs simple.0 simple.1
message_complete cs message (inr complex) = ap (λ found. or_else found (simple_at cs)) (complex_complete message cs complex)

-- no message is spelled where none is found
pub none_spelled : (cs : List ℕ) (message : Message) → message_of cs ≡ None → SpellsMessage message cs → ⊥
none_spelled cs message none spelled = let same : ◌≡◌ {A = Option Message} None (Some message) = sym none ∙ message_complete cs message spelled in cc

-- each text spells at most one message
pub message_once : (cs : List ℕ) (message other : Message) → SpellsMessage message cs → SpellsMessage other cs → message ≡ other
message_once cs message other one two = let same : ◌≡◌ {A = Option Message} (Some message) (Some other) = sym (message_complete cs message one) ∙ message_complete cs other two in cc
