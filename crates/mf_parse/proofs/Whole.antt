-- Whole messages, step by step.
use Rattle.std.proofs.Common.{◌≡◌, ◌≢◌, ℕ, true, false, ◌==◌, not, Option, Some, None, List, [], ◌∷◌, refl, ap, sym, ◌∙◌}
use Rattle.std.specs.Prelude.{slice_get}
use Rattle.mf_text.specs.Characters.{is_ws}
use Rattle.mf_lex.specs.Computed.{after_space}
use Rattle.mf_lex.proofs.Runs.{behind_more, behind_ends}
use Rattle.mf_tree.specs.declared.message.Declaration.{Declaration}
use Rattle.mf_tree.specs.declared.message.Body.{Body}
use Rattle.mf_tree.specs.declared.message.Message.{Message}
use Rattle.mf_parse.specs.Parsing.{IsSource}
use Rattle.mf_parse.specs.Computed.{followed, is_at, declarations_at, body_at, message_node, whole, complex_at, begins_simply, simple_at, or_else, message_of}
use Rattle.mf_parse.proofs.Finding.{followed_by}
use Rattle.mf_parse.proofs.Messages.{none_spelled}

-- nothing is left
pub nothing_left : (cs : List ℕ) → slice_get cs 0 ≡ None → cs ≡ []
nothing_left [] none = refl
nothing_left (c ∷ cs) none = absurd (cc)

pub something_left : (cs : List ℕ) (c : ℕ) → slice_get cs 0 ≡ Some c → cs ≢ []
something_left [] c some empty = cc
something_left (d ∷ cs) c some empty = cc

whole_none : {X : Type 0} (x : X) (left : List ℕ) → left ≢ [] → whole (Some (x, left)) ≡ None
whole_none x [] some = absurd (some refl)
whole_none x (c ∷ left) some = refl

complex_found_to : (declarations : List Declaration) (body : Body) (cs a b d left : List ℕ) → a ≡ after_space cs → declarations_at a ≡ Some (declarations, b) → body_at b ≡ Some (body, d) → left ≡ after_space d →
    complex_at cs ≡ whole (Some (message_node declarations body, left))
unfolding complex_at
complex_found_to declarations body cs a b d left first second third last =
    ap whole (ap (λ a. followed (declarations_at a) (λ declarations left. followed (body_at left) (λ body left. Some (message_node declarations body, after_space left)))) (sym first)
    ∙ followed_by _ _ declarations b second ∙ followed_by _ _ body d third ∙ ap (λ left. Some (message_node declarations body, left)) (sym last))

pub complex_more : (declarations : List Declaration) (body : Body) (cs a b d left : List ℕ) → a ≡ after_space cs → declarations_at a ≡ Some (declarations, b) → body_at b ≡ Some (body, d) → left ≡ after_space d → left ≢ [] → complex_at cs ≡ None
complex_more declarations body cs a b d left first second third last some = complex_found_to declarations body cs a b d left first second third last ∙ whole_none (message_node declarations body) left some

-- white space at the front is passed
pub white_passed : (c : ℕ) (cs rest : List ℕ) → cs ≡ c ∷ rest → is_ws c ≡ true → begins_simply cs ≡ begins_simply rest
white_passed c cs rest at white = ap begins_simply at ∙ ap (λ cs. not (is_at 0x2E cs)) (behind_more is_ws c rest white)

pub first_character : (c : ℕ) (cs rest : List ℕ) → cs ≡ c ∷ rest → is_ws c ≡ false → begins_simply cs ≡ not (c == 0x2E)
first_character c cs rest at other = ap begins_simply at ∙ ap (λ cs. not (is_at 0x2E cs)) (behind_ends is_ws (c ∷ rest) other)

-- a message, complex or else simple
pub message_complex : (message : Message) (cs : List ℕ) → complex_at cs ≡ Some message → message_of cs ≡ Some message
unfolding message_of
message_complex message cs finds = ap (λ found. or_else found (simple_at cs)) finds

pub message_simple : (found : Option Message) (cs : List ℕ) → complex_at cs ≡ None → simple_at cs ≡ found → message_of cs ≡ found
unfolding message_of
message_simple found cs none finds = ap (λ complex. or_else complex (simple_at cs)) none ∙ finds

pub no_source : (cs : List ℕ) → message_of cs ≡ None → IsSource cs → ⊥
no_source cs none source = none_spelled cs source.message none source.spelled
