-- A request for a sentence has one answer at an edition of a log.
use Rattle.std.proofs.Common.{◌≡◌, ◌<◌, ◌∙◌, inl, inr, ℕ, Bool, true, false, List, [], ◌∷◌, Option, Some, None, ap, sym, subst, arith}
use Rattle.std.proofs.lemmas.Bool.Decides.{eqb_tells}
use Rattle.std.specs.Bool.{MatchBool}
use Rattle.std.specs.Prelude.{nat_lt, option_map, slice_get}
use Rattle.mf_text.specs.declared.arguments.Argued.{Argued}
use Rattle.mf_locale.specs.Chain.{chain_of}
use Rattle.mf_locale.specs.declared.record.LocaleRecord.{LocaleRecord}
use Rattle.mf_plan.proofs.Once.{compiled_once}
use Rattle.mf_tree.specs.Compiled.{Compilation, Invalid, Valid}
use Rattle.mf_tree.specs.declared.message.Body.{Body}
use Rattle.mf_tree.specs.declared.message.Body.TheVariants as body
use Rattle.mf_tree.specs.declared.message.Variant.{Variant}
use Rattle.mf_tree.specs.declared.name.Name.{Name}
use Rattle.mf_tree.specs.declared.pattern.Piece.{Piece}
use Rattle.mf_value.specs.ErrorLists.{Calls}
use Rattle.mf_value.specs.Meaning.{Meaning}
use Rattle.mf_value.specs.Selection.{Chosen, IsLess}
use Rattle.mf_value.specs.Traces.{Bound, bound_variables}
use Rattle.mf_value.specs.declared.value.Value.{Value}
use Rattle.mf_edition.specs.Edition.{edition_of, found_along, EditionState}
use Rattle.mf_edition.specs.Items.{Item}
use Rattle.mf_edition.specs.Records.{place_for}
use Rattle.mf_edition.specs.declared.change.Entry.{Entry}
use Rattle.mf_edition.specs.declared.item.Found.{Found}
use Rattle.mf_answer.specs.Answers.{functions_of, shown_answer, Answer, IsAnswer, IsAnswerFrom, IsAnswerOf, ShowsSource}
use Rattle.mf_answer.specs.Messages.{shown_pattern, ChoosesPattern, Shown, Shows, ShowsPattern}

-- no number is below one that is below it
below : (a b : ℕ) → a < b → b < a → ⊥
below a b less more = omega arith

below_itself : (a b : ℕ) → a < b → b ≡ a → ⊥
below_itself a b less same = omega arith

-- of two lists of ranks one alone is the less
less_once : (a b : List ℕ) → IsLess a b → IsLess b a → ⊥
less_once [] b less more = less
less_once (x ∷ xs) [] less more = less
less_once (x ∷ xs) (y ∷ ys) (inl less) (inl more) = below x y less more
less_once (x ∷ xs) (y ∷ ys) (inl less) (inr more) = below_itself x y less more.0
less_once (x ∷ xs) (y ∷ ys) (inr less) (inl more) = below_itself y x more less.0
less_once (x ∷ xs) (y ∷ ys) (inr less) (inr more) = less_once xs ys less.1 more.1

-- one variant is chosen
chosen_once : (meaning : Meaning) (values : List Value) (variants : List Variant) (one other : ℕ) →
    Chosen meaning values variants one → Chosen meaning values variants other → one ≡ other
chosen_once meaning values variants one other a b = elim (eqb_tells one other) [
  | inl same ↦ same.1
  | inr apart ↦ absurd (less_once a.ranks b.ranks (a.least other b.ranks (λ is. apart.1 (sym is)) b.matches) (b.least one a.ranks apart.1 a.matches))
]

same_pattern : (a b : List Piece) (found : Option (List Piece)) → found ≡ Some a → found ≡ Some b → a ≡ b
same_pattern a b found is other = cc

module _ (locale : LocaleRecord) (meaning : Meaning) (arguments : List (List ℕ × Argued)) where
  pattern_once : (bound : List Bound) (selectors : List Name) (variants : List Variant) (one other : List Piece) →
      ChoosesPattern locale meaning arguments bound selectors variants one → ChoosesPattern locale meaning arguments bound selectors variants other → one ≡ other
  pattern_once bound selectors variants one other a b =
      same_pattern one other _ a.is
      (ap (λ place. option_map (λ (variant : Variant). variant.pattern) (slice_get variants place)) (chosen_once meaning _ variants a.place b.place a.chosen b.chosen) ∙ b.is)

  body_once : (bound : List Bound) (body : Body) (one other : List Piece) (calls others : Calls) →
      ShowsPattern locale meaning arguments bound body one calls → ShowsPattern locale meaning arguments bound body other others → (one ≡ other) × (calls ≡ others)
  body_once bound (body.Pattern pieces) one other calls others a b = (a.0 ∙ sym b.0, a.1 ∙ sym b.1)
  body_once bound (body.Match selectors variants) one other calls others a b =
      (pattern_once bound selectors variants one other a.0 b.0, a.1 ∙ sym b.1)

  same_shown : (bound : List Bound) (one other : List Piece) (calls others : Calls) → (one ≡ other) × (calls ≡ others) →
      shown_pattern locale meaning arguments bound calls one ≡ shown_pattern locale meaning arguments bound others other
  same_shown bound one other calls others same = λ i. shown_pattern locale meaning arguments bound (same.1 i) (same.0 i)

  shown_once : (compilation : Compilation) (one other : Shown) →
      Shows locale meaning arguments compilation one → Shows locale meaning arguments compilation other → one ≡ other
  shown_once (Valid message) one other a b =
      a.is
      ∙ same_shown (bound_variables meaning arguments message.declarations) a.pattern b.pattern a.calls b.calls (body_once _ message.body a.pattern b.pattern a.calls b.calls a.shows b.shows)
      ∙ sym b.is
  shown_once (Invalid faults) one other a b = a ∙ sym b

source_once : (edition : EditionState) (tag : List ℕ) (arguments : List (List ℕ × Argued)) (source : List ℕ) (one other : Shown) →
    ShowsSource edition tag arguments source one → ShowsSource edition tag arguments source other → one ≡ other
source_once edition tag arguments source one other a b =
    let locale = place_for edition.records tag in
    shown_once locale (functions_of edition locale) arguments b.compilation one other
    (subst (λ compilation. Shows locale (functions_of edition locale) arguments compilation one) (compiled_once source a.compilation b.compilation a.compiled b.compiled) a.shows)
    b.shows

same_item : (a b : Item) (found : Option Item) → found ≡ Some a → found ≡ Some b → a ≡ b
same_item a b found is other = cc

found_once : (arguments : List (List ℕ × Argued)) (edition : EditionState) (found : Found) (one other : Answer) →
    IsAnswerOf arguments edition found one → IsAnswerOf arguments edition found other → one ≡ other
found_once arguments edition found one other a b =
    a.is
    ∙ ap (shown_answer found.tag) (source_once edition found.tag arguments b.item.source a.shown b.shown
    (subst (λ (item : Item). ShowsSource edition found.tag arguments item.source a.shown) (same_item a.item b.item _ a.there b.there) a.shows) b.shows)
    ∙ sym b.is

from_once : (arguments : List (List ℕ × Argued)) (edition : EditionState) (found : Option Found) (one other : Answer) →
    IsAnswerFrom arguments edition found one → IsAnswerFrom arguments edition found other → one ≡ other
from_once arguments edition None one other a b = a ∙ sym b
from_once arguments edition (Some found) one other a b = found_once arguments edition found one other a b

either_once : (b : Bool) (Q : Answer → Type 0) (early one other : Answer) → ((x y : Answer) → Q x → Q y → x ≡ y) →
    MatchBool b (one ≡ early) (Q one) → MatchBool b (other ≡ early) (Q other) → one ≡ other
either_once true Q early one other once a b = a ∙ sym b
either_once false Q early one other once a b = once one other a b

pub answer_once : (log : List Entry) (k : ℕ) (tag id : List ℕ) (arguments : List (List ℕ × Argued)) (since : ℕ) (one other : Answer) →
    IsAnswer log k tag id arguments since one → IsAnswer log k tag id arguments since other → one ≡ other
answer_once log k tag id arguments since one other a b =
    let edition = edition_of log k in
    let found = found_along edition.items id (chain_of tag) in
    either_once (nat_lt k since) (IsAnswerFrom arguments edition found) _ one other (from_once arguments edition found) a b
