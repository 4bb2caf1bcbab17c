-- A request for a sentence is served a message where its answer is formatted or too long.
use Rattle.std.proofs.Common.{◌≡◌, ◌∙◌, ℕ, Bool, true, false, List, [], length, nat_lt, if◌then◌else◌, Option, Some, None, refl, ap, sym}
use Rattle.std.specs.Bool.{MatchBool}
use Rattle.mf_text.specs.declared.arguments.Argued.{Argued}
use Rattle.mf_locale.specs.Chain.{chain_of}
use Rattle.mf_answer.specs.Answers as answers
use Rattle.mf_answer.specs.Answers.{is_text_size, shown_answer, Answer, IsAnswer, IsAnswerFrom}
use Rattle.mf_answer.specs.Messages.{Shown}
use Rattle.mf_edition.specs.Edition.{edition_of, found_along, EditionState}
use Rattle.mf_edition.specs.declared.item.Found.{Found}
use Rattle.mf_legal.specs.Calls.{one_if}
use Rattle.mf_transcript.specs.Laws.{shows_message, AnswersAreServed}
use Rattle.mf_transcript.specs.Served.{index_of}

-- a message that is shown is formatted, or too long
shows : (tag : List ℕ) (shown : Shown) → shows_message (shown_answer tag shown) ≡ true
shows tag shown = by (is_text_size shown.parts)
  where
    by : (b : Bool) → shows_message (if b then answers.formatted tag shown.parts shown.faults else answers.too_long) ≡ true
    by true = refl
    by false = refl

served_from : (arguments : List (List ℕ × Argued)) (edition : EditionState) (found : Option Found) (answer : Answer)
    → IsAnswerFrom arguments edition found answer → length (index_of found) ≡ one_if (shows_message answer)
served_from arguments edition None answer is = sym (ap (λ a. one_if (shows_message a)) is)
served_from arguments edition (Some found) answer is =
    sym (ap (λ a. one_if (shows_message a)) is.is ∙ ap one_if (shows found.tag is.shown))

served_where : (b : Bool) (since : ℕ) (arguments : List (List ℕ × Argued)) (edition : EditionState) (found : Option Found) (answer : Answer)
    → MatchBool b (answer ≡ answers.not_yet since) (IsAnswerFrom arguments edition found answer)
    → length (if b then [] else index_of found) ≡ one_if (shows_message answer)
served_where true since arguments edition found answer is = sym (ap (λ a. one_if (shows_message a)) is)
served_where false since arguments edition found answer is = served_from arguments edition found answer is

pub answers_served : AnswersAreServed
answers_served log k tag id arguments since answer is =
    let edition = edition_of log k in
    served_where (nat_lt k since) since arguments edition (found_along edition.items id (chain_of tag)) answer is
