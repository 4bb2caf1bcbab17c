-- What holds of every request.
use Rattle.std.specs.Prelude.{◌≡◌, ℕ, List}
use Rattle.mf_text.specs.declared.arguments.Argued.{Argued}
use Rattle.mf_edition.specs.declared.change.Entry.{Entry}
use Rattle.mf_answer.specs.Answers.{Answer, IsAnswer}

-- a request for a sentence has one answer at an edition of a log
abbrev pub RequestsHaveOneAnswer : Type 0
RequestsHaveOneAnswer =
    (log : List Entry) (k : ℕ) (tag id : List ℕ) (arguments : List (List ℕ × Argued)) (since : ℕ) (one other : Answer)
    → IsAnswer log k tag id arguments since one → IsAnswer log k tag id arguments since other → one ≡ other
