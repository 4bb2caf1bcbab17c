-- What holds of every log and all lines.
use Rattle.std.specs.Prelude.{◌≡◌, ◌≢◌, ◌↔◌, ◌⊎◌, ◌+◌, ◌<◌, ◌≤◌, ℕ, Bool, true, false, List, [], ◌∷◌, ◌++◌, length, take, Some}
use Rattle.mf_text.specs.declared.arguments.Argued.{Argued}
use Rattle.mf_answer.specs.Answers as answers
use Rattle.mf_answer.specs.Answers.{Answer, IsAnswer}
use Rattle.mf_edition.specs.Sizes.{used_by, IsWithin}
use Rattle.mf_edition.specs.declared.change.Entry.{Entry}
use Rattle.mf_legal.specs.Calls.{entry_at, made_by, one_if}
use Rattle.mf_legal.specs.Histories.{all_forgone, ShowAtMost}
use Rattle.mf_legal.specs.Transcripts as legal
use Rattle.mf_wire.specs.Replies.{memory_line, reply_line}
use Rattle.mf_wire.specs.declared.reply.Reply.{Reply}
use Rattle.mf_transcript.specs.Lines.{exchanges_of, line_service, IsLegal}
use Rattle.mf_transcript.specs.Served.{served_to}
use Rattle.mf_transcript.specs.Sole.{Desk, Moves, Progress, Sole}
use Rattle.mf_transcript.specs.Steps.{case_of, Standing, Step}
use Rattle.mf_transcript.specs.Transcripts.{Steps, Transcript}

-- a line and its reply fix where they take a caller, over a log within its limits
abbrev pub RepliesFixTheirEditions : Type 0
RepliesFixTheirEditions =
    (log : List Entry) (caller : ℕ) (line said : List ℕ) (before one other : Standing) → IsWithin log (used_by log)
    → Step log caller line said before one → Step log caller line said before other → one ≡ other

-- no two cases hold of one line and its reply
abbrev pub OneCaseHolds : Type 0
OneCaseHolds =
    (log : List Entry) (caller : ℕ) (line said : List ℕ) (before one other : Standing)
    (step : Step log caller line said before one) (another : Step log caller line said before other) → case_of step ≡ case_of another

-- the edition that a caller has seen never falls
abbrev pub EditionsNeverFall : Type 0
EditionsNeverFall =
    (log : List Entry) (caller : ℕ) (lines replies : List (List ℕ)) (before after : Standing)
    → Steps log caller lines replies before after → before.edition ≤ after.edition

-- a line makes no entry, or it makes one, whose edition is above the one seen before
abbrev pub PublicationsRise : Type 0
PublicationsRise =
    (log : List Entry) (caller : ℕ) (line said : List ℕ) (before after : Standing) → Step log caller line said before after
    → (after.made ≡ before.made) ⊎ ((after.made ≡ before.made + 1) × (before.edition < after.edition))

-- steps behind steps are steps
abbrev pub StepsFollow : Type 0
StepsFollow =
    (log : List Entry) (caller : ℕ) (lines more replies others : List (List ℕ)) (before between after : Standing)
    → Steps log caller lines replies before between → Steps log caller more others between after
    → Steps log caller (lines ++ more) (replies ++ others) before after

-- steps over a log are steps over each longer log
abbrev pub StepsStay : Type 0
StepsStay =
    (log rest : List Entry) (caller : ℕ) (lines replies : List (List ℕ)) (before after : Standing)
    → Steps log caller lines replies before after → Steps (log ++ rest) caller lines replies before after

-- behind the edition that a transcript begins at, each entry of its caller has as its number how many that caller has up to it
abbrev pub CountsNumberEntries : Type 0
CountsNumberEntries =
    (log : List Entry) (caller from k : ℕ) (lines replies : List (List ℕ)) (entry : Entry)
    → Transcript caller log from lines replies → from < k → entry_at log k ≡ Some entry → entry.caller ≡ caller
    → entry.nth ≡ made_by caller (take k log)

-- the line of a reply isn't the memory line
abbrev pub RepliesDiffer : Type 0
RepliesDiffer = (reply : Reply) → reply_line reply ≢ memory_line

-- the answer is a message, formatted or too long
abbrev pub shows_message : Answer → Bool
shows_message (answers.not_yet since) = false
shows_message answers.no_message = false
shows_message answers.too_long = true
shows_message (answers.formatted tag parts faults) = true

-- a request for a sentence is served one message where its answer is formatted or too long, and else none
abbrev pub AnswersAreServed : Type 0
AnswersAreServed =
    (log : List Entry) (k : ℕ) (tag id : List ℕ) (arguments : List (List ℕ × Argued)) (since : ℕ) (answer : Answer)
    → IsAnswer log k tag id arguments since answer → length (served_to log k tag id since) ≡ one_if (shows_message answer)

-- a transcript of lines and replies is one of calls, which lines and replies mean
abbrev pub TranscriptsAreOfCalls : Type 0
TranscriptsAreOfCalls =
    (log : List Entry) (caller from : ℕ) (lines replies : List (List ℕ)) → length lines ≡ length replies
    → Transcript caller log from lines replies ↔ legal.Transcript line_service caller log from (exchanges_of lines replies)

-- transcripts of callers below a number over one log make one legal history, where no reply shows more quits than there were requests for
-- sentences that found no memory
abbrev pub TranscriptsAreLegal : Type 0
TranscriptsAreLegal =
    (log : List Entry) (callers : ℕ) (lines replies : ℕ → List (List ℕ))
    → ((caller : ℕ) → Transcript caller log 0 (lines caller) (replies caller))
    → ((caller : ℕ) → callers ≤ caller → lines caller ≡ [])
    → ((caller : ℕ) → ShowAtMost line_service (all_forgone line_service (λ c. exchanges_of (lines c) (replies c)) callers)
    (exchanges_of (lines caller) (replies caller)))
    → IsLegal log callers lines replies

-- in a legal history the lines and replies of each caller are its transcript
abbrev pub LegalHistoriesHaveTranscripts : Type 0
LegalHistoriesHaveTranscripts =
    (log : List Entry) (callers : ℕ) (lines replies : ℕ → List (List ℕ))
    → ((caller : ℕ) → length (lines caller) ≡ length (replies caller)) → IsLegal log callers lines replies
    → (caller : ℕ) → Transcript caller log 0 (lines caller) (replies caller)

-- what the one caller of a desk sends and gets is a transcript of caller 0 over the log afterwards, where the opening log is its own
abbrev pub SolesAreTranscripts : Type 0
SolesAreTranscripts =
    (desk after : Desk) (lines replies : List (List ℕ)) → made_by 0 desk.log ≡ length desk.log → Sole desk lines replies after
    → Transcript 0 after.log (length desk.log) lines replies

-- moves of a desk behind others are moves
abbrev pub MovesFollow : Type 0
MovesFollow =
    (lines more replies others : List (List ℕ)) (before between after : Progress)
    → Moves lines replies before between → Moves more others between after → Moves (lines ++ more) (replies ++ others) before after

-- a transcript over a log is one over each longer log in which its caller made nothing more
abbrev pub TranscriptsStay : Type 0
TranscriptsStay =
    (log more : List Entry) (caller from : ℕ) (lines replies : List (List ℕ)) → from ≤ length log → made_by caller more ≡ 0
    → Transcript caller log from lines replies → Transcript caller (log ++ more) from lines replies

-- no line found no memory
abbrev pub HasNoMemoryLine : List (List ℕ) → Type 0
HasNoMemoryLine [] = Unit {0}
HasNoMemoryLine (said ∷ replies) = (said ≢ memory_line) × HasNoMemoryLine replies

-- without memory lines, the replies to the one caller of a desk and the log afterwards are a function of the desk and the lines
abbrev pub SolesHaveOneOutcome : Type 0
SolesHaveOneOutcome =
    (desk one other : Desk) (lines replies others : List (List ℕ)) → HasNoMemoryLine replies → HasNoMemoryLine others
    → Sole desk lines replies one → Sole desk lines others other → (replies ≡ others) × (one.log ≡ other.log)
