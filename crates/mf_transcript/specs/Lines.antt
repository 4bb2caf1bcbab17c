-- What lines and replies mean in the history of several callers.
use Rattle.std.specs.Prelude.{◌≡◌, ◌≤◌, ◌==◌, ℕ, Bool, true, false, List, [], ◌∷◌, ◌++◌, length, if◌then◌else◌, Result, Ok, Err}
use Rattle.std.specs.Str.{bytes_eq}
use Rattle.mf_edition.specs.declared.change.Entry.{Entry}
use Rattle.mf_legal.specs.Calls.{Call, Exchange, Service}
use Rattle.mf_legal.specs.Histories.{Legal}
use Rattle.mf_wire.specs.Replies.{memory_line, reply_line}
use Rattle.mf_wire.specs.declared.reply.Reply.{Reply}
use Rattle.mf_wire.specs.declared.reply.Reply.TheVariants as reply
use Rattle.mf_wire.specs.declared.request.Request.{Request}
use Rattle.mf_wire.specs.declared.request.Request.TheVariants.{Format, Lint, Publish, Stat}
use Rattle.mf_transcript.specs.Asked.{request_of}
use Rattle.mf_transcript.specs.Served.{served_by}
use Rattle.mf_transcript.specs.Steps.{Accepts, Answers, Counts, IsApart, Refuses}

-- what is asked for is a sentence
abbrev pub asks_format : Result Request Reply → Bool
asks_format (Ok (Format tag id arguments since)) = true
asks_format (Ok (Publish change)) = false
asks_format (Ok (Lint source)) = false
asks_format (Ok Stat) = false
asks_format (Err refusal) = false

-- the messages of the newest edition of a log that these calls were answered from
abbrev pub served_in : List Entry → List (Call (List ℕ) (List ℕ)) → List ℕ
served_in log [] = []
served_in log (call ∷ calls) =
    (if call.edition == length log then served_by log (length log) call.line else []) ++ served_in log calls

-- the reply is one that the newest edition of a log gives to the line, where its caller had these calls before
pub data Looks (log : List Entry) (earlier : List (Call (List ℕ) (List ℕ))) (line said : List ℕ) : Type 0 where
  refuses : Refuses log (length log) line said → Looks log earlier line said
  answers : Answers log (length log) line said → Looks log earlier line said
  counts : Counts log (length log) (served_in log earlier) line said → Looks log earlier line said

-- the quits that the reply shows, if it shows some, are at most so many
abbrev pub ShowsAtMost : ℕ → List ℕ → Type 0
ShowsAtMost most said = (k starts quits : ℕ) → said ≡ reply_line (reply.Stat k starts quits) → quits ≤ most

-- what lines and replies mean
abbrev pub line_service : Service (List ℕ) (List ℕ)
line_service = record {
  Accepts = Accepts;
  Looks = Looks;
  Apart = IsApart;
  is_memory = λ said. bytes_eq said memory_line;
  is_format = λ line. asks_format (request_of line);
  ShowsAtMost = ShowsAtMost;
}

-- lines with their replies, as long as there are both
abbrev pub exchanges_of : List (List ℕ) → List (List ℕ) → List (Exchange (List ℕ) (List ℕ))
exchanges_of [] replies = []
exchanges_of (line ∷ lines) [] = []
exchanges_of (line ∷ lines) (reply ∷ replies) = record { line = line; reply = reply } ∷ exchanges_of lines replies

-- a log, and the lines and replies of each of the callers below a number, make a legal history
abbrev pub IsLegal : List Entry → ℕ → (ℕ → List (List ℕ)) → (ℕ → List (List ℕ)) → Type 0
IsLegal log callers lines replies = Legal line_service log callers (λ caller. exchanges_of (lines caller) (replies caller))
