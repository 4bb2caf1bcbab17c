-- What holds of every reply, and of all callers.
use Rattle.std.specs.Prelude.{◌≡◌, ◌+◌, ℕ, List, length, map, Some}
use Rattle.std.specs.List.{AllByRecursion}
use Rattle.mf_edition.specs.declared.change.Entry.{Entry}
use Rattle.mf_hub.specs.Passes.{Closes, Known}
use Rattle.mf_lines.specs.Cut.{IsOneLine}
use Rattle.mf_transcript.specs.Lines.{IsLegal}
use Rattle.mf_wire.specs.Replies.{reply_line}
use Rattle.mf_wire.specs.declared.reply.Reply.{Reply}
use Rattle.mf_rehearse.specs.Played.{ended_of, replies_of, Part, PlaysInto}
use Rattle.mf_rehearse.specs.Scripts.{callers_in, requests_of}

-- the line of a reply has no line feed
abbrev pub RepliesAreLines : Type 0
RepliesAreLines = (reply : Reply) → IsOneLine (reply_line reply)

-- callers that sent their requests and left into caller 0, which made nothing, make one legal history with the log at the end
abbrev pub CallersMakeOneHistory : Type 0
CallersMakeOneHistory =
    (lines : List (List ℕ)) (home : Known) (log : List Entry) (parts : List Part) → home.number ≡ Some 0 → home.made ≡ 0 → home.given ≡ 0
    → home.ended ≡ map ended_of parts → length parts ≡ callers_in lines → AllByRecursion (PlaysInto lines home.log home.heard) parts
    → Closes home log
    → IsLegal log (callers_in lines + 1) (λ caller. requests_of caller lines) (replies_of parts)
    × ((caller : ℕ) → length (replies_of parts caller) ≡ length (requests_of caller lines))
