-- What the lines and replies of the one caller of a desk say.
use Rattle.std.specs.Prelude.{◌≡◌, ◌+◌, ◌≤◌, ℕ, List, [], ◌∷◌, ◌++◌, length, Contains, None, Ok}
use Rattle.std.specs.List.{AllByRecursion}
use Rattle.mf_edition.specs.Edition.{edition_of}
use Rattle.mf_edition.specs.Sizes.{refusal_of}
use Rattle.mf_edition.specs.declared.change.Change.{Change}
use Rattle.mf_edition.specs.declared.change.Entry.{Entry}
use Rattle.mf_legal.specs.Calls.{one_if}
use Rattle.mf_wire.specs.Replies.{memory_line, reply_line}
use Rattle.mf_wire.specs.declared.reply.Reply.TheVariants as reply
use Rattle.mf_wire.specs.declared.request.Request.TheVariants.{Stat}
use Rattle.mf_transcript.specs.Asked.{request_of}
use Rattle.mf_transcript.specs.Lines.{asks_format}
use Rattle.mf_transcript.specs.Served.{count_among, served_by}
use Rattle.mf_transcript.specs.Steps.{next_entry, Accepts, Answers, IsApart, Refuses}

-- a desk: its log, the messages of its newest edition that are ready, by their indexes, and that edition's quits
pub record Desk : Type 0 where
  pub log : List Entry
  pub ready : List ℕ
  pub quits : ℕ

-- how far a desk has come
pub record Progress : Type 0 where
  -- the opening log and the accepted publications
  pub log : List Entry
  -- the messages that were served in the newest edition
  pub served : List ℕ
  -- those that were asked for in it under a memory line
  pub missed : List ℕ
  -- how many requests for sentences found no memory in it
  pub forgone : ℕ
  -- the quits that it began with
  pub quits : ℕ

-- at the opening the ready messages count as served
abbrev pub opened : Desk → Progress
opened desk = record { log = desk.log; served = desk.ready; missed = []; forgone = 0; quits = desk.quits }

-- a publication is an entry of caller 0, and nothing was asked of its edition yet
abbrev pub published : Progress → Change → Progress
published before change =
    record { log = before.log ++ next_entry 0 (length before.log) change ∷ []; served = []; missed = []; forgone = 0; quits = 0 }

-- a message was served
abbrev pub serves : Progress → List ℕ → Progress
serves before indexes = record before { served = before.served ++ indexes }

-- a line found no memory, and may have asked for a message
abbrev pub misses : Progress → List ℕ → Progress
misses before line = record before {
  missed = before.missed ++ served_by before.log (length before.log) line;
  forgone = before.forgone + one_if (asks_format (request_of line));
}

-- how many messages of the newest edition are among these, each counted once
abbrev pub count_of : Progress → List ℕ → ℕ
count_of before indexes = count_among indexes (length (edition_of before.log (length before.log)).items)

-- the line asks for the counts, and the reply has those of the newest edition: without memory lines both are exact
pub record CountsOf (before : Progress) (line said : List ℕ) : Type 0 where
  pub starts : ℕ
  pub quits : ℕ
  pub asked : request_of line ≡ Ok Stat
  pub replied : said ≡ reply_line (reply.Stat (length before.log) starts quits)
  -- starts less quits: no fewer than the messages that were served, and no more than these with those asked for under a memory line
  pub least : quits + count_of before before.served ≤ starts
  pub most : starts ≤ quits + count_of before (before.served ++ before.missed)
  -- quits: those that the edition began with, and at most one more for each request for a sentence that found no memory
  pub least_quits : before.quits ≤ quits
  pub most_quits : quits ≤ before.quits + before.forgone

-- how a line and its reply take a desk on: every reply is that of the newest edition, or accepts the next one
pub data Move (line said : List ℕ) (before : Progress) : Progress → Type 0 where
  -- the reply is the memory line
  no_memory : said ≡ memory_line → Move line said before (misses before line)
  -- the line is refused, or asks what there is to say of a source
  stands_apart : IsApart line said → Move line said before before
  -- the line is a publication that there is room for
  is_accepted : (change : Change) → Accepts line change (length before.log + 1) said → refusal_of before.log change ≡ None
      → Move line said before (published before change)
  -- the line is a publication that there is no room for
  is_refused : Refuses before.log (length before.log) line said → Move line said before before
  -- the line asks for a sentence
  is_answered : Answers before.log (length before.log) line said
      → Move line said before (serves before (served_by before.log (length before.log) line))
  -- the line asks for the counts
  is_counted : CountsOf before line said → Move line said before before

-- each line and its reply take the desk on, one after the other
abbrev pub Moves : List (List ℕ) → List (List ℕ) → Progress → Progress → Type 0
Moves [] [] before after = after ≡ before
Moves [] (reply ∷ replies) before after = ⊥
Moves (line ∷ lines) [] before after = ⊥
Moves (line ∷ lines) (reply ∷ replies) before after =
    (between : Progress) × Move line reply before between × Moves lines replies between after

-- the lines and replies of one caller, from the desk at the opening to the desk afterwards: its log has the accepted publications
-- behind the opening ones, and its ready messages have all that were served in its newest edition
pub record Sole (desk : Desk) (lines replies : List (List ℕ)) (after : Desk) : Type 0 where
  pub end : Progress
  pub moves : Moves lines replies (opened desk) end
  pub log : after.log ≡ end.log
  pub ready : AllByRecursion (Contains after.ready) end.served
