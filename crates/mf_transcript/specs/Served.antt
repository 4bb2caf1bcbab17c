-- The messages that requests for sentences are answered from.
use Rattle.std.specs.Prelude.{◌==◌, ◌+◌, ℕ, zero, suc, List, [], ◌∷◌, map, nat_lt, Option, Some, None, if◌then◌else◌, Result, Ok, Err}
use Rattle.std.specs.List.{list_any}
use Rattle.mf_locale.specs.Chain.{chain_of}
use Rattle.mf_edition.specs.Edition.{edition_of, found_along}
use Rattle.mf_edition.specs.declared.change.Entry.{Entry}
use Rattle.mf_edition.specs.declared.item.Found.{Found}
use Rattle.mf_legal.specs.Calls.{one_if}
use Rattle.mf_wire.specs.declared.reply.Reply.{Reply}
use Rattle.mf_wire.specs.declared.request.Request.{Request}
use Rattle.mf_wire.specs.declared.request.Request.TheVariants.{Format, Lint, Publish, Stat}
use Rattle.mf_transcript.specs.Asked.{request_of}

-- the index of what was found, if something was
abbrev pub index_of : Option Found → List ℕ
index_of None = []
index_of (Some found) = found.index ∷ []

-- the message of edition k of a log, by its index, that a request for a sentence is answered from, formatted or too long: the one
-- found, unless the edition is older than the request wants
abbrev pub served_to : List Entry → ℕ → List ℕ → List ℕ → ℕ → List ℕ
served_to log k tag id since =
    if nat_lt k since then [] else index_of (found_along (edition_of log k).items id (chain_of tag))

-- the message that what is asked for is answered from: none, unless it is a sentence
abbrev pub served_for : List Entry → ℕ → Result Request Reply → List ℕ
served_for log k (Ok (Format tag id arguments since)) = served_to log k tag id since
served_for log k (Ok (Publish change)) = []
served_for log k (Ok (Lint source)) = []
served_for log k (Ok Stat) = []
served_for log k (Err refusal) = []

-- the message that a line is answered from at edition k of a log
abbrev pub served_by : List Entry → ℕ → List ℕ → List ℕ
served_by log k line = served_for log k (request_of line)

-- messages of edition k, each with the edition
abbrev pub with_edition : ℕ → List ℕ → List (ℕ × ℕ)
with_edition k indexes = map (λ index. (k, index)) indexes

-- those of edition k among messages of several editions
abbrev pub in_edition : ℕ → List (ℕ × ℕ) → List ℕ
in_edition k [] = []
in_edition k (message ∷ messages) =
    if message.0 == k then message.1 ∷ in_edition k messages else in_edition k messages

-- how many of an edition's messages, of which there are so many, are among these, each counted once
abbrev pub count_among : List ℕ → ℕ → ℕ
count_among indexes zero = 0
count_among indexes (suc n) = count_among indexes n + one_if (list_any (λ index. index == n) indexes)
