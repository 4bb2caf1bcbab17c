-- For private clauses: the requests for sentences that found no memory.
use Rattle.std.specs.Prelude.{◌&&◌, ◌+◌, ℕ, Bool, List, [], ◌∷◌, encode_utf8_all}
use Rattle.std.specs.Str.{bytes_eq}
use Rattle.mf_legal.specs.Calls.{one_if}
use Rattle.mf_transcript.specs.Asked.{request_of}
use Rattle.mf_transcript.specs.Lines.{asks_format}
use Rattle.mf_wire.specs.Replies.{memory_line}
use Rattle.mf_history.specs.declared.transcript.Exchange.{Exchange}
use Rattle.mf_history.specs.declared.transcript.Transcript.{Transcript}

-- the line asks for a sentence, and the reply is the memory line
abbrev pub is_forgone : Exchange → Bool
is_forgone exchange = asks_format (request_of exchange.request) && bytes_eq (encode_utf8_all exchange.reply) memory_line

-- how many of these lines do
abbrev pub forgone_lines : List Exchange → ℕ
forgone_lines [] = 0
forgone_lines (exchange ∷ exchanges) = one_if (is_forgone exchange) + forgone_lines exchanges

-- how many lines of all transcripts do
abbrev pub forgone_total : List Transcript → ℕ
forgone_total [] = 0
forgone_total (transcript ∷ transcripts) = forgone_lines transcript.lines + forgone_total transcripts
