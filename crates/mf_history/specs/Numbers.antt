-- For private clauses: the numbers that a reply line has.
use Rattle.std.specs.Prelude.{◌≡◌, ◌<◌, ◌++◌, ◌∷◌, ◌^◌, ℕ, List, codes, Option, Some}
use Rattle.std.specs.Char.{digit_value}
use Rattle.std.specs.Fmt.{decimal}
use Rattle.mf_wire.specs.Replies.{reply_line}
use Rattle.mf_wire.specs.declared.reply.Reply.TheVariants as reply
use Rattle.mf_history.specs.declared.numbers.Counts.{Counts}

-- a character of one byte that is no digit
abbrev pub IsEnd : ℕ → Type 0
IsEnd end = (end < 128) × (digit_value end < 10 → ⊥)

-- the line begins with its edition, which a comma follows
pub record Names (k : ℕ) (said : List ℕ) : Type 0 where
  pub rest : List ℕ
  pub front : said ≡ codes "{\"edition\":" ++ (decimal k ++ 44 ∷ rest)

-- the edition that a line names, if it names one of 64 bits
abbrev pub FindsEdition : List ℕ → Option ℕ → Type 0
FindsEdition said found = (k : ℕ) → k < 2 ^ 64 → Names k said → found ≡ Some k

-- the bytes used that the line of a full store has
abbrev pub FindsUsed : List ℕ → Option ℕ → Type 0
FindsUsed said found = (used size : ℕ) → used < 2 ^ 64 → size < 2 ^ 64 → said ≡ reply_line (reply.StoreFull used size) → found ≡ Some used

-- the counts that a line has
abbrev pub FindsCounts : List ℕ → Option Counts → Type 0
FindsCounts said found =
    (k starts quits : ℕ) → k < 2 ^ 64 → starts < 2 ^ 64 → quits < 2 ^ 64 → said ≡ reply_line (reply.Stat k starts quits)
    → found ≡ Some (record { edition = k; starts = starts; quits = quits })
