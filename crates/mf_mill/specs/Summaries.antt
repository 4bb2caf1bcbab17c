-- What the replies of a run come to.
use Rattle.std.specs.Prelude.{ℕ, ◌+◌, List, [], ◌∷◌, ◌++◌, length, codes, decimal, Option, None, Some, option_and_then, unwrap_or}
use Rattle.serde_json.specs.Data.{Data}
use Rattle.serde_json.specs.Find.{get, as_number, as_str, as_u64}
use Rattle.mf_wire.specs.Reading.{reading}

-- how many bytes a text has, where there is one
abbrev pub bytes_in : Option (List ℕ) → ℕ
bytes_in None = 0
bytes_in (Some text) = length text

-- how many bytes the text of a reply has: those of its member `text`, which a formatted reply alone has
abbrev pub text_length : Option Data → ℕ
text_length value = bytes_in (option_and_then (λ reply. option_and_then as_str (get (codes "text") reply)) value)

-- how many the texts of all replies have
abbrev pub text_bytes : List (List ℕ) → ℕ
text_bytes [] = 0
text_bytes (line ∷ lines) = text_length (reading line) + text_bytes lines

-- a whole number that a reply has under a name, or 0
abbrev pub number_in : List ℕ → Option Data → ℕ
number_in name value = unwrap_or (option_and_then (λ reply. option_and_then as_u64 (option_and_then as_number (get name reply))) value) 0

-- the last line, or the one before where there is none
abbrev pub last_of : List ℕ → List (List ℕ) → List ℕ
last_of before [] = before
last_of before (line ∷ lines) = last_of line lines

-- the line with these numbers
abbrev pub summary_of : (editions formats starts bytes : ℕ) → List ℕ
summary_of editions formats starts bytes =
    codes "{\"editions\":" ++ (decimal editions
    ++ (codes ",\"formats\":" ++ (decimal formats
    ++ (codes ",\"ok\":\"mill\",\"starts\":" ++ (decimal starts
    ++ (codes ",\"text_bytes\":" ++ (decimal bytes ++ codes "}")))))))

-- the line that sums up the replies to so many requests for sentences: the last reply is that of the counts
abbrev pub summary : ℕ → List (List ℕ) → List ℕ
summary formats replies =
    summary_of (number_in (codes "edition") (reading (last_of [] replies))) formats
    (number_in (codes "starts") (reading (last_of [] replies))) (text_bytes replies)
