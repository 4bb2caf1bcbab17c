-- The input of a large run.
use Rattle.std.specs.Prelude.{ℕ, zero, suc, ◌*◌, ◌%◌, ◌==◌, List, [], ◌++◌, codes, decimal, if◌then◌else◌}
use Rattle.mf_lines.specs.Served.{ended}

-- what English says of its numbers
abbrev pub english_line : List ℕ
english_line = codes "{\"op\":\"locale\",\"tag\":\"en\",\"record\":{\"version\":1,\"dir\":\"ltr\",\"decimal\":\".\",\"group\":\",\",\"minus\":\"-\",\"plus\":\"+\",\"primary\":3,\"secondary\":3,\"minGroup\":1,\"plural\":\"one: i = 1 and v = 0\",\"ordinal\":\"one: n % 10 = 1 and n % 100 != 11; two: n % 10 = 2 and n % 100 != 12; few: n % 10 = 3 and n % 100 != 13\"}}"

-- a message with a variant for each of three numbers
abbrev pub message_line : List ℕ
message_line = codes "{\"op\":\"publish\",\"locale\":\"en\",\"messages\":{\"m\":\".input {$n :number} .match $n 1 {{exactly one}} one {{one}} * {{{$n} items}}\"}}"

abbrev pub before_number : List ℕ
before_number = codes "{\"op\":\"format\",\"locale\":\"en\",\"id\":\"m\",\"args\":{\"n\":"

abbrev pub behind_number : List ℕ
behind_number = codes "}}"

abbrev pub stat_line : List ℕ
stat_line = codes "{\"op\":\"stat\"}"

-- the last four digits of the square of a number
abbrev pub last_digits : ℕ → ℕ
last_digits j = (j * j) % 10000

-- the request for the message with a number
abbrev pub sentence_line : ℕ → List ℕ
sentence_line number = before_number ++ (decimal number ++ behind_number)

-- behind each hundred of requests the message is published again
abbrev pub publication_behind : ℕ → List ℕ
publication_behind j = if (j % 100) == 0 then ended message_line else []

-- the requests of the numbers up to j, with the publications between them
abbrev pub requests_to : ℕ → List ℕ
requests_to zero = []
requests_to (suc j) = requests_to j ++ (publication_behind j ++ ended (sentence_line (last_digits (suc j))))

-- the whole input: English, the requests, and one for the counts
abbrev pub script : ℕ → List ℕ
script n = (ended english_line ++ requests_to n) ++ ended stat_line
