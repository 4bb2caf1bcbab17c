-- The words that name the calls.
use Rattle.std.specs.Prelude.{ℕ, List, codes, Option, Some, None, if◌then◌else◌}
use Rattle.std.specs.Str.{bytes_eq}
use Rattle.mf_bench.specs.declared.call.Call.{Call}
use Rattle.mf_bench.specs.declared.call.Call.TheVariants.{Read, Round, Exact, Text, Category, Number, Options, Shown, Rank, Alias, Affix, Table, Variants, Declarations}

-- the call that a word names
abbrev pub call_named : List ℕ → Option Call
call_named word =
    if bytes_eq word (codes "read") then Some Read
    else if bytes_eq word (codes "round") then Some Round
    else if bytes_eq word (codes "exact") then Some Exact
    else if bytes_eq word (codes "text") then Some Text
    else if bytes_eq word (codes "category") then Some Category
    else if bytes_eq word (codes "number") then Some Number
    else if bytes_eq word (codes "options") then Some Options
    else if bytes_eq word (codes "shown") then Some Shown
    else if bytes_eq word (codes "rank") then Some Rank
    else if bytes_eq word (codes "alias") then Some Alias
    else if bytes_eq word (codes "affix") then Some Affix
    else if bytes_eq word (codes "table") then Some Table
    else if bytes_eq word (codes "variants") then Some Variants
    else if bytes_eq word (codes "declarations") then Some Declarations
    else None
