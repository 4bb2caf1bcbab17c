-- The line that sums connections up.
use Rattle.std.specs.Prelude.{ℕ, List, ◌++◌, codes, decimal}
use Rattle.mf_serve.specs.declared.tallies.Tally.{Tally}

abbrev pub summary : Tally → List ℕ
summary tally =
    codes "{\"ended\":" ++ (decimal tally.ended
    ++ (codes ",\"faulted\":" ++ (decimal tally.faulted
    ++ (codes ",\"ok\":\"serve\",\"refused\":" ++ (decimal tally.refused ++ codes "}")))))
