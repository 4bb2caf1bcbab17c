use Rattle.std.proofs.Common.{◌≡◌, ◌++◌, drop}
use Rattle.mf_meaning.specs.Functions.{refused_from, refused_options}
use Rattle.mf_meaning.specs.Options.{is_allowed}
use Rattle.mf_functions.specs.Written.{nothing_written, written_from}
use Rattle.mf_functions.proofs.reading.read_options.Given as goal

abbrev pub invariant-loop-place : goal.invariant-loop-place
invariant-loop-place l = record {
  written : written_from l.function l.written (drop l.place l.given-items) ≡ written_from l.function nothing_written l.given-items;
  refused : l.refused ++ refused_from (is_allowed l.function) l.place (drop l.place l.given-items) ≡ refused_options (is_allowed l.function) l.given-items;
}
