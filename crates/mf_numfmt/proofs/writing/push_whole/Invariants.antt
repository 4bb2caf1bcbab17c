use Rattle.std.proofs.Common.{◌≡◌, ◌≤◌, ◌++◌, encode_utf8_all, string_bytes}
use Rattle.mf_numfmt.specs.NumberText.{places_text}
use Rattle.mf_numfmt.proofs.writing.push_whole.Given as goal

abbrev pub invariant-loop-place : goal.invariant-loop-place
invariant-loop-place l = record {
  within : l.place ≤ l.count;
  written : string_bytes l.text ++ encode_utf8_all (places_text l.layout l.grouped l.whole.number l.place)
      ≡ string_bytes l.fn.text ++ encode_utf8_all (places_text l.layout l.grouped l.whole.number l.count);
}

abbrev pub decreases-loop-place : goal.decreases-loop-place
decreases-loop-place l = l.place
