use Rattle.std.proofs.Common.{◌≡◌, ◌≤◌, ◌-◌, ◌++◌, encode_utf8_all, string_bytes}
use Rattle.mf_numfmt.specs.Spans.{span_text}
use Rattle.mf_numfmt.proofs.writing.push_span.Given as goal

abbrev pub invariant-loop-at : goal.invariant-loop-at
invariant-loop-at l = record {
  from : l.end ≤ l.at;
  within : l.at ≤ l.place;
  written : string_bytes l.text ++ encode_utf8_all (span_text l.number.number l.end (l.at - l.end))
      ≡ string_bytes l.fn.text ++ encode_utf8_all (span_text l.number.number l.end (l.place - l.end));
}

abbrev pub decreases-loop-at : goal.decreases-loop-at
decreases-loop-at l = l.at - l.end
