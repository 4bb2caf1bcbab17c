use Rattle.std.proofs.Common.{◌≡◌, ◌-◌, ◌^◌, min, take, length, encode_utf8_all}
use Rattle.mf_parts.specs.Joined.{text_of}
use Rattle.mf_parts.proofs.text.joined_len.Given as goal

abbrev pub invariant-loop-part : goal.invariant-loop-part
invariant-loop-part l = l.len ≡ min (length (encode_utf8_all (text_of (take l.part-index l.part-items)))) (2 ^ 64 - 1)
