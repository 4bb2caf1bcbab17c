use Rattle.std.proofs.Common.{◌≡◌, take, encode_utf8_all}
use Rattle.std.specs.Prelude.{string_bytes}
use Rattle.mf_parts.specs.Joined.{text_of}
use Rattle.mf_parts.proofs.text.joined.Given as goal

abbrev pub invariant-loop-part : goal.invariant-loop-part
invariant-loop-part l = string_bytes l.text ≡ encode_utf8_all (text_of (take l.part-index l.part-items))
