use Rattle.std.proofs.Common.{◌≡◌, ◌+◌, ◌*◌, ◌^◌, ◌≤◌, take}
use Rattle.std.specs.Str.Parse.{digits_value}
use Rattle.mf_decimal.specs.Significand.{worth}
use Rattle.mf_decimal.proofs.significand.Significand.with_digits.Given as goal

abbrev pub invariant-loop-byte : goal.invariant-loop-byte
invariant-loop-byte l = record {
  value : worth l.number ≡ worth l.fn.self * 10 ^ l.byte-index + digits_value 10 (take l.byte-index l.bytes);
  zeros : l.number.zeros ≤ l.fn.self.zeros + l.byte-index;
}
