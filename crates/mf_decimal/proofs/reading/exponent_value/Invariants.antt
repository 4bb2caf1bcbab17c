use Rattle.std.proofs.Common.{◌≡◌, take}
use Rattle.std.proofs.Common.{◌<◌, ◌+◌, ◌*◌}
use Rattle.std.specs.Str.Parse.{digits_value}
use Rattle.mf_decimal.specs.declared.reading.TheConstants.{FAR}
use Rattle.mf_decimal.proofs.reading.exponent_value.Given as goal

abbrev pub invariant-loop-digit : goal.invariant-loop-digit
invariant-loop-digit l = record {
  value : l.value ≡ digits_value 10 (take l.digit-index l.digits);
  near : l.value < 10 * FAR + 10;
}
