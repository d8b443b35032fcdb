-- `octets::number` meets its contract. The invariant: the number of the digits so far. Assumes nothing.
use Rattle.rules.specs.Bytes.{number}
use Rattle.std.proofs.Common.{◌≡◌, ◌<◌, ◌^◌, take}
use Rattle.octets.proofs.number.Given as goal

abbrev pub invariant-loop-digit : goal.invariant-loop-digit
invariant-loop-digit g l =
    record { value : l.number ≡ number (take l.digit-index l.digits); fits : l.number < 256 ^ l.digit-index }
