-- `octets::xor_into` meets its contract. The invariant: the first i bytes are XORed. Assumes nothing.
use Rattle.rules.specs.Bytes.{xor}
use Rattle.std.proofs.Common.{◌≡◌, take}
use Rattle.octets.proofs.xor_into.Given as goal

abbrev pub invariant-loop-i : goal.invariant-loop-i
invariant-loop-i l = l.bytes ≡ xor l.initial.bytes (take l.i l.data)
