-- `octets::copy` meets its contract. The invariant: the first i bytes are stored. Assumes nothing.
use Rattle.rules.specs.Bytes.{put}
use Rattle.std.proofs.Common.{◌≡◌, take}
use Rattle.octets.proofs.copy.Given as goal

abbrev pub invariant-loop-i : goal.invariant-loop-i
invariant-loop-i l = l.bytes ≡ put 0 (take l.i l.data) l.initial.bytes
