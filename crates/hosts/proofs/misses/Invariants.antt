-- `hosts::misses` meets its contract. The invariant: what is left of the rows decides. Assumes nothing.
use Rattle.hosts.specs.Joining.{host_of}
use Rattle.rules.specs.Hosts.{misses}
use Rattle.std.proofs.Common.{◌≡◌, ◌*◌, map, drop}
use Rattle.hosts.proofs.misses.Given as goal

abbrev pub invariant-loop-i : goal.invariant-loop-i
invariant-loop-i l =
    misses l.k l.offset l.n 0 (map host_of l.rows) ≡ misses l.k l.offset l.n (48 * l.i) (map host_of (drop l.i l.rows))
