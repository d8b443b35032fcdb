-- `hosts::repeats` meets its contract. The invariant: what is left of the rows decides. Assumes nothing.
use Rattle.hosts.specs.Joining.{host_of}
use Rattle.rules.specs.Hosts.{repeats}
use Rattle.std.proofs.Common.{◌≡◌, map, drop}
use Rattle.hosts.proofs.repeats.Given as goal

abbrev pub invariant-loop-i : goal.invariant-loop-i
invariant-loop-i l = repeats (map host_of l.rows) ≡ repeats (map host_of (drop l.i l.rows))
