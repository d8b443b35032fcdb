-- `hosts::join_all` meets its contract. The invariant: what is left of the list leads to the result. Assumes nothing.
use Rattle.hosts.proofs.SlotLaws.{Joined}
use Rattle.hosts.proofs.join_all.Given as goal

abbrev pub invariant-loop-i : goal.invariant-loop-i
invariant-loop-i l = Joined l.initial.tag l.tag l.x l.k l.i l.id
