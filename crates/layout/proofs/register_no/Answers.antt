-- `layout::register_no` meets its contract. Assumes nothing.
use Rattle.rules.specs.Map.{register_no}
use Rattle.rules.specs.declared.Register.TheVariants.{Pa}
use Rattle.std.proofs.Common.{ℕ, suc, ◌-◌, ◌≤◌, ◌≡◌, ap, arith}
use Rattle.layout.proofs.register_no.Goals as goal

last-register : (i : ℕ) → 6 ≤ i → Pa ≡ register_no i
unfolding register_no
last-register i h = let e : suc (suc (suc (suc (suc (suc (i - 6)))))) ≡ i = omega arith in ap register_no e

pub returns-in-0 : goal.returns-in-0
unfolding register_no
returns-in-0 c = simp c.in-0.is

pub returns-in-1 : goal.returns-in-1
unfolding register_no
returns-in-1 c = simp c.in-1.is

pub returns-in-2 : goal.returns-in-2
unfolding register_no
returns-in-2 c = simp c.in-2.is

pub returns-in-3 : goal.returns-in-3
unfolding register_no
returns-in-3 c = simp c.in-3.is

pub returns-in-4 : goal.returns-in-4
unfolding register_no
returns-in-4 c = simp c.in-4.is

pub returns-in-5 : goal.returns-in-5
unfolding register_no
returns-in-5 c = simp c.in-5.is

pub returns-in_default : goal.returns-in_default
returns-in_default c = last-register c.args.i (omega arith)
