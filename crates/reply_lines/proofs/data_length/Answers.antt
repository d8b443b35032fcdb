-- `reply_lines::data_length` meets its contract: a code below 0x40 has the count of the digit 0. Assumes nothing.
use Rattle.rules.specs.Log.{count_of, data_length}
use Rattle.std.proofs.Common.{◌-◌, ◌≡◌, arith, ne_eqb}
use Rattle.reply_lines.proofs.data_length.Goals as goal

pub returns-in-81 : goal.returns-in-81
unfolding data_length
returns-in-81 c = rw c.in-81.is

pub returns-in-0-to-63 : goal.returns-in-0-to-63
unfolding data_length count_of
returns-in-0-to-63 c =
    let none : c.args.code - 0x40 ≡ 0 = omega arith in
    let other = ne_eqb c.args.code 0x51 (λ e. omega arith) in
    rw (other, none)

pub returns-in_default : goal.returns-in_default
unfolding data_length
returns-in_default c = rw (ne_eqb c.args.code 0x51 (λ e. omega arith)) c.count_of.ensures.0
