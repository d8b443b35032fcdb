-- `registers::response` meets its contract. Assumes nothing.
use Rattle.octets.proofs.Laws.{block_lent}
use Rattle.registers.proofs.Laws.{counter_lent}
use Rattle.rules.specs.State.{response, enciphered_counter}
use Rattle.std.proofs.Common.{◌∙◌, arith}
use Rattle.registers.proofs.response.Goals as goal

pub returns : goal.returns
unfolding response enciphered_counter
returns c =
    c.encipher_block.ensures
    ∙ rw (
      c.sixteen.ensures,
      block_lent c.args.key c.args.tag.now c.requires.1,
      c.store_at.ensures,
      counter_lent c.args.tag.now (omega arith),
    )
