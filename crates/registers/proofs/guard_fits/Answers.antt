-- `registers::guard_fits` meets its contract. Assumes nothing.
use Rattle.octets.proofs.Laws.{part_lent, block_lent}
use Rattle.rules.specs.State.{owner}
use Rattle.std.proofs.Common.{◌+◌, ◌*◌, ◌∙◌, arith}
use Rattle.registers.proofs.guard_fits.Goals as goal

pub returns : goal.returns
unfolding owner
returns c =
    c.equal.ensures
    ∙ rw (
      part_lent 4 12 c.encipher_block-enciphered.result,
      c.encipher_block-enciphered.ensures,
      c.sixteen-key.ensures,
      block_lent (16 + 16 * c.args.owner) c.args.tag.now (omega arith),
    )
