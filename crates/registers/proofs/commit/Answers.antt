-- `registers::commit` meets its contract. Assumes nothing.
use Rattle.octets.proofs.Laws.{set_put}
use Rattle.rules.specs.Effects.{apply}
use Rattle.rules.specs.Map.{flag_at}
use Rattle.rules.specs.State.{owner}
use Rattle.std.proofs.Common.{◌∙◌}
use Rattle.registers.proofs.commit.Goals as goal

pub returns : goal.returns
unfolding owner apply
returns c =
    c.store_at.ensures
    ∙ rw (c.masked-new.ensures, set_put flag_at 1 c.args.tag.now)
