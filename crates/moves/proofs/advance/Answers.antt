-- `moves::advance` meets its contract: a tag that is not sound gives 1. Assumes nothing.
use Rattle.rules.proofs.Unsound.{unsound}
use Rattle.rules.specs.Command.{advance}
use Rattle.rules.specs.State.{state}
use Rattle.std.proofs.Common.{sym, ◌∙◌}
use Rattle.xxtea.specs.Block.{E}
use Rattle.moves.proofs.advance.Goals as goal

pub returns-then-not-is_sound : goal.returns-then-not-is_sound
returns-then-not-is_sound c =
    let a = c.args in
    let n = sym c.requires ∙ c.if-not-is_sound.true in
    unsound E (state a.tag.now a.session) (advance a.segment) tt n
