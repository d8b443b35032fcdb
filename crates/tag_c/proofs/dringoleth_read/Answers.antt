-- `tag_c::dringoleth_read` meets its contract. Assumes nothing.
use Rattle.rules.specs.Command.{new_session}
use Rattle.std.proofs.Common.{refl}
use Rattle.tag_c.proofs.Laws.{leaves_session}
use Rattle.tag_c.proofs.dringoleth_read.Goals as goal

pub returns : goal.returns
returns c =
    let made = c.session_of-before.ensures in
    record {
      called =
          leaves_session _ _ _ _ _ _ _ made.1 made.0 (unfold new_session in refl) c.number_of.ensures
          c.read-outcome.ensures.carried_out;
      output_after = rw (← made.0) c.read-outcome.ensures.output_after;
    }
