-- `tag_c::dringoleth_run` meets its contract. Assumes nothing.
use Rattle.tag_c.proofs.Laws.{keeps_run}
use Rattle.tag_c.proofs.dringoleth_run.Goals as goal

pub returns : goal.returns
returns c =
    let made = c.session_of-before.ensures in
    let kept = keeps_run _ _ _ _ _ _ _ _ _ c.run-run.result made.1 made.0 c.run-run.ensures c.number_of_stop.ensures c.keep.ensures in
    record { run_returned = kept.0; run_left = kept.1 }
