-- `hosts::misfits` meets its contract. Assumes nothing.
use Rattle.hosts.proofs.RowLaws.{any_of_rows}
use Rattle.rules.specs.Refusals.{misfit}
use Rattle.std.proofs.Common.{rules, tests}
use Rattle.hosts.proofs.misfits.Goals as goal

pub returns : goal.returns
returns c =
    any_of_rows (misfit c.args.tag.now) c.args.rows.now c.any.ensures.ran (cc) (λ row b q k. search (rules, tests))
