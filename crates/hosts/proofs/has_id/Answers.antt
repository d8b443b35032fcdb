-- `hosts::has_id` meets its contract. Assumes nothing.
use Rattle.hosts.proofs.RowLaws.{any_of_rows}
use Rattle.rules.specs.Hosts.{has_id}
use Rattle.std.proofs.Common.{rules, tests}
use Rattle.hosts.proofs.has_id.Goals as goal

pub returns : goal.returns
returns c =
    any_of_rows (has_id c.args.id) c.args.rows.now c.any.ensures.ran (cc) (λ row b q k. search (rules, tests))
