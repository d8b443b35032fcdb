-- `hosts::has_twin` meets its contract. Assumes nothing.
use Rattle.hosts.proofs.RowLaws.{any_of_rows}
use Rattle.hosts.specs.Joining.{host_of}
use Rattle.rules.specs.Hosts.{twin}
use Rattle.std.proofs.Common.{rules, tests}
use Rattle.hosts.proofs.has_twin.Goals as goal

pub returns : goal.returns
returns c =
    any_of_rows (twin (host_of c.args.row.now)) c.args.rows.now c.any.ensures.ran (cc) (λ row b q k. search (rules, tests))
