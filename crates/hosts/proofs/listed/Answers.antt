-- `hosts::listed` meets its contract. Assumes nothing.
use Rattle.hosts.proofs.RowLaws.{any_of_rows}
use Rattle.rules.specs.Hosts.{names}
use Rattle.std.proofs.Common.{rules, tests}
use Rattle.hosts.proofs.listed.Goals as goal

pub returns : goal.returns
returns c =
    any_of_rows (names c.args.k) c.args.rows.now c.any.ensures.ran (cc) (λ row b q k. search (rules, tests))
