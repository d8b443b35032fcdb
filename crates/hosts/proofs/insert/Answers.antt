-- `hosts::insert` meets its contract: pairs, row and unit, one after another. Assumes nothing.
use Rattle.hosts.proofs.InsertLaws.{inserted-all}
use Rattle.hosts.proofs.RowLaws.{count_rows}
use Rattle.std.proofs.Common.{◌∙◌}
use Rattle.hosts.proofs.insert.Goals as goal

pub returns : goal.returns
returns c =
    let a = c.args in
    let x = count_rows _ _ c.rows-x.ensures.hosts in
    let l = c.store_row.auto.tag in
    let m = c.join_all.auto.tag in
    inserted-all a.tag.now a.k a.id c.requires _ _ _ _ _ x c.join_all.ensures c.store_row.ensures (l ∙ m)
    c.unit_at-start.ensures c.insert.ensures
