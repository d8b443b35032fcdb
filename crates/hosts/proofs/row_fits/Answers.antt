-- What is left to prove of `hosts::row_fits`: the unit that the row names. Assumes nothing.
use Rattle.hosts.proofs.FitLaws.{row_malformed, row_formed}
use Rattle.std.proofs.Common.{sym, ◌∙◌, rules}
use Rattle.hosts.proofs.row_fits.Goals as goal

pub returns-in-None : goal.returns-in-None
returns-in-None c =
    row_malformed _ _ _ c.named-number.ensures (search rules) (search rules) _ c.unit_of.ensures (sym c.decode.ensures ∙ c.in-None.is)

pub returns-in-Some : goal.returns-in-Some
returns-in-Some c =
    c.is_inserted.ensures
    ∙ row_formed _ _ _ c.named-number.ensures (search rules) (search rules) _ _ c.unit_of.ensures (sym c.decode.ensures ∙ c.in-Some.is)
