-- `hosts::store_row` meets its contract. Assumes nothing.
use Rattle.rules.proofs.BytesLaws.{put-append}
use Rattle.rules.specs.Bytes.{bytes_of, put}
use Rattle.rules.specs.Effects.{row_store, apply}
use Rattle.rules.specs.Hosts.{row_at}
use Rattle.rules.specs.Map.{readers_at}
use Rattle.std.proofs.Common.{sym, ap, ◌∙◌, ◌+◌, ◌≡◌, arith, length}
use Rattle.hosts.proofs.store_row.Goals as goal

pub returns : goal.returns
unfolding row_store apply
returns c =
    let a = c.args in
    let at = readers_at + row_at a.x in
    let named = bytes_of 2 (a.k + 1) in
    let l : length a.id ≡ 16 = omega arith in
    c.store16.ensures ∙ ap (put (at + 16) named) c.store_at.ensures
    ∙ ap (λ n. put (at + n) named (put at a.id a.tag.now)) (sym l)
    ∙ sym (put-append at a.id named a.tag.now)
