-- `reads::judge_read_in` meets its contract: place by place. Assumes nothing.
use Rattle.layout.proofs.Laws.{unit_found, segment_offset}
use Rattle.reads.proofs.Laws.{readable, unreadable, unit_read_in, segment_read_in}
use Rattle.std.proofs.Common.{sym, ◌∙◌, arith, rules}
use Rattle.reads.proofs.judge_read_in.Goals as goal

pub unit_of-requires : goal.unit_of-requires
unit_of-requires c =
    (unit_found _ _ _ _ _ c.requires.0 c.requires.1 c.in-UnitOf.is).0.inside

pub overflow_add-at : goal.overflow_add-at
overflow_add-at c =
    let found = unit_found _ _ _ _ _ c.requires.0 c.requires.1 c.in-UnitOf.is in
    omega arith

pub unit_at-requires : goal.unit_at-requires
unit_at-requires c =
    let found = unit_found _ _ _ _ _ c.requires.0 c.requires.1 c.in-UnitOf.is in
    omega arith

pub overflow_sub-at : goal.overflow_sub-at
overflow_sub-at c =
    let found = unit_found _ _ _ _ _ c.requires.0 c.requires.1 c.in-UnitOf.is in
    omega (arith, found, c.unit_at.ensures)

pub judge_segment_read-requires : goal.judge_segment_read-requires
judge_segment_read-requires c =
    let found = segment_offset _ _ _ _ _ c.requires.0 c.requires.1 c.requires.2 c.in-Segment.is in
    (c.requires.0, found.0, found.2)

pub returns-in-Header : goal.returns-in-Header
returns-in-Header c = sym (readable _ _ _ _ c.in-Header.is)

pub returns-in-UnitOf : goal.returns-in-UnitOf
returns-in-UnitOf c =
    rw c.unit_at.ensures at c.judge_unit_read.ensures
    ∙ unit_read_in _ _ _ _ _ _ _ c.unit_of.ensures c.in-UnitOf.is

pub returns-in-Segment : goal.returns-in-Segment
returns-in-Segment c =
    let found = segment_offset _ _ _ _ _ c.requires.0 c.requires.1 c.requires.2 c.in-Segment.is in
    c.judge_segment_read.ensures ∙ segment_read_in _ _ _ _ _ _ found.1 c.in-Segment.is

pub returns-in_default : goal.returns-in_default
returns-in_default c = sym (search (rules, unreadable))
