-- `writes::judging::judge_header` meets its contract: the shape, then the value. Assumes nothing.
use Rattle.rules.proofs.Tests.{gives, leaves}
use Rattle.rules.specs.Bytes.{part}
use Rattle.rules.specs.Refusals.{header_write_checks}
use Rattle.std.proofs.Common.{sym, ◌∙◌}
use Rattle.writes.proofs.judging.judge_header.Goals as goal

pub returns-then-not-at-data : goal.returns-then-not-at-data
unfolding header_write_checks
returns-then-not-at-data c = sym (gives 4 _ _ c.if-not-at-data.true-raw)

pub returns : goal.returns
unfolding header_write_checks part
returns c = c.judge_value.ensures ∙ sym (leaves 4 _ _ c.if-not-at-data.false-raw)
