-- `command_log::next_at` meets its contract: each arm has its kind, and no other byte has one. Assumes nothing.
use Rattle.command_log.proofs.Laws.{no_kind, counted-kinds, comes_whole}
use Rattle.std.specs.Prelude.{None}
use Rattle.rules.specs.Bytes.{byte}
use Rattle.rules.specs.Log.{kinds, kind_in}
use Rattle.std.proofs.Common.{◌+◌, ◌-◌, ◌≡◌, sym, ap, ◌∙◌, arith}
use Rattle.command_log.proofs.next_at.Goals as goal

pub if_whole-requires : goal.if_whole-requires
unfolding kind_in kinds
if_whole-requires c = (c.requires, rw c.in-0.is)

pub if_whole-requires-in-49 : goal.if_whole-requires-in-49
unfolding kind_in kinds
if_whole-requires-in-49 c = (c.requires, rw c.in-49.is)

pub if_whole-requires-in-50 : goal.if_whole-requires-in-50
unfolding kind_in kinds
if_whole-requires-in-50 c = (c.requires, rw c.in-50.is)

pub if_whole-requires-in-17-to-20 : goal.if_whole-requires-in-17-to-20
if_whole-requires-in-17-to-20 c =
    let b = byte c.args.at c.args.log.now in
    let e : b ≡ 0x10 + (b - 0x10) = omega arith in
    (c.requires, sym (ap (kind_in kinds) e ∙ (counted-kinds (b - 0x10) (omega arith) (omega arith)).0))

pub if_whole-requires-in-33-to-36 : goal.if_whole-requires-in-33-to-36
if_whole-requires-in-33-to-36 c =
    let b = byte c.args.at c.args.log.now in
    let e : b ≡ 0x20 + (b - 0x20) = omega arith in
    (c.requires, sym (ap (kind_in kinds) e ∙ (counted-kinds (b - 0x20) (omega arith) (omega arith)).1))

pub returns-in_default : goal.returns-in_default
unfolding kinds
returns-in_default c =
    let b = byte c.args.at c.args.log.now in
    comes_whole c.args.log.now c.args.at None c.requires (sym (no_kind kinds b (omega arith))) (omega arith)

pub returns-in_default-2 : goal.returns-in_default-2
unfolding kinds
returns-in_default-2 c =
    let b = byte c.args.at c.args.log.now in
    comes_whole c.args.log.now c.args.at None c.requires (sym (no_kind kinds b (omega arith))) (omega arith)

pub returns-in_default-3 : goal.returns-in_default-3
unfolding kinds
returns-in_default-3 c =
    let b = byte c.args.at c.args.log.now in
    comes_whole c.args.log.now c.args.at None c.requires (sym (no_kind kinds b (omega arith))) (omega arith)
