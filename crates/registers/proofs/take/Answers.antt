-- `registers::take` meets its contract: register by register. Assumes nothing.
use Rattle.layout.proofs.Laws.{lent_whole}
use Rattle.registers.proofs.Laws.{takes_read, takes_write, takes_edit, takes_name, takes_id, takes_commit, takes_pa}
use Rattle.rules.specs.Bytes.{number, part}
use Rattle.rules.specs.State.{pin_index, owner_index, with_read, with_write, with_edit, with_name, with_id, with_pa}
use Rattle.std.proofs.Common.{ℕ, List, ◌≤◌, ◌≡◌, inl, inr, arith}
use Rattle.registers.proofs.take.Goals as goal

-- the PIN index of NAME and COMMIT is in range
pinned : (pa : List ℕ) (pin : ℕ) → pin ≡ number (part 0 2 pa) → number (part 0 2 pa) ≤ 255 → pin ≤ 255
pinned pa pin read low = rw read low

pub overflow_mul-pin : goal.overflow_mul-pin
unfolding pin_index
overflow_mul-pin c =
    let small : c.number16-pin.result ≤ 255 = pinned c.args.session.pa _ c.number16-pin.ensures (c.requires.pinned (inl c.in-Name.is)) in
    omega (arith, small)

pub overflow_add-pin : goal.overflow_add-pin
unfolding pin_index
overflow_add-pin c =
    let small : c.number16-pin.result ≤ 255 = pinned c.args.session.pa _ c.number16-pin.ensures (c.requires.pinned (inl c.in-Name.is)) in
    omega (arith, small)

pub masked-name-requires : goal.masked-name-requires
unfolding pin_index
masked-name-requires c =
    let small = pinned c.args.session.pa _ c.number16-pin.ensures (c.requires.pinned (inl c.in-Name.is)) in
    let long = c.requires.long in
    (omega arith, omega (arith, small, long))

pub commit-requires : goal.commit-requires
unfolding owner_index pin_index
commit-requires c =
    let before = c.requires in
    let is = c.in-Commit.is in
    (before.long, pinned c.args.session.pa _ c.number16-pin.ensures (before.pinned (inr is)), rw c.number16.ensures (before.owned is))

pub returns-in-Read : goal.returns-in-Read
unfolding with_read
returns-in-Read c =
    let a = c.args in
    takes_read a.tag.now a.session _ a.«data».now _ c.number16-pin.ensures c.in-Read.is

pub returns-in-Write : goal.returns-in-Write
unfolding with_write
returns-in-Write c =
    let a = c.args in
    takes_write a.tag.now a.session _ a.«data».now _ c.number16-pin.ensures c.in-Write.is

pub returns-in-Edit : goal.returns-in-Edit
unfolding with_edit
returns-in-Edit c =
    let a = c.args in
    takes_edit a.tag.now a.session _ a.«data».now _ c.number16-pin.ensures c.in-Edit.is

pub returns-in-Name : goal.returns-in-Name
unfolding with_name
returns-in-Name c =
    let a = c.args in
    takes_name a.tag.now a.session _ a.«data».now _ c.number16-pin.ensures _ c.in-Name.is
    (rw (← lent_whole _ _ (λ y. y.now) _ 16 _ _ c.unwrap-block.ensures c.as_array.ensures.cases) c.masked-name.ensures)

pub returns-in-Id : goal.returns-in-Id
unfolding with_id
returns-in-Id c =
    let a = c.args in
    takes_id a.tag.now a.session _ a.«data».now _ (lent_whole _ _ (λ y. y.now) _ 16 _ _ c.unwrap-block.ensures c.as_array.ensures.cases)
    c.in-Id.is

pub returns-in-Commit : goal.returns-in-Commit
returns-in-Commit c =
    let a = c.args in
    takes_commit a.tag.now a.session _ a.«data».now _ c.number16-pin.ensures _ _ c.in-Commit.is
    c.number16.ensures (rw (← lent_whole _ _ (λ y. y.now) _ 16 _ _ c.unwrap-block.ensures c.as_array.ensures.cases) c.commit.ensures)

pub returns-in-Pa : goal.returns-in-Pa
unfolding with_pa
returns-in-Pa c =
    let a = c.args in
    takes_pa a.tag.now a.session _ a.«data».now _ (lent_whole _ _ (λ y. y.now) _ 16 _ _ c.unwrap-block.ensures c.as_array.ensures.cases)
    c.in-Pa.is
