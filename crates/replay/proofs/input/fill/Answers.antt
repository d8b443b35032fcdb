-- `fill` meets its contract: a read fills the next part of the buffer with what the input loses. Assumes nothing.
use Rattle.std.proofs.Common.{◌≡◌, ℕ, ◌+◌, ◌≤◌, List, ◌++◌, rules, length, take, sym, ap, ◌∙◌, subst, length-take-le}
use Rattle.std.specs.Io.KnownBytes.{Consumes}
use Rattle.std.proofs.KnownBytes.{Consumes-trans}
use borrow.Rule.Slice.PartMut.{put_mid, post_of}
use lib.Seq.{take-append-add, take-append-le}
use Rattle.replay.proofs.input.fill.Goals as goal

-- what stands in a part of a list, behind a front that stays
front_and_part : (a n k : ℕ) (xs ys : List ℕ) → a ≤ length xs → n ≤ length ys
    → take a xs ++ take n ys ≡ take (a + n) (put_mid a k xs ys)
front_and_part a n k xs ys within fits =
    let after = post_of a k xs in
    let long = length-take-le a xs within in
    sym (
    ap (λ m. take (m + n) (put_mid a k xs ys)) (sym long)
    ∙ take-append-add (take a xs) (ys ++ after) n
    ∙ ap (λ l. take a xs ++ l) (take-append-le n ys after fits)
    )

pub loop-done-preserved : goal.loop-done-preserved
loop-done-preserved g c =
    let from = c.loop-done.done in
    let within = c.loop-done.invariant.1 in
    let joined = front_and_part from c.in_ok-more.more _ c.loop-done.buffer c.read.new.buf within c.in_ok-more.ensures.bound.0 in
    (search rules, search rules, subst (Consumes _ _) joined (Consumes-trans _ _ _ _ _ c.loop-done.invariant.2 c.in_ok-more.ensures.bytes.0))
