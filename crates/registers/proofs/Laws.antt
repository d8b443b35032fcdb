-- Laws of the registers: the blocks that are enciphered, the checks by the tests of the code, and what a granted write
-- leaves. Assumes nothing.
use Rattle.std.specs.Prelude.{None, Some}
use Prim.Native.Nat.{ℕ, ◌≤◌, ◌<◌}
use mathlib.Core.Path.{◌≡◌, refl, sym, ap, ◌∙◌}
use mathlib.Core.Logic.{◌⊎◌, inl, inr}
use mathlib.Core.Bool.{Bool, true, false, not, ◌||◌}
use mathlib.Core.List.{List, ◌++◌}
use lib.ListN.{length, set, replicate}
use lib.Dec.{eqb, leb, ltb}
use borrow.Author.Tests.{leb-true, leb-false, le-leb, lt-leb, le-ltb, lt-ltb, eq-eqb, ne_eqb, not-false}
use borrow.Rule.Slice.PartMut.{mid_of}
use Rattle.rules.specs.declared.Session.{Session}
use Rattle.rules.specs.declared.Register.{Register}
use Rattle.rules.specs.declared.Register.TheVariants.{Read, Write, Edit, Name, Id, Commit, Pa}
use Rattle.rules.specs.Bytes.{part, put, number, same, xor}
use Rattle.rules.specs.Map.{counter_bytes, flag_at, pin_at}
use Rattle.rules.specs.State.{state, pin_index, owner_index, pin, owner, response, with_read, with_write, with_edit, with_name, with_id, with_pa}
use Rattle.rules.specs.Refusals.{◌when◌else◌, granted, lowest, register_checks, block_checks, response_checks, name_checks, commit_checks}
use Rattle.rules.specs.Effects.{apply, register_stores, register_session, commit_stores}
use Rattle.rules.proofs.Tests.{passes, or_false, gives, leaves, joined-three, followed, lowest_under}
use Rattle.octets.proofs.Laws.{part_lent, length_lent, put_whole, set_put}
use Rattle.xxtea.specs.Block.{E}
use Rattle.registers.specs.Registers.{register_written}

-- ---- blocks

-- the eight bytes of the counter behind eight zeros make a block
counter_behind : (bs : List ℕ) → length bs ≡ 8 → put 8 bs (replicate 16 0) ≡ replicate 8 0 ++ bs
unfolding put
counter_behind bs e = ap (λ l. replicate 8 0 ++ l) (put_whole bs (replicate 8 0) e)

pub counter_lent : (t : List ℕ) → 12 ≤ length t
    → put 8 (mid_of 4 8 t) (replicate 16 0) ≡ replicate 8 0 ++ counter_bytes t
counter_lent t h = rw (part_lent 4 8 t) (counter_behind (counter_bytes t) (length_lent 4 8 t h))

-- ---- tests

pub above : (a b : ℕ) → b < a → not (leb a b) ≡ true
above a b h = rw (lt-leb a b h)

pub within : (a b : ℕ) → a ≤ b → not (leb a b) ≡ false
within a b h = rw (le-leb a b h)

-- the PIN index, where the flag rule does not refuse
pub index_within : (t : List ℕ) (i : ℕ) → lowest (name_checks t i) ≡ None → i ≤ 255
unfolding name_checks
index_within t i e = leb-true i 255 (not-false _ (passes 9 _ _ e).0)

past : (a b : ℕ) → ltb b a ≡ not (leb a b)
past a b = by (leb a b) refl
  where
    by : (r : Bool) → leb a b ≡ r → ltb b a ≡ not r
    by true e = le-ltb b a (leb-true a b e)
    by false e = lt-ltb b a (leb-false a b e)

or_rest : (a b c : Bool) → (b || c) ≡ true → ((a || b) || c) ≡ true
or_rest true b c e = refl
or_rest false b c e = e

-- ---- the checks of READ, WRITE and EDIT, and of COMMIT: the flag rule, and then a comparison

pub response_parts : (t : List ℕ) (i : ℕ) (bs : List ℕ)
    → lowest (response_checks E t i bs)
    ≡ lowest (followed (name_checks t i) (11 when not (same bs (response E (pin t i) t)) else granted))
unfolding response_checks name_checks
response_parts t i bs = refl

-- COMMIT's PIN index 0 and owner index, by one test of the two
module _ (t : List ℕ) (i o : ℕ) (g bs : List ℕ) where
  pub indexes_refuse : (eqb i 0 || ltb 3 o) ≡ true → lowest (commit_checks E t i o g bs) ≡ Some 9
  unfolding commit_checks
  indexes_refuse e =
      joined-three 9 (not (leb i 255)) (eqb i 0) (not (leb o 3)) _
      ∙ gives 9 _ _ (or_rest (not (leb i 255)) (eqb i 0) _ (rw (← past o 3) e))

  pub commit_parts : (eqb i 0 || ltb 3 o) ≡ false
      → lowest (commit_checks E t i o g bs)
      ≡ lowest (followed (name_checks t i) (11 when not (same g (part 4 12 (E (owner t o) bs))) else granted))
  unfolding commit_checks name_checks
  commit_parts e =
      let two = or_false (eqb i 0) (ltb 3 o) e in
      lowest_under 9 (not (leb i 255)) _ _ (λ _. leaves 9 _ _ two.0 ∙ leaves 9 _ _ (sym (past o 3) ∙ two.1))

-- ---- the checks of a register, by what its bytes and the match on it say

module _ (t : List ℕ) (v : Session) (bs : List ℕ) where
  pub other_size : (r : Register) → (length bs ≡ 16 → ⊥) → lowest (register_checks E (state t v) r bs) ≡ Some 9
  unfolding register_checks
  other_size r h = gives 9 _ _ (ap not (ne_eqb _ _ h))

  pub right_size : (r : Register) → length bs ≡ 16
      → lowest (register_checks E (state t v) r bs) ≡ lowest (block_checks E (state t v) r bs)
  unfolding register_checks
  right_size r h = leaves 9 _ _ (ap not (eq-eqb _ _ h))

  pub block_response : (r : Register) → (r ≡ Read) ⊎ ((r ≡ Write) ⊎ (r ≡ Edit))
      → block_checks E (state t v) r bs ≡ response_checks E t (pin_index v) bs
  unfolding block_checks
  block_response r (inl e) = rw e
  block_response r (inr (inl e)) = rw e
  block_response r (inr (inr e)) = rw e

  pub block_plain : (r : Register) → (r ≡ Id) ⊎ (r ≡ Pa) → block_checks E (state t v) r bs ≡ granted
  unfolding block_checks
  block_plain r (inl e) = rw e
  block_plain r (inr e) = rw e

-- ---- the state that a granted write of a register leaves, by the register, the indexes i and j that PA names and the
-- results of the calls

module _ (t : List ℕ) (v : Session) (r : Register) (bs : List ℕ) (i : ℕ) (index : i ≡ number (part 0 2 v.pa)) where
  pub takes_read : r ≡ Read → state (set t flag_at 1) (with_read i v) ≡ register_written (state t v) r bs
  unfolding apply register_stores register_session pin_index
  takes_read e = rw (e, index, set_put flag_at 1 t)

  pub takes_write : r ≡ Write → state (set t flag_at 1) (with_write i v) ≡ register_written (state t v) r bs
  unfolding apply register_stores register_session pin_index
  takes_write e = rw (e, index, set_put flag_at 1 t)

  pub takes_edit : r ≡ Edit → state (set t flag_at 1) (with_edit i v) ≡ register_written (state t v) r bs
  unfolding apply register_stores register_session pin_index
  takes_edit e = rw (e, index, set_put flag_at 1 t)

  pub takes_name : (name : List ℕ) → r ≡ Name → name ≡ xor bs (response E (part (pin_at i) 16 t) t)
      → state (set t flag_at 1) (with_name name v) ≡ register_written (state t v) r bs
  unfolding apply register_stores register_session pin_index pin
  takes_name name e f = rw (e, f, index, set_put flag_at 1 t)

  pub takes_commit : (j : ℕ) (after : List ℕ) → r ≡ Commit → j ≡ number (part 2 2 v.pa) → after ≡ apply (commit_stores E t i j bs) t
      → state after v ≡ register_written (state t v) r bs
  unfolding apply register_stores register_session pin_index owner_index
  takes_commit j after e f g = rw (e, g, index, f)

module _ (t : List ℕ) (v : Session) (r : Register) (bs new : List ℕ) (copied : new ≡ bs) where
  pub takes_id : r ≡ Id → state t (with_id new v) ≡ register_written (state t v) r bs
  unfolding apply register_stores register_session
  takes_id e = rw (e, copied)

  pub takes_pa : r ≡ Pa → state t (with_pa new v) ≡ register_written (state t v) r bs
  unfolding apply register_stores register_session
  takes_pa e = rw (e, copied)
