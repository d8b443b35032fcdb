-- The laws that the functions of `command_log` cite: the kind of a byte, whole and short bodies, and the code of a count.
-- Assumes nothing.
use Rattle.std.specs.Prelude.{None, Option, Some}
use Prim.Native.Nat.{ℕ, zero, suc, ◌+◌, ◌-◌, ◌≤◌, ◌<◌}
use mathlib.Core.Path.{◌≡◌, refl, sym, ap, ◌∙◌}
use mathlib.Core.Logic.{◌≢◌}
use mathlib.Core.List.{List, [], ◌∷◌}
use native.Mathlib.Omega.{arith}
use lib.ListN.{length, drop, take, length-drop}
use lib.Seq.{drop-drop}
use borrow.Rule.Slice.PartMut.{mid_of}
use borrow.Author.Tests.{ne_eqb, le-leb, lt-leb}
use Rattle.rules.specs.Bytes.{byte, number, part}
use Rattle.rules.specs.Command.{read, write, advance, insert}
use Rattle.rules.specs.Log.{Kind, powers, advances, inserts, reads, writes, count_of, kinds, kind_in, body_length, command_of, whole_of, first, read_code}
use Rattle.rules.proofs.RunLaws.{of_log, some_bytes}
use Rattle.command_log.specs.declared.Next.{Next}
use Rattle.command_log.specs.declared.Next.TheVariants as next
use Rattle.command_log.specs.Next.{kind_of, length_of, command_by, command_at, command_in, ComesNext}

-- a byte that is none of these kinds
abbrev pub NoneOf : List (ℕ × Kind) → ℕ → Type 0
NoneOf [] b = Prim.Unit
NoneOf (k ∷ ks) b = (b ≢ k.0) × NoneOf ks b

pub no_kind : (ks : List (ℕ × Kind)) (b : ℕ) → NoneOf ks b → kind_in ks b ≡ None
unfolding kind_in
no_kind [] b n = refl
no_kind (k ∷ ks) b n = rw (ne_eqb b k.0 n.0) (no_kind ks b n.1)

-- the kinds that have this last digit
pub counted-kinds : (d : ℕ) → 1 ≤ d → d ≤ 4
    → (kind_in kinds (0x10 + d) ≡ Some (reads (count_of d))) × (kind_in kinds (0x20 + d) ≡ Some (writes (count_of d)))
unfolding kind_in kinds
counted-kinds zero l h = absurd (omega arith)
counted-kinds (suc zero) l h = (refl, refl)
counted-kinds (suc (suc zero)) l h = (refl, refl)
counted-kinds (suc (suc (suc zero))) l h = (refl, refl)
counted-kinds (suc (suc (suc (suc zero)))) l h = (refl, refl)
counted-kinds (suc (suc (suc (suc (suc d))))) l h = absurd (omega arith)

-- ---- the body

-- a whole one gives its kind's command
whole_body : (k : Option Kind) (body : List ℕ) → length_of k ≤ 1 + length body → command_by k body ≡ whole_of k body
unfolding whole_of
whole_body None body h = refl
whole_body (Some k) body h = rw (le-leb (body_length k) (length body) (omega arith))

-- a short one none
short_body : (k : Option Kind) (body : List ℕ) → 1 + length body < length_of k → None ≡ whole_of k body
unfolding whole_of
short_body None body h = absurd (omega arith)
short_body (Some k) body h = rw (lt-leb (body_length k) (length body) (omega arith))

module _ (log : List ℕ) (at : ℕ) (x : Option Next) (there : at < length log) (its-kind : kind_of x ≡ kind_in kinds (byte at log)) where
  pub comes_whole : length_of (kind_of x) ≤ length log - at → ComesNext log at x
  unfolding first
  comes_whole h =
      record {
        command = whole_body (kind_of x) (drop (at + 1) log) (simp length-drop (omega arith)) ∙ ap (λ k. whole_of k (drop (at + 1) log)) its-kind;
        whole = omega arith;
      }

  pub comes_short : length log - at < length_of (kind_of x) → ComesNext log at None
  unfolding first
  comes_short h =
      record {
        command = short_body (kind_of x) (drop (at + 1) log) (simp length-drop (omega arith)) ∙ ap (λ k. whole_of k (drop (at + 1) log)) its-kind;
        whole = omega arith;
      }

-- ---- a digit that has a count is that of the count's code

pub code_of : (d : ℕ) → 1 ≤ count_of d → (0x40 + d ≡ read_code (count_of d)) × (d ≤ 4)
unfolding count_of read_code
code_of zero h = absurd (omega arith)
code_of (suc zero) h = (refl, omega arith)
code_of (suc (suc zero)) h = (refl, omega arith)
code_of (suc (suc (suc zero))) h = (refl, omega arith)
code_of (suc (suc (suc (suc zero)))) h = (refl, omega arith)
code_of (suc (suc (suc (suc (suc d))))) h =
    let z : count_of (suc (suc (suc (suc (suc d))))) ≡ 0 =
    rw (
      ne_eqb (suc (suc (suc (suc (suc d))))) 1 (omega arith),
      ne_eqb (suc (suc (suc (suc (suc d))))) 2 (omega arith),
      ne_eqb (suc (suc (suc (suc (suc d))))) 3 (omega arith),
      ne_eqb (suc (suc (suc (suc (suc d))))) 4 (omega arith),
    ) in
    absurd (omega arith)

-- ---- the commands, by their bytes behind the kind

module _ (bytes : List ℕ) where
  pub read_in : (d a : ℕ) → a ≡ number (part 1 4 bytes)
      → command_in bytes (Some (next.Read d)) ≡ Some (read a (count_of d) (count_of d), 4)
  unfolding body_length command_of part
  read_in d a e = rw e

  pub write_in : (d a : ℕ) → a ≡ number (part 1 4 bytes)
      → command_in bytes (Some (next.Write d)) ≡ Some (write a (part 5 (count_of d) bytes), 4 + count_of d)
  unfolding body_length command_of part
  write_in d a e = rw (e, ← drop-drop 4 1 bytes)

  pub advance_in : (k : ℕ) → k ≡ number (part 1 2 bytes) → command_in bytes (Some next.Advance) ≡ Some (advance k, 2)
  unfolding body_length command_of part
  advance_in k e = rw e

  pub insert_in : (k : ℕ) → k ≡ number (part 1 2 bytes)
      → command_in bytes (Some next.Insert) ≡ Some (insert k (part 3 16 bytes), 18)
  unfolding body_length command_of part
  insert_in k e = rw (e, ← drop-drop 2 1 bytes)

-- a read has some bytes
pub read_counted : (log : List ℕ) (at d : ℕ) → ComesNext log at (Some (next.Read d)) → 1 ≤ count_of d
unfolding command_of
read_counted log at d n = some_bytes (count_of d) (of_log (byte at log) (drop (at + 1) log) _ _ (sym n.command))

-- ---- the bytes of what comes next, cut out of the log

part_within : (a n m : ℕ) (t : List ℕ) → a + n ≤ m → part a n (take m t) ≡ part a n t
unfolding part
part_within zero n m t h = front n m t (omega arith)
  where
    front : (n m : ℕ) (t : List ℕ) → n ≤ m → take n (take m t) ≡ take n t
    front zero m t h = refl
    front (suc n) zero t h = absurd (omega arith)
    front (suc n) (suc m) [] h = refl
    front (suc n) (suc m) (x ∷ t) h = ap (λ l. x ∷ l) (front n m t (omega arith))
part_within (suc a) n zero t h = absurd (omega arith)
part_within (suc a) n (suc m) [] h = refl
part_within (suc a) n (suc m) (x ∷ t) h = part_within a n m t (omega arith)

command_within : (k : Kind) (body : List ℕ) → command_of k (take (body_length k) body) ≡ command_of k body
unfolding command_of body_length
command_within powers body = refl
command_within advances body = rw (part_within 0 2 2 body (omega arith)) refl
command_within inserts body =
    rw (part_within 0 2 18 body (omega arith), part_within 2 16 18 body (omega arith)) refl
command_within (reads n) body = rw (part_within 0 4 4 body (omega arith)) refl
command_within (writes n) body =
    rw (part_within 0 4 (4 + n) body (omega arith), part_within 4 n (4 + n) body (omega arith)) refl

tail_taken : (n : ℕ) (t : List ℕ) → drop 1 (take (1 + n) t) ≡ take n (drop 1 t)
tail_taken n t = let e : 1 + n ≡ suc n = omega arith in rw e (by n t)
  where
    by : (n : ℕ) (t : List ℕ) → drop 1 (take (suc n) t) ≡ take n (drop 1 t)
    by zero [] = refl
    by (suc n) [] = refl
    by n (x ∷ t) = refl

by_within : (k : Option Kind) (t : List ℕ) → command_by k (drop 1 (take (length_of k) t)) ≡ command_by k (drop 1 t)
by_within None t = refl
by_within (Some k) t =
    ap (λ c. Some (c, body_length k)) (ap (command_of k) (tail_taken (body_length k) t) ∙ command_within k (drop 1 t))

pub cut : (log : List ℕ) (at end : ℕ) (x : Option Next) → end ≡ at + length_of (kind_of x)
    → command_in (mid_of at (end - at) log) x ≡ command_at log at x
cut log at end x e =
    let n : end - at ≡ length_of (kind_of x) = omega arith in
    rw n (by_within (kind_of x) (drop at log) ∙ ap (command_by (kind_of x)) (drop-drop 1 at log))
