-- Small facts on tests, and on lists of checks: what it means that none of them applies.
use Rattle.std.specs.Prelude.{Option, None, Some, Result, Ok, Err, IsErrAnd}
use Rattle.std.specs.Option.{ok_or}
use Rattle.std.proofs.lemmas.Result.{err_from_is_err_and}
use Prim.Native.Nat.{ℕ}
use mathlib.Core.Path.{◌≡◌, refl, sym, ap, ◌∙◌}
use mathlib.Core.Logic.{◌≢◌, inl, inr}
use mathlib.Core.Bool.{Bool, true, false, ◌&&◌, ◌||◌}
use mathlib.Core.List.{List, [], ◌∷◌}
use native.Mathlib.Omega.{arith}
use lib.Dec.{eqb}
use borrow.Author.Tests.{eqb-false}
use Rattle.rules.specs.Bytes.{all}
use Rattle.rules.specs.Refusals.{Checks, lowest, ◌when◌else◌, granted}
use Rattle.rules.specs.Claims.{Applies}

pub true_false : {A : Type 0} → true ≡ false → A
true_false e = let z : ◌≡◌ {A = ℕ} 0 1 = cc in absurd (omega arith)

pub some_none : {A B : Type 0} {a : A} → Some a ≡ None → B
some_none e = let z : ◌≡◌ {A = ℕ} 0 1 = cc in absurd (omega arith)

pub same_some : {A : Type 0} {a b : A} → Some a ≡ Some b → a ≡ b
same_some e = cc

pub same_ok : {A E : Type 0} {a b : A} → ◌≡◌ {A = Result A E} (Ok a) (Ok b) → a ≡ b
same_ok e = cc

pub ok_err : {A E B : Type 0} {a : A} {e : E} → ◌≡◌ {A = Result A E} (Ok a) (Err e) → B
ok_err e = let z : ◌≡◌ {A = ℕ} 0 1 = cc in absurd (omega arith)

-- an error that `?` hands on
pub handed_on : {A E : Type 0} (r : Result A E) (e : E) → IsErrAnd r (λ y. y ≡ e) → r ≡ Err e
handed_on r e h = let p = err_from_is_err_and r h in p.1 ∙ ap Err p.2

-- and one that `ok_or` put for a value that is missing
pub handed_missing : {A B E : Type 0} (o : Option A) (d e : E) (r : Result B E) → o ≡ None → Err e ≡ ok_or o d
    → IsErrAnd r (λ y. y ≡ e) → r ≡ Err d
handed_missing {A = A} {E = E} o d e r n v h = handed_on r e h ∙ ap Err (same e d (rw n at v))
  where
    same : (e d : E) → ◌≡◌ {A = Result A E} (Err e) (Err d) → e ≡ d
    same e d v = cc

pub and_true : (a b : Bool) → (a && b) ≡ true → (a ≡ true) × (b ≡ true)
and_true true true e = (refl, refl)
and_true true false e = true_false (sym e)
and_true false b e = true_false (sym e)

pub or_false : (a b : Bool) → (a || b) ≡ false → (a ≡ false) × (b ≡ false)
or_false false false e = (refl, refl)
or_false false true e = true_false e
or_false true b e = true_false e

pub or_first : (a b : Bool) → a ≡ true → (a || b) ≡ true
or_first a b e = rw e

pub or_second : (a b : Bool) → b ≡ true → (a || b) ≡ true
or_second true b e = refl
or_second false b e = e

-- ---- a list of tests that all hold

pub all_true : (b : Bool) (bs : List Bool) → all (b ∷ bs) ≡ true → (b ≡ true) × (all bs ≡ true)
unfolding all
all_true b bs e = and_true b (all bs) e

pub all_and : (b : Bool) (bs : List Bool) → b ≡ true → all bs ≡ true → all (b ∷ bs) ≡ true
unfolding all
all_and b bs e f = rw (e, f)

pub all_none : all [] ≡ true
unfolding all
all_none = refl

-- ---- a list of checks

-- no number is given: the first does not apply, and no later one
pub passes : (n : ℕ) (b : Bool) (cs : Checks) → lowest (n when b else cs) ≡ None → (b ≡ false) × (lowest cs ≡ None)
unfolding lowest
passes n true cs e = some_none e
passes n false cs e = (refl, e)

-- and back
pub clears : (n : ℕ) (b : Bool) (cs : Checks) → b ≡ false → lowest cs ≡ None → lowest (n when b else cs) ≡ None
unfolding lowest
clears n true cs e h = true_false e
clears n false cs e h = h

-- a test that holds gives its number; one that does not leaves the rest to decide
pub gives : (n : ℕ) (b : Bool) (cs : Checks) → b ≡ true → lowest (n when b else cs) ≡ Some n
unfolding lowest
gives n true cs e = refl
gives n false cs e = true_false (sym e)

pub leaves : (n : ℕ) (b : Bool) (cs : Checks) → b ≡ false → lowest (n when b else cs) ≡ lowest cs
unfolding lowest
leaves n true cs e = true_false e
leaves n false cs e = refl

-- another number is given: the first does not apply, and a later one gives it
pub given_later : (n : ℕ) (b : Bool) (cs : Checks) (m : ℕ) → n ≢ m → lowest (n when b else cs) ≡ Some m
    → (b ≡ false) × (lowest cs ≡ Some m)
unfolding lowest
given_later n true cs m h e = absurd (h (same_some e))
given_later n false cs m h e = (refl, e)

-- the last number is given: its test holds
pub given-last : (n : ℕ) (b : Bool) (m : ℕ) → lowest (n when b else granted) ≡ Some m → b ≡ true
unfolding lowest
given-last n true m e = refl
given-last n false m e = some_none (sym e)

-- what is given applies, and stands on the list
pub given_applies : (n : ℕ) (cs : Checks) → lowest cs ≡ Some n → Applies n cs
unfolding lowest
given_applies n granted e = some_none (sym e)
given_applies n (m when true else cs) e = inl (sym (same_some e), refl)
given_applies n (m when false else cs) e = inr (given_applies n cs e)

abbrev pub has : ℕ → Checks → Bool
has n granted = false
has n (m when b else cs) = eqb m n || has n cs

pub not_there : (n : ℕ) (cs : Checks) → has n cs ≡ false → Applies n cs → ⊥
not_there n granted h a = a
not_there n (m when b else cs) h (inl a) = eqb-false m n (or_false (eqb m n) (has n cs) h).0 (sym a.0)
not_there n (m when b else cs) h (inr a) = not_there n cs (or_false (eqb m n) (has n cs) h).1 a

pub never-given : (n : ℕ) (cs : Checks) → has n cs ≡ false → lowest cs ≡ Some n → ⊥
never-given n cs h e = not_there n cs h (given_applies n cs e)

-- two tests with one number are one test
pub joined : (n : ℕ) (a b : Bool) (cs : Checks) → lowest (n when a else n when b else cs) ≡ lowest (n when a || b else cs)
unfolding lowest
joined n true b cs = refl
joined n false b cs = refl

pub joined-three : (n : ℕ) (a b c : Bool) (cs : Checks)
    → lowest (n when a else n when b else n when c else cs) ≡ lowest (n when (a || b) || c else cs)
joined-three n a b c cs = joined n a b (n when c else cs) ∙ joined n (a || b) c cs

pub none_applies : lowest granted ≡ None
unfolding lowest
none_applies = refl

-- checks before others: where they give a number, it stands; where they give none, the others decide
abbrev pub followed : Checks → Checks → Checks
followed granted ds = ds
followed (n when b else cs) ds = n when b else followed cs ds

pub first_gives : (cs ds : Checks) (n : ℕ) → lowest cs ≡ Some n → lowest (followed cs ds) ≡ Some n
unfolding lowest
first_gives granted ds n e = some_none (sym e)
first_gives (m when true else cs) ds n e = e
first_gives (m when false else cs) ds n e = first_gives cs ds n e

pub first_leaves : (cs ds : Checks) → lowest cs ≡ None → lowest (followed cs ds) ≡ lowest ds
unfolding lowest
first_leaves granted ds e = refl
first_leaves (m when true else cs) ds e = some_none e
first_leaves (m when false else cs) ds e = first_leaves cs ds e

-- two lists that begin with the same check
pub lowest_under : (n : ℕ) (b : Bool) (cs ds : Checks) → (b ≡ false → lowest cs ≡ lowest ds)
    → lowest (n when b else cs) ≡ lowest (n when b else ds)
unfolding lowest
lowest_under n true cs ds h = refl
lowest_under n false cs ds h = h refl
