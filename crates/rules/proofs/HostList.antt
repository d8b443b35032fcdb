-- Laws of the host list: the rows that it has, by their numbers.
use Prim.Native.Nat.{ℕ, zero, suc, ◌+◌, ◌*◌, ◌≤◌, ◌<◌}
use mathlib.Core.Path.{◌≡◌, refl, sym, ap, subst, ◌∙◌}
use mathlib.Core.Logic.{◌≢◌}
use mathlib.Core.Bool.{Bool, true, false, ◌||◌, cond}
use mathlib.Core.List.{List, [], ◌∷◌}
use native.Mathlib.Omega.{arith}
use lib.ListN.{length}
use borrow.Author.Tests.{eqb-false}
use Rattle.rules.specs.Bytes.{part, same, zeros}
use Rattle.rules.specs.Hosts.{Host, hosts, host_at, hosts_from, most_hosts, readers, any, repeats}
use Rattle.rules.specs.SharedKeys.{row}
use Rattle.rules.proofs.Tests.{or_false}
use Rattle.rules.proofs.HostsLaws.{EachHost, none_meets, each_host}

-- ---- the i-th of a list

abbrev pub At : ℕ → Host → List Host → Type 0
At i h [] = ⊥
At zero h (g ∷ gs) = h ≡ g
At (suc i) h (g ∷ gs) = At i h gs

pub each_at : (P : Host → Type 0) (hs : List Host) (i : ℕ) (h : Host) → EachHost P hs → At i h hs → P h
each_at P [] i h e a = absurd a
each_at P (g ∷ gs) zero h e a = subst P (sym a) e.0
each_at P (g ∷ gs) (suc i) h e a = each_at P gs i h e.1 a

pub at_each : (P : Host → Type 0) (hs : List Host) → ((i : ℕ) (h : Host) → At i h hs → P h) → EachHost P hs
at_each P [] f = tt
at_each P (g ∷ gs) f = (f 0 g refl, at_each P gs (λ i h a. f (suc i) h a))

pub at_few : (hs : List Host) (i : ℕ) (h : Host) → At i h hs → i < length hs
at_few [] i h a = absurd a
at_few (g ∷ gs) zero h a = omega arith
at_few (g ∷ gs) (suc i) h a = let z = at_few gs i h a in omega arith

pub at_one : (hs : List Host) (i : ℕ) (h g : Host) → At i h hs → At i g hs → h ≡ g
at_one [] i h g a b = absurd a
at_one (f ∷ fs) zero h g a b = a ∙ sym b
at_one (f ∷ fs) (suc i) h g a b = at_one fs i h g a b

pub any_at : (f : Host → Bool) (hs : List Host) (i : ℕ) (h : Host) → At i h hs → f h ≡ true → any f hs ≡ true
unfolding any
any_at f [] i h a e = absurd a
any_at f (g ∷ gs) zero h a e = rw (sym (ap f a) ∙ e)
any_at f (g ∷ gs) (suc i) h a e = or_true (f g) (any f gs) (any_at f gs i h a e)
  where
    or_true : (b c : Bool) → c ≡ true → (b || c) ≡ true
    or_true true c q = refl
    or_true false c q = q

-- ---- the rows of the list

at_row : (n i : ℕ) (r : List ℕ) (j : ℕ) → j < length (hosts_from n i r) → At j (host_at r (i + j)) (hosts_from n i r)
unfolding hosts_from
at_row zero i r j h = absurd (omega arith)
at_row (suc n) i r j h = by (zeros (part (18 * i) 16 r)) j h (at_row n (suc i) r)
  where
    by : (b : Bool) (j : ℕ) → j < length (cond b [] (host_at r i ∷ hosts_from n (suc i) r))
        → ((j : ℕ) → j < length (hosts_from n (suc i) r) → At j (host_at r (suc i + j)) (hosts_from n (suc i) r))
        → At j (host_at r (i + j)) (cond b [] (host_at r i ∷ hosts_from n (suc i) r))
    by true j l later = absurd (omega arith)
    by false zero l later = let e : i + 0 ≡ i = omega arith in ap (host_at r) e
    by false (suc j) l later =
        let e : i + suc j ≡ suc i + j = omega arith in
        subst (λ m. At j (host_at r m) (hosts_from n (suc i) r)) (sym e) (later j (omega arith))

pub at_host : (t : List ℕ) (i : ℕ) → i < length (hosts t) → At i (row t i) (hosts t)
unfolding hosts
at_host t i l =
    let e : 0 + i ≡ i = omega arith in
    subst (λ m. At i (host_at (readers t) m) (hosts_from most_hosts 0 (readers t))) e (at_row most_hosts 0 (readers t) i l)

pub each_row : (P : Host → Type 0) (t : List ℕ) → ((i : ℕ) → i < length (hosts t) → P (row t i)) → EachHost P (hosts t)
each_row P t f = at_each P (hosts t) (λ i h a.
    let l = at_few (hosts t) i h a in subst P (at_one (hosts t) i (row t i) h (at_host t i l) a) (f i l))

pub short_list : (n i : ℕ) (r : List ℕ) → length (hosts_from n i r) ≤ n
unfolding hosts_from
short_list zero i r = omega arith
short_list (suc n) i r = by (zeros (part (18 * i) 16 r)) (short_list n (suc i) r)
  where
    by : (b : Bool) → length (hosts_from n (suc i) r) ≤ n → length (cond b [] (host_at r i ∷ hosts_from n (suc i) r)) ≤ suc n
    by true h = omega arith
    by false h = omega arith

pub few_hosts : (t : List ℕ) → length (hosts t) ≤ 85
unfolding hosts most_hosts
few_hosts t = short_list 85 0 (readers t)

-- a list of n rows or fewer, with a row that is not zero behind its last
pub longer_list : (n i : ℕ) (r w : List ℕ) (x : ℕ) → i + length (hosts_from n i r) ≡ x → x < i + n
    → ((j : ℕ) → j < x → part (18 * j) 16 w ≡ part (18 * j) 16 r) → zeros (part (18 * x) 16 w) ≡ false
    → length (hosts_from n i r) < length (hosts_from n i w)
unfolding hosts_from
longer_list zero i r w x e l f z = absurd (omega arith)
longer_list (suc n) i r w x e l f z =
    by (zeros (part (18 * i) 16 r)) refl e (λ d. longer_list n (suc i) r w x d (omega arith) f z)
  where
    by : (b : Bool) → zeros (part (18 * i) 16 r) ≡ b → i + length (cond b [] (host_at r i ∷ hosts_from n (suc i) r)) ≡ x
        → (suc i + length (hosts_from n (suc i) r) ≡ x → length (hosts_from n (suc i) r) < length (hosts_from n (suc i) w))
        → length (cond b [] (host_at r i ∷ hosts_from n (suc i) r))
        < length (cond (zeros (part (18 * i) 16 w)) [] (host_at w i ∷ hosts_from n (suc i) w))
    by true q d later = let y : x ≡ i = omega arith in rw (rw y at z) (omega arith)
    by false q d later = let m = later (omega arith) in rw (f i (omega arith), q) (omega arith)

-- no two rows name one segment
abbrev pub Once : List Host → Type 0
Once [] = Unit {0}
Once (h ∷ hs) = EachHost (λ g. g.named ≢ h.named) hs × Once hs

pub once_from : (hs : List Host) → repeats hs ≡ false → Once hs
unfolding repeats
once_from [] e = tt
once_from (h ∷ hs) e =
    let x = or_false _ (repeats hs) e in (
      each_host _ (λ g. g.named ≢ h.named) hs (λ g f. eqb-false _ _ (or_false (same g.id h.id) _ f).1) (none_meets _ hs x.0),
      once_from hs x.1,
    )
