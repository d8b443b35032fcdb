-- Calls: what a function that carries a command out owes, and the demands said of calls of such functions. The public
-- functions of the tag have `CarriedOut` as their contract. Assumes nothing.
use Rattle.std.specs.Prelude.{ℕ, ◌+◌, ◌<◌, ◌≡◌, ◌≢◌, List, [], ◌∷◌, ◌++◌, length, Ok, Err}
use Rattle.rules.specs.declared.Refusal.{Refusal}
use Rattle.rules.specs.declared.Refusal.TheVariants.{WrongResponse}
use Rattle.rules.specs.declared.Outcome.{Outcome}
use Rattle.rules.specs.declared.Session.{Session}
use Rattle.rules.specs.Bytes.{part, put}
use Rattle.rules.specs.Map.{flag_at}
use Rattle.rules.specs.State.{Cipher, State, state, powered_up}
use Rattle.rules.specs.Answers.{Answer, number_of, refusal_of}
use Rattle.rules.specs.Command.{Command, Reply, done, gives, refused, read, write, advance, insert, power_up, refusal, after, read_into}
use Rattle.rules.specs.Demand3.{LockedCounter, slot, value_at, grants, Entry, with_copies, without_copies, own_replies, copy_replies, AllRefused, CopiesOfGranted, MayChangePlaces}
use Rattle.rules.specs.Run.{final, replies}

abbrev pub outcome : Answer → Session → Outcome
outcome a v = record { answer = a; session = v }

-- a call that carries the command c out on the state s, answers o and leaves the tag t: the answer is the grant or the
-- refusal that the rules give, and the tag and the session are what they leave
pub record CarriedOut (E : Cipher) (s : State) (c : Command) (t : List ℕ) (o : Outcome) : Type 0 where
  pub answered : refusal_of o.answer ≡ refusal E s c
  pub left : state t o.session ≡ after E s c

-- ---- demand 1: "A refused command changes no byte of the tag, session or output, save that a wrong PIN response or
-- commit guard marks the roll-back counter as used"

pub record RefusedCall (s : State) (r : Refusal) (t : List ℕ) (o : Outcome) : Type 0 where
  pub same_session : o.session ≡ s.session
  pub same_tag : r ≢ WrongResponse → t ≡ s.tag
  pub flag_set : r ≡ WrongResponse → t ≡ put flag_at (1 ∷ []) s.tag

abbrev pub RefusedLeaves : Cipher → Type 0
RefusedLeaves E =
    (s : State) (c : Command) (t : List ℕ) (o : Outcome) (r : Refusal) → CarriedOut E s c t o → o.answer ≡ Err r
    → RefusedCall s r t o

abbrev pub RefusedReads : Cipher → Type 0
RefusedReads E =
    (s : State) (a n : ℕ) (out : List ℕ) (o : Outcome) (r : Refusal) → CarriedOut E s (read a n (length out)) s.tag o
    → o.answer ≡ Err r → read_into E s a n out ≡ out

-- ---- calls, one after another

-- the reply of a call: its answer, with the bytes where a read is granted
abbrev pub reply_of : Answer → Reply → Reply
reply_of (Ok x) r = r
reply_of (Err r) q = refused (number_of r)

-- a call on the state s: its command, its reply and the state that it leaves
pub data Call (E : Cipher) (s : State) : Command → Reply → State → Type 0 where
  reads : (a n : ℕ) (out left : List ℕ) (o : Outcome) → CarriedOut E s (read a n (length out)) s.tag o
      → left ≡ read_into E s a n out
      → Call E s (read a n (length out)) (reply_of o.answer (gives (part 0 n left))) (state s.tag o.session)
  writes : (a : ℕ) (bs t : List ℕ) (o : Outcome) → CarriedOut E s (write a bs) t o
      → Call E s (write a bs) (reply_of o.answer done) (state t o.session)
  advances : (k : ℕ) (t : List ℕ) (o : Outcome) → CarriedOut E s (advance k) t o
      → Call E s (advance k) (reply_of o.answer done) (state t o.session)
  inserts : (k : ℕ) (id t : List ℕ) (o : Outcome) → CarriedOut E s (insert k id) t o
      → Call E s (insert k id) (reply_of o.answer done) (state t o.session)
  powers_up : Call E s power_up done (state s.tag powered_up)

-- "Each gets the tag and session that the one before left."
pub data Calls (E : Cipher) : State → List Command → List Reply → State → Type 0 where
  no_more : {s : State} → Calls E s [] [] s
  then : {s m e : State} {c : Command} {cs : List Command} {r : Reply} {rs : List Reply} → Call E s c r m
      → Calls E m cs rs e → Calls E s (c ∷ cs) (r ∷ rs) e

-- ---- demand 3, of calls that start on the state s

pub record CallsDemand3 (E : Cipher) (s : State) : Type 0 where
  pub counting : (k j : ℕ) → LockedCounter s.tag k → j < 512
      → (cs : List Command) (rs : List Reply) (e : State) → Calls E s cs rs e
      → value_at (slot s.tag k j) e.tag
      ≡ value_at (slot s.tag k j) s.tag + grants (slot s.tag k j) cs rs
  pub copies : (es : List Entry) → CopiesOfGranted E s.tag s [] es
      → (rs qs : List Reply) (e f : State) → Calls E s (with_copies es) rs e → Calls E s (without_copies es) qs f
      → AllRefused (copy_replies es rs) × (own_replies es rs ≡ qs) × (e ≡ f)
  pub neighbours : (before : List Command) (c d : Command) (later : List Command)
      → MayChangePlaces (final E s before).tag c d
      → (rs qs : List Reply) (e f : State) → Calls E s (before ++ c ∷ d ∷ later) rs e
      → Calls E s (before ++ d ∷ c ∷ later) qs f
      → (first : List Reply) × (rest : List Reply) × (p : Reply) × (q : Reply)
      × (length first ≡ length before)
      × (rs ≡ first ++ p ∷ q ∷ rest)
      × (qs ≡ first ++ q ∷ p ∷ rest)
      × (e ≡ f)

-- a chain of calls answers and leaves what the rules say
abbrev pub CallsFollow : Cipher → Type 0
CallsFollow E =
    (s e : State) (cs : List Command) (rs : List Reply) → Calls E s cs rs e → (rs ≡ replies E s cs) × (e ≡ final E s cs)
