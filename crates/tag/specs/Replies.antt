-- What the functions of `tag` hand each other in a run over a log. The public contracts do not cite it.
use Rattle.std.specs.Prelude.{ℕ, ◌≤◌, ◌≡◌, List, length, None, Option, Some}
use Rattle.rules.specs.Answers.{Answer}
use Rattle.rules.specs.declared.Session.{Session}
use Rattle.rules.specs.Bytes.{put}
use Rattle.rules.specs.State.{Cipher, State, state}
use Rattle.rules.specs.Command.{Command, Reply, read, done, refused, reply, after}
use Rattle.rules.specs.Calls.{reply_of}
use Rattle.rules.specs.Log.{count_of, encoded}
use Rattle.command_log.specs.declared.Next.{Next}
use Rattle.command_log.specs.declared.Next.TheVariants as next
use Rattle.command_log.specs.Next.{kind_of, command_in, length_of, room_asked}

-- what is replied to the command that comes next, with the length of its body, and the state after it; `None` is a 15
abbrev pub reply_for : Cipher → State → Option (Command × ℕ) → Reply
reply_for E s None = refused 15
reply_for E s (Some x) = reply E s x.0

abbrev pub after_for : Cipher → State → Option (Command × ℕ) → State
after_for E s None = s
after_for E s (Some x) = after E s x.0

-- what comes next has these bytes, and the output the room that its reply must find; a read has some bytes
pub record Room (x : Option Next) (bytes out : List ℕ) : Type 0 where
  pub whole : length bytes ≡ length_of (kind_of x)
  pub some : (d : ℕ) → x ≡ Some (next.Read d) → 1 ≤ count_of d
  pub wide : room_asked (command_in bytes x) ≤ length out

-- a read of a log, by the last digit of its kind
abbrev pub read_counted : (address digit : ℕ) → Command
read_counted a d = read a (count_of d) (count_of d)

-- the reply r at the start of the output: o is left of `out`, and n is the length of the reply
pub record Written (r : Reply) (out o : List ℕ) (n : ℕ) : Type 0 where
  pub bytes : o ≡ put 0 (encoded r) out
  pub count : n ≡ length (encoded r)

-- what a command of a log leaves beside the tag and its reply: the length of the reply, and the session
pub record Replied : Type 0 where
  pub written : ℕ
  pub session : Session

abbrev pub replied : ℕ → Session → Replied
replied n v = record { written = n; session = v }

-- the answer a, replied so, and the session v: x is what is left of both
pub record Answered (a : Answer) (v : Session) (out o : List ℕ) (x : Replied) : Type 0 where
  pub written : Written (reply_of a done) out o x.written
  pub session : x.session ≡ v

-- the command that comes next, carried out on the state s and replied to: x, the tag t and the output o are left
pub record Replies (E : Cipher) (s : State) (q : Option (Command × ℕ)) (out t o : List ℕ) (x : Replied) : Type 0 where
  pub left : state t x.session ≡ after_for E s q
  pub written : Written (reply_for E s q) out o x.written
