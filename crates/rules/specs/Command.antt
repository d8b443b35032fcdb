-- One command: its answer and what it leaves. Document 01, "Refusal numbers" 1 to 3, "A granted read fills ..", and
-- "How tight the answers are". Assumes nothing.
use Rattle.std.specs.Prelude.{ℕ, true, not, List, [], length, eqb, ltb, None, Option, Some}
use Rattle.rules.specs.declared.Session.{Session}
use Rattle.rules.specs.declared.Place.{Place}
use Rattle.rules.specs.Bytes.{part, put}
use Rattle.rules.specs.Map.{sound, place_of, segments}
use Rattle.rules.specs.Units.{unit_bytes}
use Rattle.rules.specs.State.{Cipher, State, powered_up}
use Rattle.rules.specs.Refusals.{Checks, ◌when◌else◌, granted, read_checks, write_checks, advance_checks, insert_checks, lowest}
use Rattle.rules.specs.Effects.{Store, write_stores, write_session, advance_stores, insert_stores, apply, refusal_stores}

-- `room` is the length of the output that a read is given
pub data Command : Type 0 where
  read : (address count room : ℕ) → Command
  write : (address : ℕ) → List ℕ → Command
  advance : (segment : ℕ) → Command
  insert : (segment : ℕ) (id : List ℕ) → Command
  power_up : Command

-- "An answer is the grant or the refusal number, with the bytes read where a read is granted"
pub data Reply : Type 0 where
  done : Reply
  gives : List ℕ → Reply
  refused : ℕ → Reply

-- ---- what refuses it

-- "3: not inside one place"
unfoldable pub in_place : Option Place → (Place → Checks) → Checks
in_place None f = 3 when true else granted
in_place (Some p) f = f p

unfoldable pub checks : Cipher → State → Command → Checks
checks E s (read a n room) =
    1 when not (sound s.tag) else
    2 when eqb n 0 else
    2 when ltb 4096 n else
    2 when ltb room n else
    in_place (place_of s.tag a n) (λ p. read_checks s p a n)
checks E s (write a bs) =
    1 when not (sound s.tag) else
    2 when eqb (length bs) 0 else
    2 when ltb 4096 (length bs) else
    in_place (place_of s.tag a (length bs)) (λ p. write_checks E s p a bs)
checks E s (advance k) =
    1 when not (sound s.tag) else
    3 when not (ltb k (segments s.tag)) else
    advance_checks s.session.write s.session.name (unit_bytes s.tag k)
checks E s (insert k id) =
    1 when not (sound s.tag) else
    3 when not (ltb k (segments s.tag)) else
    insert_checks s.session.write s.session.name s.tag k id
checks E s power_up = granted

unfoldable pub refusal : Cipher → State → Command → Option ℕ
refusal E s c = lowest (checks E s c)

-- ---- what it does if nothing refuses it

unfoldable pub stores_in : Cipher → State → Option Place → ℕ → List ℕ → List Store
stores_in E s None a bs = []
stores_in E s (Some p) a bs = write_stores E s p a bs

unfoldable pub session_in : Cipher → State → Option Place → List ℕ → Session
session_in E s None bs = s.session
session_in E s (Some p) bs = write_session E s p bs

unfoldable pub stores : Cipher → State → Command → List Store
stores E s (read a n room) = []
stores E s (write a bs) = stores_in E s (place_of s.tag a (length bs)) a bs
stores E s (advance k) = advance_stores s.tag k
stores E s (insert k id) = insert_stores s.tag k id
stores E s power_up = []

unfoldable pub new_session : Cipher → State → Command → Session
new_session E s (read a n room) = s.session
new_session E s (write a bs) = session_in E s (place_of s.tag a (length bs)) bs
new_session E s (advance k) = s.session
new_session E s (insert k id) = s.session
new_session E s power_up = powered_up

unfoldable pub grant : State → Command → Reply
grant s (read a n room) = gives (part a n s.tag)
grant s (write a bs) = done
grant s (advance k) = done
grant s (insert k id) = done
grant s power_up = done

-- ---- the answer, and the state after it: "A refused command .. returns its number alone and changes nothing, except
-- 11"

unfoldable pub reply_by : Option ℕ → State → Command → Reply
reply_by None s c = grant s c
reply_by (Some n) s c = refused n

unfoldable pub reply : Cipher → State → Command → Reply
reply E s c = reply_by (refusal E s c) s c

unfoldable pub after_by : Option ℕ → Cipher → State → Command → State
after_by None E s c = record { tag = apply (stores E s c) s.tag; session = new_session E s c }
after_by (Some n) E s c = record { tag = apply (refusal_stores n) s.tag; session = s.session }

unfoldable pub after : Cipher → State → Command → State
after E s c = after_by (refusal E s c) E s c

-- "A granted read fills the first count bytes of its output and no more."
unfoldable pub filled : Reply → List ℕ → List ℕ
filled done out = out
filled (gives bs) out = put 0 bs out
filled (refused n) out = out

-- what a read of n bytes at a leaves in the output `out`
abbrev pub read_into : Cipher → State → (a n : ℕ) (out : List ℕ) → List ℕ
read_into E s a n out = filled (reply E s (read a n (length out))) out
