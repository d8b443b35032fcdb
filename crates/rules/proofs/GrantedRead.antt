-- A granted read: its bytes are all there, and fit the output; what grants one in a segment. Assumes nothing.
use Rattle.std.specs.Prelude.{None, Some}
use Prim.Native.Nat.{ℕ, ◌+◌, ◌-◌, ◌≤◌, ◌<◌}
use mathlib.Core.Path.{◌≡◌, ap, ◌∙◌}
use mathlib.Core.Bool.{true, false, not}
use native.Mathlib.Omega.{arith}
use lib.ListN.{length}
use borrow.Author.Tests.{not-false, ltb-false, ne_eqb, le-ltb}
use Rattle.rules.specs.declared.Place.TheVariants.{Segment}
use Rattle.rules.specs.Bytes.{part}
use Rattle.rules.specs.Map.{sound, segments, segment_at, place_of}
use Rattle.rules.specs.Units.{well_formed, unit_bytes, unit_of}
use Rattle.rules.specs.Hosts.{hosts}
use Rattle.rules.specs.State.{Cipher, State}
use Rattle.rules.specs.Refusals.{hides, lowest, read_checks, segment_read_checks}
use Rattle.rules.specs.Command.{read, refusal, checks, reply, reply_by, grant, gives, in_place}
use Rattle.rules.specs.Claims.{MayRead}
use Rattle.rules.proofs.Tests.{some_none, passes, clears, none_applies}
use Rattle.rules.proofs.Rights.{may_read}
use Rattle.rules.proofs.BytesLaws.{length_part}
use Rattle.rules.proofs.MapLaws.{sound-facts}
use Rattle.rules.proofs.Places.{the_map, place_found, segment_holds, controlled}
use Rattle.rules.proofs.Grants.{in_place_lem}

pub record GrantedRead (s : State) (a n room : ℕ) : Type 0 where
  pub whole : length (part a n s.tag) ≡ n
  pub fits : n ≤ room

pub granted_read : (E : Cipher) (s : State) (a n room : ℕ) → refusal E s (read a n room) ≡ None → GrantedRead s a n room
unfolding refusal checks
granted_read E s a n room e =
    let c1 = passes _ _ _ e in
    let c2 = passes _ _ _ c1.1 in
    let c3 = passes _ _ _ c2.1 in
    let c4 = passes _ _ _ c3.1 in
    let p = in_place_lem _ _ None some_none c4.1 in
    let i = (the_map s.tag (not-false _ c1.0)).in_tag p.0 a n p.1 in
    record { whole = length_part a n s.tag ∙ omega arith; fits = ltb-false room n c4.0 }

-- ---- the rights to read a segment

pub rights : (s : State) (k a n : ℕ) → well_formed (unit_bytes s.tag k) ≡ true → (unit_of (unit_bytes s.tag k)).rd ≡ true
    → hides (unit_of (unit_bytes s.tag k)).model k (a - segment_at (segments s.tag) k) n (hosts s.tag) ≡ false
    → MayRead s.session (unit_bytes s.tag k) → lowest (read_checks s (Segment k) a n) ≡ None
unfolding read_checks segment_read_checks
rights s k a n f r h m =
    let x = may_read s.session (unit_bytes s.tag k) m in
    clears _ _ _ (ap not f) (clears _ _ _ (ap not r) (clears _ _ _ h (clears _ _ _ x.0 (clears _ _ _ x.1 none_applies))))

pub segment_read : (E : Cipher) (s : State) (k a n room : ℕ) → sound s.tag ≡ true → k < segments s.tag → 1 ≤ n
    → n ≤ room
    → segment_at (segments s.tag) k ≤ a → a + n ≤ segment_at (segments s.tag) k + 4096
    → lowest (read_checks s (Segment k) a n) ≡ None → reply E s (read a n room) ≡ gives (part a n s.tag)
unfolding reply reply_by grant
segment_read E s k a n room w h l o b c e = rw free
  where
    found : place_of s.tag a n ≡ Some (Segment k)
    found =
        place_found s.tag (Segment k) a n (sound-facts s.tag w).most_segments l
        (segment_holds s.tag k a n (Segment k) (controlled h) b c)

    free : refusal E s (read a n room) ≡ None
    free =
        unfold refusal checks in_place in
        clears _ _ _ (ap not w) (clears _ _ _ (ne_eqb n 0 (omega arith)) (clears _ _ _ (le-ltb 4096 n (omega arith))
        (clears _ _ _ (le-ltb room n o) (rw found e))))
