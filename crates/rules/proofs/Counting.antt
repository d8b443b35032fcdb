-- Demand 3, first part: the slots of locked counter segments count the grants.
use Prim.Native.Nat.{ℕ, suc, ◌+◌, ◌<◌}
use mathlib.Core.Path.{◌≡◌, refl, sym, ap, ◌∙◌}
use mathlib.Core.Bool.{true}
use mathlib.Core.List.{List, [], ◌∷◌}
use native.Mathlib.Omega.{arith}
use native.Mathlib.Nat.{add-zero}
use Rattle.rules.specs.Map.{sound, segments, slot_at}
use Rattle.rules.specs.State.{Cipher, State}
use Rattle.rules.specs.Command.{Command, after, reply}
use Rattle.rules.specs.Run.{final, replies}
use Rattle.rules.specs.Demand3.{LockedCounter, slot, value_at, grants, counted}
use Rattle.rules.specs.Claims.{OneAnswerEach}
use Rattle.rules.proofs.Lawful.{sound_stays}
use Rattle.rules.proofs.Slots.{locked_stays, slot_counts}

pub final-sound : (E : Cipher) (s : State) (cs : List Command) → sound s.tag ≡ true
    → sound (final E s cs).tag ≡ true
unfolding final
final-sound E s [] w = w
final-sound E s (c ∷ cs) w = final-sound E (after E s c) cs (sound_stays E s c w).stays_sound

pub final-segments : (E : Cipher) (s : State) (cs : List Command) → sound s.tag ≡ true
    → segments (final E s cs).tag ≡ segments s.tag
unfolding final
final-segments E s [] w = refl
final-segments E s (c ∷ cs) w =
    let g = sound_stays E s c w in final-segments E (after E s c) cs g.stays_sound ∙ g.same_segments

pub final_locked : (E : Cipher) (s : State) (cs : List Command) (k : ℕ) → sound s.tag ≡ true → LockedCounter s.tag k
    → LockedCounter (final E s cs).tag k
unfolding final
final_locked E s [] k w lc = lc
final_locked E s (c ∷ cs) k w lc =
    final_locked E (after E s c) cs k (sound_stays E s c w).stays_sound (locked_stays E s k c w lc)

pub counting_holds : (E : Cipher) (s : State) (cs : List Command) (k j x : ℕ) → sound s.tag ≡ true
    → LockedCounter s.tag k
    → j < 512 → x ≡ slot s.tag k j
    → value_at x (final E s cs).tag ≡ value_at x s.tag + grants x cs (replies E s cs)
unfolding final replies grants
counting_holds E s [] k j x w lc l e = sym (add-zero _)
counting_holds E s (c ∷ cs) k j x w lc l e =
    let g = sound_stays E s c w in
    let later = counting_holds E (after E s c) cs k j x g.stays_sound (locked_stays E s k c w lc) l
    (e ∙ ap (λ A. slot_at A k j) (sym g.same_segments)) in
    let now : value_at x (after E s c).tag ≡ value_at x s.tag + counted x c (reply E s c) =
    rw e (slot_counts E s k w lc.counter j c l) in
    omega (arith, later, now)

pub one_answer_each : (E : Cipher) (s : State) (cs : List Command) → OneAnswerEach E s cs
unfolding replies
one_answer_each E s [] = refl
one_answer_each E s (c ∷ cs) = ap suc (one_answer_each E (after E s c) cs)
