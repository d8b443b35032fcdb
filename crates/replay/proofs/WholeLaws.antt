-- The laws of a run that is made in parts: what is behind, and what is left, come to the whole. Assumes nothing.
use Rattle.std.specs.Prelude.{Some}
use Prim.Native.Nat.{ℕ, ◌+◌, ◌-◌, ◌≤◌, ◌<◌}
use mathlib.Core.Path.{◌≡◌, refl, sym, ap, subst, ◌∙◌}
use mathlib.Core.Logic.{◌≢◌}
use mathlib.Core.Bool.{false}
use mathlib.Core.List.{List}
use native.Mathlib.Omega.{arith}
use native.Mathlib.Nat.{add_assoc}
use lib.ListN.{length, take, drop, length-append, length-drop}
use lib.Seq.{drop-drop, take_all}
use Rattle.rules.specs.declared.Session.{Session}
use Rattle.rules.specs.declared.Run.{Run}
use Rattle.rules.specs.declared.Stop.{Stop}
use Rattle.rules.specs.declared.Stop.TheVariants.{End, BadCommand, OutputFull}
use Rattle.rules.specs.Answers.{stop_number}
use Rattle.rules.specs.State.{State, state}
use Rattle.rules.specs.Log.{Ran, onward, run_log}
use Rattle.rules.specs.Runs.{result, result_of, run_over}
use Rattle.rules.proofs.Tests.{some_none, same_some}
use Rattle.rules.proofs.Runs.{runs_leave}
use Rattle.rules.proofs.RunLaws.{runs_continue}
use Rattle.xxtea.specs.Block.{E}
use Rattle.replay.specs.Whole.{Totals, totals, totals_of, PartRun, is_full}

-- ---- stops

pub not_full : (q : Stop) → q ≢ OutputFull → is_full q ≡ false
not_full End n = refl
not_full BadCommand n = refl
not_full OutputFull n = absurd (n refl)

not_16 : (q : Stop) → q ≢ OutputFull → stop_number q ≢ Some 16
not_16 End n f = some_none (sym f)
not_16 BadCommand n f = let z : ◌≡◌ {A = ℕ} 15 16 = same_some f in omega arith
not_16 OutputFull n f = n refl

-- ---- a part of the run

pub part_run : (s : State) (log out : List ℕ) (r : Run) (t o : List ℕ) → length out ≡ 4096
    → result r t o ≡ run_over E s log out → PartRun s log t r
unfolding run_over result_of
part_run s log out r t o l e =
    let x = runs_leave E s log out r t o e in
    let f : totals_of r t ≡ totals (run_log E s log (length out)) =
    ap (λ q. record { read = q.read; written = q.written; stop = q.stop; left = state q.tag q.session }) e in
    record { came = f ∙ ap (λ k. totals (run_log E s log k)) l; read_within = x.read_within; written_within = omega arith }

-- the replies are within their buffer
pub replies_within : (s : State) (log out : List ℕ) (r : Run) (t o : List ℕ) → result r t o ≡ run_over E s log out
    → r.written ≤ length o
replies_within s log out r t o e = let x = runs_leave E s log out r t o e in omega (arith, x.within, x.same_length)

-- the part of the log that is lent is what is left of it
pub part_left : (s : State) (log t : List ℕ) (i : ℕ) (r : Run) → PartRun s (take (length log - i) (drop i log)) t r
    → PartRun s (drop i log) t r
part_left s log t i r p = rw (take_all (length log - i) (drop i log) (simp length-drop (omega arith))) at p

-- ---- what is behind

abbrev ahead : (i j : ℕ) → Totals → Totals
ahead i j x = record { read = i + x.read; written = j + x.written; stop = x.stop; left = x.left }

ahead_twice : (i j n m : ℕ) (x : Totals) → ahead i j (ahead n m x) ≡ ahead (i + n) (j + m) x
ahead_twice i j n m x = rw (add_assoc i n, add_assoc j m)

totals-onward : (n : ℕ) (bs : List ℕ) (x : Ran) → totals (onward n bs x) ≡ ahead n (length bs) (totals x)
unfolding onward
totals-onward n bs x = rw (length-append bs x.output)

-- from s₀ the run has read i bytes of the log and written j, and is at s: what is left leads to the whole
pub record Behind (s₀ : State) (log : List ℕ) (s : State) (i j : ℕ) : Type 0 where
  pub leads : (room : ℕ) → j + 4096 ≤ room
      → totals (run_log E s₀ log room) ≡ ahead i j (totals (run_log E s (drop i log) (room - j)))

pub behind_from : (t log : List ℕ) (v w : Session) (s : State) (i j : ℕ) → v ≡ w → Behind (state t v) log s i j
    → Behind (state t w) log s i j
behind_from t log v w s i j e b = subst (λ x. Behind (state t x) log s i j) e b

pub behind_next : (s₀ : State) (log t u : List ℕ) (v : Session) (i j : ℕ) (r : Run) → Behind s₀ log (state t v) i j
    → PartRun (state t v) (drop i log) u r → r.stop ≡ OutputFull
    → Behind s₀ log (state u r.session) (i + r.read) (j + r.written)
behind_next s₀ log t u v i j r b p f = record { leads = leads }
  where
    s : State
    s = state t v

    x : Ran
    x = run_log E s (drop i log) 4096

    leads : (room : ℕ) → j + r.written + 4096 ≤ room
        → totals (run_log E s₀ log room)
        ≡ ahead (i + r.read) (j + r.written)
        (totals (run_log E (state u r.session) (drop (i + r.read) log) (room - (j + r.written))))
    leads room h =
        let e = p.came in
        let stops = sym (ap (λ q. q.stop) e) ∙ ap stop_number f in
        let g = (runs_continue E s).goes_on (drop i log) 4096 (room - j) stops (omega arith) in
        let k : room - j - r.written ≡ room - (j + r.written) = omega arith in
        let read : x.taken ≡ r.read = sym (ap (λ q. q.read) e) in
        let written : length x.output ≡ r.written = sym (ap (λ q. q.written) e) in
        let left : x.state ≡ state u r.session = sym (ap (λ q. q.left) e) in
        b.leads room (omega arith)
        ∙ ap (λ y. ahead i j (totals y)) g
        ∙ ap (ahead i j) (totals-onward x.taken x.output _)
        ∙ ahead_twice i j x.taken (length x.output) _
        ∙ rw (read, written, left, drop-drop r.read i log, k)

pub behind_end : (s₀ : State) (log t u : List ℕ) (v : Session) (i j : ℕ) (r : Run) → Behind s₀ log (state t v) i j
    → PartRun (state t v) (drop i log) u r → r.stop ≢ OutputFull
    → (room : ℕ) → j + r.written + 4096 ≤ room
    → totals_of (record { read = i + r.read; written = j + r.written; stop = r.stop; session = r.session }) u
    ≡ totals (run_log E s₀ log room)
behind_end s₀ log t u v i j r b p f room h =
    let s = state t v in
    let e = p.came in
    let stops : (run_log E s (drop i log) 4096).stop ≢ Some 16 = λ q. not_16 r.stop f (ap (λ q. q.stop) e ∙ q) in
    let g = (runs_continue E s).enough (drop i log) 4096 (room - j) stops (omega arith) in
    ap (ahead i j) (e ∙ ap totals (sym g)) ∙ sym (b.leads room (omega arith))

pub part_moves : (log t u : List ℕ) (v : Session) (i : ℕ) (r : Run) → PartRun (state t v) (drop i log) u r
    → r.stop ≡ OutputFull → length log - (i + r.read) < length log - i
part_moves log t u v i r p f =
    let e = p.came in
    let m = (runs_continue E (state t v)).moves_on (drop i log) 4096 (omega arith) (sym (ap (λ q. q.stop) e) ∙ ap stop_number f) in
    let k = ap (λ q. q.read) e in
    let w = p.read_within in
    let l = length-drop i log in
    omega arith
