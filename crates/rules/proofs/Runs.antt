-- What is claimed of runs follows from their contract and from what is proved of the rules. Assumes nothing.
use Prim.Native.Nat.{ℕ, ◌+◌, ◌≤◌}
use mathlib.Core.Path.{◌≡◌, sym, ap, ◌∙◌}
use mathlib.Core.Bool.{true}
use mathlib.Core.List.{List}
use native.Mathlib.Omega.{arith}
use lib.ListN.{length}
use Rattle.rules.specs.Bytes.{put}
use Rattle.rules.specs.Map.{sound}
use Rattle.rules.specs.Answers.{stop_number}
use Rattle.rules.specs.State.{Cipher, State, state}
use Rattle.rules.specs.Command.{reply}
use Rattle.rules.specs.Run.{final, replies}
use Rattle.rules.specs.Log.{run_log, parsed, commands}
use Rattle.rules.specs.Runs.{result_of, run_over, RunsLeave, RunToEnd, RunsDemand3, answers, answers_in}
use Rattle.rules.specs.declared.Run.{Run}
use Rattle.rules.proofs.BytesLaws.{length-put, part_put_same, put_behind}
use Rattle.rules.proofs.Counting.{one_answer_each}
use Rattle.rules.proofs.Demand3.{demand_3}
use Rattle.rules.proofs.LogLaws.{log_is_list}
use Rattle.rules.proofs.RunLaws.{each_of, run_fits, run_reads, replies-back}

module _ (E : Cipher) (s : State) where
  pub runs_leave : RunsLeave E s
  unfolding run_over result_of
  runs_leave log out r t o e =
      let x = run_log E s log (length out) in
      let w : r.written ≡ length x.output = ap (λ q. q.written) e in
      let f : length x.output ≤ length out = unfold run_log in run_fits E s (parsed 0 log) (length out) (each_of 0 log) in
      let n : x.taken + 0 ≤ length log = unfold run_log in run_reads E s 0 log (length out) (omega arith) in
      let i : r.read ≡ x.taken = ap (λ q. q.read) e in
      let b : o ≡ put 0 x.output out = ap (λ q. q.output) e in
      record {
        read_within = omega arith;
        within = omega arith;
        same_length = ap length b ∙ length-put 0 x.output out;
        replied = rw (w, b) (part_put_same 0 x.output out (omega arith));
        untouched = rw (w, b) (put_behind (length x.output) x.output out (omega arith));
      }

  -- a run to the end is that of the list of its commands
  run_is_list : (log : List ℕ) (r : Run) (t o : List ℕ) → RunToEnd E s log r t o
      → (r.read ≡ length log)
      × (answers r o ≡ replies E s (commands log))
      × (state t r.session ≡ final E s (commands log))
  unfolding run_over result_of
  run_is_list log r t o h =
      let x = log_is_list E s log (length h.out) (sym (ap (λ q. q.stop) h.met) ∙ ap stop_number h.ended) in (
        ap (λ q. q.read) h.met ∙ x.0,
        ap (answers_in 0) ((runs_leave log h.out r t o h.met).replied ∙ x.1)
            ∙ replies-back E s (parsed 0 log) (each_of 0 log),
        ap (λ q. state q.tag q.session) h.met ∙ x.2,
      )

  pub runs_demand_3 : sound s.tag ≡ true → RunsDemand3 E s
  runs_demand_3 w =
      let d = demand_3 E s w in
      record {
        is_list = run_is_list;
        counting = λ k j lc l log r t o h.
            let f = run_is_list log r t o h in
            rw (f.1, ap (λ x. x.tag) f.2) (d.counting (commands log) k j lc l);
        copies = λ es c more log e f r q t u o p x y.
            let a = run_is_list more r t o x in
            let b = run_is_list log q u p y in
            rw (a.1, a.2, b.1, b.2, e, f) (d.copies es c);
        neighbours = λ before c c' later m log other e f r q t u o p x y.
            let a = run_is_list log r t o x in
            let b = run_is_list other q u p y in
            let z = d.neighbours before c c' later m in (
              replies E s before,
              z.0,
              reply E (final E s before) c,
              reply E (final E s before) c',
              one_answer_each E s before,
              a.1 ∙ ap (replies E s) e ∙ z.1,
              b.1 ∙ ap (replies E s) f ∙ z.2,
              a.2 ∙ ap (final E s) e ∙ z.3 ∙ sym (b.2 ∙ ap (final E s) f),
            );
      }
