-- A head between its turns. Its state is the image of a machine that every step keeps good, so that each turn is accepted again and is a run of the plain
-- machine; its steps so far are no more than its clock, since each step takes a cycle, and so fit 32 bits.
-- Assumes nothing.
use Prim.Native.Nat.{ℕ, ◌+◌, ◌≤◌}
use native.Mathlib.Omega.{arith}
use mathlib.Core.Path.{◌≡◌, ◌∙◌, refl, sym, ap, subst⁻¹}
use mathlib.Core.Bool.{true}
use mathlib.Core.List.{List}
use borrow.Author.Tests.{eqb-true}
use lib.ListN.{length}
use Rattle.std.specs.Prelude.{Ok}
use Rattle.numbers.specs.Numbers.{Stop}
use Rattle.numbers.proofs.Stops.{not_done}
use Rattle.chip.specs.declared.Machine.{Machine}
use Rattle.image.specs.Image.{cpu_of, machine_of, image_of, image_size}
use Rattle.fetch.specs.declared.Origin.TheVariants.{Rom, Table}
use Rattle.trace.specs.Trace.{scan_of}
use Rattle.step.specs.Step.{Out}
use Rattle.steps.specs.Steps.{Run, Ending, done, stop, steps_over, step_by, ending_number}
use Rattle.runs.specs.Answer.{due_after}
use Rattle.verdicts.specs.Verdicts.{accepted, run_verdict}
use Rattle.verdicts.proofs.Accepted.{Tabled, Fit, taken_apart}
use Rattle.calls.specs.Calls.{Called, ran_to, ran_in, table_call}
use Rattle.calls.proofs.Calling.{table_ran}
use Rattle.invariant.specs.Sound.{Bytes}
use Rattle.invariant.proofs.Images.{read_sound, image_read, image_long, image_back}
use Rattle.pace.proofs.Pace.{steps_take}
use Rattle.budgets.proofs.Kept.{Kept, kept}
use Rattle.budgets.proofs.Verdicts.{accepts, step_same}
use Rattle.budgets.proofs.Claimed.{Good, size, keeps, stops, fit, call_runs}
use Rattle.heads.specs.Heads.{Head, over_both, run_of, turned, goes}

-- a stop's number is not done's
ended_by : (x : Ending) → ((k p : ℕ) → x ≡ stop k p → Stop k) → ending_number x ≡ 0 → x ≡ done
ended_by done h z = refl
ended_by (stop k p) h z = absurd (not_done k (h k p refl) z)

module _ (rom table : List ℕ) (tabled : Tabled rom table) (bytes : Bytes rom) where
  -- due is the due time of the record at the cursor, as long as the head hasn't stopped
  pub record Stands (h : Head) (due : ℕ) : Type 0 where
    pub machine : Machine
    pub state : h.state ≡ image_of machine
    pub good : Good rom table h.trace tabled bytes machine
    pub within : h.answer.log_end ≤ length h.log
    pub counted : h.answer.steps ≤ machine.cpu.clock
    pub next : goes h ≡ true → scan_of h.trace machine.cpu.cursor ≡ Ok due

  -- a head that is accepted stands before its first turn
  pub begins : (h : Head) (due : ℕ) → Bytes h.state → run_verdict rom table h.state h.trace h.log h.answer.log_end ≡ accepted →
      h.answer.steps ≡ 0 → scan_of h.trace (cpu_of h.state).cursor ≡ Ok due → Stands h due
  begins h due b a z d =
      let f : Fit (length rom) h.state h.trace h.log h.answer.log_end = (taken_apart rom table h.state h.trace h.log h.answer.log_end a).fit in
      record {
        machine = machine_of h.state;
        state = sym (image_read h.state (length rom) f.long b f.fields);
        good = (read_sound h.state (length rom) (size rom table h.trace tabled bytes) f.long b f.fields, (due, d));
        within = f.start;
        counted = omega (arith, z);
        next = λ g. d;
      }

  module _ (q : ℕ) (h : Head) (due : ℕ) (s : Stands h due) where
    -- the turn as a run of the plain machine
    abbrev pub run : Run
    run = steps_over (step_by Rom rom h.trace) q s.machine h.log h.answer.log_end

    pub turn_runs : run_of rom table q h ≡ ran_to run
    turn_runs =
        ap (λ (x : List ℕ). table_call rom table x h.trace h.log h.answer.log_end q) s.state ∙
        call_runs rom table h.trace tabled bytes s.machine h.log h.answer.log_end q s.good s.within

    -- it is accepted, and so is what the code does without a test
    pub accepted_again : run_verdict rom table h.state h.trace h.log h.answer.log_end ≡ accepted
    accepted_again =
        ap (λ (x : List ℕ). run_verdict rom table x h.trace h.log h.answer.log_end) s.state ∙
        accepts rom table (image_of s.machine) h.trace h.log h.answer.log_end tabled
        (fit rom table h.trace tabled bytes s.machine h.log h.answer.log_end s.good s.within)

    pub turn_ran : ran_in Table table h.state h.trace h.log h.answer.log_end q ≡ run_of rom table q h
    turn_ran = table_ran rom table h.state h.trace h.log h.answer.log_end q (sym accepted_again)

    pub long : length h.state ≡ image_size
    long = ap length s.state ∙ image_long (length rom) s.machine s.good.0

    back : machine_of h.state ≡ s.machine
    back = ap machine_of s.state ∙ image_back (length rom) s.machine (size rom table h.trace tabled bytes) s.good.0

    pub cursor : goes h ≡ true → scan_of h.trace (cpu_of h.state).cursor ≡ Ok due
    cursor g = ap (λ (m : Machine). scan_of h.trace m.cpu.cursor) back ∙ s.next g

    -- the steps by the table are the plain machine's
    same_run : steps_over (step_by Table table h.trace) q (machine_of h.state) h.log h.answer.log_end ≡ run
    same_run =
        ap (λ (f : Machine → ℕ → Out). steps_over f q (machine_of h.state) h.log h.answer.log_end) (step_same rom table h.trace tabled) ∙
        ap (λ (m : Machine). steps_over (step_by Rom rom h.trace) q m h.log h.answer.log_end) back

    still : Kept (step_by Rom rom h.trace) (Good rom table h.trace tabled bytes) Stop (keeps rom table h.trace tabled bytes) (stops rom table h.trace tabled bytes) run
    unfolding steps_over
    still =
        kept (step_by Rom rom h.trace) (Good rom table h.trace tabled bytes) Stop (keeps rom table h.trace tabled bytes) (stops rom table h.trace tabled bytes) q s.machine h.log h.answer.log_end 0 s.good s.within

    -- each step took a cycle
    took : run.steps + s.machine.cpu.clock ≤ run.state.cpu.clock
    unfolding steps_over
    took = let t = steps_take rom h.trace q s.machine h.log h.answer.log_end 0 in omega (arith, t)

    pub fits : h.answer.steps + run.steps ≤ 4294967295
    fits = omega (arith, s.counted, took, still.good.0.cpu.clock)

    -- the head stands after its turn
    pub goes_on : (later : ℕ) →
        due_after h.trace (steps_over (step_by Table table h.trace) q (machine_of h.state) h.log h.answer.log_end) later →
        Stands (turned rom table q h) later
    unfolding turned
    goes_on later d =
        let after : Called → Head = λ w. record { state = w.state; trace = h.trace; log = w.log; answer = over_both h.answer w.answer } in
        subst⁻¹ (λ (w : Called). Stands (after w) later) turn_runs
        (record {
          machine = run.state;
          state = refl;
          good = still.good;
          within = still.within;
          counted = omega (arith, s.counted, took);
          next =
              λ g. ap (λ (p : Run). scan_of h.trace p.state.cpu.cursor) (sym same_run) ∙
              d (ap (λ (p : Run). p.ending) same_run ∙ ended_by run.ending still.stop_by (eqb-true _ _ g));
        })
