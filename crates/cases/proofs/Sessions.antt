-- The sessions that go past the hold, worked out anew by document 02, No. 2: its 2,048 cycles pass in one go, by the law of the stretch, and the steps
-- behind them by computing.
-- Assumes nothing.
use Prim.Native.Nat.{ℕ, ◌+◌, ◌-◌, ◌*◌, ◌<◌}
use native.Mathlib.Omega.{arith}
use mathlib.Core.Path.{◌≡◌, ◌∙◌, refl, ap, sym}
use mathlib.Core.Bool.{true}
use mathlib.Core.List.{[]}
use mathlib.Core.Logic.{inr}
use lib.ListN.{length}
use Rattle.std.specs.Prelude.{Ok}
use Rattle.chip.specs.declared.Machine.{Machine}
use Rattle.chip.specs.Interrupts.{asks_of}
use Rattle.chip.specs.Ports.{latched_of, outputs_of}
use Rattle.chip.specs.Reset.{fresh_of, held_cycles, table_9_1}
use Rattle.chip.specs.State.{nibbles, rom0502}
use Rattle.image.specs.Image.{cpu_of, fault_of, fields, first_over, nibble_fault, pin_fields, scalars_of, timing_fields}
use Rattle.timers.specs.Rates.{rate_in, rate_of, table_6_1}
use Rattle.timers.specs.Taps.{table_11_2, tap_of}
use Rattle.timers.specs.Clock.{clocked, clock_of, clocks_of, quiet_of}
use Rattle.timers.specs.Clears.{cleared_of}
use Rattle.timers.specs.Closed.{overflow_at, quiet_state_of, total_of}
use Rattle.timers.specs.Registers.{stored_in, timers_in, timers_of}
use Rattle.timers.proofs.Held.{timers_ranged}
use Rattle.timers.proofs.Quiet.{quiet_cycles_law}
use Rattle.codes.specs.Decode.{decode, info_of}
use Rattle.codes.specs.Kinds.{kind_of}
use Rattle.fetch.specs.declared.Origin.TheVariants.{Rom}
use Rattle.fetch.specs.Fetch.{code_at}
use Rattle.trace.specs.Trace.{due_in, end_from, entries_from, never, scan_number, scan_of, starts_in}
use Rattle.pending.specs.Pending.{served_of}
use Rattle.events.specs.Records.{records_of}
use Rattle.effects.specs.Effects.{applied_to}
use Rattle.transfer.specs.Transfer.{load_im}
use Rattle.portlog.specs.Log.{change_of, changes_of, logged}
use Rattle.registers.specs.Registers.{register_at}
use Rattle.step.specs.Told.{number_at, stop_at}
use Rattle.rules.specs.Rules.{action_of, enters_now, rules_of}
use Rattle.step.specs.Step.{Out, step_of}
use Rattle.startup.specs.Startup.{fresh_state}
use Rattle.steps.specs.Steps.{steps_from, steps_over}
use Rattle.steps.specs.Stretch.{passed_of}
use Rattle.steps.specs.Untold.{told_run}
use Rattle.steps.proofs.Idle.{Sleeps, passing_steps}
use Rattle.steps.proofs.Telling.{told_steps}
use Rattle.calls.specs.Calls.{plain_call, ran_to}
use Rattle.cases.specs.Runs.{PastHold, line_of, printed, session, session_log, showing}

-- the machine that the sessions start from, and its steps
abbrev fresh : Machine
fresh = fresh_of rom0502 0x01 0x00

abbrev stepping : Machine → ℕ → Out
stepping = step_of (code_at Rom printed) rom0502 []

-- a session is the steps of its budget
session_steps : (budget : ℕ) → session budget ≡ ran_to (steps_from stepping budget fresh session_log 0 0)
unfolding cpu_of end_from entries_from fault_of fields first_over fresh_of fresh_state nibble_fault pin_fields plain_call scalars_of scan_number scan_of starts_in steps_over table_9_1 timing_fields
session_steps budget = refl

-- what the law asks of the fresh machine. BCNT's first overflow comes with oscillator clock 1,048,576, and the hold has 131,072.
fresh_long : length fresh.mem ≡ nibbles
unfolding fresh_of table_9_1
fresh_long = refl

some_rate : 0 < rate_of fresh
unfolding fresh_of rate_in table_9_1
some_rate = omega arith

quiet_hold : quiet_of (held_cycles * rate_of fresh) (timers_of fresh) ≡ true
unfolding fresh_of overflow_at rate_in table_9_1 table_11_2 tap_of timers_in
quiet_hold = quiet_cycles_law (timers_of fresh) (rate_of fresh) (timers_ranged fresh) some_rate held_cycles ∙ refl

no_record : scan_of [] 0 ≡ Ok never
unfolding due_in end_from entries_from scan_of starts_in
no_record = refl

asleep : Sleeps fresh held_cycles
unfolding fresh_of table_9_1
asleep = inr ((λ e. let z : ⊥ = omega arith in z), omega arith)

-- the hold, and k steps behind it
past_hold_lem : (k : ℕ) → session (held_cycles + k) ≡ ran_to (steps_from stepping k (passed_of fresh held_cycles) session_log 0 held_cycles)
unfolding fresh_of table_9_1
past_hold_lem k =
    session_steps (held_cycles + k) ∙
    ap ran_to
    (told_steps Rom printed [] (held_cycles + k) fresh session_log 0 0 ∙
    ap (told_run (code_at Rom printed)) (passing_steps (code_at Rom printed) rom0502 [] (held_cycles - 1) k fresh never session_log 0 0 asleep no_record (omega arith) (omega arith) fresh_long quiet_hold) ∙
    sym (told_steps Rom printed [] k (passed_of fresh held_cycles) session_log 0 held_cycles))

-- two of them, and the third, which stops
behind : (ran_to (steps_from stepping 2 (passed_of fresh held_cycles) session_log 0 held_cycles) ≡ showing 0 0) × (ran_to (steps_from stepping 3 (passed_of fresh held_cycles) session_log 0 held_cycles) ≡ showing 9 258)
unfolding action_of applied_to asks_of change_of changes_of cleared_of clocked clock_of clocks_of code_at decode enters_now fresh_of info_of kind_of latched_of load_im logged number_at outputs_of passed_of quiet_state_of rate_in records_of register_at rules_of scalars_of served_of step_of steps_from stop_at stored_in table_11_2 table_6_1 table_9_1 tap_of timers_in total_of
behind = (refl, refl)

pub past_hold : PastHold
unfolding cpu_of fresh_of scalars_of table_9_1
past_hold =
    let two : session 2050 ≡ showing 0 0 = past_hold_lem 2 ∙ behind.0 in
    let three : session 2051 ≡ showing 9 258 = past_hold_lem 3 ∙ behind.1 in
    record {
      budget_2050_line = ap line_of two;
      budget_2051_line = ap line_of three;
      budget_2050 = two;
      budget_2051 = three;
    }
