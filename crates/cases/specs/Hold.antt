-- Document 02, No. 2, "Reset holds the CPU": whole steps in the hold and right behind it, by computing. A comment quotes the line that its case shows.
-- Sessions that go past the hold stand in proofs/Sessions.antt.
-- Assumes nothing.
use Rattle.std.specs.Prelude.{ℕ, ◌≡◌, refl, List, [], ◌∷◌, drop, replicate}
use Rattle.chip.specs.declared.Cpu.{Cpu}
use Rattle.chip.specs.State.{at, rom0504}
use Rattle.chip.specs.Modes.{idle, stopped}
use Rattle.chip.specs.Scalars.{with_basic, with_clock, with_cursor, with_hold, with_mode, with_pins, with_release}
use Rattle.chip.specs.Interrupts.{asks_of}
use Rattle.chip.specs.Memory.{write_of}
use Rattle.chip.specs.Ports.{latched_of, outputs_of}
use Rattle.chip.specs.Reset.{fresh_of, reset_mem, table_9_1}
use Rattle.image.specs.Image.{at_hold, cpu_of, fault_of, fields, first_over, image_of, image_size, nibble_fault, pin_fields, scalars_of, timing_fields}
use Rattle.timers.specs.Rates.{rate_in}
use Rattle.timers.specs.Taps.{tap_of}
use Rattle.timers.specs.Clock.{clocked, clock_of, clocks_of}
use Rattle.timers.specs.Clears.{cleared_of}
use Rattle.timers.specs.Registers.{stored_in, timers_in}
use Rattle.codes.specs.Decode.{decode, info_of}
use Rattle.fetch.specs.declared.Code.{Code}
use Rattle.fetch.specs.declared.Origin.TheVariants.{Rom}
use Rattle.fetch.specs.Fetch.{code_at}
use Rattle.record.specs.Record.{mapped, pins_after, read_as, reading_of, sound}
use Rattle.trace.specs.Trace.{due_in, entries_from}
use Rattle.pending.specs.Pending.{acknowledged_of, first_of, named_of, served_of, wakes_of}
use Rattle.events.specs.Records.{record_applied, records_of}
use Rattle.control.specs.Control.{jump}
use Rattle.effects.specs.Effects.{applied_to}
use Rattle.transfer.specs.Transfer.{load_im}
use Rattle.portlog.specs.Log.{change_of, changes_of, logged}
use Rattle.registers.specs.Registers.{register_at}
use Rattle.outcomes.specs.Outcomes.{psw_of, status_write}
use Rattle.rules.specs.Rules.{action_of, enters_now, rules_of}
use Rattle.step.specs.Step.{last_clock, moved, step_of}
use Rattle.startup.specs.Startup.{fresh_state}
use Rattle.steps.specs.Steps.{Run, step_by, steps_from, steps_over, stop}
use Rattle.cases.specs.Runs.{holding, printed_fresh, ran_on, standing, zeros}
use Rattle.cases.specs.Setting.{cpu, rom_of, run, traced}
use Rattle.cases.specs.Interrupts.{in_int1, vectors, waiting}
use Rattle.cases.specs.Timer.{at_seven, biting, bitten, bitten_at, bcnt_kept, driving, loops, pcon, reset, reset_pulse, timed, timer, vectored}

-- n steps at 0100H, where the code 00H is undefined, and from nibbles and scalars
abbrev undefined_at : ℕ → List ℕ → Cpu → Run
undefined_at n l c = run (rom_of 0x0100 []) n l c

-- INT1 asks, with IME 1; the scalars in idle mode with release count 1, and those at the clock's last value
abbrev asking : List ℕ
asking = waiting 0b1000 0b1100

abbrev dozing : ℕ → Cpu
dozing clock = with_release (with_mode (cpu 0x0123 clock) idle) 1

abbrev at_the_end : Cpu
at_the_end = with_clock (cpu 0x0100 0) last_clock

-- a step that stops with a number leaves nibbles, scalars and log, the step's records undone too
abbrev stopped_by : ℕ → List ℕ → Cpu → List ℕ → Run
stopped_by number l c log = record { state = at l c; log = log; end = 0; steps = 0; ending = stop number 0 }

-- a state with so much left of the hold
abbrev remaining : ℕ → List ℕ
remaining n = image_of (at zeros (with_hold (cpu 0 0) n))

pub record HoldCases : Type 0 where
  -- "After every reset the CPU is held for 2,048 cycles": the record's own step is the first of them, here one that found stop mode; PC stands at the
  -- vector, and the NOP there has not run
  pub reset_step : traced reset_pulse (vectored []) 1 (timer 7 0xC8 1) (with_mode (timed 0x0100 0 30 6) stopped) ≡ ran_on 1 bcnt_kept
  -- a reset in the hold starts it anew
  pub reset_anew : traced reset_pulse (vectored []) 1 zeros (with_hold (cpu 0x0100 0) 5) ≡ ran_on 1 (at (reset 0 zeros) (with_hold (with_cursor (cpu 0x0180 1) 2) 2047))
  -- "the hold takes the place of the step's other rules": an undefined code at PC stops nothing, and no code is read, wherever codes come from
  pub undefined_code : undefined_at 1 zeros (with_hold (cpu 0x0100 0) 7) ≡ ran_on 1 (at zeros (with_hold (cpu 0x0100 1) 6))
  pub no_code : (src : ℕ → Code) → step_of src rom0504 [] (at zeros (with_hold (cpu 0x0100 0) 7)) 0 ≡ moved (at zeros (with_hold (cpu 0x0100 1) 6)) []
  -- rule 3: INT1 is not entered
  pub no_entry : run vectors 1 asking (with_hold (cpu 0x0123 0) 7) ≡ ran_on 1 (at asking (with_hold (cpu 0x0123 1) 6))
  -- rule 2: it releases no idle mode, and the release count is not set
  pub no_release : run vectors 1 asking (with_hold (dozing 0) 7) ≡ ran_on 1 (at asking (with_hold (dozing 1) 6))
  -- in stop mode what remains falls, and the divider stands
  pub stop_mode :
      undefined_at 1 (timer 7 0xFF 0) (with_hold (with_mode (timed 0x0100 0 30 6) stopped) 7) ≡ ran_on 1 (at (timer 7 0xFF 0) (with_hold (with_mode (timed 0x0100 1 30 6) stopped) 6))
  -- "one cycle a step, the timers going by No. 1's rule": 64 clocks by PCON 0, 4 by PCON 3; an overflow of BCNT is counted
  pub pcon_0 : undefined_at 1 (pcon 0) (with_hold (timed 0x0100 0 0 0) 7) ≡ ran_on 1 (at (pcon 0) (with_hold (timed 0x0100 1 64 0) 6))
  pub pcon_3 : undefined_at 1 (pcon 3) (with_hold (timed 0x0100 0 0 0) 7) ≡ ran_on 1 (at (pcon 3) (with_hold (timed 0x0100 1 4 0) 6))
  pub overflow : undefined_at 1 (timer 7 0xFF 0) (with_hold (timed 0x0100 0 30 6) 7) ≡ ran_on 1 (at (timer 7 0 1) (with_hold (timed 0x0100 1 34 7) 6))
  -- the watchdog's reset within a held step, which takes one cycle, leaves 2,048, as within any other (`watchdog`, Timer.antt); the next step is the first
  -- held one
  pub watchdog_held : bitten (with_hold at_seven 5) 6 ≡ bitten_at 10
  pub watchdog_next : loops (0x91 ∷ 0x00 ∷ []) 9 ≡ ran_on 9 (at (reset 0 zeros) (with_hold (timed 0x0180 17 64 0) 2047))
  -- the last cycle, and the step behind it, which runs LD A,#1
  pub last_cycle : run (rom_of 0x0100 (0xB1 ∷ [])) 1 zeros (with_hold (cpu 0x0100 0) 1) ≡ ran_on 1 (at zeros (cpu 0x0100 1))
  pub first_code : run (rom_of 0x0100 (0xB1 ∷ [])) 2 zeros (with_hold (cpu 0x0100 0) 1) ≡ ran_on 2 (at (holding zeros 0 1) (standing 0x0101 1 0 2))
  -- or enters INT1, which asked in the hold
  pub first_entry : run vectors 2 asking (with_hold (cpu 0x0104 0) 1) ≡ ran_on 2 (at in_int1 (cpu 0x0240 3))
  -- the carried effect and the release count stay: behind the hold LD A,#2 does nothing under effect 1, and the count falls
  pub effect_stays : run (rom_of 0x0100 (0xB2 ∷ [])) 1 zeros (with_hold (with_release (standing 0x0100 1 0 0) 2) 1) ≡ ran_on 1 (at zeros (with_release (standing 0x0100 1 0 1) 2))
  pub effect_behind : run (rom_of 0x0100 (0xB2 ∷ [])) 2 zeros (with_hold (with_release (standing 0x0100 1 0 0) 2) 1) ≡ ran_on 2 (at zeros (with_release (standing 0x0101 1 0 2) 1))
  -- "The step's records still apply first": P1.1 goes up, and IRQ1 is set
  pub edge :
      traced (0x02 ∷ 0x00 ∷ 0b10 ∷ []) (rom_of 0x0100 []) 1 zeros (with_hold (cpu 0x0100 0) 7) ≡
      ran_on 1 (at (holding zeros 0xFBE 0b0100) (with_hold (with_cursor (with_pins (cpu 0x0100 1) 0x20) 3) 6))
  -- 11 and 12 come in the hold too: at the clock's last value, and with one byte too few for P4, which the reset makes 0
  pub clock_stop_lem : traced reset_pulse (vectored []) 1 zeros (with_hold at_the_end 7) ≡ stopped_by 11 zeros (with_hold at_the_end 7) []
  pub log_stop : steps_over (step_by Rom biting reset_pulse) 1 (at driving (with_hold at_seven 7)) (replicate 5 0) 0 ≡ stopped_by 12 driving (with_hold at_seven 7) (replicate 5 0)
  -- "Two bytes at 664 hold what remains", low first; "the fresh state starts held"
  pub low_first : drop at_hold (remaining 0x07FF) ≡ 0xFF ∷ 0x07 ∷ []
  pub fresh_held : (cpu_of printed_fresh).timing.hold ≡ 2048
  -- "Field 4 covers a remainder above 2,048", after every other field
  pub most : fault_of (remaining 2048) rom0504 ≡ image_size
  pub too_much : fault_of (remaining 2049) rom0504 ≡ 664
  pub timer_first : fault_of (image_of (at zeros (with_hold (with_basic (cpu 0 0) 0x8000) 2049))) rom0504 ≡ 662

pub hold_cases : HoldCases
unfolding acknowledged_of action_of applied_to asks_of change_of changes_of cleared_of clocked clock_of clocks_of code_at cpu_of decode due_in enters_now entries_from fault_of fields first_of first_over fresh_of fresh_state info_of jump latched_of load_im logged mapped named_of nibble_fault outputs_of pin_fields pins_after psw_of rate_in read_as reading_of record_applied records_of register_at reset_mem rules_of scalars_of served_of sound status_write step_of steps_from steps_over stored_in table_9_1 tap_of timers_in timing_fields wakes_of write_of
hold_cases =
    record {
      reset_step = refl;
      reset_anew = refl;
      undefined_code = refl;
      no_code = λ src. refl;
      no_entry = refl;
      no_release = refl;
      stop_mode = refl;
      pcon_0 = refl;
      pcon_3 = refl;
      overflow = refl;
      watchdog_held = refl;
      watchdog_next = refl;
      last_cycle = refl;
      first_code = refl;
      first_entry = refl;
      effect_stays = refl;
      effect_behind = refl;
      edge = refl;
      clock_stop_lem = refl;
      log_stop = refl;
      low_first = refl;
      fresh_held = refl;
      most = refl;
      too_much = refl;
      timer_first = refl;
    }
