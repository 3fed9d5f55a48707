-- Document 02, No. 1, the basic timer, and document 002, chapter 11, with its programming tip "Using the Basic Timer": whole steps and runs, by
-- computing. Most go at fx/4, which is 4 oscillator clocks a cycle. A comment quotes the line that its case shows.
-- Assumes nothing.
use Rattle.std.specs.Prelude.{ℕ, ◌+◌, ◌*◌, ◌%◌, ◌/◌, ◌≡◌, refl, List, [], ◌∷◌, drop, replicate}
use Rattle.chip.specs.declared.Cpu.{Cpu}
use Rattle.chip.specs.declared.Machine.{Machine}
use Rattle.chip.specs.State.{at}
use Rattle.chip.specs.Modes.{idle, stopped}
use Rattle.chip.specs.Scalars.{with_cursor, with_effect, with_hold, with_mode, with_pins, with_smb, with_srb, with_timing}
use Rattle.chip.specs.Interrupts.{asks_of}
use Rattle.chip.specs.Memory.{raw_of, read_of, write_bit_of, write_of}
use Rattle.chip.specs.Ports.{latched_of, outputs_of}
use Rattle.rights.specs.Access.{location_at}
use Rattle.chip.specs.Reset.{held_cycles, reset_mem, table_9_1}
use Rattle.image.specs.Image.{at_timing, image_of, scalars_of}
use Rattle.timers.specs.Rates.{rate_in}
use Rattle.timers.specs.Taps.{tap_of}
use Rattle.timers.specs.Clock.{clocked, clock_of, clocks_of, phases}
use Rattle.timers.specs.Clears.{cleared_of}
use Rattle.timers.specs.Registers.{stored_in, timers_in}
use Rattle.codes.specs.Decode.{decode, info_of}
use Rattle.fetch.specs.declared.Origin.TheVariants.{Rom}
use Rattle.fetch.specs.Fetch.{code_at}
use Rattle.record.specs.Record.{mapped, pins_after, read_as, reading_of, sound}
use Rattle.trace.specs.Trace.{due_in, entries_from}
use Rattle.pending.specs.Pending.{acknowledged_of, first_of, named_of, served_of, wakes_of}
use Rattle.events.specs.Records.{record_applied, records_of}
use Rattle.arithmetic.specs.Arithmetic.{skip_if}
use Rattle.bits.specs.Bits.{set_bit, spot_of}
use Rattle.control.specs.Control.{jump, set_ime, set_mode, set_smb}
use Rattle.effects.specs.Effects.{applied_to}
use Rattle.transfer.specs.Transfer.{load_ea, load_im, set_pair, store_a}
use Rattle.portlog.specs.Log.{change_of, changes_of, logged}
use Rattle.registers.specs.Addresses.{direct_of}
use Rattle.registers.specs.Registers.{pair_of, register_at}
use Rattle.outcomes.specs.Outcomes.{psw_of, status_write}
use Rattle.rules.specs.Rules.{action_of, enters_now, rules_of}
use Rattle.step.specs.Step.{step_of}
use Rattle.steps.specs.Steps.{Run, done, step_by, steps_from, steps_over, stop}
use Rattle.cases.specs.Runs.{holding, ran_on, zeros}
use Rattle.cases.specs.Setting.{burnt, cpu, laid, psw, return_to, rom_of, run, traced}

-- PCON 3; BMOD, BCNT, and FB8H, which is IEB IRQB. WDMOD is 00H, so that the watchdog counts
abbrev pub timer : ℕ → ℕ → ℕ → List ℕ
timer bmod bcnt flags = holding (laid (holding zeros 0xFB3 3) 0xF85 (bmod ∷ bcnt % 16 ∷ bcnt / 16 ∷ [])) 0xFB8 flags

-- the scalars at an address and a clock, with the divider's phase and the watchdog's count
abbrev pub timed : ℕ → ℕ → ℕ → ℕ → Cpu
timed pc clock phase count = with_timing (cpu pc clock) (record { basic = phase + phases * count; hold = 0 })

-- n steps of a program at 0100H from clock 0
abbrev goes : ℕ → List ℕ → List ℕ → ℕ → ℕ → Run
goes n code l phase count = run (rom_of 0x0100 code) n l (timed 0x0100 0 phase count)

-- BITS EMB; SMB 15; LD A,#0FH; LD BMOD,A; EI; BITS IEB
abbrev interval : List ℕ
interval = 0xFF ∷ 0x90 ∷ 0xDD ∷ 0x4F ∷ 0xBF ∷ 0x89 ∷ 0x85 ∷ 0xFF ∷ 0xB2 ∷ 0xFF ∷ 0x98 ∷ []

-- BITS EMB; SMB 15; BITS BMOD.3
abbrev restart : List ℕ
restart = 0xFF ∷ 0x90 ∷ 0xDD ∷ 0x4F ∷ 0xF1 ∷ 0x85 ∷ []

-- BITS EMB; SMB 15; BCNTR: LD EA,BCNT; LD YZ,EA; LD EA,BCNT; CPSE EA,YZ; JR BCNTR
abbrev bcntr : List ℕ
bcntr = 0xFF ∷ 0x90 ∷ 0xDD ∷ 0x4F ∷ 0xCE ∷ 0x86 ∷ 0xDC ∷ 0xF6 ∷ 0xCE ∷ 0x86 ∷ 0xDC ∷ 0xEE ∷ 0x08 ∷ []

-- EMB set, as by the tips
abbrev emb : List ℕ → List ℕ
emb l = psw 0b0010 0 l

-- A = 3 and a PCON
abbrev pub pcon : ℕ → List ℕ
pcon v = holding (holding (timer 0 0 0) 0xFB3 v) 0 3

-- STOP; NOP; NOP; NOP, one clock before BCNT's overflow when STOP has run; P1.1, the pin of INT1, goes up at clock 5; FBEH, which is IE1 IRQ1 ..
abbrev stops : ℕ → Run
stops n =
    traced (0x02 ∷ 0x01 ∷ 0x05 ∷ 0x00 ∷ 0b10 ∷ []) (rom_of 0x0100 (0xFF ∷ 0xB3 ∷ 0xA0 ∷ 0xA0 ∷ 0xA0 ∷ [])) n (holding (timer 7 0xFF 0) 0xFBE 0b1000)
    (timed 0x0100 0 23 6)

abbrev released : Cpu → Cpu
released c = with_cursor (with_pins c 0x20) 5

-- the vector of INTB to 0200H, NOPs at 0100H; IME and IEB set, and two clocks before BCNT's overflow
abbrev intb : ℕ → Run
intb n = run (burnt (rom_of 0x0002 (0x02 ∷ 0x00 ∷ [])) 0x0100 (0xA0 ∷ 0xA0 ∷ [])) n (holding (timer 7 0xFF 0b10) 0xFB2 0b1000) (timed 0x0100 0 30 0)

-- the same in idle mode, with IME 0
abbrev dozes : ℕ → Run
dozes n = run (rom_of 0x0100 []) n (timer 7 0xFF 0b10) (with_mode (timed 0x0100 0 30 0) idle)

-- what Table 9-1 and the vector's flags make of nibbles that are 0 where the table has 0: TREF0 FFH and WDMOD A5H
abbrev pub reset : ℕ → List ℕ → List ℕ
reset flags l = laid (holding l 0xFB0 flags) 0xF96 (15 ∷ 15 ∷ 5 ∷ 10 ∷ [])

-- a reset record, due at once; what its step leaves of `timer 7 0xC8 1` where the vector is 0180H
abbrev pub reset_pulse : List ℕ
reset_pulse = 0x80 ∷ 0x00 ∷ []

abbrev pub bcnt_kept : Machine
bcnt_kept = at (reset 0 (laid zeros 0xF86 (8 ∷ 12 ∷ []))) (with_hold (with_cursor (timed 0x0180 1 64 0) 2) 2047)

-- JP 0200H at 0100H, the reset vector 0180H with ERB 1; P4 drives 6, A is 5; SMB 15, SRB 1 and an effect; two clocks before BCNT's overflow
abbrev pub biting : List ℕ
biting = burnt (rom_of 0x0000 (0x41 ∷ 0x80 ∷ [])) 0x0100 (0xDB ∷ 0x02 ∷ 0x00 ∷ [])

abbrev pub driving : List ℕ
driving = holding (holding (holding (timer 7 0xFF 0) 0xFEA 15) 0xFF4 6) 0 5

abbrev pub at_seven : Cpu
at_seven = with_effect (with_srb (with_smb (timed 0x0100 9 30 7) 15) 1) 1

-- a step of it from some scalars, and what it leaves where the watchdog resets the chip
abbrev pub bitten : Cpu → ℕ → Run
bitten c room = steps_over (step_by Rom biting []) 1 (at driving c) (replicate room 0) 0

abbrev pub bitten_at : ℕ → Run
bitten_at clock =
    record {
      state = at (reset 1 (holding zeros 0 5)) (with_hold (timed 0x0180 clock 0 0) held_cycles);
      log = clock ∷ 0 ∷ 0 ∷ 0 ∷ 4 ∷ 0 ∷ [];
      end = 6;
      steps = 1;
      ending = done;
    }

-- a program at 0100H, and the reset vector to a NOP at 0180H; its steps from 64 clocks before the watchdog's eighth overflow
abbrev pub vectored : List ℕ → List ℕ
vectored code = burnt (burnt (rom_of 0x0000 (0x01 ∷ 0x80 ∷ [])) 0x0180 (0xA0 ∷ [])) 0x0100 code

abbrev pub loops : List ℕ → ℕ → Run
loops code n = run (vectored code) n (timer 7 0xFE 0) (timed 0x0100 0 0 7)

pub record TimerCases : Type 0 where
  -- "To set the basic timer interrupt interval time to 1.95 ms": after LD BMOD,A BCNT, IRQB and BMOD.3 are 0; 7 cycles, phase 28
  pub tip_interval : goes 4 interval (timer 0 0xC8 1) 0 6 ≡ ran_on 4 (at (holding (emb (timer 7 0 0)) 0 15) (with_smb (timed 0x0107 7 28 6) 15))
  -- the whole tip: the divider is free-running, so BCNT's first count comes with clock 32, and not 32 clocks after LD BMOD,A
  pub tip-whole :
      goes 6 interval (timer 0 0xC8 1) 0 6 ≡ ran_on 6 (at (holding (holding (emb (timer 7 1 0b10)) 0 15) 0xFB2 0b1000) (with_smb (timed 0x010B 11 44 6) 15))
  -- "Clear BCNT and the IRQB flag and restart the basic timer"; the watchdog's count stays; the clear comes before the step's own clocks
  pub tip_restart : goes 3 restart (timer 5 0xC8 1) 0 6 ≡ ran_on 3 (at (emb (timer 5 0 0)) (with_smb (timed 0x0106 6 24 6) 15))
  pub restart_first : goes 3 restart (timer 7 0xC8 1) 12 6 ≡ ran_on 3 (at (emb (timer 7 1 0)) (with_smb (timed 0x0106 6 36 6) 15))
  -- "To read the basic timer count register (BCNT)": C8H, then C9H; again, and CAH twice: JR is skipped
  pub tip-read :
      goes 11 bcntr (timer 7 0xC8 0) 12 0 ≡ ran_on 11 (at (laid (emb (timer 7 0xCB 0)) 0 (10 ∷ 12 ∷ 0 ∷ 0 ∷ 0 ∷ 0 ∷ 10 ∷ 12 ∷ [])) (with_smb (timed 0x010D 23 104 0) 15))
  -- LD BMOD,A with A = 7, and a NOP where BMOD.3 stands: nothing is cleared
  pub bmod_7 : goes 1 (0x89 ∷ 0x85 ∷ []) (holding (timer 0 0xC8 1) 0 7) 0 6 ≡ ran_on 1 (at (holding (timer 7 0xC8 1) 0 7) (timed 0x0102 2 8 6))
  pub bmod_stands : goes 1 (0xA0 ∷ []) (timer 15 0xC8 1) 0 6 ≡ ran_on 1 (at (timer 15 0xC8 1) (timed 0x0101 1 4 6))
  -- "WDTCF(F9AH.3) setting clear the WDT's counter to zero": BITS WDTCF, and the bit stays; where it stands, NOP and BITR WDTCF clear nothing
  pub wdtcf : goes 1 (0xF1 ∷ 0x9A ∷ []) (timer 7 0xC8 1) 0 6 ≡ ran_on 1 (at (holding (timer 7 0xC8 1) 0xF9A 8) (timed 0x0102 2 8 0))
  pub wdtcf_stands : goes 1 (0xA0 ∷ []) (holding (timer 7 0xC8 1) 0xF9A 8) 0 6 ≡ ran_on 1 (at (holding (timer 7 0xC8 1) 0xF9A 8) (timed 0x0101 1 4 6))
  pub wdtcf_0 : goes 1 (0xF0 ∷ 0x9A ∷ []) (holding (timer 7 0xC8 1) 0xF9A 8) 0 6 ≡ ran_on 1 (at (timer 7 0xC8 1) (timed 0x0102 2 8 6))
  -- "by PCON and mode as its records left them": LD PCON,A still passes 64 clocks a cycle, the NOP after it 4; PCON 01 is 64, 10 is 8
  pub pcon_own : goes 1 (0x89 ∷ 0xB3 ∷ 0xA0 ∷ []) (pcon 0) 0 0 ≡ ran_on 1 (at (pcon 3) (timed 0x0102 2 128 0))
  pub pcon_next : goes 2 (0x89 ∷ 0xB3 ∷ 0xA0 ∷ []) (pcon 0) 0 0 ≡ ran_on 2 (at (pcon 3) (timed 0x0103 3 132 0))
  pub pcon_1 : goes 1 (0xA0 ∷ []) (pcon 1) 0 0 ≡ ran_on 1 (at (pcon 1) (timed 0x0101 1 64 0))
  pub pcon_2 : goes 1 (0xA0 ∷ []) (pcon 2) 0 0 ≡ ran_on 1 (at (pcon 2) (timed 0x0101 1 8 0))
  -- a reset record: the step's cycle, the first of the hold, passes at 64, and BCNT is kept
  pub reset_record : traced reset_pulse (vectored []) 1 (timer 7 0xC8 1) (timed 0x0100 0 30 6) ≡ ran_on 1 bcnt_kept
  -- "Reset, stop, and wait signal clear the WDCNT": STOP does, and its own cycles pass; "none in stop mode", the releasing step's cycle too; then on
  pub stop_own : stops 1 ≡ ran_on 1 (at (holding (timer 7 0xFF 0) 0xFBE 0b1000) (with_mode (timed 0x0102 2 31 0) stopped))
  pub stop_mode : stops 4 ≡ ran_on 4 (at (holding (timer 7 0xFF 0) 0xFBE 0b1000) (with_mode (timed 0x0102 5 31 0) stopped))
  pub stop_release : stops 5 ≡ ran_on 5 (at (holding (timer 7 0xFF 0) 0xFBE 0b1100) (released (timed 0x0102 6 31 0)))
  pub stop_after : stops 6 ≡ ran_on 6 (at (holding (timer 7 0 1) 0xFBE 0b1100) (released (timed 0x0103 7 35 1)))
  -- IDLE clears no count
  pub idle_own : goes 1 (0xFF ∷ 0xA3 ∷ []) (timer 7 0 0) 0 6 ≡ ran_on 1 (at (timer 7 0 0) (with_mode (timed 0x0102 2 8 6) idle))
  -- "An overflow causes the BT interrupt request flag (IRQB) to be set": NOP has run, and the next step enters INTB; a step of idle mode
  -- stays in it, and the next releases it
  pub overflow : intb 1 ≡ ran_on 1 (at (holding (timer 7 0 0b11) 0xFB2 0b1000) (timed 0x0101 1 34 1))
  pub overflow_next : intb 2 ≡ ran_on 2 (at (psw 0b0100 0 (return_to 1 (holding (timer 7 0 0b10) 0xFB2 0b1000))) (timed 0x0200 3 42 1))
  pub overflow_idle : dozes 1 ≡ ran_on 1 (at (timer 7 0 0b11) (with_mode (timed 0x0100 1 34 1) idle))
  pub overflow_wakes : dozes 2 ≡ ran_on 2 (at (timer 7 0 0b11) (timed 0x0100 2 38 1))
  -- "5AH: Disable Watch-dog timer function": the count stands
  pub wdmod_5a : goes 1 (0xA0 ∷ []) (laid (timer 7 0xFF 0) 0xF98 (10 ∷ 5 ∷ [])) 30 7 ≡ ran_on 1 (at (laid (timer 7 0 1) 0xF98 (10 ∷ 5 ∷ [])) (timed 0x0101 1 34 7))
  -- "If WDCNT overflows, system reset is generated", with the step's second clock; the other ten are dropped, its 3 cycles count, P4 is logged as 0, and
  -- all 2,048 cycles of the hold are left
  pub watchdog : bitten at_seven 6 ≡ bitten_at 12
  pub watchdog_bytes : drop at_timing (image_of (bitten at_seven 6).state) ≡ 0 ∷ 0 ∷ 0x00 ∷ 0x08 ∷ []
  -- with one byte less of log it stops with 12 and leaves everything
  pub watchdog_full : bitten at_seven 5 ≡ record { state = at driving at_seven; log = replicate 5 0; end = 0; steps = 0; ending = stop 12 0 }
  -- JPS to itself is reset with its eighth step; BITS WDTCF; JPS back is not, and its next clear makes the count 0 again
  pub unattended_7 : loops (0x91 ∷ 0x00 ∷ []) 7 ≡ ran_on 7 (at (timer 7 0xFF 0) (timed 0x0100 14 56 7))
  pub unattended_8 : loops (0x91 ∷ 0x00 ∷ []) 8 ≡ ran_on 8 (at (reset 0 zeros) (with_hold (timed 0x0180 16 0 0) held_cycles))
  pub attended_8 : loops (0xF1 ∷ 0x9A ∷ 0x91 ∷ 0x00 ∷ []) 8 ≡ ran_on 8 (at (holding (timer 7 0 1) 0xF9A 8) (timed 0x0100 16 64 1))
  pub attended_9 : loops (0xF1 ∷ 0x9A ∷ 0x91 ∷ 0x00 ∷ []) 9 ≡ ran_on 9 (at (holding (timer 7 0 1) 0xF9A 8) (timed 0x0102 18 72 0))

pub timer_cases : TimerCases
unfolding acknowledged_of action_of applied_to asks_of change_of changes_of cleared_of clocked clock_of clocks_of code_at decode direct_of due_in enters_now entries_from first_of info_of jump latched_of load_ea load_im location_at logged mapped named_of outputs_of pair_of pins_after psw_of rate_in raw_of read_as reading_of read_of record_applied records_of register_at reset_mem rules_of scalars_of served_of set_bit set_ime set_mode set_pair set_smb skip_if sound spot_of status_write step_of steps_from steps_over store_a stored_in table_9_1 tap_of timers_in wakes_of write_bit_of write_of
timer_cases =
    record {
      tip_interval = refl;
      tip-whole = refl;
      tip_restart = refl;
      restart_first = refl;
      tip-read = refl;
      bmod_7 = refl;
      bmod_stands = refl;
      wdtcf = refl;
      wdtcf_stands = refl;
      wdtcf_0 = refl;
      pcon_own = refl;
      pcon_next = refl;
      pcon_1 = refl;
      pcon_2 = refl;
      reset_record = refl;
      stop_own = refl;
      stop_mode = refl;
      stop_release = refl;
      stop_after = refl;
      idle_own = refl;
      overflow = refl;
      overflow_next = refl;
      overflow_idle = refl;
      overflow_wakes = refl;
      wdmod_5a = refl;
      watchdog = refl;
      watchdog_bytes = refl;
      watchdog_full = refl;
      unattended_7 = refl;
      unattended_8 = refl;
      attended_8 = refl;
      attended_9 = refl;
    }
