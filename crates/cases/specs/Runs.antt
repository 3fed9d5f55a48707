-- Document 01, "Cases shown of the definitions": the rows that run a program and those of undefined codes, each by computing: whole steps of the
-- machine over a ROM of 2,048 bytes, with no trace, and the two sessions that the document prints, worked out anew by document 02, No. 2. Those
-- that go past the hold are `PastHold`, which proofs/Sessions.antt shows.
-- Assumes nothing.
use Rattle.std.specs.Prelude.{ℕ, ◌-◌, ◌*◌, ◌≡◌, refl, List, [], ◌∷◌, ◌++◌, length, set, replicate}
use Rattle.chip.specs.declared.Cpu.{Cpu}
use Rattle.chip.specs.declared.Machine.{Machine}
use Rattle.chip.specs.declared.Timing.{Timing}
use Rattle.rights.specs.Access.{location_at}
use Rattle.registers.specs.Addresses.{hda_of, hl_of, indirect_of, memb_of}
use Rattle.image.specs.Image.{cpu_of, fault_of, fields, first_over, image_of, image_size, nibble_fault, pin_fields, scalars_of, timing_fields}
use Rattle.chip.specs.Interrupts.{asks_of}
use Rattle.chip.specs.Memory.{raw_of, read_bit_of}
use Rattle.chip.specs.Ports.{latched_of, outputs_of, port_at, port_of}
use Rattle.registers.specs.Registers.{pair_of, register_at}
use Rattle.chip.specs.Reset.{fresh_of, held_cycles, table_9_1}
use Rattle.chip.specs.Scalars.{with_hold, with_timing}
use Rattle.chip.specs.State.{nibbles, at, slot_of}
use Rattle.timers.specs.Rates.{rate_in}
use Rattle.timers.specs.Taps.{tap_of}
use Rattle.timers.specs.Clock.{clocked, clock_of, clocks_of}
use Rattle.timers.specs.Clears.{cleared_of}
use Rattle.timers.specs.Registers.{stored_in, timers_in}
use Rattle.codes.specs.Decode.{decode, info_of}
use Rattle.codes.specs.Kinds.{kind_of}
use Rattle.references.specs.Reference.{paired, coded_of, reference_of}
use Rattle.codes.specs.declared.Instr.TheVariants.{Undefined}
use Rattle.fetch.specs.declared.Origin.TheVariants.{Rom}
use Rattle.fetch.specs.Fetch.{code_at}
use Rattle.trace.specs.Trace.{due_in, end_from, entries_from, scan_number, scan_of, starts_in}
use Rattle.pending.specs.Pending.{served_of}
use Rattle.events.specs.Records.{records_of}
use Rattle.arithmetic.specs.Arithmetic.{skip_if}
use Rattle.bits.specs.Bits.{set_carry, spot_of}
use Rattle.control.specs.Control.{jump}
use Rattle.effects.specs.Effects.{applied_to}
use Rattle.transfer.specs.Transfer.{load_ea, load_im, load_imm}
use Rattle.portlog.specs.Log.{change_of, changes_of, logged}
use Rattle.step.specs.Told.{number_at, stop_at}
use Rattle.rules.specs.Rules.{action_of, choice_of, enters_now, rules_of}
use Rattle.step.specs.Step.{Out, moved, stopped, step_of}
use Rattle.calls.specs.Calls.{Called, answered, plain_call}
use Rattle.startup.specs.Startup.{fresh_number, fresh_state}
use Rattle.steps.specs.Steps.{Run, done, step_by, steps_from, steps_over}

-- the nibbles all 0, and with one value stored at a data address
abbrev pub zeros : List ℕ
zeros = replicate nibbles 0

abbrev pub holding : List ℕ → ℕ → ℕ → List ℕ
holding l a v = set l (slot_of a) v

-- L = 9; H = 2; HL = 37H; all in register bank 0, with EMB 0 and ERB 0
abbrev pub l_is_9 : List ℕ
l_is_9 = holding zeros 2 9

abbrev pub h_is_2 : List ℕ
h_is_2 = holding zeros 3 2

abbrev pub hl_is_37 : List ℕ
hl_is_37 = holding (holding zeros 3 3) 2 7

-- EA = 04H; 5 at 036H and 12 at 037H, where HL = 37H points
abbrev pub ea_is_04 : List ℕ
ea_is_04 = holding zeros 0 4

abbrev pub pointed : List ℕ
pointed = holding (holding hl_is_37 0x036 5) 0x037 12

-- the divider's phase after so many cycles with PCON 0, by Table 6-1: 64 oscillator clocks each
abbrev pub phase_at : ℕ → Timing
phase_at cycles = record { basic = 64 * cycles; hold = 0 }

-- the scalars 0 but the address, the carried effect, the pins, the clock and with it the divider's phase
abbrev pub standing : ℕ → ℕ → ℕ → ℕ → Cpu
standing pc effect pins clock =
    record { pc = pc; smb = 0; srb = 0; mode = 0; effect = effect; release = 0; pins = pins; clock = clock; cursor = 0; timing = phase_at clock }

-- a ROM of 2,048 zeros but 01H at 0000H and a program from p on
abbrev pub rom_with : ℕ → List ℕ → List ℕ
rom_with p code = 0x01 ∷ (replicate (p - 1) 0 ++ (code ++ replicate (2048 - p - length code) 0))

-- one step of a program at p, and n steps of one at 0100H, from the nibbles l, with a log of no bytes
abbrev pub stepped : ℕ → List ℕ → List ℕ → ℕ → Out
stepped p code l pins = step_by Rom (rom_with p code) [] (at l (standing p 0 pins 0)) 0

abbrev pub ran : ℕ → List ℕ → List ℕ → Run
ran n code l = steps_over (step_by Rom (rom_with 0x0100 code) []) n (at l (standing 0x0100 0 0 0)) [] 0

-- all n steps made, with nothing logged
abbrev pub ran_on : ℕ → Machine → Run
ran_on n m = record { state = m; log = []; end = 0; steps = n; ending = done }

-- the program that the document prints sessions of, its fresh state, the log of the program `replay`, and a call of the plain run from there
abbrev pub printed : List ℕ
printed = rom_with 0x0100 (0xB1 ∷ 0xB2 ∷ [])

abbrev pub printed_fresh : List ℕ
printed_fresh = fresh_state printed (replicate image_size 0)

abbrev pub session_log : List ℕ
session_log = replicate 60000 0

abbrev pub session : ℕ → Called
session budget = plain_call printed printed_fresh [] session_log 0 budget

-- the line that the program prints last: number, steps, address, clock and PC
abbrev pub line_of : Called → List ℕ
line_of w = w.answer.number ∷ w.answer.steps ∷ w.answer.address ∷ (cpu_of w.state).clock ∷ (cpu_of w.state).pc ∷ []

-- what a call leaves that answers so, its log as it was
abbrev left : ℕ → ℕ → ℕ → Machine → Called
left number steps address m = record { answer = answered number steps address 0; state = image_of m; log = session_log }

-- so many steps of the hold: the fresh state with the clock and the divider's phase moved on
abbrev pub holding_on : ℕ → Called
holding_on n = left 0 n 0 (at (fresh_of 2048 0x01 0x00).mem (with_hold (standing 256 0 0 n) (held_cycles - n)))

-- the hold, and B1H B2H behind it: A = 1 and effect 1, clock 2,050 and PC 258. The hold's 131,072 oscillator clocks are 32 rounds of the divider, each
-- of them a count of BCNT.
abbrev pub showing : ℕ → ℕ → Called
showing number address = left number 2050 address (at (holding (holding (fresh_of 2048 0x01 0x00).mem 0xF87 2) 0 1) (with_timing (standing 258 1 0 2050) (phase_at 2)))

pub record RunCases : Type 0 where
  -- JR at 0100H: the next address, and 2 cycles
  pub jr_11 : stepped 0x0100 (0x11 ∷ []) zeros 0 ≡ moved (at zeros (standing 0x0102 0 0 2)) []
  pub jr_1f : stepped 0x0100 (0x1F ∷ []) zeros 0 ≡ moved (at zeros (standing 0x0110 0 0 2)) []
  pub jr_01 : stepped 0x0100 (0x01 ∷ []) zeros 0 ≡ moved (at zeros (standing 0x00FF 0 0 2)) []
  pub jr_0f : stepped 0x0100 (0x0F ∷ []) zeros 0 ≡ moved (at zeros (standing 0x00F1 0 0 2)) []
  -- undefined codes, whatever bytes follow; a step stops there with number 9 and their address, by document 02, No. 7, with 17 at DDH 08H
  pub no_10 : (y z : ℕ) → decode 0x10 y z ≡ Undefined
  pub no_10_stops : stepped 0x0100 (0x10 ∷ []) zeros 0 ≡ stopped 9 0x0100
  pub no_00 : (y z : ℕ) → decode 0x00 y z ≡ Undefined
  pub no_00_stops : stepped 0x0100 (0x00 ∷ []) zeros 0 ≡ stopped 9 0x0100
  pub no_dd_08 : (z : ℕ) → decode 0xDD 0x08 z ≡ Undefined
  pub no_dd_08_stops : stepped 0x0100 (0xDD ∷ 0x08 ∷ []) zeros 0 ≡ stopped 17 0x0100
  pub no_f4_50 : (z : ℕ) → decode 0xF4 0x50 z ≡ Undefined
  pub no_f4_50_stops : stepped 0x0100 (0xF4 ∷ 0x50 ∷ []) zeros 0 ≡ stopped 9 0x0100
  -- document 02, No. 7: XCH A,A; XCH A,@ with no register of Table 5-8; LD A,#0 by LD Ra,#im; SRB 4; CPSE A,A, which skips SMB 2; a REF to an SMB 2
  pub no_68_stops : stepped 0x0100 (0x68 ∷ []) zeros 0 ≡ stopped 17 0x0100
  pub no_78_stops : stepped 0x0100 (0x78 ∷ []) zeros 0 ≡ stopped 9 0x0100
  pub no_d9_08_stops : stepped 0x0100 (0xD9 ∷ 0x08 ∷ []) zeros 0 ≡ stopped 17 0x0100
  pub no_dd_54_stops : stepped 0x0100 (0xDD ∷ 0x54 ∷ []) zeros 0 ≡ stopped 18 0x0100
  pub skipped_dd_42_stops : stepped 0x0100 (0xDD ∷ 0x68 ∷ 0xDD ∷ 0x42 ∷ []) zeros 0 ≡ stopped 18 0x0102
  pub named_dd_42_stops : stepped 0x001F (0x20 ∷ 0xDD ∷ 0x42 ∷ []) zeros 0 ≡ stopped 10 0x001F
  -- DDH 60H, EA = 04H, at 01FDH and at 01FEH: the page is that of the address after it
  pub jr_ea_page : stepped 0x01FD (0xDD ∷ 0x60 ∷ []) ea_is_04 0 ≡ moved (at ea_is_04 (standing 0x0104 0 0 3)) []
  pub jr_ea_next_page : stepped 0x01FE (0xDD ∷ 0x60 ∷ []) ea_is_04 0 ≡ moved (at ea_is_04 (standing 0x0204 0 0 3)) []
  -- F4H 4CH, L = 9: C from FF2H bit 1, here a pin of P2 that is high; F4H 30H, H = 2, EMB = 0: C from 020H bit 3
  pub memb_step : stepped 0x0100 (0xF4 ∷ 0x4C ∷ []) l_is_9 0x200 ≡ moved (at (holding l_is_9 0xFB1 8) (standing 0x0102 0 0x200 2)) []
  pub hda_step : stepped 0x0100 (0xF4 ∷ 0x30 ∷ []) (holding h_is_2 0x020 8) 0 ≡ moved (at (holding (holding h_is_2 0x020 8) 0xFB1 8) (standing 0x0102 0 0 2)) []
  -- B1H B2H: A = 1, 2 cycles; the second does nothing under effect 1
  pub ld_a_twice : ran 2 (0xB1 ∷ 0xB2 ∷ []) zeros ≡ ran_on 2 (at (holding zeros 0 1) (standing 0x0102 1 0 2))
  -- 83H 10H 83H 20H: HL = 10H, 4 cycles
  pub ld_hl_twice : ran 2 (0x83 ∷ 0x10 ∷ 0x83 ∷ 0x20 ∷ []) zeros ≡ ran_on 2 (at (holding (holding zeros 2 0) 3 1) (standing 0x0104 2 0 4))
  -- LD EA,@HL, HL = 37H, EMB = 0: A from 036H, E from 037H
  pub ld_ea_hl : stepped 0x0100 (0xDC ∷ 0x08 ∷ []) pointed 0 ≡ moved (at (holding (holding pointed 0 5) 1 12) (standing 0x0102 0 0 2)) []
  -- the printed sessions, "worked out anew": the head is held, 0 2 0 2 256 for budget 2 and 0 3 0 3 256 for budget 3, by the line that the program prints
  pub fresh_number_lem : fresh_number printed (replicate image_size 0) ≡ 0
  pub budget_two_line : line_of (session 2) ≡ 0 ∷ 2 ∷ 0 ∷ 2 ∷ 256 ∷ []
  pub budget_three_line : line_of (session 3) ≡ 0 ∷ 3 ∷ 0 ∷ 3 ∷ 256 ∷ []
  -- the same whole: the answer, the state and the log
  pub budget_two : session 2 ≡ holding_on 2
  pub budget_three : session 3 ≡ holding_on 3

-- the other two: 0 2050 0 2050 258, and 9 2050 258 2050 258, for 00H behind B1H B2H is no code; by the line, and whole
pub record PastHold : Type 0 where
  pub budget_2050_line : line_of (session 2050) ≡ 0 ∷ 2050 ∷ 0 ∷ 2050 ∷ 258 ∷ []
  pub budget_2051_line : line_of (session 2051) ≡ 9 ∷ 2050 ∷ 258 ∷ 2050 ∷ 258 ∷ []
  pub budget_2050 : session 2050 ≡ showing 0 0
  pub budget_2051 : session 2051 ≡ showing 9 258

pub run_cases : RunCases
unfolding action_of applied_to asks_of change_of changes_of choice_of cleared_of clocked clock_of clocks_of code_at coded_of cpu_of decode due_in end_from enters_now entries_from fault_of fields first_over fresh_number fresh_of fresh_state hda_of hl_of indirect_of info_of jump kind_of latched_of load_ea load_im load_imm location_at logged memb_of nibble_fault number_at outputs_of paired pair_of pin_fields plain_call port_at port_of rate_in raw_of read_bit_of records_of reference_of register_at rules_of scalars_of scan_number scan_of served_of set_carry skip_if spot_of starts_in step_of steps_from steps_over stop_at stored_in table_9_1 tap_of timers_in timing_fields
run_cases =
    record {
      jr_11 = refl;
      jr_1f = refl;
      jr_01 = refl;
      jr_0f = refl;
      no_10 = λ y z. refl;
      no_10_stops = refl;
      no_00 = λ y z. refl;
      no_00_stops = refl;
      no_dd_08 = λ z. refl;
      no_dd_08_stops = refl;
      no_f4_50 = λ z. refl;
      no_f4_50_stops = refl;
      no_68_stops = refl;
      no_78_stops = refl;
      no_d9_08_stops = refl;
      no_dd_54_stops = refl;
      skipped_dd_42_stops = refl;
      named_dd_42_stops = refl;
      jr_ea_page = refl;
      jr_ea_next_page = refl;
      memb_step = refl;
      hda_step = refl;
      ld_a_twice = refl;
      ld_hl_twice = refl;
      ld_ea_hl = refl;
      fresh_number_lem = refl;
      budget_two_line = refl;
      budget_three_line = refl;
      budget_two = refl;
      budget_three = refl;
    }
