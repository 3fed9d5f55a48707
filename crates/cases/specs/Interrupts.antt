-- Document 002, chapter 7 (Tables 7-2 and 7-4), the pages of VENT and IRET in chapter 5, "Selecting Your Working Register Area" in chapter 2, and
-- chapter 8 on the release of idle mode: what they say of interrupts, as whole steps. An entry takes 2 cycles, as VENT does in Table 5-9.
-- Assumes nothing.
use Rattle.std.specs.Prelude.{ℕ, ◌≡◌, refl, List, [], ◌∷◌}
use Rattle.chip.specs.declared.Cpu.{Cpu}
use Rattle.chip.specs.State.{at}
use Rattle.chip.specs.Modes.{idle}
use Rattle.chip.specs.Scalars.{with_cursor, with_mode, with_pins, with_release, with_smb, with_srb}
use Rattle.chip.specs.Interrupts.{asks_of}
use Rattle.chip.specs.Memory.{write_of}
use Rattle.chip.specs.Ports.{latched_of}
use Rattle.timers.specs.Rates.{rate_in}
use Rattle.timers.specs.Taps.{tap_of}
use Rattle.timers.specs.Clock.{clocked, clock_of, clocks_of}
use Rattle.timers.specs.Clears.{cleared_of}
use Rattle.timers.specs.Registers.{stored_in, timers_in}
use Rattle.codes.specs.Decode.{decode, info_of}
use Rattle.fetch.specs.Fetch.{code_at}
use Rattle.record.specs.Record.{mapped, pins_after, read_as, reading_of, sound}
use Rattle.trace.specs.Trace.{due_in, entries_from}
use Rattle.pending.specs.Pending.{acknowledged_of, first_of, named_of, served_of, wakes_of}
use Rattle.events.specs.Records.{record_applied, records_of}
use Rattle.arithmetic.specs.Arithmetic.{add_skip_pair}
use Rattle.control.specs.Control.{interrupt_return, jump, return_of, set_mode, set_smb, set_srb}
use Rattle.effects.specs.Effects.{applied_to}
use Rattle.transfer.specs.Transfer.{load_imm, set_pair, store_ea}
use Rattle.stack.specs.Stack.{pop_sb, push_sb}
use Rattle.portlog.specs.Log.{change_of, changes_of, logged}
use Rattle.registers.specs.Addresses.{direct_of}
use Rattle.registers.specs.Registers.{pair_of, register_at}
use Rattle.outcomes.specs.Outcomes.{psw_of, status_write}
use Rattle.rules.specs.Rules.{action_of, enters_now, rules_of}
use Rattle.step.specs.Step.{step_of}
use Rattle.steps.specs.Steps.{Run, steps_from, steps_over}
use Rattle.cases.specs.Runs.{holding, ran_on, standing, zeros}
use Rattle.cases.specs.Setting.{burnt, cpu, laid, psw, return_to, rom_of, run, sp, traced}

-- VENT2 0,1,INT0 and VENT3 0,0,INT1, with INT0 at 0200H and INT1 at 0240H; NOP at 0123H
abbrev pub vectors : List ℕ
vectors = burnt (rom_of 0x0004 (0x42 ∷ 0x00 ∷ 0x02 ∷ 0x40 ∷ [])) 0x0123 (0xA0 ∷ [])

-- FB0H, with C set; FB2H, which is IME and IPR; FBEH, which is IE1 IRQ1 IE0 IRQ0
abbrev asking : ℕ → ℕ → ℕ → List ℕ
asking status ipr flags = holding (holding (psw status 0b1000 zeros) 0xFB2 ipr) 0xFBE flags

-- after an entry from 0123H and SP 00H: the old FB0H on the stack, and the new one
abbrev entered : ℕ → ℕ → List ℕ → List ℕ
entered old new l = sp 0xFA (laid (holding l 0xFB0 new) 0xFA (1 ∷ 0 ∷ 3 ∷ 2 ∷ old ∷ 0b1000 ∷ []))

-- a step at 0123H, and what it leaves: the NOP run, or the vector entered
abbrev met : ℕ → ℕ → ℕ → Run
met status ipr flags = run vectors 1 (asking status ipr flags) (cpu 0x0123 0)

abbrev passed : ℕ → ℕ → ℕ → Run
passed status ipr flags = ran_on 1 (at (asking status ipr flags) (cpu 0x0124 1))

abbrev taken : ℕ → List ℕ → Run
taken pc l = ran_on 1 (at l (cpu pc 2))

-- INT0 before its entry and after it
abbrev int0 : List ℕ
int0 = asking 0b0010 0b1000 0b0011

abbrev in_int0 : List ℕ
in_int0 = entered 0b0010 0b0101 (asking 0b0010 0b1000 0b0010)

-- VENT2 1,1,INT0; INT0: PUSH SB; SRB 2; SMB 0; LD EA,#00H; LD 80H,EA; LD HL,#40H; INCS HL; LD WX,EA; LD YZ,EA; POP SB; IRET
abbrev routine : List ℕ
routine =
    burnt (rom_of 0x0004 (0xC2 ∷ 0x00 ∷ [])) 0x0200
    (0xDD ∷ 0x67 ∷ 0xDD ∷ 0x52 ∷ 0xDD ∷ 0x40 ∷ 0x81 ∷ 0x00 ∷ 0xCD ∷ 0x80 ∷ 0x83 ∷ 0x40 ∷ 0x82 ∷ 0xDC ∷ 0xF4 ∷ 0xDC ∷ 0xF6 ∷ 0xDD ∷ 0x66 ∷
    0xD5 ∷ [])

-- EMB, ERB and IME set, and the flags of INT0
abbrev status : ℕ → List ℕ
status flags = holding (holding (holding zeros 0xFB0 0b0011) 0xFB2 0b1000) 0xFBE flags

-- before the routine: 80H and the registers of bank 2 hold something else
abbrev before : List ℕ
before = laid (laid (status 0b0011) 0x80 (7 ∷ 7 ∷ [])) 0x10 (9 ∷ 9 ∷ 9 ∷ 9 ∷ 9 ∷ 9 ∷ 9 ∷ 9 ∷ [])

-- after it: 80H is 00H, and in bank 2 EA, WX and YZ are 00H and HL is 41H; below SP stay SRB, SMB, PC and the status word
abbrev after : List ℕ
after = laid (laid (status 0b0010) 0xF8 (1 ∷ 15 ∷ 1 ∷ 0 ∷ 3 ∷ 2 ∷ 0b0011 ∷ 0 ∷ [])) 0x10 (0 ∷ 0 ∷ 1 ∷ 4 ∷ 0 ∷ 0 ∷ 0 ∷ 0 ∷ [])

-- SMB 15 and SRB 1
abbrev banked : Cpu → Cpu
banked c = with_srb (with_smb c 15) 1

-- IDLE; NOP; NOP; NOP at 0100H, and the vectors
abbrev idles : List ℕ
idles = burnt vectors 0x0100 (0xFF ∷ 0xA3 ∷ 0xA0 ∷ 0xA0 ∷ 0xA0 ∷ [])

-- P1.1, the pin of INT1, goes up at clock 5; the scalars after that record
abbrev pulse : List ℕ
pulse = 0x02 ∷ 0x01 ∷ 0x05 ∷ 0x00 ∷ 0b10 ∷ []

abbrev pulsed : Cpu → Cpu
pulsed c = with_cursor (with_pins c 0x20) 5

-- FB2H and FBEH, the rest 0
abbrev pub waiting : ℕ → ℕ → List ℕ
waiting ipr flags = holding (holding zeros 0xFB2 ipr) 0xFBE flags

-- the same in INT1, entered from 0104H
abbrev pub in_int1 : List ℕ
in_int1 = psw 0b0100 0 (return_to 4 (waiting 0b1000 0b1000))

-- INTK asks, with IME 1
abbrev intk : List ℕ
intk = holding (waiting 0b1000 0) 0xFBF 0b0011

pub record InterruptExamples : Type 0 where
  -- Table 7-2 and the VENT page: INT0 at 0123H. PC and the old FB0H and FB1H on the stack; IS 01; EMB 0 and ERB 1 by the vector; IRQ0 cleared; the
  -- carried effect 0; 2 cycles
  pub entry : run vectors 1 int0 (standing 0x0123 1 0 0) ≡ taken 0x0200 in_int0
  -- IRET page: IRET there leaves SP 00H, PC 0123H and the status word of before; 3 cycles
  pub entry_iret : run (burnt vectors 0x0200 (0xD5 ∷ [])) 2 int0 (cpu 0x0123 0) ≡ ran_on 2 (at (sp 0x00 (holding in_int0 0xFB0 0b0010)) (cpu 0x0123 5))
  -- Table 7-2: under IS 01 the source that IPR names, here INT1, is served, and IS goes to 10; INT0 is not; under IS 10 none is
  pub level_1 : met 0b0110 0b1011 0b1100 ≡ taken 0x0240 (entered 0b0110 0b1000 (asking 0b0110 0b1011 0b1000))
  pub level_1_other : met 0b0110 0b1011 0b0011 ≡ passed 0b0110 0b1011 0b0011
  pub level_2 : met 0b1010 0b1011 0b1100 ≡ passed 0b1010 0b1011 0b1100
  -- chapter 7, "Vectored Interrupts": not with IME 0, not with IEx 0, not with IRQx 0
  pub ime_0 : met 0b0010 0b0000 0b1111 ≡ passed 0b0010 0b0000 0b1111
  pub ie_0 : met 0b0010 0b1000 0b0101 ≡ passed 0b0010 0b1000 0b0101
  pub irq_0 : met 0b0010 0b1000 0b1010 ≡ passed 0b0010 0b1000 0b1010
  -- chapter 7, default priorities and Table 7-4: INT0 before INT1, but not where IPR names INT1
  pub first : met 0b0010 0b1000 0b1111 ≡ taken 0x0200 (entered 0b0010 0b0101 (asking 0b0010 0b1000 0b1110))
  pub named : met 0b0010 0b1011 0b1111 ≡ taken 0x0240 (entered 0b0010 0b0100 (asking 0b0010 0b1011 0b1011))
  -- chapter 2, "Selecting Your Working Register Area", 2: the entry and the routine's eleven codes, 24 cycles; SMB, SRB, SP and the status word are
  -- those of before
  pub working : run routine 12 before (banked (cpu 0x0123 0)) ≡ ran_on 12 (at after (banked (cpu 0x0123 24)))
  -- chapter 8, IME = 0: INT1 releases idle mode, and the NOPs after IDLE run; IRQ1 stays
  pub release_ime_0 : traced pulse idles 8 (waiting 0b0000 0b1000) (cpu 0x0100 0) ≡ ran_on 8 (at (waiting 0b0000 0b1100) (pulsed (cpu 0x0105 9)))
  -- IME = 1: released with release count 2; two NOPs run, and then the interrupt is entered
  pub release-count :
      traced pulse idles 5 (waiting 0b1000 0b1000) (cpu 0x0100 0) ≡ ran_on 5 (at (waiting 0b1000 0b1100) (with_release (pulsed (cpu 0x0102 6)) 2))
  pub release_ime_1 : traced pulse idles 8 (waiting 0b1000 0b1000) (cpu 0x0100 0) ≡ ran_on 8 (at in_int1 (pulsed (cpu 0x0240 10)))
  -- INTK with IME = 1 is as IME = 0: no vector
  pub release_intk : run idles 4 intk (with_mode (cpu 0x0102 0) idle) ≡ ran_on 4 (at intk (cpu 0x0105 4))
  -- INT0 does not release
  pub no_release : run idles 4 (waiting 0b1000 0b0011) (with_mode (cpu 0x0102 0) idle) ≡ ran_on 4 (at (waiting 0b1000 0b0011) (with_mode (cpu 0x0102 4) idle))

pub interrupt_examples : InterruptExamples
unfolding acknowledged_of action_of add_skip_pair applied_to asks_of change_of changes_of cleared_of clocked clock_of clocks_of code_at decode direct_of due_in enters_now entries_from first_of info_of interrupt_return jump latched_of load_imm logged mapped named_of pair_of pins_after pop_sb psw_of push_sb rate_in read_as reading_of record_applied records_of register_at return_of rules_of served_of set_mode set_pair set_smb set_srb sound status_write step_of steps_from steps_over stored_in store_ea tap_of timers_in wakes_of write_of
interrupt_examples =
    record {
      entry = refl;
      entry_iret = refl;
      level_1 = refl;
      level_1_other = refl;
      level_2 = refl;
      ime_0 = refl;
      ie_0 = refl;
      irq_0 = refl;
      first = refl;
      named = refl;
      working = refl;
      release_ime_0 = refl;
      release-count = refl;
      release_ime_1 = refl;
      release_intk = refl;
      no_release = refl;
    }
