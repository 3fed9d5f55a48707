-- Document 002, chapter 5, the page of REF with Table 5-1, and chapter 2, "Using the REF Look-Up Table": their examples as whole steps, with the
-- manual's codes. A REF takes 3 cycles and S (document 01, "One step").
-- Assumes nothing.
use Rattle.std.specs.Prelude.{ℕ, ◌≡◌, refl, List, [], ◌∷◌}
use Rattle.chip.specs.State.{at}
use Rattle.chip.specs.Scalars.{with_srb}
use Rattle.chip.specs.Memory.{read_bit_of, write_of}
use Rattle.chip.specs.Ports.{latched_of}
use Rattle.timers.specs.Rates.{rate_in}
use Rattle.timers.specs.Taps.{tap_of}
use Rattle.timers.specs.Clock.{clocked, clock_of, clocks_of}
use Rattle.timers.specs.Clears.{cleared_of}
use Rattle.timers.specs.Registers.{stored_in, timers_in}
use Rattle.codes.specs.Decode.{decode, info_of}
use Rattle.references.specs.Reference.{coded_of, paired, reference_of}
use Rattle.fetch.specs.declared.Origin.TheVariants.{Rom}
use Rattle.fetch.specs.Fetch.{code_at}
use Rattle.pending.specs.Pending.{served_of}
use Rattle.events.specs.Records.{records_of}
use Rattle.arithmetic.specs.Arithmetic.{skip_if}
use Rattle.bits.specs.Bits.{spot_of}
use Rattle.control.specs.Control.{call_to, jump, return_from, return_of, set_srb}
use Rattle.effects.specs.Effects.{applied_to}
use Rattle.postincrement.specs.Pairs.{then_increment_pair}
use Rattle.transfer.specs.Transfer.{load_imm}
use Rattle.portlog.specs.Log.{change_of, changes_of, logged}
use Rattle.registers.specs.Addresses.{direct_of, hl_of}
use Rattle.registers.specs.Registers.{pair_of, register_at}
use Rattle.rules.specs.Rules.{action_of, enters_now, rules_of}
use Rattle.step.specs.Step.{step_of, stopped}
use Rattle.steps.specs.Steps.{step_by, steps_from, steps_over}
use Rattle.cases.specs.Runs.{holding, ran_on, standing, zeros}
use Rattle.cases.specs.Setting.{burnt, cpu, hl_is, return_to, rom_of, run, sp}

-- example 3 of the page, by its opcodes: A1 to A9 are LD HL,#imm, A10 is TCALL SUB1, A11 TJP SUB2
abbrev area : List ℕ
area =
    0x83 ∷ 0x00 ∷ 0x83 ∷ 0x03 ∷ 0x83 ∷ 0x05 ∷ 0x83 ∷ 0x10 ∷ 0x83 ∷ 0x26 ∷ 0x83 ∷ 0x08 ∷ 0x83 ∷ 0x0F ∷ 0x83 ∷ 0xF0 ∷ 0x83 ∷ 0x67 ∷
    0x41 ∷ 0x0B ∷ 0x01 ∷ 0x0D ∷ []

-- REF A1 to REF A11 at 0100H; SUB1, 010BH, is RET
abbrev opcodes : List ℕ
opcodes =
    burnt (rom_of 0x0020 area) 0x0100
    (0x20 ∷ 0x21 ∷ 0x22 ∷ 0x23 ∷ 0x24 ∷ 0x25 ∷ 0x26 ∷ 0x27 ∷ 0x30 ∷ 0x31 ∷ 0x32 ∷ 0xC5 ∷ [])

-- chapter 2: TJP MAIN, 0080H; BTSF KEYFG, here 30H.0; TCALL CLOCK, here 0200H; LD @HL,A and INCS HL. At 0100H their REFs as the manual has them,
-- and NOP
abbrev look_up : List ℕ
look_up =
    burnt (rom_of 0x0020 (0x00 ∷ 0x80 ∷ 0xC2 ∷ 0x30 ∷ 0x42 ∷ 0x00 ∷ 0xC4 ∷ 0x82 ∷ [])) 0x0100
    (0x21 ∷ 0x20 ∷ 0x22 ∷ 0x23 ∷ 0xA0 ∷ [])

-- example 2 of the page: AAA is LD EA,#40H; at 0100H LD EA,#30H; REF AAA; REF AAA; LD EA,#50H; SRB 2
abbrev redundant : List ℕ
redundant = burnt (rom_of 0x0020 (0x81 ∷ 0x40 ∷ [])) 0x0100 (0x81 ∷ 0x30 ∷ 0x20 ∷ 0x20 ∷ 0x81 ∷ 0x50 ∷ 0xDD ∷ 0x52 ∷ [])

pub record ReferenceExamples : Type 0 where
  -- REF page, example 3: nine REFs, each to LD HL,#imm. Each is carried out, as an effect carried into REF is dropped: HL = 67H, 3 cycles each
  pub ref_code : run opcodes 9 zeros (cpu 0x0100 0) ≡ ran_on 9 (at (hl_is 7 6) (standing 0x0109 2 0 27))
  -- then REF A10, TCALL SUB1: the return address 010AH on the stack, PC 010BH, 3 cycles
  pub ref_tcall : run opcodes 10 zeros (cpu 0x0100 0) ≡ ran_on 10 (at (return_to 10 (hl_is 7 6)) (cpu 0x010B 30))
  -- then RET, and REF A11, TJP SUB2: PC 010DH, 3 cycles
  pub ref_tjp : run opcodes 12 zeros (cpu 0x0100 0) ≡ ran_on 12 (at (sp 0x00 (return_to 10 (hl_is 7 6))) (cpu 0x010D 36))
  -- chapter 2, "Using the REF Look-Up Table": REF KEYCK; REF JMAIN; REF WATCH; REF INCHL. KEYFG = 1: no skip, and REF JMAIN jumps to MAIN
  pub ref_jumps : run look_up 2 (holding zeros 0x30 1) (cpu 0x0100 0) ≡ ran_on 2 (at (holding zeros 0x30 1) (cpu 0x0080 6))
  -- KEYFG = 0: BTSF skips REF JMAIN, with 1 cycle, and REF WATCH calls CLOCK
  pub ref_skips : run look_up 1 zeros (cpu 0x0100 0) ≡ ran_on 1 (at zeros (cpu 0x0102 4))
  pub ref_calls : run look_up 2 zeros (cpu 0x0100 0) ≡ ran_on 2 (at (return_to 3 zeros) (cpu 0x0200 7))
  -- REF INCHL is a pair of Table 5-1, LD @HL,A; INCS HL: A to 3FH, HL = 40H, 3 cycles
  pub ref_pair : run look_up 1 (holding (hl_is 15 3) 0 9) (cpu 0x0103 0) ≡ ran_on 1 (at (holding (holding (hl_is 0 4) 0 9) 0x3F 9) (cpu 0x0104 3))
  -- from HL = FFH the second code carries and skips the NOP after the REF
  pub ref_pair_skips : run look_up 1 (holding (hl_is 15 15) 0 9) (cpu 0x0103 0) ≡ ran_on 1 (at (holding (holding zeros 0 9) 0xFF 9) (cpu 0x0105 4))
  -- REF page, example 2: LD EA,#30H; REF AAA, which is LD EA,#40H: not skipped
  pub ref_loads : run redundant 2 zeros (cpu 0x0100 0) ≡ ran_on 2 (at (holding zeros 1 4) (standing 0x0103 1 0 5))
  -- REF AAA; LD EA,#50H, which does nothing; SRB 2
  pub ref_redundant : run redundant 5 zeros (cpu 0x0100 0) ≡ ran_on 5 (at (holding zeros 1 4) (with_srb (cpu 0x0108 12) 2))
  -- a REF that names no such code, RET; RET, is a stop at its own address
  pub ref_nothing : step_by Rom (burnt (rom_of 0x0020 (0xC5 ∷ 0xC5 ∷ [])) 0x0100 (0x20 ∷ [])) [] (at zeros (cpu 0x0100 0)) 0 ≡ stopped 10 0x0100

pub reference_examples : ReferenceExamples
unfolding action_of applied_to call_to change_of changes_of cleared_of clocked clock_of clocks_of code_at coded_of decode direct_of enters_now hl_of info_of jump latched_of load_imm logged paired pair_of rate_in read_bit_of records_of reference_of register_at return_from return_of rules_of served_of set_srb skip_if spot_of step_of steps_from steps_over stored_in tap_of then_increment_pair timers_in write_of
reference_examples =
    record {
      ref_code = refl;
      ref_tcall = refl;
      ref_tjp = refl;
      ref_jumps = refl;
      ref_skips = refl;
      ref_calls = refl;
      ref_pair = refl;
      ref_pair_skips = refl;
      ref_loads = refl;
      ref_redundant = refl;
      ref_nothing = refl;
    }
