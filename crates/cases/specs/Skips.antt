-- Document 002, chapter 5: Table 5-3 and the examples that skip, on the pages of ADC, SBC, ADS, BTST, DECS, INCS and XCHD, as whole steps with the
-- manual's numbers. S is 1 cycle for a skipped code of 1 or 2 bytes and 2 for one of 3 (document 01, "One step", 4).
-- Assumes nothing.
use Rattle.std.specs.Prelude.{ℕ, ◌*◌, ◌%◌, ◌/◌, ◌≡◌, refl, List, [], ◌∷◌}
use Rattle.chip.specs.State.{at}
use Rattle.chip.specs.Ports.{latched_of}
use Rattle.chip.specs.Memory.{read_bit_of, read_of, write_of}
use Rattle.timers.specs.Rates.{rate_in}
use Rattle.timers.specs.Taps.{tap_of}
use Rattle.timers.specs.Clock.{clocked, clock_of, clocks_of}
use Rattle.timers.specs.Clears.{cleared_of}
use Rattle.timers.specs.Registers.{stored_in, timers_in}
use Rattle.codes.specs.Decode.{decode, info_of}
use Rattle.fetch.specs.Fetch.{code_at}
use Rattle.pending.specs.Pending.{served_of}
use Rattle.events.specs.Records.{records_of}
use Rattle.arithmetic.specs.Arithmetic.{add_carry_a, add_carry_pair, add_im_a, add_skip_pair, increment_at, skip_if, step_reg, sub_carry_a}
use Rattle.bits.specs.Bits.{set_carry, spot_of}
use Rattle.control.specs.Control.{call_to, jump}
use Rattle.effects.specs.Effects.{applied_to}
use Rattle.transfer.specs.Transfer.{load_im, load_imm}
use Rattle.postincrement.specs.Postincrement.{exchange_step}
use Rattle.portlog.specs.Log.{change_of, changes_of, logged}
use Rattle.registers.specs.Addresses.{direct_of, hl_of}
use Rattle.registers.specs.Registers.{pair_of, register_at}
use Rattle.rules.specs.Rules.{action_of, enters_now, rules_of}
use Rattle.step.specs.Step.{step_of}
use Rattle.steps.specs.Steps.{steps_from, steps_over}
use Rattle.cases.specs.Runs.{holding, ran, ran_on, zeros}
use Rattle.cases.specs.Setting.{burnt, cpu, hl_is, laid, psw, return_to, rom_of, run}

-- the labels XXX and YYY, and JPS to each
abbrev xxx : ℕ
xxx = 0x0180

abbrev yyy : ℕ
yyy = 0x01C0

abbrev jps_xxx : List ℕ
jps_xxx = 0x91 ∷ 0x80 ∷ []

abbrev jps_yyy : List ℕ
jps_yyy = 0x91 ∷ 0xC0 ∷ []

-- HL = 20H, and a value there; C = 1
abbrev pointing : ℕ → List ℕ
pointing v = psw 0 0b1000 (holding (hl_is 0 2) 0x20 v)

-- the same with A and C as a sum leaves them
abbrev sum : ℕ → ℕ → ℕ → List ℕ
sum a c v = psw 0 (8 * c) (holding (pointing v) 0 a)

-- the pairs EA and HL
abbrev pairs : ℕ → ℕ → List ℕ
pairs ea hl = laid zeros 0 (ea % 16 ∷ ea / 16 ∷ hl % 16 ∷ hl / 16 ∷ [])

-- BTST 30H.2; RET; JP XXX
abbrev btst : List ℕ
btst = 0xE3 ∷ 0x30 ∷ 0xC5 ∷ 0xDB ∷ 0x01 ∷ 0x80 ∷ []

-- DECS A; CALL XXX; CALL YYY
abbrev decs : List ℕ
decs = 0x48 ∷ 0xDB ∷ 0x41 ∷ 0x80 ∷ 0xDB ∷ 0x41 ∷ 0xC0 ∷ []

-- LD HL,#20H; LD A,#0H; XCHD A,@HL; JPS XXX; JPS YYY; at YYY XCHD A,@HL
abbrev exchanges : List ℕ
exchanges = burnt (rom_of 0x0100 (0x83 ∷ 0x20 ∷ 0xB0 ∷ 0x7B ∷ 0x91 ∷ 0x80 ∷ jps_yyy)) yyy (0x7B ∷ [])

-- values in 20H and 2FH
abbrev ends : ℕ → ℕ → List ℕ → List ℕ
ends v w l = holding (holding l 0x20 v) 0x2F w

pub record SkipExamples : Type 0 where
  -- ADC page, example 3, a: 8 + 9. RCF; LD A,#8H; ADS A,#6H; ADC A,@HL; ADS A,#0AH; JPS XXX. ADC carries and skips ADS: A = 7, C = 1
  pub adc_skips : ran 5 (0xE6 ∷ 0xB8 ∷ 0xA6 ∷ 0x3E ∷ 0xAA ∷ jps_xxx) (pointing 9) ≡ ran_on 5 (at (sum 7 1 9) (cpu xxx 7))
  -- b: 3 + 4. No carry; ADS is carried out and does not skip, though it overflows: A = 7, C = 0
  pub adc_does_not : ran 6 (0xE6 ∷ 0xB3 ∷ 0xA6 ∷ 0x3E ∷ 0xAA ∷ jps_xxx) (pointing 4) ≡ ran_on 6 (at (sum 7 0 4) (cpu xxx 7))
  -- ADC carries before a code that is no ADS A,#im: no skip. SCF; LD A,#8H; ADC A,@HL; JPS XXX
  pub adc_alone : ran 4 (0xE7 ∷ 0xB8 ∷ 0x3E ∷ jps_xxx) (pointing 9) ≡ ran_on 4 (at (sum 2 1 9) (cpu xxx 5))
  -- SBC page, example 3, a: 8 - 6. RCF; LD A,#8H; SBC A,@HL; ADS A,#0AH; JPS XXX. No borrow, ADS is skipped: A = 2, C = 0
  pub sbc_skips : ran 4 (0xE6 ∷ 0xB8 ∷ 0x3C ∷ 0xAA ∷ jps_xxx) (pointing 6) ≡ ran_on 4 (at (sum 2 0 6) (cpu xxx 6))
  -- b: 3 - 4. A borrow; ADS is carried out and does not skip: A = 9, C = 1
  pub sbc_does_not : ran 5 (0xE6 ∷ 0xB3 ∷ 0x3C ∷ 0xAA ∷ jps_xxx) (pointing 4) ≡ ran_on 5 (at (sum 9 1 4) (cpu xxx 6))
  -- ADC page, examples 1 and 2: EA = 0C3H, HL = 0AAH, C = 1 and C = 0; no skip after ADC EA,HL. Of C3H + AAH + 0 the manual prints 6EH: it is 6DH.
  pub adc_ea_1 : ran 3 (0xE7 ∷ 0xDC ∷ 0xAA ∷ jps_xxx) (pairs 0xC3 0xAA) ≡ ran_on 3 (at (psw 0 0b1000 (pairs 0x6E 0xAA)) (cpu xxx 5))
  pub adc_ea_0 : ran 3 (0xE6 ∷ 0xDC ∷ 0xAA ∷ jps_xxx) (pairs 0xC3 0xAA) ≡ ran_on 3 (at (psw 0 0b1000 (pairs 0x6D 0xAA)) (cpu xxx 5))
  -- ADS page, example 1: ADS EA,HL overflows to 6DH, C stays; JPS XXX, 2 bytes, is skipped with 1 cycle; JPS YYY. Example 2: HL = 12H, no skip
  pub skip_two : ran 2 (0xDC ∷ 0x9A ∷ 0x91 ∷ 0x80 ∷ jps_yyy) (pairs 0xC3 0xAA) ≡ ran_on 2 (at (pairs 0x6D 0xAA) (cpu yyy 5))
  pub skip_none : ran 2 (0xDC ∷ 0x9A ∷ 0x91 ∷ 0x80 ∷ jps_yyy) (pairs 0xC3 0x12) ≡ ran_on 2 (at (pairs 0xD5 0x12) (cpu xxx 4))
  -- BTST page, example 1: BTST 30H.2; RET; JP LABEL2. The bit is 1: RET, 1 byte, is skipped with 1 cycle. The bit is 0: RET comes next
  pub skip_one : ran 2 btst (holding zeros 0x30 0b0100) ≡ ran_on 2 (at (holding zeros 0x30 0b0100) (cpu xxx 6))
  pub btst_false : ran 1 btst (holding zeros 0x30 0b1011) ≡ ran_on 1 (at (holding zeros 0x30 0b1011) (cpu 0x0102 2))
  -- DECS page, example 2: DECS A; CALL PLAY1; CALL PLAY2. A = 0 borrows: CALL PLAY1, 3 bytes, is skipped with 2 cycles. A has 4 bits: it is 0FH
  pub skip_three : ran 1 decs zeros ≡ ran_on 1 (at (holding zeros 0 15) (cpu 0x0104 3))
  pub play2 : ran 2 decs zeros ≡ ran_on 2 (at (return_to 7 (holding zeros 0 15)) (cpu yyy 7))
  -- INCS page: HL = 7EH, 0FH in 7EH. INCS @HL; INCS HL; INCS @HL leaves HL 7EH and 1H in 7EH
  pub incs : ran 2 (0xDD ∷ 0x62 ∷ 0x82 ∷ 0xDD ∷ 0x62 ∷ []) (holding (hl_is 14 7) 0x7E 15) ≡ ran_on 2 (at (holding (hl_is 14 7) 0x7E 1) (cpu 0x0105 5))
  -- XCHD page: 0FH in 20H, here 5H in 2FH. L = 0 borrows at the first XCHD: JPS XXX is skipped, and the second is at 2FH
  pub xchd : run exchanges 5 (ends 15 5 zeros) (cpu 0x0100 0) ≡ ran_on 5 (at (ends 0 15 (pairs 5 0x2E)) (cpu 0x01C1 10))

pub skip_examples : SkipExamples
unfolding action_of add_carry_a add_carry_pair add_im_a add_skip_pair applied_to call_to change_of changes_of cleared_of clocked clock_of clocks_of code_at decode direct_of enters_now exchange_step hl_of increment_at info_of jump latched_of load_im load_imm logged pair_of rate_in read_bit_of read_of records_of register_at rules_of served_of set_carry skip_if spot_of step_of step_reg steps_from steps_over stored_in sub_carry_a tap_of timers_in write_of
skip_examples =
    record {
      adc_skips = refl;
      adc_does_not = refl;
      adc_alone = refl;
      sbc_skips = refl;
      sbc_does_not = refl;
      adc_ea_1 = refl;
      adc_ea_0 = refl;
      skip_two = refl;
      skip_none = refl;
      skip_one = refl;
      btst_false = refl;
      skip_three = refl;
      play2 = refl;
      incs = refl;
      xchd = refl;
    }
