-- Chapter 5: what each instruction does, a line for each printed row, beside the "Operation Notation" of Tables 5-15 to 5-20. m is the machine
-- before it, n the address after it, f the byte of the code memory at an address, which LDC reads. A step stops before an undefined code, and
-- carries out what a REF names in its place, so that their lines are never used.
-- Assumes nothing.
use Rattle.std.specs.Prelude.{ℕ, ◌+◌, ◌-◌, ◌%◌, cond, eqb}
use Rattle.std.specs.Int.Bits.{bit_and, bit_or, bit_xor}
use Rattle.chip.specs.declared.Machine.{Machine}
use Rattle.chip.specs.Modes.{idle, stopped}
use Rattle.codes.specs.declared.Instr.{Instr}
use Rattle.codes.specs.declared.Instr.TheVariants.{Undefined, Scf, Rcf, Ccf, Ei, Di, Idle, Stop, Nop, Smb, Srb, Ref, CpseRIm, CpseHlIm, CpseAR, CpseAHl, CpseEaHl, CpseEaRr, Jp, Jps, JrForward, JrBack, JrWx, JrEa, Call, Calls, Ret, Iret, Sret, XchADa, XchARa, XchARra, XchEaDa, XchEaRrb, XchEaHl, Xchi, Xchd, LdAIm, LdARra, LdADa, LdARa, LdRaIm, LdRrImm, LdDaA, LdRaA, LdEaHl, LdEaDa, LdEaRrb, LdHlA, LdDaEa, LdRrbEa, LdHlEa, Ldi, Ldd, LdcWx, LdcEa, Rrc, PushRr, PushSb, PopRr, PopSb, AndAIm, AndAHl, AndEaRr, AndRrbEa, OrAIm, OrAHl, OrEaRr, OrRrbEa, XorAIm, XorAHl, XorEaRr, XorRrbEa, Com, AdcAHl, AdcEaRr, AdcRrbEa, AdsAIm, AdsEaImm, AdsAHl, AdsEaRr, AdsRrbEa, SbcAHl, SbcEaRr, SbcRrbEa, SbsAHl, SbsEaRr, SbsRrbEa, DecsR, DecsRr, IncsR, IncsDa, IncsHl, IncsRrb, BtstC, Btst, Btsf, Btstz, Bits, Bitr, Band, Bor, Bxor, LdbFromC, LdbToC}
use Rattle.effects.specs.declared.Effect.{Effect}
use Rattle.effects.specs.Effects.{no_skip, skip_next}
use Rattle.effects.specs.Operands.{reg_in, pair_in, carry_in, direct_in, hl_in, pointed_in, read4_in, read8_in}
use Rattle.transfer.specs.Transfer.{set_reg, set_pair, load_im, load_imm, load_a, store_a, load_ea, store_ea, exchange_a, exchange_ea, exchange_reg, exchange_pair, rotate_a}
use Rattle.postincrement.specs.Postincrement.{load_step, exchange_step}
use Rattle.stack.specs.Stack.{push_pair, push_sb, pop_pair, pop_sb}
use Rattle.arithmetic.specs.Arithmetic.{skip_if, add_carry_a, sub_carry_a, add_skip_a, add_im_a, sub_skip_a, add_carry_pair, sub_carry_pair, add_skip_pair, sub_skip_pair, step_reg, increment_at}
use Rattle.bits.specs.Bits.{spot_of, bit_in, set_bit, test_clear, set_carry}
use Rattle.control.specs.Control.{jump, forward_of, back_of, page_of, call_to, return_from, interrupt_return, set_ime, set_mode, set_smb, set_srb}

-- AND, OR and XOR of two bits
abbrev pub both : ℕ → ℕ → ℕ
both a b = cond (eqb a 1) b 0

abbrev pub either : ℕ → ℕ → ℕ
either a b = cond (eqb a 1) 1 b

abbrev pub differ : ℕ → ℕ → ℕ
differ a b = cond (eqb a b) 0 1

abbrev pub effect_of : (ℕ → ℕ) → Instr → Machine → ℕ → Effect
-- Table 5-15, CPU control
effect_of f Undefined m n = jump m.cpu n
effect_of f Scf m n = set_carry m n 1
effect_of f Rcf m n = set_carry m n 0
effect_of f Ccf m n = set_carry m n (1 - carry_in m)
effect_of f Ei m n = set_ime m n 1
effect_of f Di m n = set_ime m n 0
effect_of f Idle m n = set_mode m.cpu n idle
effect_of f Stop m n = set_mode m.cpu n stopped
effect_of f Nop m n = jump m.cpu n
effect_of f (Smb v) m n = set_smb m.cpu n v
effect_of f (Srb v) m n = set_srb m.cpu n v
effect_of f (Ref t) m n = jump m.cpu n
-- Table 5-16, program control
effect_of f (CpseRIm r v) m n = skip_if m.cpu n (eqb (reg_in m r) v)
effect_of f (CpseHlIm v) m n = skip_if m.cpu n (eqb (read4_in m (hl_in m)) v)
effect_of f (CpseAR r) m n = skip_if m.cpu n (eqb (reg_in m 0) (reg_in m r))
effect_of f CpseAHl m n = skip_if m.cpu n (eqb (reg_in m 0) (read4_in m (hl_in m)))
effect_of f CpseEaHl m n = skip_if m.cpu n (eqb (pair_in m 0) (read8_in m (hl_in m)))
effect_of f (CpseEaRr r) m n = skip_if m.cpu n (eqb (pair_in m 0) (pair_in m r))
effect_of f (Jp a) m n = jump m.cpu a
effect_of f (Jps a) m n = jump m.cpu a
effect_of f (JrForward a) m n = jump m.cpu (forward_of m.cpu.pc a)
effect_of f (JrBack a) m n = jump m.cpu (back_of m.cpu.pc a)
effect_of f JrWx m n = jump m.cpu (page_of n (pair_in m 4))
effect_of f JrEa m n = jump m.cpu (page_of n (pair_in m 0))
effect_of f (Call a) m n = call_to m n a
effect_of f (Calls a) m n = call_to m (n % 2048) a
effect_of f Ret m n = return_from m no_skip
effect_of f Iret m n = interrupt_return m
effect_of f Sret m n = return_from m skip_next
-- Table 5-17, data transfer
effect_of f (XchADa a) m n = exchange_a m n (direct_in m a)
effect_of f (XchARa r) m n = exchange_reg m n r
effect_of f (XchARra i) m n = exchange_a m n (pointed_in m i)
effect_of f (XchEaDa a) m n = exchange_ea m n (direct_in m a)
effect_of f (XchEaRrb r) m n = exchange_pair m n r
effect_of f XchEaHl m n = exchange_ea m n (hl_in m)
effect_of f Xchi m n = exchange_step m n (hl_in m) 15 1
effect_of f Xchd m n = exchange_step m n (hl_in m) 0 15
effect_of f (LdAIm v) m n = load_im m n v
effect_of f (LdARra i) m n = load_a m n (pointed_in m i)
effect_of f (LdADa a) m n = load_a m n (direct_in m a)
effect_of f (LdARa r) m n = set_reg m n 0 (reg_in m r)
effect_of f (LdRaIm r v) m n = set_reg m n r v
effect_of f (LdRrImm r v) m n = load_imm m n r v
effect_of f (LdDaA a) m n = store_a m n (direct_in m a)
effect_of f (LdRaA r) m n = set_reg m n r (reg_in m 0)
effect_of f LdEaHl m n = load_ea m n (hl_in m)
effect_of f (LdEaDa a) m n = load_ea m n (direct_in m a)
effect_of f (LdEaRrb r) m n = set_pair m n 0 (pair_in m r)
effect_of f LdHlA m n = store_a m n (hl_in m)
effect_of f (LdDaEa a) m n = store_ea m n (direct_in m a)
effect_of f (LdRrbEa r) m n = set_pair m n r (pair_in m 0)
effect_of f LdHlEa m n = store_ea m n (hl_in m)
effect_of f Ldi m n = load_step m n (hl_in m) 15 1
effect_of f Ldd m n = load_step m n (hl_in m) 0 15
effect_of f LdcWx m n = set_pair m n 0 (f (page_of n (pair_in m 4)))
effect_of f LdcEa m n = set_pair m n 0 (f (page_of n (pair_in m 0)))
effect_of f Rrc m n = rotate_a m n
effect_of f (PushRr r) m n = push_pair m n r
effect_of f PushSb m n = push_sb m n
effect_of f (PopRr r) m n = pop_pair m n r
effect_of f PopSb m n = pop_sb m n
-- Table 5-18, logic
effect_of f (AndAIm v) m n = set_reg m n 0 (bit_and (reg_in m 0) v)
effect_of f AndAHl m n = set_reg m n 0 (bit_and (reg_in m 0) (read4_in m (hl_in m)))
effect_of f (AndEaRr r) m n = set_pair m n 0 (bit_and (pair_in m 0) (pair_in m r))
effect_of f (AndRrbEa r) m n = set_pair m n r (bit_and (pair_in m r) (pair_in m 0))
effect_of f (OrAIm v) m n = set_reg m n 0 (bit_or (reg_in m 0) v)
effect_of f OrAHl m n = set_reg m n 0 (bit_or (reg_in m 0) (read4_in m (hl_in m)))
effect_of f (OrEaRr r) m n = set_pair m n 0 (bit_or (pair_in m 0) (pair_in m r))
effect_of f (OrRrbEa r) m n = set_pair m n r (bit_or (pair_in m r) (pair_in m 0))
effect_of f (XorAIm v) m n = set_reg m n 0 (bit_xor (reg_in m 0) v)
effect_of f XorAHl m n = set_reg m n 0 (bit_xor (reg_in m 0) (read4_in m (hl_in m)))
effect_of f (XorEaRr r) m n = set_pair m n 0 (bit_xor (pair_in m 0) (pair_in m r))
effect_of f (XorRrbEa r) m n = set_pair m n r (bit_xor (pair_in m r) (pair_in m 0))
effect_of f Com m n = set_reg m n 0 (15 - reg_in m 0)
-- Table 5-19, arithmetic
effect_of f AdcAHl m n = add_carry_a m n (reg_in m 0 + read4_in m (hl_in m) + carry_in m)
effect_of f (AdcEaRr r) m n = add_carry_pair m n 0 (pair_in m 0 + pair_in m r + carry_in m)
effect_of f (AdcRrbEa r) m n = add_carry_pair m n r (pair_in m r + pair_in m 0 + carry_in m)
effect_of f (AdsAIm v) m n = add_im_a m n (reg_in m 0 + v % 16)
effect_of f (AdsEaImm v) m n = add_skip_pair m n 0 (pair_in m 0 + v)
effect_of f AdsAHl m n = add_skip_a m n (reg_in m 0 + read4_in m (hl_in m))
effect_of f (AdsEaRr r) m n = add_skip_pair m n 0 (pair_in m 0 + pair_in m r)
effect_of f (AdsRrbEa r) m n = add_skip_pair m n r (pair_in m r + pair_in m 0)
effect_of f SbcAHl m n = sub_carry_a m n (16 + reg_in m 0 - read4_in m (hl_in m) - carry_in m)
effect_of f (SbcEaRr r) m n = sub_carry_pair m n 0 (256 + pair_in m 0 - pair_in m r - carry_in m)
effect_of f (SbcRrbEa r) m n = sub_carry_pair m n r (256 + pair_in m r - pair_in m 0 - carry_in m)
effect_of f SbsAHl m n = sub_skip_a m n (16 + reg_in m 0 - read4_in m (hl_in m))
effect_of f (SbsEaRr r) m n = sub_skip_pair m n 0 (256 + pair_in m 0 - pair_in m r)
effect_of f (SbsRrbEa r) m n = sub_skip_pair m n r (256 + pair_in m r - pair_in m 0)
effect_of f (DecsR r) m n = step_reg m n r 0 15
effect_of f (DecsRr r) m n = sub_skip_pair m n r (256 + pair_in m r - 1)
effect_of f (IncsR r) m n = step_reg m n r 15 1
effect_of f (IncsDa a) m n = increment_at m n (direct_in m a)
effect_of f IncsHl m n = increment_at m n (hl_in m)
effect_of f (IncsRrb r) m n = add_skip_pair m n r (pair_in m r + 1)
-- Table 5-20, bit manipulation
effect_of f BtstC m n = skip_if m.cpu n (eqb (carry_in m) 1)
effect_of f (Btst p) m n = skip_if m.cpu n (eqb (bit_in m (spot_of m p)) 1)
effect_of f (Btsf p) m n = skip_if m.cpu n (eqb (bit_in m (spot_of m p)) 0)
effect_of f (Btstz p) m n = test_clear m n (spot_of m p)
effect_of f (Bits p) m n = set_bit m n (spot_of m p) 1
effect_of f (Bitr p) m n = set_bit m n (spot_of m p) 0
effect_of f (Band p) m n = set_carry m n (both (carry_in m) (bit_in m (spot_of m p)))
effect_of f (Bor p) m n = set_carry m n (either (carry_in m) (bit_in m (spot_of m p)))
effect_of f (Bxor p) m n = set_carry m n (differ (carry_in m) (bit_in m (spot_of m p)))
effect_of f (LdbFromC p) m n = set_bit m n (spot_of m p) (carry_in m)
effect_of f (LdbToC p) m n = set_carry m n (bit_in m (spot_of m p))
