-- What an instruction does keeps a machine sound: its bank selections, mode and carried effect stay in their ranges, and its writes are
-- harmless. First for each kind of effect, then for each instruction.
-- Assumes nothing.
use Prim.Native.Nat.{ℕ, ◌+◌, ◌-◌, ◌*◌, ◌%◌, ◌/◌, ◌<◌, ◌≤◌}
use native.Mathlib.Omega.{arith}
use mathlib.Core.Path.{sym, subst}
use mathlib.Core.Bool.{Bool, cond}
use mathlib.Core.List.{List, [], ◌∷◌}
use lib.Bits.{bit_and, bit_or, bit_xor}
use lib.Dec.{T, eqb, leb, ltb, leb→le}
use lib.ListN.{length}
use Rattle.chip.specs.declared.Cpu.{Cpu}
use Rattle.chip.specs.declared.Machine.{Machine}
use Rattle.rights.specs.declared.Width.TheVariants.{Four, Eight}
use Rattle.chip.specs.Modes.{idle, stopped}
use Rattle.chip.specs.State.{nib_at}
use Rattle.chip.specs.Memory.{write_to, write_of}
use Rattle.registers.specs.Registers.{register_at, stack_at}
use Rattle.registers.specs.Addresses.{even_of}
use Rattle.chip.proofs.Laws.{either}
use Rattle.codes.specs.declared.Instr.{Instr}
use Rattle.codes.specs.declared.Instr.TheVariants.{Undefined, Scf, Rcf, Ccf, Ei, Di, Idle, Stop, Nop, Smb, Srb, Ref, CpseRIm, CpseHlIm, CpseAR, CpseAHl, CpseEaHl, CpseEaRr, Jp, Jps, JrForward, JrBack, JrWx, JrEa, Call, Calls, Ret, Iret, Sret, XchADa, XchARa, XchARra, XchEaDa, XchEaRrb, XchEaHl, Xchi, Xchd, LdAIm, LdARra, LdADa, LdARa, LdRaIm, LdRrImm, LdDaA, LdRaA, LdEaHl, LdEaDa, LdEaRrb, LdHlA, LdDaEa, LdRrbEa, LdHlEa, Ldi, Ldd, LdcWx, LdcEa, Rrc, PushRr, PushSb, PopRr, PopSb, AndAIm, AndAHl, AndEaRr, AndRrbEa, OrAIm, OrAHl, OrEaRr, OrRrbEa, XorAIm, XorAHl, XorEaRr, XorRrbEa, Com, AdcAHl, AdcEaRr, AdcRrbEa, AdsAIm, AdsEaImm, AdsAHl, AdsEaRr, AdsRrbEa, SbcAHl, SbcEaRr, SbcRrbEa, SbsAHl, SbsEaRr, SbsRrbEa, DecsR, DecsRr, IncsR, IncsDa, IncsHl, IncsRrb, BtstC, Btst, Btsf, Btstz, Bits, Bitr, Band, Bor, Bxor, LdbFromC, LdbToC}
use Rattle.effects.specs.declared.Effect.{Effect}
use Rattle.effects.specs.declared.Spot.{Spot}
use Rattle.effects.specs.Effects.{no_skip, skip_next, skip_ads, doing, selecting, pushing, puts_of, pushed_of, applied_to}
use Rattle.effects.specs.Operands.{reg_in, pair_in, to_reg, carry_in, to_carry, direct_in, hl_in, pointed_in, read4_in, half_in, read8_in, sp_in}
use Rattle.transfer.specs.Transfer.{set_reg, set_pair, group_of, ignored, load_im, load_imm, load_a, store_a, load_ea, store_ea, exchange_a, exchange_ea, exchange_reg, exchange_pair, rotate_a}
use Rattle.postincrement.specs.Postincrement.{load_step, exchange_step}
use Rattle.stack.specs.Stack.{push_two, push_pair, push_sb, pop_pair, pop_sb}
use Rattle.arithmetic.specs.Arithmetic.{skip_if, add_carry_a, sub_carry_a, add_skip_a, add_im_a, sub_skip_a, to_pair, add_carry_pair, sub_carry_pair, add_skip_pair, sub_skip_pair, step_reg, increment_at}
use Rattle.bits.specs.Bits.{spot_of, bit_in, to_bit, set_bit, test_clear, set_carry}
use Rattle.control.specs.Control.{jump, forward_of, back_of, page_of, call_to, return_of, return_from, interrupt_return, set_ime, set_mode, set_smb, set_srb}
use Rattle.postincrement.specs.Pairs.{after_write, then_step_reg, then_increment_pair}
use Rattle.forms.specs.Operations.{both, either as either_bit, differ, effect_of}
use Rattle.effects.proofs.Packing.{packed_applied, selected_applied, pushed_applied}
use Rattle.invariant.specs.Sound.{SoundMem}
use Rattle.invariant.proofs.Writes.{Harmless, AllHarmless, ended, ◌&◌, puts_sound, all_writes, pushed_sound, elsewhere, register_write_lem, stack_write, low_write, high_write, memory_write, bit_write}

-- the scalars of a machine that an instruction keeps or changes
pub record Banks (c : Cpu) : Type 0 where
  pub smb : c.smb ≤ 15
  pub srb : c.srb ≤ 3
  pub mode : c.mode ≤ 2

-- an effect that keeps a machine sound
pub record Fine (e : Effect) : Type 0 where
  pub smb : e.smb ≤ 15
  pub srb : e.srb ≤ 3
  pub mode : e.mode ≤ 2
  pub carried : e.carried ≤ 3
  pub keeps : (l : List ℕ) → SoundMem l → SoundMem (applied_to l e)

-- at most so many writes
abbrev pub AtMost : ℕ → List ℕ → Type 0
AtMost k ws = T (leb (length ws) k)

-- the three ways to make an effect
does : {c : Cpu} → Banks c → (next skip carried : ℕ) → carried ≤ 3 → {ws : List ℕ} → AllHarmless ws → AtMost 4 ws → Fine (doing c next skip carried ws)
does {c} b next skip carried h {ws} w few =
    record {
      smb = b.smb;
      srb = b.srb;
      mode = b.mode;
      carried = h;
      keeps = λ l s.
          subst SoundMem (sym (packed_applied ws (all_writes w) l c next skip carried (leb→le (length ws) 4 few))) (puts_sound l s w);
    }

selects : (next smb srb mode : ℕ) → smb ≤ 15 → srb ≤ 3 → mode ≤ 2 → {ws : List ℕ} → AllHarmless ws → AtMost 4 ws → Fine (selecting next smb srb mode ws)
selects next smb srb mode p q r {ws} w few =
    record {
      smb = p;
      srb = q;
      mode = r;
      carried = omega arith;
      keeps = λ l s.
          subst SoundMem (sym (selected_applied ws (all_writes w) l next smb srb mode (leb→le (length ws) 4 few))) (puts_sound l s w);
    }

pub pushes : {c : Cpu} → Banks c → (next back psw : ℕ) → back < 65536 → psw < 65536 → {ws : List ℕ} → AllHarmless ws → AtMost 2 ws →
    Fine (pushing c next back psw ws)
pushes {c} b next back psw p q {ws} w few =
    record {
      smb = b.smb;
      srb = b.srb;
      mode = b.mode;
      carried = omega arith;
      keeps = λ l s.
          subst SoundMem (sym (pushed_applied ws (all_writes w) l c next back psw p q (leb→le (length ws) 2 few)))
          (puts_sound (pushed_of l back psw) (pushed_sound l back psw s) w);
    }

module _ (m : Machine) (b : Banks m.cpu) where
  -- the writes that instructions make
  reg : (r v : ℕ) → Harmless (to_reg m r v)
  reg r v = register_write_lem m.mem m.cpu.srb r v

  carry : (v : ℕ) → Harmless (to_carry m v)
  carry v = elsewhere 561 (nib_at m.mem 561 % 8 + 8 * v) (omega arith) (omega arith)

  bit : (x : Spot) (v : ℕ) → Harmless (to_bit m x v)
  bit x v = bit_write m.mem x.address x.bit v

  status : (v : ℕ) → Harmless (write_to 560 v)
  status v = elsewhere 560 v (omega arith) (omega arith)

  -- an effect that carries nothing on
  plainly : (next skip : ℕ) → {ws : List ℕ} → AllHarmless ws → AtMost 4 ws → Fine (doing m.cpu next skip 0 ws)
  plainly next skip w few = does b next skip 0 (omega arith) w few

  pair_writes : (r v : ℕ) → {ws : List ℕ} → AllHarmless ws → AllHarmless (to_pair m r v ws)
  pair_writes r v w = reg r (v % 16) & reg (r % 8 + 1) (v / 16 % 16) & w

  -- data transfer
  set_reg_lem : (n r v : ℕ) → Fine (set_reg m n r v)
  unfolding set_reg
  set_reg_lem n r v = plainly n no_skip (reg r v & ended) tt

  set_pair_lem : (n r v : ℕ) → Fine (set_pair m n r v)
  unfolding set_pair
  set_pair_lem n r v = plainly n no_skip (reg r v & reg (r % 8 + 1) (v / 16) & ended) tt

  load_im_lem : (n v : ℕ) → Fine (load_im m n v)
  unfolding load_im
  load_im_lem n v =
      let none = ignored m.cpu.effect 1 in
      does b n no_skip 1 (omega arith) (either AllHarmless none ended (reg 0 v & ended)) (either (AtMost 4) none {x = []} {y = to_reg m 0 v ∷ []} tt tt)

  load_imm_lem : (n r v : ℕ) → Fine (load_imm m n r v)
  unfolding load_imm
  load_imm_lem n r v =
      let g = either (λ (x : ℕ). x ≤ 3) (eqb r 2) {x = 2} {y = 0} (omega arith) (omega arith) in
      let h : group_of r ≤ 3 = either (λ (x : ℕ). x ≤ 3) (eqb r 0) {x = 1} (omega arith) g in
      let none = ignored m.cpu.effect (group_of r) in
      does b n no_skip (group_of r) h (either AllHarmless none ended (reg r v & reg (r % 8 + 1) (v / 16) & ended))
      (either (AtMost 4) none {x = []} {y = to_reg m r v ∷ to_reg m (r % 8 + 1) (v / 16) ∷ []} tt tt)

  load_a_lem : (n a : ℕ) → Fine (load_a m n a)
  unfolding load_a
  load_a_lem n a = set_reg_lem n 0 (read4_in m a)

  store_a_lem : (n a : ℕ) → Fine (store_a m n a)
  unfolding store_a
  store_a_lem n a = plainly n no_skip (memory_write Four a (reg_in m 0) & ended) tt

  load_ea_lem : (n a : ℕ) → Fine (load_ea m n a)
  unfolding load_ea
  load_ea_lem n a = plainly n no_skip (reg 0 (half_in m (even_of a)) & reg 1 (half_in m (even_of a + 1)) & ended) tt

  store_ea_lem : (n a : ℕ) → Fine (store_ea m n a)
  unfolding store_ea
  store_ea_lem n a = plainly n no_skip (memory_write Eight (even_of a) (reg_in m 0) & memory_write Eight (even_of a + 1) (reg_in m 1) & ended) tt

  exchange_a_lem : (n a : ℕ) → Fine (exchange_a m n a)
  unfolding exchange_a
  exchange_a_lem n a = plainly n no_skip (reg 0 (read4_in m a) & memory_write Four a (reg_in m 0) & ended) tt

  exchange_ea_lem : (n a : ℕ) → Fine (exchange_ea m n a)
  unfolding exchange_ea
  exchange_ea_lem n a =
      plainly n no_skip
      (reg 0 (half_in m (even_of a)) & reg 1 (half_in m (even_of a + 1)) & memory_write Eight (even_of a) (reg_in m 0) &
      memory_write Eight (even_of a + 1) (reg_in m 1) & ended) tt

  exchange_reg_lem : (n r : ℕ) → Fine (exchange_reg m n r)
  unfolding exchange_reg
  exchange_reg_lem n r = plainly n no_skip (reg 0 (reg_in m r) & reg r (reg_in m 0) & ended) tt

  exchange_pair_lem : (n r : ℕ) → Fine (exchange_pair m n r)
  unfolding exchange_pair
  exchange_pair_lem n r =
      plainly n no_skip (reg 0 (reg_in m r) & reg 1 (reg_in m (r % 8 + 1)) & reg r (reg_in m 0) & reg (r % 8 + 1) (reg_in m 1) & ended) tt

  -- L after some writes
  abbrev stepped_l : List ℕ → ℕ
  stepped_l ws = nib_at (puts_of m.mem ws) (register_at m.mem m.cpu.srb 2)

  load_step_lem : (n a last by : ℕ) → Fine (load_step m n a last by)
  unfolding load_step
  load_step_lem n a last by =
      let l = stepped_l (to_reg m 0 (read4_in m a) ∷ []) in
      plainly n (cond (eqb l last) skip_next no_skip) (reg 0 (read4_in m a) & reg 2 (l + by) & ended) tt

  exchange_step_lem : (n a last by : ℕ) → Fine (exchange_step m n a last by)
  unfolding exchange_step
  exchange_step_lem n a last by =
      let l = stepped_l (to_reg m 0 (read4_in m a) ∷ write_of Four a (reg_in m 0) ∷ []) in
      plainly n (cond (eqb l last) skip_next no_skip) (reg 0 (read4_in m a) & memory_write Four a (reg_in m 0) & reg 2 (l + by) & ended) tt

  rotate_a_lem : (n : ℕ) → Fine (rotate_a m n)
  unfolding rotate_a
  rotate_a_lem n = plainly n no_skip (reg 0 (reg_in m 0 / 2 + 8 * carry_in m) & carry (reg_in m 0 % 2) & ended) tt

  push_two_lem : (n s low high : ℕ) → Fine (push_two m.cpu n s low high)
  push_two_lem n s low high = plainly n no_skip (stack_write s 0 low & stack_write s 1 high & low_write s & high_write s & ended) tt

  push_pair_lem : (n r : ℕ) → Fine (push_pair m n r)
  unfolding push_pair
  push_pair_lem n r = push_two_lem n ((sp_in m + 254) % 256) (reg_in m r) (reg_in m (r % 8 + 1))

  push_sb_lem : (n : ℕ) → Fine (push_sb m n)
  unfolding push_sb
  push_sb_lem n = push_two_lem n ((sp_in m + 254) % 256) m.cpu.srb m.cpu.smb

  pop_pair_lem : (n r : ℕ) → Fine (pop_pair m n r)
  unfolding pop_pair
  pop_pair_lem n r =
      let l = m.mem in
      plainly n no_skip
      (reg r (nib_at l (stack_at (sp_in m) 0)) & reg (r % 8 + 1) (nib_at l (stack_at (sp_in m) 1)) & low_write (sp_in m + 2) & high_write (sp_in m + 2) &
      ended) tt

  pop_sb_lem : (n : ℕ) → Fine (pop_sb m n)
  unfolding pop_sb
  pop_sb_lem n =
      let l = m.mem in
      selects n (nib_at l (stack_at (sp_in m) 1)) (nib_at l (stack_at (sp_in m) 0) % 4) m.cpu.mode (omega arith) (omega arith) b.mode
      (low_write (sp_in m + 2) & high_write (sp_in m + 2) & ended) tt

  -- arithmetic and compare
  skip_if_lem : (n : ℕ) (t : Bool) → Fine (skip_if m.cpu n t)
  unfolding skip_if
  skip_if_lem n t = plainly n (cond t skip_next no_skip) ended tt

  add_carry_a_lem : (n s : ℕ) → Fine (add_carry_a m n s)
  unfolding add_carry_a
  add_carry_a_lem n s = does b n (cond (ltb s 16) no_skip skip_ads) 3 (omega arith) (reg 0 s & carry (s / 16) & ended) tt

  sub_carry_a_lem : (n d : ℕ) → Fine (sub_carry_a m n d)
  unfolding sub_carry_a
  sub_carry_a_lem n d = does b n (cond (ltb d 16) no_skip skip_ads) 3 (omega arith) (reg 0 d & carry (1 - d / 16) & ended) tt

  add_skip_a_lem : (n s : ℕ) → Fine (add_skip_a m n s)
  unfolding add_skip_a
  add_skip_a_lem n s = plainly n (cond (ltb s 16) no_skip skip_next) (reg 0 s & ended) tt

  add_im_a_lem : (n s : ℕ) → Fine (add_im_a m n s)
  unfolding add_im_a
  add_im_a_lem n s = plainly n (cond (eqb m.cpu.effect 3) no_skip (cond (ltb s 16) no_skip skip_next)) (reg 0 s & ended) tt

  sub_skip_a_lem : (n d : ℕ) → Fine (sub_skip_a m n d)
  unfolding sub_skip_a
  sub_skip_a_lem n d = plainly n (cond (ltb d 16) skip_next no_skip) (reg 0 d & ended) tt

  add_carry_pair_lem : (n r s : ℕ) → Fine (add_carry_pair m n r s)
  unfolding add_carry_pair
  add_carry_pair_lem n r s = plainly n no_skip (pair_writes r s (carry (s / 256) & ended)) tt

  sub_carry_pair_lem : (n r d : ℕ) → Fine (sub_carry_pair m n r d)
  unfolding sub_carry_pair
  sub_carry_pair_lem n r d = plainly n no_skip (pair_writes r d (carry (1 - d / 256) & ended)) tt

  add_skip_pair_lem : (n r s : ℕ) → Fine (add_skip_pair m n r s)
  unfolding add_skip_pair
  add_skip_pair_lem n r s = plainly n (cond (ltb s 256) no_skip skip_next) (pair_writes r s ended) tt

  sub_skip_pair_lem : (n r d : ℕ) → Fine (sub_skip_pair m n r d)
  unfolding sub_skip_pair
  sub_skip_pair_lem n r d = plainly n (cond (ltb d 256) skip_next no_skip) (pair_writes r d ended) tt

  step_reg_lem : (n r last by : ℕ) → Fine (step_reg m n r last by)
  unfolding step_reg
  step_reg_lem n r last by = plainly n (cond (eqb (reg_in m r) last) skip_next no_skip) (reg r (reg_in m r + by) & ended) tt

  increment_at_lem : (n a : ℕ) → Fine (increment_at m n a)
  unfolding increment_at
  increment_at_lem n a = plainly n (cond (eqb (read4_in m a) 15) skip_next no_skip) (memory_write Four a ((read4_in m a + 1) % 16) & ended) tt

  -- bits
  set_bit_lem : (n : ℕ) (x : Spot) (v : ℕ) → Fine (set_bit m n x v)
  unfolding set_bit
  set_bit_lem n x v = plainly n no_skip (bit x v & ended) tt

  test_clear_lem : (n : ℕ) (x : Spot) → Fine (test_clear m n x)
  unfolding test_clear
  test_clear_lem n x =
      let one = eqb (bit_in m x) 1 in
      plainly n (cond one skip_next no_skip) (either AllHarmless one (bit x 0 & ended) ended) (either (AtMost 4) one {x = to_bit m x 0 ∷ []} {y = []} tt tt)

  set_carry_lem : (n v : ℕ) → Fine (set_carry m n v)
  unfolding set_carry
  set_carry_lem n v = plainly n no_skip (carry v & ended) tt

  -- control
  pub jumps : (a : ℕ) → Fine (jump m.cpu a)
  unfolding jump
  jumps a = plainly a no_skip ended tt

  call_to_lem : (back a : ℕ) → back < 65536 → Fine (call_to m back a)
  unfolding call_to
  call_to_lem back a h = pushes b a back (nib_at m.mem 560 % 4) h (omega arith) ended tt

  return_from_lem : (skip : ℕ) → Fine (return_from m skip)
  unfolding return_from
  return_from_lem skip =
      let l = m.mem in
      plainly (return_of l (sp_in m)) skip
      (low_write (sp_in m + 6) & high_write (sp_in m + 6) & status (nib_at l 560 / 4 * 4 + nib_at l (stack_at (sp_in m) 4) % 4) & ended) tt

  interrupt_return_lem : Fine (interrupt_return m)
  unfolding interrupt_return
  interrupt_return_lem =
      let l = m.mem in
      plainly (return_of l (sp_in m)) no_skip
      (low_write (sp_in m + 6) & high_write (sp_in m + 6) & status (nib_at l (stack_at (sp_in m) 4)) &
      elsewhere 561 (nib_at l (stack_at (sp_in m) 5)) (omega arith) (omega arith) & ended) tt

  set_ime_lem : (n v : ℕ) → Fine (set_ime m n v)
  unfolding set_ime
  set_ime_lem n v = plainly n no_skip (elsewhere 562 (nib_at m.mem 562 % 8 + 8 * v) (omega arith) (omega arith) & ended) tt

  set_mode_lem : (n v : ℕ) → v ≤ 2 → Fine (set_mode m.cpu n v)
  unfolding set_mode
  set_mode_lem n v h = selects n m.cpu.smb m.cpu.srb v b.smb b.srb h ended tt

  set_smb_lem : (n v : ℕ) → Fine (set_smb m.cpu n v)
  unfolding set_smb
  set_smb_lem n v = selects n (v % 16) m.cpu.srb m.cpu.mode (omega arith) b.srb b.mode ended tt

  set_srb_lem : (n v : ℕ) → Fine (set_srb m.cpu n v)
  unfolding set_srb
  set_srb_lem n v = selects n m.cpu.smb (v % 4) m.cpu.mode b.smb (omega arith) b.mode ended tt

-- the pairs of Table 5-1
module _ (m : Machine) (b : Banks m.cpu) (n : ℕ) {x : ℕ} (h : Harmless x) where
  pub then_step_reg_lem : (r last by : ℕ) → Fine (then_step_reg m n x r last by)
  unfolding then_step_reg
  then_step_reg_lem r last by =
      let k = after_write m x in
      plainly m b n (cond (eqb (reg_in k r) last) skip_next no_skip) (h & reg k b r (reg_in k r + by) & ended) tt

  pub then_increment_pair_lem : (r : ℕ) → Fine (then_increment_pair m n x r)
  unfolding then_increment_pair
  then_increment_pair_lem r =
      let k = after_write m x in
      let v = pair_in k r + 1 in
      plainly m b n (cond (ltb v 256) no_skip skip_next) (h & pair_writes k b r v ended) tt

-- every instruction; n is the address after it
pub instruction : (f : ℕ → ℕ) (i : Instr) (m : Machine) (n : ℕ) → Banks m.cpu → n < 65536 → Fine (effect_of f i m n)
-- Table 5-15, CPU control
instruction f Undefined m n b h = jumps m b n
instruction f Scf m n b h = set_carry_lem m b n 1
instruction f Rcf m n b h = set_carry_lem m b n 0
instruction f Ccf m n b h = set_carry_lem m b n (1 - carry_in m)
instruction f Ei m n b h = set_ime_lem m b n 1
instruction f Di m n b h = set_ime_lem m b n 0
instruction f Idle m n b h = set_mode_lem m b n idle (omega arith)
instruction f Stop m n b h = set_mode_lem m b n stopped (omega arith)
instruction f Nop m n b h = jumps m b n
instruction f (Smb v) m n b h = set_smb_lem m b n v
instruction f (Srb v) m n b h = set_srb_lem m b n v
instruction f (Ref t) m n b h = jumps m b n
-- Table 5-16, program control
instruction f (CpseRIm r v) m n b h = skip_if_lem m b n (eqb (reg_in m r) v)
instruction f (CpseHlIm v) m n b h = skip_if_lem m b n (eqb (read4_in m (hl_in m)) v)
instruction f (CpseAR r) m n b h = skip_if_lem m b n (eqb (reg_in m 0) (reg_in m r))
instruction f CpseAHl m n b h = skip_if_lem m b n (eqb (reg_in m 0) (read4_in m (hl_in m)))
instruction f CpseEaHl m n b h = skip_if_lem m b n (eqb (pair_in m 0) (read8_in m (hl_in m)))
instruction f (CpseEaRr r) m n b h = skip_if_lem m b n (eqb (pair_in m 0) (pair_in m r))
instruction f (Jp a) m n b h = jumps m b a
instruction f (Jps a) m n b h = jumps m b a
instruction f (JrForward a) m n b h = jumps m b (forward_of m.cpu.pc a)
instruction f (JrBack a) m n b h = jumps m b (back_of m.cpu.pc a)
instruction f JrWx m n b h = jumps m b (page_of n (pair_in m 4))
instruction f JrEa m n b h = jumps m b (page_of n (pair_in m 0))
instruction f (Call a) m n b h = call_to_lem m b n a h
instruction f (Calls a) m n b h = call_to_lem m b (n % 2048) a (omega arith)
instruction f Ret m n b h = return_from_lem m b no_skip
instruction f Iret m n b h = interrupt_return_lem m b
instruction f Sret m n b h = return_from_lem m b skip_next
-- Table 5-17, data transfer
instruction f (XchADa a) m n b h = exchange_a_lem m b n (direct_in m a)
instruction f (XchARa r) m n b h = exchange_reg_lem m b n r
instruction f (XchARra i) m n b h = exchange_a_lem m b n (pointed_in m i)
instruction f (XchEaDa a) m n b h = exchange_ea_lem m b n (direct_in m a)
instruction f (XchEaRrb r) m n b h = exchange_pair_lem m b n r
instruction f XchEaHl m n b h = exchange_ea_lem m b n (hl_in m)
instruction f Xchi m n b h = exchange_step_lem m b n (hl_in m) 15 1
instruction f Xchd m n b h = exchange_step_lem m b n (hl_in m) 0 15
instruction f (LdAIm v) m n b h = load_im_lem m b n v
instruction f (LdARra i) m n b h = load_a_lem m b n (pointed_in m i)
instruction f (LdADa a) m n b h = load_a_lem m b n (direct_in m a)
instruction f (LdARa r) m n b h = set_reg_lem m b n 0 (reg_in m r)
instruction f (LdRaIm r v) m n b h = set_reg_lem m b n r v
instruction f (LdRrImm r v) m n b h = load_imm_lem m b n r v
instruction f (LdDaA a) m n b h = store_a_lem m b n (direct_in m a)
instruction f (LdRaA r) m n b h = set_reg_lem m b n r (reg_in m 0)
instruction f LdEaHl m n b h = load_ea_lem m b n (hl_in m)
instruction f (LdEaDa a) m n b h = load_ea_lem m b n (direct_in m a)
instruction f (LdEaRrb r) m n b h = set_pair_lem m b n 0 (pair_in m r)
instruction f LdHlA m n b h = store_a_lem m b n (hl_in m)
instruction f (LdDaEa a) m n b h = store_ea_lem m b n (direct_in m a)
instruction f (LdRrbEa r) m n b h = set_pair_lem m b n r (pair_in m 0)
instruction f LdHlEa m n b h = store_ea_lem m b n (hl_in m)
instruction f Ldi m n b h = load_step_lem m b n (hl_in m) 15 1
instruction f Ldd m n b h = load_step_lem m b n (hl_in m) 0 15
instruction f LdcWx m n b h = set_pair_lem m b n 0 (f (page_of n (pair_in m 4)))
instruction f LdcEa m n b h = set_pair_lem m b n 0 (f (page_of n (pair_in m 0)))
instruction f Rrc m n b h = rotate_a_lem m b n
instruction f (PushRr r) m n b h = push_pair_lem m b n r
instruction f PushSb m n b h = push_sb_lem m b n
instruction f (PopRr r) m n b h = pop_pair_lem m b n r
instruction f PopSb m n b h = pop_sb_lem m b n
-- Table 5-18, logic
instruction f (AndAIm v) m n b h = set_reg_lem m b n 0 (bit_and (reg_in m 0) v)
instruction f AndAHl m n b h = set_reg_lem m b n 0 (bit_and (reg_in m 0) (read4_in m (hl_in m)))
instruction f (AndEaRr r) m n b h = set_pair_lem m b n 0 (bit_and (pair_in m 0) (pair_in m r))
instruction f (AndRrbEa r) m n b h = set_pair_lem m b n r (bit_and (pair_in m r) (pair_in m 0))
instruction f (OrAIm v) m n b h = set_reg_lem m b n 0 (bit_or (reg_in m 0) v)
instruction f OrAHl m n b h = set_reg_lem m b n 0 (bit_or (reg_in m 0) (read4_in m (hl_in m)))
instruction f (OrEaRr r) m n b h = set_pair_lem m b n 0 (bit_or (pair_in m 0) (pair_in m r))
instruction f (OrRrbEa r) m n b h = set_pair_lem m b n r (bit_or (pair_in m r) (pair_in m 0))
instruction f (XorAIm v) m n b h = set_reg_lem m b n 0 (bit_xor (reg_in m 0) v)
instruction f XorAHl m n b h = set_reg_lem m b n 0 (bit_xor (reg_in m 0) (read4_in m (hl_in m)))
instruction f (XorEaRr r) m n b h = set_pair_lem m b n 0 (bit_xor (pair_in m 0) (pair_in m r))
instruction f (XorRrbEa r) m n b h = set_pair_lem m b n r (bit_xor (pair_in m r) (pair_in m 0))
instruction f Com m n b h = set_reg_lem m b n 0 (15 - reg_in m 0)
-- Table 5-19, arithmetic
instruction f AdcAHl m n b h = add_carry_a_lem m b n (reg_in m 0 + read4_in m (hl_in m) + carry_in m)
instruction f (AdcEaRr r) m n b h = add_carry_pair_lem m b n 0 (pair_in m 0 + pair_in m r + carry_in m)
instruction f (AdcRrbEa r) m n b h = add_carry_pair_lem m b n r (pair_in m r + pair_in m 0 + carry_in m)
instruction f (AdsAIm v) m n b h = add_im_a_lem m b n (reg_in m 0 + v % 16)
instruction f (AdsEaImm v) m n b h = add_skip_pair_lem m b n 0 (pair_in m 0 + v)
instruction f AdsAHl m n b h = add_skip_a_lem m b n (reg_in m 0 + read4_in m (hl_in m))
instruction f (AdsEaRr r) m n b h = add_skip_pair_lem m b n 0 (pair_in m 0 + pair_in m r)
instruction f (AdsRrbEa r) m n b h = add_skip_pair_lem m b n r (pair_in m r + pair_in m 0)
instruction f SbcAHl m n b h = sub_carry_a_lem m b n (16 + reg_in m 0 - read4_in m (hl_in m) - carry_in m)
instruction f (SbcEaRr r) m n b h = sub_carry_pair_lem m b n 0 (256 + pair_in m 0 - pair_in m r - carry_in m)
instruction f (SbcRrbEa r) m n b h = sub_carry_pair_lem m b n r (256 + pair_in m r - pair_in m 0 - carry_in m)
instruction f SbsAHl m n b h = sub_skip_a_lem m b n (16 + reg_in m 0 - read4_in m (hl_in m))
instruction f (SbsEaRr r) m n b h = sub_skip_pair_lem m b n 0 (256 + pair_in m 0 - pair_in m r)
instruction f (SbsRrbEa r) m n b h = sub_skip_pair_lem m b n r (256 + pair_in m r - pair_in m 0)
instruction f (DecsR r) m n b h = step_reg_lem m b n r 0 15
instruction f (DecsRr r) m n b h = sub_skip_pair_lem m b n r (256 + pair_in m r - 1)
instruction f (IncsR r) m n b h = step_reg_lem m b n r 15 1
instruction f (IncsDa a) m n b h = increment_at_lem m b n (direct_in m a)
instruction f IncsHl m n b h = increment_at_lem m b n (hl_in m)
instruction f (IncsRrb r) m n b h = add_skip_pair_lem m b n r (pair_in m r + 1)
-- Table 5-20, bit manipulation
instruction f BtstC m n b h = skip_if_lem m b n (eqb (carry_in m) 1)
instruction f (Btst p) m n b h = skip_if_lem m b n (eqb (bit_in m (spot_of m p)) 1)
instruction f (Btsf p) m n b h = skip_if_lem m b n (eqb (bit_in m (spot_of m p)) 0)
instruction f (Btstz p) m n b h = test_clear_lem m b n (spot_of m p)
instruction f (Bits p) m n b h = set_bit_lem m b n (spot_of m p) 1
instruction f (Bitr p) m n b h = set_bit_lem m b n (spot_of m p) 0
instruction f (Band p) m n b h = set_carry_lem m b n (both (carry_in m) (bit_in m (spot_of m p)))
instruction f (Bor p) m n b h = set_carry_lem m b n (either_bit (carry_in m) (bit_in m (spot_of m p)))
instruction f (Bxor p) m n b h = set_carry_lem m b n (differ (carry_in m) (bit_in m (spot_of m p)))
instruction f (LdbFromC p) m n b h = set_bit_lem m b n (spot_of m p) (carry_in m)
instruction f (LdbToC p) m n b h = set_carry_lem m b n (bit_in m (spot_of m p))
