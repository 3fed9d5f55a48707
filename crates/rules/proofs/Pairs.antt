-- A pair of Table 5-1 does what its two codes do one after the other.
-- Assumes nothing.
use Prim.Native.Nat.{ℕ, ◌+◌, ◌%◌, ◌/◌, ◌<◌}
use native.Mathlib.Omega.{arith}
use mathlib.Core.Path.{◌≡◌, ◌∙◌, refl, sym, subst}
use mathlib.Core.Bool.{Bool, true, false, cond, ◌&&◌, false≢true}
use mathlib.Core.List.{List, [], ◌∷◌}
use borrow.Author.Tests.{eqb-true, ltb-true, ltb-false, le-ltb}
use lib.Bits.{bit_and}
use lib.Dec.{eqb, ltb}
use Rattle.chip.specs.declared.Machine.{Machine}
use Rattle.rights.specs.declared.Width.{Width}
use Rattle.rights.specs.declared.Width.TheVariants.{Four}
use Rattle.chip.specs.State.{nib_at, at, slot_of}
use Rattle.rights.specs.Access.{location_at, reach_of, writable_of}
use Rattle.chip.specs.Memory.{write_to, dropped, put_of, write_of}
use Rattle.registers.specs.Registers.{bank_of, register_at}
use Rattle.chip.proofs.Laws.{either}
use Rattle.codes.specs.Decode.{member, decode}
use Rattle.references.specs.Reference.{Combination, hl, wx, wl, combinations, printed, paired}
use Rattle.record.proofs.Booleans.{both}
use Rattle.effects.specs.declared.Effect.{Effect}
use Rattle.effects.specs.Effects.{none, no_skip, skip_next, applied_to}
use Rattle.arithmetic.specs.Arithmetic.{to_pair, step_reg, add_skip_pair}
use Rattle.effects.specs.Operands.{reg_in, pair_in, to_reg, read4_in, hl_in, pointed_in}
use Rattle.effects.proofs.Packing.{packed_applied}
use Rattle.transfer.specs.Transfer.{set_reg, load_a, store_a}
use Rattle.postincrement.specs.Pairs.{after_write, then_step_reg, then_increment_pair}
use Rattle.forms.specs.Operations.{effect_of}
use Rattle.rules.specs.Rules.{first_write, after_first, pair_effect}

-- from the nibbles l the effect p does what e does from the nibbles k
pub record Follows (l : List ℕ) (p : Effect) (k : List ℕ) (e : Effect) : Type 0 where
  pub applied : applied_to l p ≡ applied_to k e
  pub next : p.next ≡ e.next
  pub skip : p.skip ≡ e.skip
  pub carried : p.carried ≡ e.carried

-- a write to a register, and one of 4 bits to memory, is not the end mark
register_small : (m : Machine) (r v : ℕ) → to_reg m r v < none
unfolding register_at
register_small m r v =
    let b : bank_of m.mem m.cpu.srb < 4 = either (λ (x : ℕ). x < 4) (eqb (nib_at m.mem 560 % 2) 1) {x = m.cpu.srb % 4} {y = 0} (omega arith) (omega arith) in
    omega arith

write_by : (w : Width) (a v : ℕ) (b : Bool) → ltb a 512 ≡ b →
    cond b (write_to a v) (cond (eqb (writable_of w (location_at a)) 0) dropped (write_to (slot_of a) (bit_and v (reach_of w (location_at a))))) < none
write_by w a v true e = let h = ltb-true a 512 e in omega arith
write_by w a v false e =
    let q : slot_of a ≡ a % 128 + 512 = rw (le-ltb a 512 (ltb-false a 512 e)) in
    either (λ (x : ℕ). x < none) (eqb (writable_of w (location_at a)) 0) {x = dropped} {y = write_to (slot_of a) (bit_and v (reach_of w (location_at a)))} (omega arith)
    (omega arith)

memory_small : (w : Width) (a v : ℕ) → write_of w a v < none
unfolding write_of
memory_small w a v = write_by w a v (ltb a 512) refl

infixr 4 ◌&◌
◌&◌ : {A B : Type 0} → A → B → A × B
a & b = (a, b)

module _ (f : ℕ → ℕ) (m : Machine) (n : ℕ) where
  -- the first code has one write
  abbrev First : ℕ → Type 0
  First b0 = (y z : ℕ) → applied_to m.mem (effect_of f (decode b0 y z) m n) ≡ put_of m.mem (first_write m b0)

  load : (i : ℕ) → applied_to m.mem (load_a m n (pointed_in m i)) ≡ put_of m.mem (to_reg m 0 (read4_in m (pointed_in m i)))
  unfolding load_a set_reg
  load i =
      let w = to_reg m 0 (read4_in m (pointed_in m i)) in
      packed_applied (w ∷ []) (register_small m 0 (read4_in m (pointed_in m i)), tt) m.mem m.cpu n no_skip 0 (omega arith)

  store : applied_to m.mem (store_a m n (hl_in m)) ≡ put_of m.mem (write_of Four (hl_in m) (reg_in m 0))
  unfolding store_a
  store =
      let w = write_of Four (hl_in m) (reg_in m 0) in
      packed_applied (w ∷ []) (memory_small Four (hl_in m) (reg_in m 0), tt) m.mem m.cpu n no_skip 0 (omega arith)

  first_8d : First 0x8D
  unfolding decode first_write
  first_8d y z = load 5

  first_8e : First 0x8E
  unfolding decode first_write
  first_8e y z = load 6

  first_8f : First 0x8F
  unfolding decode first_write
  first_8f y z = load 7

  first_c4 : First 0xC4
  unfolding decode first_write
  first_c4 y z = store

  first_small : (b0 : ℕ) → first_write m b0 < none
  unfolding first_write
  first_small b0 =
      either (λ (x : ℕ). x < none) (eqb b0 0xC4) (memory_small Four (hl_in m) (reg_in m 0)) (register_small m 0 (read4_in m (pointed_in m (b0 % 8))))

  -- the second code after a write x
  abbrev Second : ℕ → Type 0
  Second b1 = (x : ℕ) → x < none → (y z : ℕ) → Follows m.mem (after_first m n x b1) (put_of m.mem x) (effect_of f (decode b1 y z) (after_write m x) n)

  step_follows : (r last by x : ℕ) → x < none → Follows m.mem (then_step_reg m n x r last by) (put_of m.mem x) (step_reg (after_write m x) n r last by)
  unfolding then_step_reg step_reg
  step_follows r last by x h =
      let k = after_write m x in
      let v = to_reg k r (reg_in k r + by) in
      let skip = cond (eqb (reg_in k r) last) skip_next no_skip in
      let small = register_small k r (reg_in k r + by) in
      record {
        applied = packed_applied (x ∷ v ∷ []) (h, (small, tt)) m.mem m.cpu n skip 0 (omega arith) ∙
            sym (packed_applied (v ∷ []) (small, tt) k.mem m.cpu n skip 0 (omega arith));
        next = refl;
        skip = refl;
        carried = refl;
      }

  pair_follows : (r x : ℕ) → x < none → Follows m.mem (then_increment_pair m n x r) (put_of m.mem x) (add_skip_pair (after_write m x) n r (pair_in (after_write m x) r + 1))
  unfolding then_increment_pair add_skip_pair
  pair_follows r x h =
      let k = after_write m x in
      let s = pair_in k r + 1 in
      let skip = cond (ltb s 256) no_skip skip_next in
      let low = register_small k r (s % 16) in
      let high = register_small k (r % 8 + 1) (s / 16 % 16) in
      record {
        applied = packed_applied (x ∷ to_pair k r s []) (h, (low, (high, tt))) m.mem m.cpu n skip 0 (omega arith) ∙
            sym (packed_applied (to_pair k r s []) (low, (high, tt)) k.mem m.cpu n skip 0 (omega arith));
        next = refl;
        skip = refl;
        carried = refl;
      }

  second_5a : Second 0x5A
  unfolding decode
  second_5a x h y z = step_follows 2 15 1 x h

  second_4a : Second 0x4A
  unfolding decode
  second_4a x h y z = step_follows 2 0 15 x h

  second_5b : Second 0x5B
  unfolding decode
  second_5b x h y z = step_follows 3 15 1 x h

  second_4b : Second 0x4B
  unfolding decode
  second_4b x h y z = step_follows 3 0 15 x h

  second_5c : Second 0x5C
  unfolding decode
  second_5c x h y z = step_follows 4 15 1 x h

  second_4c : Second 0x4C
  unfolding decode
  second_4c x h y z = step_follows 4 0 15 x h

  second_5d : Second 0x5D
  unfolding decode
  second_5d x h y z = step_follows 5 15 1 x h

  second_4d : Second 0x4D
  unfolding decode
  second_4d x h y z = step_follows 5 0 15 x h

  second_82 : Second 0x82
  unfolding decode
  second_82 x h y z = pair_follows 2 x h

  second_84 : Second 0x84
  unfolding decode
  second_84 x h y z = pair_follows 4 x h

  -- what the two codes of a pair do
  abbrev Pair : ℕ → ℕ → Type 0
  Pair b0 b1 = First b0 × Second b1

  -- of every first code of a printed combination with its second
  abbrev AllFirsts : ℕ → List ℕ → Type 0
  AllFirsts s [] = Unit {0}
  AllFirsts s (x ∷ xs) = Pair x s × AllFirsts s xs

  abbrev AllPairs : List Combination → Type 0
  AllPairs [] = Unit {0}
  AllPairs (c ∷ cs) = AllFirsts c.second c.firsts × AllPairs cs

  hl_firsts : (s : ℕ) → Second s → AllFirsts s hl
  hl_firsts s q = ((first_8d, q), ((first_c4, q), tt))

  wx_firsts : (s : ℕ) → Second s → AllFirsts s wx
  wx_firsts s q = ((first_8e, q), tt)

  wl_firsts : (s : ℕ) → Second s → AllFirsts s wl
  wl_firsts s q = ((first_8f, q), tt)

  table_5_1 : AllPairs combinations
  table_5_1 =
      hl_firsts 0x5A second_5a & hl_firsts 0x4A second_4a & hl_firsts 0x5B second_5b & hl_firsts 0x4B second_4b & hl_firsts 0x82 second_82 &
      wx_firsts 0x5C second_5c & wx_firsts 0x4C second_4c & wx_firsts 0x5D second_5d & wx_firsts 0x4D second_4d & wx_firsts 0x84 second_84 &
      wl_firsts 0x5A second_5a & wl_firsts 0x4A second_4a & wl_firsts 0x5D second_5d & wl_firsts 0x4D second_4d & tt

  first_by : (s x v : ℕ) (b rest : Bool) → eqb x v ≡ b → Pair v s → (rest ≡ true → Pair x s) → cond b true rest ≡ true → Pair x s
  first_by s x v true rest e p f h = subst (λ (w : ℕ). Pair w s) (sym (eqb-true x v e)) p
  first_by s x v false rest e p f h = f h

  among_firsts : (s x : ℕ) (fs : List ℕ) → AllFirsts s fs → member x fs ≡ true → Pair x s
  among_firsts s x [] a h = absurd (false≢true h)
  among_firsts s x (v ∷ fs) a h = first_by s x v (eqb x v) (member x fs) refl a.0 (among_firsts s x fs a.1) h

  pair_by : (x y : ℕ) (c : Combination) (b rest : Bool) → member x c.firsts && eqb y c.second ≡ b → AllFirsts c.second c.firsts →
      (rest ≡ true → Pair x y) → cond b true rest ≡ true → Pair x y
  pair_by x y c true rest e a f h =
      let p = both (member x c.firsts) (eqb y c.second) e in
      subst (Pair x) (sym (eqb-true y c.second p.1)) (among_firsts c.second x c.firsts a p.0)
  pair_by x y c false rest e a f h = f h

  among_pairs : (x y : ℕ) (cs : List Combination) → AllPairs cs → printed cs x y ≡ true → Pair x y
  among_pairs x y [] a h = absurd (false≢true h)
  among_pairs x y (c ∷ cs) a h =
      pair_by x y c (member x c.firsts && eqb y c.second) (printed cs x y) refl a.0 (among_pairs x y cs a.1) h

  pair_of : (b0 b1 : ℕ) → paired b0 b1 ≡ true → Pair b0 b1
  unfolding paired
  pair_of b0 b1 h = among_pairs b0 b1 combinations table_5_1 h

  -- the first code, and the second from what it leaves; the bytes that stand behind them do not matter
  pub pair_effect_lem : (b0 b1 : ℕ) → paired b0 b1 ≡ true → (y0 z0 y1 z1 : ℕ) →
      Follows m.mem (pair_effect m n b0 b1) (applied_to m.mem (effect_of f (decode b0 y0 z0) m n))
      (effect_of f (decode b1 y1 z1) (at (applied_to m.mem (effect_of f (decode b0 y0 z0) m n)) m.cpu) n)
  unfolding pair_effect
  pair_effect_lem b0 b1 h y0 z0 y1 z1 =
      let p = pair_of b0 b1 h in
      subst (λ (l : List ℕ). Follows m.mem (after_first m n (first_write m b0) b1) l (effect_of f (decode b1 y1 z1) (at l m.cpu) n)) (sym (p.0 y0 z0))
      (p.1 (first_write m b0) (first_small b0) y1 z1)
