-- Arithmetic and compare, Tables 5-10, 5-13 and 5-19. A sum or a difference is made with one digit more, so that its carry or borrow can be
-- read off. n is the address after the instruction.
-- Assumes nothing.
use Rattle.std.specs.Prelude.{ℕ, ◌+◌, ◌-◌, ◌%◌, ◌/◌, Bool, cond, List, [], ◌∷◌, eqb, ltb}
use Rattle.chip.specs.declared.Cpu.{Cpu}
use Rattle.chip.specs.declared.Machine.{Machine}
use Rattle.rights.specs.declared.Width.TheVariants.{Four}
use Rattle.chip.specs.Memory.{write_of}
use Rattle.effects.specs.declared.Effect.{Effect}
use Rattle.effects.specs.Effects.{no_skip, skip_next, skip_ads, doing}
use Rattle.effects.specs.Operands.{reg_in, to_reg, to_carry, read4_in}

-- CPSE, BTST, BTSF: skip where the test holds
unfoldable pub skip_if : Cpu → ℕ → Bool → Effect
skip_if c n b = doing c n (cond b skip_next no_skip) 0 []

-- ADC A,@HL: carry on 16; with ADS A,#im next it skips that on overflow
unfoldable pub add_carry_a : Machine → ℕ → ℕ → Effect
add_carry_a m n s = doing m.cpu n (cond (ltb s 16) no_skip skip_ads) 3 (to_reg m 0 s ∷ to_carry m (s / 16) ∷ [])

-- SBC A,@HL, d = 16 + A - (HL) - C: borrow below 16; with ADS A,#im next it skips that where there is no borrow
unfoldable pub sub_carry_a : Machine → ℕ → ℕ → Effect
sub_carry_a m n d = doing m.cpu n (cond (ltb d 16) no_skip skip_ads) 3 (to_reg m 0 d ∷ to_carry m (1 - d / 16) ∷ [])

-- ADS A: skips on carry; ADS A,#im does not under effect 3
unfoldable pub add_skip_a : Machine → ℕ → ℕ → Effect
add_skip_a m n s = doing m.cpu n (cond (ltb s 16) no_skip skip_next) 0 (to_reg m 0 s ∷ [])

unfoldable pub add_im_a : Machine → ℕ → ℕ → Effect
add_im_a m n s = doing m.cpu n (cond (eqb m.cpu.effect 3) no_skip (cond (ltb s 16) no_skip skip_next)) 0 (to_reg m 0 s ∷ [])

-- SBS A, d = 16 + A - (HL): skips on borrow
unfoldable pub sub_skip_a : Machine → ℕ → ℕ → Effect
sub_skip_a m n d = doing m.cpu n (cond (ltb d 16) skip_next no_skip) 0 (to_reg m 0 d ∷ [])

-- the same for pairs, r the pair that takes the result
abbrev pub to_pair : Machine → ℕ → ℕ → List ℕ → List ℕ
to_pair m r v ws = to_reg m r (v % 16) ∷ to_reg m (r % 8 + 1) (v / 16 % 16) ∷ ws

unfoldable pub add_carry_pair : Machine → ℕ → ℕ → ℕ → Effect
add_carry_pair m n r s = doing m.cpu n no_skip 0 (to_pair m r s (to_carry m (s / 256) ∷ []))

unfoldable pub sub_carry_pair : Machine → ℕ → ℕ → ℕ → Effect
sub_carry_pair m n r d = doing m.cpu n no_skip 0 (to_pair m r d (to_carry m (1 - d / 256) ∷ []))

unfoldable pub add_skip_pair : Machine → ℕ → ℕ → ℕ → Effect
add_skip_pair m n r s = doing m.cpu n (cond (ltb s 256) no_skip skip_next) 0 (to_pair m r s [])

unfoldable pub sub_skip_pair : Machine → ℕ → ℕ → ℕ → Effect
sub_skip_pair m n r d = doing m.cpu n (cond (ltb d 256) skip_next no_skip) 0 (to_pair m r d [])

-- INCS and DECS R: skip where the register passes 0
unfoldable pub step_reg : Machine → ℕ → ℕ → ℕ → ℕ → Effect
step_reg m n r last by = doing m.cpu n (cond (eqb (reg_in m r) last) skip_next no_skip) 0 (to_reg m r (reg_in m r + by) ∷ [])

-- INCS DA, INCS @HL
unfoldable pub increment_at : Machine → ℕ → ℕ → Effect
increment_at m n a =
    doing m.cpu n (cond (eqb (read4_in m a) 15) skip_next no_skip) 0 (write_of Four a ((read4_in m a + 1) % 16) ∷ [])
