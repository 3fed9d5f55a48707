-- Tables 5-15 and 5-19: the codes of REF and of ADS A,#im by their first byte, which is all that a step looks at. That these are the codes of the two rows is the
-- law `CodedBy`.
-- Assumes nothing.
use Rattle.std.specs.Prelude.{ℕ, ◌+◌, ◌*◌, ◌/◌, ◌%◌, ◌≡◌, Bool, true, false, cond, ltb}
use Rattle.codes.specs.Decode.{decode}
use Rattle.codes.specs.declared.Instr.{Instr}

-- 20H to 7FH, with bit 3 as 0
abbrev pub is_ref : ℕ → Bool
is_ref b = cond (ltb b 0x20) false (cond (ltb b 0x80) (ltb (b % 16) 8) false)

-- the address in the reference area that a REF names
abbrev pub area_of : ℕ → ℕ
area_of b = b / 16 * 16 + b % 8 * 2

-- A1H to AFH: A0H is NOP
abbrev pub is_ads : ℕ → Bool
is_ads b = cond (ltb 0xA0 b) (ltb b 0xB0) false

-- a code with the first byte b is read as f with the operand v if p says so of b, and as no other f
pub record CodedBy (p : ℕ → Bool) (f : ℕ → Instr) (v : ℕ → ℕ) (b y z : ℕ) : Type 0 where
  pub reads : p b ≡ true → decode b y z ≡ f (v b)
  pub alone : p b ≡ false → (n : ℕ) → decode b y z ≡ f n → ⊥
