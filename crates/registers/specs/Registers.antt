-- Chapter 2: the working registers of Table 2-3 and Figure 2-4 (register r of bank b at RAM address 8 × b + r, r as in Table 5-7), the
-- program status word FB0H (IS1 IS0 EMB ERB) and FB1H (C SC2 SC1 SC0), and the stack pointer F80H, F81H.
-- Assumes nothing.
use Rattle.std.specs.Prelude.{ℕ, ◌+◌, ◌*◌, ◌%◌, ◌/◌, cond, List, eqb}
use Rattle.chip.specs.State.{nib_at, nibble_at, slot_of}
use Rattle.chip.specs.Memory.{write_to}

-- ERB 0: always bank 0
abbrev pub bank_of : List ℕ → ℕ → ℕ
bank_of l srb = cond (eqb (nibble_at l 0xFB0 % 2) 1) (srb % 4) 0

unfoldable pub register_at : List ℕ → ℕ → ℕ → ℕ
register_at l srb r = 8 * bank_of l srb + r % 8

abbrev pub register_of : List ℕ → ℕ → ℕ → ℕ
register_of l srb r = nib_at l (register_at l srb r)

-- a pair by its low register: EA 0, HL 2, WX 4, YZ 6
unfoldable pub pair_of : List ℕ → ℕ → ℕ → ℕ
pair_of l srb r = register_of l srb r + 16 * register_of l srb (r % 8 + 1)

-- a write to a register
abbrev pub register_write : List ℕ → ℕ → ℕ → ℕ → ℕ
register_write l srb r v = write_to (register_at l srb r) v

abbrev pub emb_of : List ℕ → ℕ
emb_of l = nibble_at l 0xFB0 / 2 % 2

abbrev pub carry_of : List ℕ → ℕ
carry_of l = nibble_at l 0xFB1 / 8

-- the write that makes the carry flag v
abbrev pub carry_write : List ℕ → ℕ → ℕ
carry_write l v = write_to (slot_of 0xFB1) (nibble_at l 0xFB1 % 8 + 8 * v)

abbrev pub sp_of : List ℕ → ℕ
sp_of l = nibble_at l 0xF80 + 16 * nibble_at l 0xF81

-- a stack address: an offset of the stack pointer modulo 256, in bank 0
abbrev pub stack_at : ℕ → ℕ → ℕ
stack_at s k = (s + k) % 256

-- the two writes of the stack pointer s, whose bit 0 is stored as 0
abbrev pub sp_low : ℕ → ℕ
sp_low s = write_to (slot_of 0xF80) (s / 2 % 8 * 2)

abbrev pub sp_high : ℕ → ℕ
sp_high s = write_to (slot_of 0xF81) (s / 16 % 16)
