-- Chapter 3, Tables 3-2 to 3-4: the data address that an operand names. With EMB 0 a direct address is in 000H-07FH or F80H-FFFH and an
-- indirect one in bank 0; with EMB 1 both are in the bank that SMB names. WX and WL address bank 0, mema and memb bank 15.
-- Assumes nothing.
use Rattle.std.specs.Prelude.{ℕ, ◌+◌, ◌*◌, ◌%◌, ◌/◌, cond, List, eqb, ltb}
use Rattle.registers.specs.Registers.{register_of, pair_of, emb_of}

-- DA
unfoldable pub direct_of : List ℕ → ℕ → ℕ → ℕ
direct_of l smb da = cond (eqb (emb_of l) 1) (256 * (smb % 16) + da) (cond (ltb da 128) da (0xF00 + da))

-- an offset in the bank of an indirect address
unfoldable pub indirect_of : List ℕ → ℕ → ℕ → ℕ
indirect_of l smb v = cond (eqb (emb_of l) 1) (256 * (smb % 16) + v) v

-- @HL, @WX, @WL
unfoldable pub hl_of : List ℕ → ℕ → ℕ → ℕ
unfolding indirect_of
hl_of l smb srb = indirect_of l smb (pair_of l srb 2)

abbrev pub wx_of : List ℕ → ℕ → ℕ
wx_of l srb = pair_of l srb 4

unfoldable pub wl_of : List ℕ → ℕ → ℕ
wl_of l srb = register_of l srb 2 + 16 * register_of l srb 5

-- @H+DA: H over the low four bits of the address
unfoldable pub hda_of : List ℕ → ℕ → ℕ → ℕ → ℕ
unfolding indirect_of
hda_of l smb srb da = indirect_of l smb (16 * register_of l srb 3 + da % 16)

-- mema, by its low byte
abbrev pub mema_of : ℕ → ℕ
mema_of a = 0xF00 + a

-- memb.@L: memb's bits 5 to 2 over L's bits 3 and 2; L's bits 1 and 0 name the bit
unfoldable pub memb_of : List ℕ → ℕ → ℕ → ℕ
memb_of l srb a = 0xFC0 + a % 64 + register_of l srb 2 / 4

abbrev pub memb_bit : List ℕ → ℕ → ℕ
memb_bit l srb = register_of l srb 2 % 4

-- the even address of an 8-bit access
abbrev pub even_of : ℕ → ℕ
even_of a = a / 2 * 2
