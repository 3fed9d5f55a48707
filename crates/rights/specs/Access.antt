-- Chapter 4, Table 4-1, "I/O Map for Memory Bank 15": a line for each location that the table lists with a name, in printed order.
-- A line has the address, the printed bits 3 to 0 (1 where the bit exists, 0 where "0" or "-" is printed), R/W, and the columns
-- 1-bit, 4-bit and 8-bit. A merged cell counts for every row that it spans. PCON's bits 3 and 2 stand for the mode and are not stored.
-- Assumes nothing.
use Rattle.std.specs.Prelude.{ℕ, ◌+◌, ◌*◌, ◌/◌, ◌%◌, cond, List, [], ◌∷◌, eqb}
use Rattle.std.specs.Int.Bits.{bit_and}
use Rattle.rights.specs.declared.Width.{Width}
use Rattle.rights.specs.declared.Width.TheVariants.{One, Four, Eight}

pub record Location : Type 0 where
  pub address : ℕ
  pub bits : ℕ
  pub access : ℕ
  pub one : ℕ
  pub four : ℕ
  pub eight : ℕ

-- the column R/W: bit 0 that it may be read, bit 1 that it may be written
abbrev pub R : ℕ
R = 1

abbrev pub W : ℕ
W = 2

abbrev pub RW : ℕ
RW = 3

-- the columns of the widths: No, Yes, and in the 1-bit column a single bit
abbrev pub No : ℕ
No = 0

abbrev pub Yes : ℕ
Yes = 15

abbrev pub bit3 : ℕ
bit3 = 8

abbrev pub loc : ℕ → ℕ → ℕ → ℕ → ℕ → ℕ → ℕ → ℕ → ℕ → Location
loc address b3 b2 b1 b0 access one four eight =
    record {
      address = address;
      bits = 8 * b3 + 4 * b2 + 2 * b1 + b0;
      access = access;
      one = one;
      four = four;
      eight = eight;
    }

unfoldable pub table_4_1 : List Location
table_4_1 =
    loc 0xF80 1 1 1 0 RW No No Yes ∷  -- SP
    loc 0xF81 1 1 1 1 RW No No Yes ∷
    loc 0xF85 1 1 1 1 W bit3 Yes No ∷  -- BMOD
    loc 0xF86 1 1 1 1 R No No Yes ∷  -- BCNT
    loc 0xF87 1 1 1 1 R No No Yes ∷
    loc 0xF88 0 1 1 0 W No No Yes ∷  -- WMOD
    loc 0xF89 1 0 1 1 W No No Yes ∷
    loc 0xF90 1 1 0 0 W bit3 No Yes ∷  -- TMOD0
    loc 0xF91 0 1 1 1 W No No Yes ∷
    loc 0xF92 0 1 0 0 RW Yes Yes No ∷  -- TOE0
    loc 0xF94 1 1 1 1 R No No Yes ∷  -- TCNT0
    loc 0xF95 1 1 1 1 R No No Yes ∷
    loc 0xF96 1 1 1 1 W No No Yes ∷  -- TREF0
    loc 0xF97 1 1 1 1 W No No Yes ∷
    loc 0xF98 1 1 1 1 W No No Yes ∷  -- WDMOD
    loc 0xF99 1 1 1 1 W No No Yes ∷
    loc 0xF9A 1 0 0 0 W Yes No No ∷  -- WDTCF
    loc 0xFB0 1 1 1 1 RW Yes Yes Yes ∷  -- PSW: IS1, IS0, EMB, ERB
    loc 0xFB1 1 1 1 1 R No No Yes ∷  -- PSW: C, SC2, SC1, SC0
    loc 0xFB2 1 1 1 1 W bit3 Yes No ∷  -- IPR, with IME as bit 3
    loc 0xFB3 0 0 1 1 W No Yes No ∷  -- PCON
    loc 0xFB4 1 0 1 1 W No Yes No ∷  -- IMOD0
    loc 0xFB5 0 0 0 1 W No Yes No ∷  -- IMOD1
    loc 0xFB6 0 1 1 1 W No Yes No ∷  -- IMODK
    loc 0xFB8 0 0 1 1 RW Yes Yes No ∷  -- IEB, IRQB
    loc 0xFBA 0 0 1 1 RW Yes Yes No ∷  -- IEW, IRQW
    loc 0xFBC 0 0 1 1 RW Yes Yes No ∷  -- IET0, IRQT0
    loc 0xFBD 0 0 1 1 RW Yes Yes No ∷  -- IES, IRQS
    loc 0xFBE 1 1 1 1 RW Yes Yes No ∷  -- IE1, IRQ1, IE0, IRQ0
    loc 0xFBF 0 0 1 1 RW Yes Yes No ∷  -- IEK, IRQK
    loc 0xFC0 1 1 1 1 RW Yes Yes Yes ∷  -- BSC0
    loc 0xFC1 1 1 1 1 RW Yes Yes Yes ∷  -- BSC1
    loc 0xFC2 1 1 1 1 RW Yes Yes Yes ∷  -- BSC2
    loc 0xFC3 1 1 1 1 RW Yes Yes Yes ∷  -- BSC3
    loc 0xFD0 1 0 1 1 W No Yes No ∷  -- CLMOD
    loc 0xFD4 1 1 1 1 R No Yes No ∷  -- CMPREG
    loc 0xFD6 1 1 1 1 RW No No Yes ∷  -- CMOD
    loc 0xFD7 1 1 1 0 RW No No Yes ∷
    loc 0xFDA 1 1 1 1 W No No Yes ∷  -- PNE
    loc 0xFDB 1 1 1 1 W No No Yes ∷
    loc 0xFDC 1 0 1 1 W No No Yes ∷  -- PUMOD
    loc 0xFDD 0 1 1 1 W No No Yes ∷
    loc 0xFE0 1 1 1 1 W bit3 No Yes ∷  -- SMOD
    loc 0xFE1 1 1 1 0 W No No Yes ∷
    loc 0xFE2 1 1 1 1 W No Yes No ∷  -- P2MOD
    loc 0xFE4 1 1 1 1 RW No No Yes ∷  -- SBUF
    loc 0xFE5 1 1 1 1 RW No No Yes ∷
    loc 0xFE8 0 1 1 1 W No No Yes ∷  -- PMG1: port 0
    loc 0xFE9 0 1 1 1 W No No Yes ∷  -- PMG1: port 3
    loc 0xFEA 1 1 1 1 W No No Yes ∷  -- PMG2: port 4
    loc 0xFEB 0 0 0 0 W No No Yes ∷
    loc 0xFEC 1 1 1 1 W No No Yes ∷  -- PMG3: port 5
    loc 0xFED 1 1 1 1 W No No Yes ∷  -- PMG3: port 6
    loc 0xFF0 0 1 1 1 RW Yes Yes No ∷  -- port 0
    loc 0xFF1 0 0 1 1 R Yes Yes No ∷  -- port 1
    loc 0xFF2 1 1 1 1 R Yes Yes No ∷  -- port 2
    loc 0xFF3 0 1 1 1 RW Yes Yes No ∷  -- port 3
    loc 0xFF4 1 1 1 1 RW Yes Yes Yes ∷  -- port 4
    loc 0xFF5 1 1 1 1 RW Yes Yes Yes ∷  -- port 5
    loc 0xFF6 1 1 1 1 RW Yes Yes No ∷  -- port 6
    []

-- a location that the table does not list, and RAM, which has no limits
abbrev pub unlisted : Location
unlisted = loc 0 0 0 0 0 0 No No No

abbrev pub plain : ℕ → Location
plain a = loc a 1 1 1 1 RW Yes Yes Yes

unfoldable pub among : List Location → ℕ → Location
among [] a = unlisted
among (v ∷ vs) a = cond (eqb a v.address) v (among vs a)

unfoldable pub location_at : ℕ → Location
unfolding among table_4_1
location_at a = among table_4_1 a

-- the column of a width, and the bits that an access of that width reaches
abbrev pub column_of : Width → Location → ℕ
column_of One v = v.one
column_of Four v = v.four
column_of Eight v = v.eight

abbrev pub reach_of : Width → Location → ℕ
reach_of w v = bit_and (column_of w v) v.bits

-- the bits that a read gives
abbrev pub readable_of : Width → Location → ℕ
readable_of w v = cond (eqb (v.access % 2) 1) (reach_of w v) 0

-- the column of a width, if the location may be written; 0 where a write is dropped
abbrev pub writable_of : Width → Location → ℕ
writable_of w v = cond (eqb (v.access / 2) 1) (column_of w v) 0
