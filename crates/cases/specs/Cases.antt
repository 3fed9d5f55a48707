-- Document 01, "Cases shown of the definitions": the rows that speak of vectors, data addresses and single accesses, and cases of the data memory's rules
-- (Table 4-1, with "The state" of document 01), each by computing. The rows that run a program are those of RunCases, which is a field here, so that the
-- group is one; the rows of codes alone stand there too, and more of that kind in decoder and references.
-- Assumes nothing.
use Rattle.std.specs.Prelude.{ℕ, ◌+◌, ◌≡◌, List, replicate}
use Rattle.rights.specs.declared.Width.TheVariants.{Four, Eight}
use Rattle.rights.specs.Access.{location_at}
use Rattle.registers.specs.Addresses.{direct_of, even_of, hda_of, hl_of, indirect_of, memb_bit, memb_of}
use Rattle.chip.specs.Memory.{dropped, put_of, raw_of, read_bit_of, read_of, write_bit_of, write_of, write_to}
use Rattle.chip.specs.Ports.{latched_of, outputs_of, port_at, port_of}
use Rattle.registers.specs.Registers.{pair_of, register_at, sp_low}
use Rattle.chip.specs.Reset.{vector_flags, vector_pc}
use Rattle.chip.specs.State.{nibbles, slot_of}
use Rattle.codes.specs.Decode.{decode}
use Rattle.codes.specs.declared.Instr.TheVariants.{LdEaHl, LdbToC}
use Rattle.codes.specs.declared.Place.TheVariants.{Hda, Memb}
use Rattle.cases.specs.Runs.{RunCases, h_is_2, hl_is_37, holding, l_is_9, zeros}

-- every nibble 15; P4 with its pins 2 and 0 in output mode and the latch 0110
abbrev ones : List ℕ
ones = replicate nibbles 15

abbrev p4_half_out : List ℕ
p4_half_out = holding (holding zeros 0xFEA 5) 0xFF4 6

-- the pins of P1 = 10, of P2 = 0110, of P4 = 1000
abbrev pins : ℕ
pins = 0x80620

pub record Cases : Type 0 where
  -- vector 4FH FEH, N 4,096 and 2,048: PC, then EMB 0 and ERB 1
  pub vector_4096 : vector_pc 4096 0x4F 0xFE ≡ 0x0FFE
  pub vector_2048 : vector_pc 2048 0x4F 0xFE ≡ 0x07FE
  pub vector_flags_lem : vector_flags 0x4F ≡ 0b01
  -- F4H 4CH, L = 9: C from FF2H bit 1
  pub memb_code : (z : ℕ) → decode 0xF4 0x4C z ≡ LdbToC (Memb 0x30)
  pub memb_address : memb_of l_is_9 0 0x30 ≡ 0xFF2
  pub memb_bit_lem : memb_bit l_is_9 0 ≡ 1
  pub memb_read : read_bit_of l_is_9 pins (memb_of l_is_9 0 0x30) (memb_bit l_is_9 0) ≡ 1
  -- F4H 30H, H = 2, EMB = 0: C from 020H bit 3
  pub hda_code : (z : ℕ) → decode 0xF4 0x30 z ≡ LdbToC (Hda 0 3)
  pub hda_address : hda_of h_is_2 15 0 0 ≡ 0x020
  pub hda_read : read_bit_of (holding h_is_2 0x020 8) 0 0x020 3 ≡ 1
  -- LD EA,@HL, HL = 37H, EMB = 0: A from 036H, E from 037H
  pub hl_code : (z : ℕ) → decode 0xDC 0x08 z ≡ LdEaHl
  pub hl_address : hl_of hl_is_37 15 0 ≡ 0x037
  pub hl_low : even_of (hl_of hl_is_37 15 0) ≡ 0x036
  pub hl_high : even_of (hl_of hl_is_37 15 0) + 1 ≡ 0x037
  -- a direct address with EMB 0: 000H to 07FH, then F80H to FFFH; with EMB 1 the bank that SMB names
  pub direct_low : direct_of zeros 1 0x7F ≡ 0x07F
  pub direct_high : direct_of zeros 1 0x80 ≡ 0xF80
  pub direct_bank : direct_of (holding zeros 0xFB0 2) 1 0x80 ≡ 0x180
  -- with ERB 1 the registers are those of the bank that SRB names, else of bank 0
  pub bank_erb : register_at (holding zeros 0xFB0 1) 3 2 ≡ 26
  pub bank_no_erb : register_at zeros 3 2 ≡ 2
  -- an 8-bit write to FB0H and FB1H stores the one and drops the other; an 8-bit read gives both
  pub psw_low : write_of Eight 0xFB0 0b1010 ≡ write_to 560 0b1010
  pub psw_high : write_of Eight 0xFB1 0b1010 ≡ dropped
  pub psw_read : read_of ones 0 Eight 0xFB1 ≡ 15
  pub psw_read_four : read_of ones 0 Four 0xFB1 ≡ 0
  -- a dropped write leaves the nibbles as they are
  pub drop_nothing : put_of ones dropped ≡ ones
  -- a 4-bit write to FB4H stores its bit 2 as 0, and what is written there cannot be read
  pub imod0_write : write_of Four 0xFB4 0b1111 ≡ write_to (slot_of 0xFB4) 0b1011
  pub imod0_read : read_of ones 0 Four 0xFB4 ≡ 0
  -- F80H stores bit 0 as 0
  pub sp_even : sp_low 0xFF ≡ write_to (slot_of 0xF80) 0b1110
  pub sp_write : write_of Eight 0xF80 0b1111 ≡ write_to (slot_of 0xF80) 0b1110
  -- a bit write to a bit that the location lacks is dropped, and so is one to a bit that its column does not name; another bit is changed alone
  pub bit_absent : write_bit_of zeros 0xFB8 2 1 ≡ dropped
  pub bit_not_named : write_bit_of zeros 0xFB2 2 1 ≡ dropped
  pub bit_named : write_bit_of (holding zeros 0xFB2 5) 0xFB2 3 1 ≡ write_to (slot_of 0xFB2) 0b1101
  -- FF1H and FF2H read pins, whatever is stored there or in P2MOD; P4 its latch where it is an output, else its pins; a port without a latch drops writes
  pub p1_read : read_of ones pins Four 0xFF1 ≡ 0b10
  pub p2_read : read_of ones pins Four 0xFF2 ≡ 0b0110
  pub p4_read : read_of p4_half_out pins Four 0xFF4 ≡ 0b1100
  pub p4_driven : latched_of p4_half_out 4 ≡ 0b0100
  pub p1_write : write_of Four 0xFF1 0b11 ≡ dropped
  -- a bank other than 0, 1 and 15, F00H to F7FH, and a location that is not listed read 0 and drop writes
  pub bank_2_read : read_of ones pins Four 0x234 ≡ 0
  pub bank_2_write : write_of Four 0x234 5 ≡ dropped
  pub below_f80 : read_of ones pins Four 0xF7F ≡ 0
  pub not_listed : read_of ones pins Four 0xF93 ≡ 0
  -- the rows that run a program
  pub runs : RunCases
