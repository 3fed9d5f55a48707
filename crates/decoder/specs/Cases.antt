-- Paper 01, "Cases shown of the definitions": those of codes alone, and more of the same kind, each by computing. y and z are any bytes that follow.
-- Assumes nothing.
use Rattle.std.specs.Prelude.{ℕ, ◌≡◌, refl}
use Rattle.codes.specs.Decode.{decode, info_for, info_of}
use Rattle.codes.specs.Kinds.{kind_of}
use Rattle.codes.specs.declared.Kind.TheVariants.{Defined, Undefined as Unknown, Register, Bank}
use Rattle.codes.specs.declared.Instr.TheVariants.{Com, CpseAR, Di, Ei, Idle, Nop, Ref, Smb, Stop, Undefined}

pub record Cases : Type 0 where
  pub jr_10 : (y z : ℕ) → decode 0x10 y z ≡ Undefined
  pub jr_00 : (y z : ℕ) → decode 0x00 y z ≡ Undefined
  pub no_length : (y : ℕ) → info_of 0x10 y ≡ 0
  pub ld_a_a : (z : ℕ) → decode 0xDD 0x08 z ≡ Undefined
  pub ldb_b2 : (z : ℕ) → decode 0xF4 0x50 z ≡ Undefined
  pub com_a : (z : ℕ) → decode 0xDD 0x3F z ≡ Com
  pub nop : (y z : ℕ) → decode 0xA0 y z ≡ Nop
  pub ei : (z : ℕ) → decode 0xFF 0xB2 z ≡ Ei
  pub di : (z : ℕ) → decode 0xFE 0xB2 z ≡ Di
  pub idle : (z : ℕ) → decode 0xFF 0xA3 z ≡ Idle
  pub stop : (z : ℕ) → decode 0xFF 0xB3 z ≡ Stop
  pub cpse_a_a : (z : ℕ) → decode 0xDD 0x68 z ≡ CpseAR 0
  pub smb : (z : ℕ) → decode 0xDD 0x4F z ≡ Smb 15
  pub smb_two : info_of 0xDD 0x4F ≡ info_for 2 2
  pub no_bank : info_of 0xDD 0x42 ≡ 0
  pub jp_three : info_of 0xDB 0x00 ≡ info_for 3 3
  pub call_three : info_of 0xDB 0x40 ≡ info_for 3 4
  pub ref_first : (y z : ℕ) → decode 0x20 y z ≡ Ref 0x20
  pub ref_last : (y z : ℕ) → decode 0x77 y z ≡ Ref 0x7E
  -- document 02, No. 7: XCH A,A; INCS EA; XCH A,@ of no register of Table 5-8; LD A,#0 by LD Ra,#im; LD A,A; AND EA,EA by AND RRb,EA; SMB 2; SRB 4; JR of no pair
  pub kind_68 : (y : ℕ) → kind_of 0x68 y ≡ Register
  pub kind_80 : (y : ℕ) → kind_of 0x80 y ≡ Register
  pub kind_78 : (y : ℕ) → kind_of 0x78 y ≡ Unknown
  pub kind_7c : (y : ℕ) → kind_of 0x7C y ≡ Unknown
  pub kind_d9_08 : kind_of 0xD9 0x08 ≡ Register
  pub kind_dd_08 : kind_of 0xDD 0x08 ≡ Register
  pub kind_dc_10 : kind_of 0xDC 0x10 ≡ Register
  pub kind_dd_42 : kind_of 0xDD 0x42 ≡ Bank
  pub kind_dd_54 : kind_of 0xDD 0x54 ≡ Bank
  pub kind_dd_61 : kind_of 0xDD 0x61 ≡ Unknown
  pub kind_dd_4f : kind_of 0xDD 0x4F ≡ Defined

pub cases : Cases
unfolding decode info_of kind_of
cases =
    record {
      jr_10 = λ y z. refl;
      jr_00 = λ y z. refl;
      no_length = λ y. refl;
      ld_a_a = λ z. refl;
      ldb_b2 = λ z. refl;
      com_a = λ z. refl;
      nop = λ y z. refl;
      ei = λ z. refl;
      di = λ z. refl;
      idle = λ z. refl;
      stop = λ z. refl;
      cpse_a_a = λ z. refl;
      smb = λ z. refl;
      smb_two = refl;
      no_bank = refl;
      jp_three = refl;
      call_three = refl;
      ref_first = λ y z. refl;
      ref_last = λ y z. refl;
      kind_68 = λ y. refl;
      kind_80 = λ y. refl;
      kind_78 = λ y. refl;
      kind_7c = λ y. refl;
      kind_d9_08 = refl;
      kind_dd_08 = refl;
      kind_dc_10 = refl;
      kind_dd_42 = refl;
      kind_dd_54 = refl;
      kind_dd_61 = refl;
      kind_dd_4f = refl;
    }
