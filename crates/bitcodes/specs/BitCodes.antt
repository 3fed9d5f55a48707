-- Table 5-20: what the second byte of a bit code names, with the footnote for mema.b and LDB's b2 read as 0, and the instruction of each first byte.
-- Assumes nothing.
use Rattle.std.specs.Prelude.{ℕ, ◌+◌, ◌*◌, ◌/◌, ◌%◌, Bool, false, cond, [], ◌∷◌, eqb, ltb, Option, Some, None}
use Rattle.codes.specs.Decode.{member}
use Rattle.codes.specs.declared.Instr.{Instr}
use Rattle.codes.specs.declared.Instr.TheVariants.{Undefined, Btst, Btsf, Btstz, Bits, Bitr, Band, Bor, Bxor, LdbFromC, LdbToC}
use Rattle.codes.specs.declared.Place.{Place}
use Rattle.codes.specs.declared.Place.TheVariants.{Mema, Memb, Hda}

-- 00 @H+DA.b, 0100 memb.@L, 10 and 11 mema.b
abbrev pub named_by : ℕ → Option Place
named_by y =
    cond (ltb y 0x40) (Some (Hda (y % 16) (y / 16)))
    (cond (ltb y 0x50) (Some (Memb (y % 16 * 4)))
    (cond (ltb y 0x80) None
    (cond (ltb y 0xC0) (Some (Mema (0xB0 + y % 16) (y / 16 % 4))) (Some (Mema (0xF0 + y % 16) (y / 16 % 4))))))

abbrev pub under_of : ℕ → Place → Instr
under_of x p =
    cond (eqb x 0xF4) (LdbToC p)
    (cond (eqb x 0xF5) (Band p)
    (cond (eqb x 0xF6) (Bor p)
    (cond (eqb x 0xF7) (Bxor p)
    (cond (eqb x 0xF8) (Btsf p)
    (cond (eqb x 0xF9) (Btst p)
    (cond (eqb x 0xFC) (LdbFromC p)
    (cond (eqb x 0xFD) (Btstz p)
    (cond (eqb x 0xFE) (Bitr p) (Bits p)))))))))

abbrev pub bit_instr : ℕ → Option Place → Instr
bit_instr x (Some p) = under_of x p
bit_instr x None = Undefined

-- the codes of DI, and of IDLE, EI and STOP, have more fixed bits than those of a bit
abbrev pub special : ℕ → ℕ → Bool
special x y = cond (eqb x 0xFE) (eqb y 0xB2) (cond (eqb x 0xFF) (member y (0xA3 ∷ 0xB2 ∷ 0xB3 ∷ [])) false)
