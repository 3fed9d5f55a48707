-- Paper 01, "One step", on REF, with Table 5-1. The first byte of an entry decides first: 00H to 3FH is TJP, 40H to 7FH TCALL, with the lower 14 bits of
-- the two bytes as the target, high byte first. Then come the pairs of Table 5-1, then the codes of 2 bytes and 2 cycles.
-- Assumes nothing.
use Rattle.std.specs.Prelude.{ℕ, ◌+◌, ◌*◌, ◌%◌, Bool, true, false, cond, ◌&&◌, List, [], ◌∷◌, eqb, ltb}
use Rattle.codes.specs.Decode.{member, info_for, info_of}
use Rattle.references.specs.declared.area.Reference.{Reference}
use Rattle.references.specs.declared.area.Reference.TheVariants.{Pair, Code, Jump, Call, Nothing}

-- a printed second code, and the first codes of its group
pub record Combination : Type 0 where
  pub firsts : List ℕ
  pub second : ℕ

abbrev pub after : List ℕ → ℕ → Combination
after fs s = record { firsts = fs; second = s }

-- LD A,@HL and LD @HL,A; LD A,@WX; LD A,@WL
abbrev pub hl : List ℕ
hl = 0x8D ∷ 0xC4 ∷ []

abbrev pub wx : List ℕ
wx = 0x8E ∷ []

abbrev pub wl : List ℕ
wl = 0x8F ∷ []

-- Table 5-1
abbrev pub combinations : List Combination
combinations =
    after hl 0x5A ∷  -- INCS L
    after hl 0x4A ∷  -- DECS L
    after hl 0x5B ∷  -- INCS H
    after hl 0x4B ∷  -- DECS H
    after hl 0x82 ∷  -- INCS HL
    after wx 0x5C ∷  -- INCS X
    after wx 0x4C ∷  -- DECS X
    after wx 0x5D ∷  -- INCS W
    after wx 0x4D ∷  -- DECS W
    after wx 0x84 ∷  -- INCS WX
    after wl 0x5A ∷  -- INCS L
    after wl 0x4A ∷  -- DECS L
    after wl 0x5D ∷  -- INCS W
    after wl 0x4D ∷  -- DECS W
    []

abbrev pub printed : List Combination → ℕ → ℕ → Bool
printed [] x y = false
printed (p ∷ ps) x y = cond (member x p.firsts && eqb y p.second) true (printed ps x y)

-- the two bytes are a pair of Table 5-1
unfoldable pub paired : ℕ → ℕ → Bool
paired x y = printed combinations x y

abbrev pub target_of : ℕ → ℕ → ℕ
target_of x y = x % 64 * 256 + y

-- a defined code of 2 bytes and 2 cycles
abbrev pub single : ℕ → ℕ → Bool
single x y = eqb (info_of x y) (info_for 2 2)

-- what an entry past the jumps and calls names
unfoldable pub coded_of : ℕ → ℕ → Reference
coded_of x y = cond (paired x y) (Pair x y) (cond (single x y) (Code x y) Nothing)

unfoldable pub reference_of : ℕ → ℕ → Reference
reference_of x y = cond (ltb x 0x40) (Jump (target_of x y)) (cond (ltb x 0x80) (Call (target_of x y)) (coded_of x y))
