-- Paper 01, "One step", on REF, with Table 5-1: entries of the reference area, and the table's codes as instructions, each by computing: cases of the kind
-- that the paper's "Cases shown of the definitions" has of codes. y is any byte that follows.
-- Assumes nothing.
use Rattle.std.specs.Prelude.{ℕ, ◌+◌, ◌*◌, ◌≡◌, refl, List, [], ◌∷◌}
use Rattle.codes.specs.Decode.{decode, info_of}
use Rattle.codes.specs.Registers.{H, HL, L, W, WX, X, i_hl, i_wl, i_wx}
use Rattle.codes.specs.declared.Instr.{Instr}
use Rattle.codes.specs.declared.Instr.TheVariants.{DecsR, IncsR, IncsRrb, LdARra, LdHlA}
use Rattle.references.specs.Reference.{Combination, coded_of, combinations, hl, paired, reference_of, wl, wx}
use Rattle.references.specs.declared.area.Reference.TheVariants.{Call, Code, Jump, Nothing, Pair}

-- the instructions of some codes
abbrev pub read : List ℕ → List Instr
read [] = []
read (x ∷ xs) = decode x 0 0 ∷ read xs

abbrev pub seconds : List Combination → List Instr
seconds [] = []
seconds (p ∷ ps) = decode p.second 0 0 ∷ seconds ps

pub record Cases : Type 0 where
  pub tcall : (y : ℕ) → reference_of 0x79 y ≡ Call (0x39 * 256 + y)
  pub tjp : (y : ℕ) → reference_of 0x3F y ≡ Jump (0x3F * 256 + y)
  pub pair : reference_of 0x8D 0x5A ≡ Pair 0x8D 0x5A
  pub no_pair : reference_of 0x8E 0x5A ≡ Nothing
  pub single : reference_of 0xDD 0x3F ≡ Code 0xDD 0x3F
  pub no_single : reference_of 0xDD 0x60 ≡ Nothing
  pub firsts_hl : read hl ≡ LdARra i_hl ∷ LdHlA ∷ []
  pub firsts_wx : read wx ≡ LdARra i_wx ∷ []
  pub firsts_wl : read wl ≡ LdARra i_wl ∷ []
  pub table_5_1 :
      seconds combinations
      ≡ IncsR L ∷ DecsR L ∷ IncsR H ∷ DecsR H ∷ IncsRrb HL ∷ IncsR X ∷ DecsR X ∷ IncsR W ∷ DecsR W ∷ IncsRrb WX ∷ IncsR L ∷ DecsR L ∷ IncsR W ∷ DecsR W ∷ []

pub cases : Cases
unfolding decode info_of paired coded_of reference_of
cases =
    record {
      tcall = λ y. refl;
      tjp = λ y. refl;
      pair = refl;
      no_pair = refl;
      single = refl;
      no_single = refl;
      firsts_hl = refl;
      firsts_wx = refl;
      firsts_wl = refl;
      table_5_1 = refl;
    }
