-- Chapter 7, Tables 7-7 and 7-8: the interrupt sources, the location of their flags and IRQx's bit there (IEx is the bit above it), and of
-- a vectored source its vector; by default priority, the two quasi-interrupts last.
-- Assumes nothing.
use Rattle.std.specs.Prelude.{ℕ, ◌%◌, ◌/◌, ◌^◌, Bool, List, [], ◌∷◌, get_or, eqb}
use Rattle.chip.specs.State.{nibble_at}

pub record Source : Type 0 where
  pub flags : ℕ
  pub bit : ℕ
  pub vector : ℕ

abbrev pub source : ℕ → ℕ → ℕ → Source
source flags bit vector = record { flags = flags; bit = bit; vector = vector }

unfoldable pub sources : List Source
sources =
    source 0xFB8 0 0x0002 ∷  -- 0 INTB
    source 0xFBE 0 0x0004 ∷  -- 1 INT0
    source 0xFBE 2 0x0006 ∷  -- 2 INT1
    source 0xFBD 0 0x0008 ∷  -- 3 INTS
    source 0xFBC 0 0x000A ∷  -- 4 INTT0
    source 0xFBA 0 0 ∷  -- 5 INTW
    source 0xFBF 0 0 ∷  -- 6 INTK
    []

unfoldable pub source_at : ℕ → Source
unfolding sources
source_at k = get_or sources k (source 0xFBF 0 0)

-- IEx and IRQx are both 1
unfoldable pub asks_of : List ℕ → ℕ → Bool
unfolding source_at
asks_of l k = eqb (nibble_at l (source_at k).flags / 2 ^ (source_at k).bit % 4) 3

-- the interrupt master enable flag, the priority that IPR names, and the status flags IS1 and IS0
abbrev pub ime_of : List ℕ → ℕ
ime_of l = nibble_at l 0xFB2 / 8

abbrev pub ipr_of : List ℕ → ℕ
ipr_of l = nibble_at l 0xFB2 % 8

abbrev pub is_of : List ℕ → ℕ
is_of l = nibble_at l 0xFB0 / 4
