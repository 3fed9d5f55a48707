-- Document 02, No. 7: the kinds of a code. Of the codes that fit no row, one is told apart "where only a register of Table 5-7 is outside its letter", another
-- "where only an SMB or SRB number is outside its set": a row would fit it if it took every register of that table, or every number.
-- Assumes nothing.
use Rattle.std.specs.Prelude.{ℕ, ◌%◌, ◌<◌, ◌≡◌, ◌↔◌, Bool, true, false, cond, List, [], ◌∷◌, ◌++◌, eqb}
use Rattle.codes.specs.Cells.{O, I, byte, bits_of, same, d, r, d0, d1, d2, d3}
use Rattle.codes.specs.Registers.{R}
use Rattle.codes.specs.Row.{Row, Limit, any, only, one, two, up_from}
use Rattle.codes.specs.Rows.{rows}
use Rattle.codes.specs.Decode.{fits, info_of, decode, member}
use Rattle.codes.specs.declared.Instr.TheVariants.{Smb, Srb, Undefined as Unread}
use Rattle.codes.specs.declared.Kind.{Kind}
use Rattle.codes.specs.declared.Kind.TheVariants.{Defined, Undefined, Register, Bank}

-- one of the rows passes the test f
abbrev pub some : (Row → Bool) → List Row → Bool
some f [] = false
some f (w ∷ ws) = cond (f w) true (some f ws)

-- Table 5-7 has the letter r. A pair's row prints bits 2 and 1 of its number alone, so that of all registers it takes the four pairs. Table 5-8 has the
-- letter i, and what is limited otherwise is no register: these stay as they are.
abbrev pub widened : Limit → Limit
widened any = any
widened (only l vs) = cond (same l r) (only r R) (only l vs)

abbrev pub widened_row : Row → Row
widened_row w = one w.instr w.cycles w.cells (widened w.limit)

-- SMB n and SRB n, n any number of four bits
unfoldable pub any_bank : List Row
any_bank =
    two (λ o. Smb (o d)) 2 (byte I I O I I I O I) (byte O I O O d3 d2 d1 d0) any ∷  -- SMB n
    two (λ o. Srb (o d)) 2 (byte I I O I I I O I) (byte O I O I d3 d2 d1 d0) any ∷  -- SRB n
    []

-- a code, by its first two bytes, fits a row; fits one whose registers are widened; fits SMB or SRB with any number
unfoldable pub fits_row : ℕ → ℕ → Bool
unfolding rows
fits_row x y = some (fits (bits_of x ++ bits_of y)) rows

unfoldable pub fits_widened : ℕ → ℕ → Bool
unfolding rows
fits_widened x y = some (λ w. fits (bits_of x ++ bits_of y) (widened_row w)) rows

unfoldable pub fits_any_bank : ℕ → ℕ → Bool
unfolding any_bank
fits_any_bank x y = some (fits (bits_of x ++ bits_of y)) any_bank

-- the kind of a code
unfoldable pub kind_of : ℕ → ℕ → Kind
unfolding fits_row fits_widened fits_any_bank
kind_of x y =
    cond (fits_row x y) Defined
    (cond (fits_widened x y) Register
    (cond (fits_any_bank x y) Bank Undefined))

-- each kind in its own words: a code is of the kind k
abbrev pub Is : Kind → ℕ → ℕ → Type 0
Is Defined x y = fits_row x y ≡ true
Is Register x y = (fits_row x y ≡ false) × (fits_widened x y ≡ true)
Is Bank x y = (fits_row x y ≡ false) × (fits_any_bank x y ≡ true)
Is Undefined x y = (fits_row x y ≡ false) × (fits_widened x y ≡ false) × (fits_any_bank x y ≡ false)

-- the second bytes after DCH that have EA in RRb's place, those after DDH that have A in Ra's, and those after DDH that have an SMB or SRB number outside its set,
-- 42H to 4EH and 54H to 5FH
abbrev pub pair_codes : List ℕ
pair_codes = 0x10 ∷ 0x20 ∷ 0x30 ∷ 0x90 ∷ 0xA0 ∷ 0xB0 ∷ 0xC0 ∷ 0xE0 ∷ 0xF0 ∷ 0xF8 ∷ []

abbrev pub register_codes : List ℕ
register_codes = 0x00 ∷ 0x08 ∷ []

abbrev pub bank_codes : List ℕ
bank_codes = up_from 13 0x42 1 ++ up_from 12 0x54 1

-- the codes of a register outside its letter: 68H and 80H, whatever follows them; D9H x8H; and those after DCH and DDH
unfoldable pub outside_letter : ℕ → ℕ → Bool
outside_letter x y =
    cond (member x (0x68 ∷ 0x80 ∷ [])) true
    (cond (eqb x 0xD9) (eqb (y % 16) 8)
    (cond (eqb x 0xDC) (member y pair_codes)
    (cond (eqb x 0xDD) (member y register_codes) false)))

-- the codes of a number outside its set
unfoldable pub outside_set : ℕ → ℕ → Bool
outside_set x y = cond (eqb x 0xDD) (member y bank_codes) false

-- a code has one kind, and no other; a defined code is one with a length; and the two kinds that are told apart are those lists
pub record Kinds : Type 0 where
  pub one_kind : (x y : ℕ) → x < 256 → y < 256 → (k : Kind) → Is k x y ↔ (kind_of x y ≡ k)
  pub with_length : (x y : ℕ) → x < 256 → y < 256 → (kind_of x y ≡ Defined) ↔ (info_of x y ≡ 0 → ⊥)
  pub registers : (x y : ℕ) → x < 256 → y < 256 → (kind_of x y ≡ Register) ↔ (outside_letter x y ≡ true)
  pub banks : (x y : ℕ) → x < 256 → y < 256 → (kind_of x y ≡ Bank) ↔ (outside_set x y ≡ true)

-- a defined code is one that is read as an instruction
pub record Readings : Type 0 where
  pub unread : (x y z : ℕ) → x < 256 → y < 256 → (decode x y z ≡ Unread) ↔ (kind_of x y ≡ Defined → ⊥)
