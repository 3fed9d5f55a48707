-- What an operand of a whole byte, or of a byte and the bits above it, is as a number.
-- Assumes nothing.
use Prim.Native.Nat.{ℕ, ◌+◌, ◌*◌, ◌/◌, ◌%◌, ◌≤◌, ◌<◌}
use native.Mathlib.Nat.{add_assoc, zero-add}
use native.Mathlib.Omega.{arith}
use mathlib.Core.Path.{◌≡◌, refl, ap, ap₂, sym, ◌∙◌}
use mathlib.Core.List.{List, [], ◌∷◌, ◌++◌}
use lib.ListN.{length}
use mir.Syntax.{w8}
use mir.Val.{Fits}
use Rattle.codes.specs.Cells.{Cell, Letter, a, a0, a1, a2, a3, a4, a5, a6, a7, bits_of, byte, operand, weighs}
use Rattle.codes.specs.declared.Instr.{Instr}
use Rattle.codes.proofs.Ranges.{each, values, within}

-- a byte of operand bits alone, and after a byte that has none
abbrev pub alone : ℕ → ℕ
alone y = operand a (byte a7 a6 a5 a4 a3 a2 a1 a0) (bits_of y)

abbrev pub behind : ℕ → ℕ
behind n = 0 + (0 + (0 + (0 + (0 + (0 + (0 + (0 + n)))))))

alone_is : (y : ℕ) → y < 256 → alone y ≡ y
alone_is y h = within alone (λ y. y) 0 256 refl y (omega arith) (omega arith)

pub behind_is : (n : ℕ) → behind n ≡ n
behind_is n = omega arith

-- an instruction of a whole second byte
pub of_byte : (f : ℕ → Instr) {r : Instr} (y : ℕ) → y < 256 → f (behind (alone y)) ≡ r → f y ≡ r
of_byte f y h e = ap f (sym (behind_is (alone y) ∙ alone_is y h)) ∙ e

operand_append : (l : Letter) (cs : List Cell) (bs : List ℕ) (ds : List Cell) (es : List ℕ) → length cs ≡ length bs → operand l (cs ++ ds) (bs ++ es) ≡ operand l cs bs + operand l ds es
operand_append l [] [] ds es h = sym (zero-add (operand l ds es))
operand_append l [] (v ∷ bs) ds es h = absurd (omega arith)
operand_append l (c ∷ cs) [] ds es h = absurd (omega arith)
operand_append l (c ∷ cs) (v ∷ bs) ds es h =
    ap (λ (n : ℕ). weighs l c v + n) (operand_append l cs bs ds es (omega arith)) ∙ sym (add_assoc (weighs l c v) (operand l cs bs) (operand l ds es))

-- an address whose low byte is y, and whose bits above stand in the cells of the byte x
abbrev pub joined : List Cell → ℕ → ℕ → ℕ
joined cs x y = operand a (cs ++ byte a7 a6 a5 a4 a3 a2 a1 a0) (bits_of x ++ bits_of y)

pub joined_is : (cs : List Cell) (f : ℕ → ℕ) (lo n : ℕ) → length cs ≡ 8 → values each f lo n ≡ values each (λ x. operand a cs (bits_of x)) lo n → (x y : ℕ) → lo ≤ x → x < lo + n → y < 256 → f x + y ≡ joined cs x y
joined_is cs f lo n s e x y h l q =
    ap₂ ◌+◌ (within f (λ x. operand a cs (bits_of x)) lo n e x h l) (sym (alone_is y q)) ∙ sym (operand_append a cs (bits_of x) (byte a7 a6 a5 a4 a3 a2 a1 a0) (bits_of y) s)

-- the numbers of a REF and of a pair fit a byte
pub ref_fits : (x : ℕ) → x < 128 → Fits w8 (x / 16 * 16 + x % 8 * 2)
ref_fits x h = record { fits = omega arith }

pub row_fits : (x : ℕ) → x < 128 → Fits w8 (x / 16 * 16)
row_fits x h = record { fits = omega arith }

pub even_fits : (x : ℕ) → Fits w8 (x % 8 * 2)
even_fits x = record { fits = omega arith }

pub pair_fits : (x : ℕ) → Fits w8 (x / 2 % 4 * 2)
pair_fits x = record { fits = omega arith }
