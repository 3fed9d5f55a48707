-- The printed bits of a "Binary Code" row, with the letters of Table 5-4: O and I are the fixed bits 0 and 1; a letter with a number is that bit of the operand
-- that the letter names.
-- Assumes nothing.
use Rattle.std.specs.Prelude.{ℕ, ◌+◌, ◌*◌, ◌/◌, ◌%◌, ◌^◌, Bool, true, cond, ◌&&◌, List, [], ◌∷◌, eqb}

-- the letters that name an operand
pub data Letter : Type 0 where
  d a r i b t : Letter

-- a fixed bit, or a letter with the number of its bit
pub data Cell : Type 0 where
  O I : Cell
  of : Letter → ℕ → Cell

-- a letter's bits, as the rows print them
abbrev pub d0 : Cell
d0 = of d 0

abbrev pub d1 : Cell
d1 = of d 1

abbrev pub d2 : Cell
d2 = of d 2

abbrev pub d3 : Cell
d3 = of d 3

abbrev pub d4 : Cell
d4 = of d 4

abbrev pub d5 : Cell
d5 = of d 5

abbrev pub d6 : Cell
d6 = of d 6

abbrev pub d7 : Cell
d7 = of d 7

abbrev pub a0 : Cell
a0 = of a 0

abbrev pub a1 : Cell
a1 = of a 1

abbrev pub a2 : Cell
a2 = of a 2

abbrev pub a3 : Cell
a3 = of a 3

abbrev pub a4 : Cell
a4 = of a 4

abbrev pub a5 : Cell
a5 = of a 5

abbrev pub a6 : Cell
a6 = of a 6

abbrev pub a7 : Cell
a7 = of a 7

abbrev pub a8 : Cell
a8 = of a 8

abbrev pub a9 : Cell
a9 = of a 9

abbrev pub a10 : Cell
a10 = of a 10

abbrev pub a11 : Cell
a11 = of a 11

abbrev pub a12 : Cell
a12 = of a 12

abbrev pub a13 : Cell
a13 = of a 13

abbrev pub r0 : Cell
r0 = of r 0

abbrev pub r1 : Cell
r1 = of r 1

abbrev pub r2 : Cell
r2 = of r 2

abbrev pub i0 : Cell
i0 = of i 0

abbrev pub i1 : Cell
i1 = of i 1

abbrev pub i2 : Cell
i2 = of i 2

abbrev pub b0 : Cell
b0 = of b 0

abbrev pub b1 : Cell
b1 = of b 1

abbrev pub t1 : Cell
t1 = of t 1

abbrev pub t2 : Cell
t2 = of t 2

abbrev pub t3 : Cell
t3 = of t 3

abbrev pub t4 : Cell
t4 = of t 4

abbrev pub t5 : Cell
t5 = of t 5

abbrev pub t6 : Cell
t6 = of t 6

abbrev pub t7 : Cell
t7 = of t 7

-- the eight printed bits of a byte, bit 7 first
abbrev pub byte : Cell → Cell → Cell → Cell → Cell → Cell → Cell → Cell → List Cell
byte c7 c6 c5 c4 c3 c2 c1 c0 = c7 ∷ c6 ∷ c5 ∷ c4 ∷ c3 ∷ c2 ∷ c1 ∷ c0 ∷ []

-- the eight bits of a number below 256, bit 7 first
abbrev pub bits_of : ℕ → List ℕ
bits_of n = (n / 128 % 2) ∷ (n / 64 % 2) ∷ (n / 32 % 2) ∷ (n / 16 % 2) ∷ (n / 8 % 2) ∷ (n / 4 % 2) ∷ (n / 2 % 2) ∷ (n % 2) ∷ []

-- a bit v of a code may stand where the cell is printed
abbrev pub admits : Cell → ℕ → Bool
admits O v = eqb v 0
admits I v = eqb v 1
admits (of l k) v = true

-- the fixed bits of the printed cells are those of the code; a row of fewer bytes has no cells there
abbrev pub agree : List Cell → List ℕ → Bool
agree [] bs = true
agree (c ∷ cs) [] = true
agree (c ∷ cs) (v ∷ bs) = admits c v && agree cs bs

-- how many of the cells are fixed bits
abbrev pub fixed : List Cell → ℕ
fixed [] = 0
fixed (O ∷ cs) = 1 + fixed cs
fixed (I ∷ cs) = 1 + fixed cs
fixed (of l k ∷ cs) = fixed cs

-- a number for each letter, by which two are compared
abbrev pub number : Letter → ℕ
number d = 0
number a = 1
number r = 2
number i = 3
number b = 4
number t = 5

abbrev pub same : Letter → Letter → Bool
same l k = eqb (number l) (number k)

-- what a bit v of a code, at a cell, adds to the operand that the letter l names
abbrev pub weighs : Letter → Cell → ℕ → ℕ
weighs l O v = 0
weighs l I v = 0
weighs l (of k n) v = cond (same l k) (v * 2 ^ n) 0

-- the operand that a letter names: its bit n is the bit that stands at the letter's cell n
abbrev pub operand : Letter → List Cell → List ℕ → ℕ
operand l [] bs = 0
operand l (c ∷ cs) [] = 0
operand l (c ∷ cs) (v ∷ bs) = weighs l c v + operand l cs bs
