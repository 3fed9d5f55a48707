-- Chapter 11, Table 11-2, "Basic Timer Mode Register (BMOD) Organization": the tap of the free-running divider by which BCNT counts, a line for each
-- value of BMOD.2-0. A tap fx/2^k is the number k.
-- Assumes nothing.
use Rattle.std.specs.Prelude.{ℕ, ◌%◌, List, [], ◌∷◌, get_or}

-- a value that the table doesn't print counts by fx/2^12: "BT counter operation cannot be stopped"
unfoldable pub table_11_2 : List ℕ
table_11_2 =
    12 ∷  -- 000 fx/2^12
    12 ∷  -- 001
    12 ∷  -- 010
    9 ∷  -- 011 fx/2^9
    12 ∷  -- 100
    7 ∷  -- 101 fx/2^7
    12 ∷  -- 110
    5 ∷  -- 111 fx/2^5
    []

unfoldable pub tap_of : ℕ → ℕ
unfolding table_11_2
tap_of bmod = get_or table_11_2 (bmod % 8) 12
