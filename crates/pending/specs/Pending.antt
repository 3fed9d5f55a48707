-- Chapter 7 and document 01, "One step", 2 and 3: the interrupt that is served, and what releases idle and stop mode.
-- Assumes nothing.
use Rattle.std.specs.Prelude.{ℕ, ◌+◌, ◌-◌, ◌*◌, ◌%◌, Bool, true, false, cond, ◌||◌, List, eqb, ltb}
use Rattle.chip.specs.State.{nib_at, slot_of}
use Rattle.chip.specs.Memory.{write_to, with_bit}
use Rattle.chip.specs.Interrupts.{source_at, asks_of, ime_of, ipr_of, is_of}

-- no source
abbrev pub no_source : ℕ
no_source = 5

-- the source that IPR names, 1 to 5 in the order of priority, if it asks
unfoldable pub named_of : List ℕ → ℕ
named_of l =
    cond (eqb (ipr_of l) 0) no_source
    (cond (ltb 5 (ipr_of l)) no_source (cond (asks_of l (ipr_of l - 1)) (ipr_of l - 1) no_source))

-- the first source that asks, by priority: INTB, INT0, INT1, INTS, INTT0
unfoldable pub first_of : List ℕ → ℕ
first_of l =
    cond (asks_of l 0) 0 (cond (asks_of l 1) 1 (cond (asks_of l 2) 2 (cond (asks_of l 3) 3 (cond (asks_of l 4) 4 no_source))))

-- Table 7-2: with IS 00 every source, the named one first; with IS 01 the named one alone; else none. IME 0 allows none.
unfoldable pub served_of : List ℕ → ℕ
served_of l =
    cond (eqb (ime_of l) 0) no_source
    (cond (ltb 1 (is_of l)) no_source
    (cond (eqb (is_of l) 1) (named_of l) (cond (eqb (named_of l) no_source) (first_of l) (named_of l))))

-- a vectored source but INT0 asks; any source but INT0 asks
unfoldable pub wakes_vectored : List ℕ → Bool
wakes_vectored l = asks_of l 0 || (asks_of l 2 || (asks_of l 3 || asks_of l 4))

unfoldable pub wakes_of : List ℕ → Bool
unfolding wakes_vectored
wakes_of l = wakes_vectored l || (asks_of l 5 || asks_of l 6)

-- the write that clears the request flag of source k
unfoldable pub acknowledged_of : List ℕ → ℕ → ℕ
unfolding source_at
acknowledged_of l k = write_to (slot_of (source_at k).flags) (with_bit (nib_at l (slot_of (source_at k).flags)) (source_at k).bit 0)
