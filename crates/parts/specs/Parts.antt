-- A call for several heads, by document 02, No. 5: "1 to 8 states in one buffer, one ROM and table, the traces one behind another with their lengths given, an
-- equal part of the log buffer each (a remainder unused) with its log start in that part given". "It refuses 14 for a head count outside 1 to 8, a list of lengths
-- or starts of another size, or trace lengths that don't add up to the buffer, then 15 for q = 0, both before 1." The lengths add up as exact numbers, never
-- modulo 2^64. Assumes nothing.
use Rattle.std.specs.Prelude.{ℕ, zero, suc, ◌+◌, ◌/◌, Bool, cond, ◌&&◌, List, [], ◌∷◌, ◌++◌, eqb, leb, length, take, drop}
use Rattle.numbers.specs.Numbers.{done, heads_refusal, turn_refusal}

abbrev pub most_heads : ℕ
most_heads = 8

-- the lengths added up, as exact numbers
unfoldable pub together : List ℕ → ℕ
together [] = 0
together (x ∷ xs) = x + together xs

-- whether n heads, a traces' buffer of so many bytes, the lengths of the traces and the starts of the logs go together
unfoldable pub heads_fit : ℕ → ℕ → List ℕ → List ℕ → Bool
heads_fit n bytes lens starts =
    leb 1 n && leb n most_heads && eqb (length lens) n && eqb (length starts) n && eqb (together lens) bytes

-- the number that refuses before 1, where a turn has q steps, or done
unfoldable pub heads_number : ℕ → ℕ → List ℕ → List ℕ → ℕ → ℕ
heads_number n bytes lens starts q = cond (heads_fit n bytes lens starts) (cond (eqb q 0) turn_refusal done) heads_refusal

-- the w bytes of s from the place a on
abbrev pub part_of : ℕ → ℕ → List ℕ → List ℕ
part_of a w s = take w (drop a s)

-- how many bytes of a log of g bytes each of n heads has: whole ones, the remainder unused
abbrev pub share_of : ℕ → ℕ → ℕ
share_of g n = g / n

-- n lists one behind another
unfoldable pub joined : ℕ → (ℕ → List ℕ) → List ℕ
joined zero f = []
joined (suc n) f = joined n f ++ f n
