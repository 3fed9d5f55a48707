-- A record of the trace, by the section "The trace" of document 01: a 16-bit map, low byte first, then only the fields whose bit stands. Bit 8 is a wait
-- of two bytes, low first; bits 0 to 6 are the pins of P0 to P6, a byte each; bit 7 is a reset pulse without a field. The wait stands first, then the ports rising.
-- `lo` is the map's low byte and `hi` its high byte. Assumes nothing.
use Rattle.std.specs.Prelude.{ℕ, zero, suc, ◌+◌, ◌*◌, ◌/◌, ◌%◌, ◌^◌, Bool, true, cond, ◌&&◌, ◌||◌, not, List, eqb, ltb, leb, length, get_or, Option, Some, None}
use Rattle.pins.specs.Pins.{pin_count, nibble, packed}
use Rattle.words.specs.Words.{word_at}
use Rattle.record.specs.declared.Record.{Record}

-- bit k of a byte
abbrev pub bit_of : ℕ → ℕ → ℕ
bit_of byte k = byte / 2 ^ k % 2

-- where port k's field stands: past the map, the wait and the fields of the ports below k
abbrev pub offset : ℕ → ℕ → ℕ → ℕ
offset lo hi zero = 2 + 2 * hi
offset lo hi (suc k) = offset lo hi k + bit_of lo k

-- the record's length
abbrev pub width : ℕ → ℕ → ℕ
width lo hi = offset lo hi 7

-- the wait, and the pins of port k; 0 where the record has no such field
abbrev pub wait : List ℕ → ℕ → ℕ
wait s hi = cond (eqb hi 1) (word_at s 2) 0

abbrev pub field : List ℕ → ℕ → ℕ → ℕ → ℕ
field s lo hi k = cond (eqb (bit_of lo k) 1) (get_or s (offset lo hi k) 0) 0

-- no bit of an absent pin stands in port k's field, and in the fields of n ports from k on
abbrev pub present : (ℕ → ℕ) → ℕ → Bool
present f k = ltb (f k) (2 ^ pin_count k)

abbrev pub present_from : (ℕ → ℕ) → ℕ → ℕ → Bool
present_from f k zero = true
present_from f k (suc n) = present f k && present_from f (suc k) n

-- a wait that the map announces is not 0, and absent pins are 0
unfoldable pub sound : ℕ → ℕ → (ℕ → ℕ) → Bool
sound hi w f = (eqb hi 0 || not (eqb w 0)) && present_from f 0 7

-- the map is there, is not 0 and has no bit of 9 to 15
unfoldable pub mapped : List ℕ → Bool
mapped s = leb 2 (length s) && (leb (get_or s 1 0) 1 && not (eqb (word_at s 0) 0))

-- the record of a map's low byte, a wait and seven fields
abbrev pub record_of : ℕ → ℕ → (ℕ → ℕ) → Record
record_of lo w f = record { wait = w; ports = lo % 128; reset = eqb (bit_of lo 7) 1; pins = packed f }

-- the record with the map lo, hi at the start of s, and its length; malformed where s ends before it or a field is not sound
unfoldable pub read_as : List ℕ → ℕ → ℕ → Option (Record × ℕ)
read_as s lo hi =
    cond (leb (width lo hi) (length s) && sound hi (wait s hi) (field s lo hi)) (Some (record_of lo (wait s hi) (field s lo hi), width lo hi)) None

-- the record at the start of s with its length
unfoldable pub reading_of : List ℕ → Option (Record × ℕ)
reading_of s = cond (mapped s) (read_as s (get_or s 0 0) (get_or s 1 0)) None

-- the pins, a nibble for each port, after the record: a port that has a field takes it, the others keep theirs
unfoldable pub pins_after : ℕ → Record → ℕ
pins_after old r = packed (λ k. cond (eqb (bit_of r.ports k) 1) (nibble r.pins k) (nibble old k))
