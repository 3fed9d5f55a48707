-- Document 01, "The state", with the bytes of document 02, No. 1 and 2: the layout of the image, and number 4's field test.
-- Assumes nothing.
use Rattle.std.specs.Prelude.{ℕ, zero, suc, ◌+◌, ◌-◌, ◌%◌, Bool, true, false, cond, List, [], ◌∷◌, ◌++◌, get_or, take, eqb, ltb, Option, Some, None}
use Rattle.pins.specs.Pins.{all_pins, nibble, packed}
use Rattle.words.specs.Words.{word_at, long_at, bytes_of}
use Rattle.chip.specs.declared.Cpu.{Cpu}
use Rattle.chip.specs.declared.Machine.{Machine}
use Rattle.chip.specs.Reset.{held_cycles}
use Rattle.chip.specs.State.{nibbles, at, slot_of}

abbrev pub image_size : ℕ
image_size = 666

-- where the fields stand behind the nibbles: 640 PC, 642 SMB, 643 SRB, 644 mode, 645 carried effect, 646 release count
abbrev pub at_pc : ℕ
at_pc = nibbles

abbrev pub at_smb : ℕ
at_smb = at_pc + 2

abbrev pub at_srb : ℕ
at_srb = at_smb + 1

abbrev pub at_mode : ℕ
at_mode = at_srb + 1

abbrev pub at_effect : ℕ
at_effect = at_mode + 1

abbrev pub at_release : ℕ
at_release = at_effect + 1

-- 647 the pins of P0 to P6, 654 clock, 658 trace cursor, 662 what the basic timer keeps, 664 what remains of the hold
abbrev pub at_pins : ℕ
at_pins = at_release + 1

abbrev pub at_clock : ℕ
at_clock = at_pins + 7

abbrev pub at_cursor : ℕ
at_cursor = at_clock + 4

abbrev pub at_timing : ℕ
at_timing = at_cursor + 4

abbrev pub at_hold : ℕ
at_hold = at_timing + 2

-- the byte of port p's pins, of which the low nibble counts
abbrev pub pin_byte : List ℕ → ℕ → ℕ
pin_byte s p = get_or s (at_pins + p) 0

unfoldable pub pins_in : List ℕ → ℕ
pins_in s = packed (λ p. pin_byte s p % 16)

unfoldable pub cpu_of : List ℕ → Cpu
unfolding pins_in
cpu_of s =
    record {
      pc = word_at s at_pc;
      smb = get_or s at_smb 0;
      srb = get_or s at_srb 0;
      mode = get_or s at_mode 0;
      effect = get_or s at_effect 0;
      release = get_or s at_release 0;
      pins = pins_in s;
      clock = long_at s at_clock;
      cursor = long_at s at_cursor;
      timing = record { basic = word_at s at_timing; hold = word_at s at_hold };
    }

-- the machine that an image holds
abbrev pub machine_of : List ℕ → Machine
machine_of s = at (take nibbles s) (cpu_of s)

-- a byte for each port
abbrev pub pin_bytes : ℕ → List ℕ
pin_bytes pins = nibble pins 0 ∷ nibble pins 1 ∷ nibble pins 2 ∷ nibble pins 3 ∷ nibble pins 4 ∷ nibble pins 5 ∷ nibble pins 6 ∷ []

-- the bytes of the scalars
unfoldable pub scalars_of : Cpu → List ℕ
scalars_of c =
    bytes_of 2 c.pc ++ (c.smb ∷ c.srb ∷ c.mode ∷ c.effect ∷ c.release ∷ []) ++
    pin_bytes c.pins ++ bytes_of 4 c.clock ++ bytes_of 4 c.cursor ++ bytes_of 2 c.timing.basic ++ bytes_of 2 c.timing.hold

-- the image of a machine
abbrev pub image_of : Machine → List ℕ
image_of m = m.mem ++ scalars_of m.cpu

-- a nibble's byte is at most 15, and F80H is even
abbrev pub nibble_fits : ℕ → ℕ → Bool
nibble_fits i b = cond (ltb 15 b) false (cond (eqb i (slot_of 0xF80)) (eqb (b % 2) 0) true)

-- the first of k bytes from i on that is no nibble; i + k if there is none
unfoldable pub nibble_fault : ℕ → ℕ → List ℕ → ℕ
nibble_fault zero i s = i
nibble_fault (suc k) i s = cond (nibble_fits i (get_or s i 0)) (nibble_fault k (suc i) s) i

-- a field: its first byte, how many bytes it has, 1 or 2, and the most that it may hold
pub record Field : Type 0 where
  pub offset : ℕ
  pub width : ℕ
  pub most : ℕ

abbrev pub field : ℕ → ℕ → ℕ → Field
field i w v = record { offset = i; width = w; most = v }

-- what a field holds
abbrev pub value_in : List ℕ → Field → ℕ
value_in s f = cond (eqb f.width 2) (word_at s f.offset) (get_or s f.offset 0)

-- the bits of absent pins are 0
abbrev pub pin_field : ℕ → Field
pin_field p = field (at_pins + p) 1 (all_pins p)

unfoldable pub pin_fields : List Field
pin_fields = pin_field 0 ∷ pin_field 1 ∷ pin_field 2 ∷ pin_field 3 ∷ pin_field 4 ∷ pin_field 5 ∷ pin_field 6 ∷ []

-- bits 0-11 are the divider's phase, bits 12-14 the watchdog's count, and bit 15 is 0; no more remains of the hold than a reset makes it
unfoldable pub timing_fields : List Field
timing_fields = field at_timing 2 32767 ∷ field at_hold 2 held_cycles ∷ []

-- the fields behind the nibbles that a state for a ROM of n bytes may hold only so much in
unfoldable pub fields : ℕ → List Field
fields n =
    field at_pc 2 (n - 1) ∷
    field at_smb 1 15 ∷
    field at_srb 1 3 ∷
    field at_mode 1 2 ∷
    field at_effect 1 3 ∷
    field at_release 1 2 ∷
    pin_fields ++ timing_fields

-- the first byte of the first field that holds too much; the image's size if there is none
unfoldable pub first_over : List Field → List ℕ → ℕ
first_over [] s = image_size
first_over (f ∷ fs) s = cond (ltb f.most (value_in s f)) f.offset (first_over fs s)

-- number 4: the lowest offending offset of an image for a ROM of n bytes, the field's first byte; the image's size if every field fits
unfoldable pub fault_of : List ℕ → ℕ → ℕ
fault_of s n = cond (ltb (nibble_fault nibbles 0 s) nibbles) (nibble_fault nibbles 0 s) (first_over (fields n) s)

-- what a search found that answers `end` where there is nothing to find
abbrev pub found : ℕ → ℕ → Option ℕ
found end i = cond (ltb i end) (Some i) None
