-- Document 01, "One step", 1: the records that are due apply in turn: pins, then edges by the mode registers of chapter 7 (Tables 7-5 and 7-6,
-- old pins against new, in any mode), then reset. The cursor moves past them.
-- Assumes nothing.
use Rattle.std.specs.Prelude.{ℕ, zero, suc, ◌+◌, ◌-◌, ◌*◌, ◌%◌, ◌/◌, Bool, true, false, cond, ◌||◌, List, length, drop, set, eqb, leb, Some, None}
use Rattle.std.specs.Int.Bits.{bit_and, bit_or}
use Rattle.chip.specs.declared.Cpu.{Cpu}
use Rattle.chip.specs.declared.Machine.{Machine}
use Rattle.chip.specs.Scalars.{with_pins, with_cursor}
use Rattle.chip.specs.State.{at, nibble_at, slot_of}
use Rattle.chip.specs.Ports.{pins_of}
use Rattle.chip.specs.Reset.{reset_mem, reset_cpu}
use Rattle.record.specs.declared.Record.{Record}
use Rattle.record.specs.Record.{reading_of, pins_after}
use Rattle.trace.specs.Trace.{due_at}
use Rattle.fetch.specs.declared.Code.{Code}

-- an edge of a pin, from its old to its new level, by a mode: 0 rising, 1 falling, 2 both, 3 none
abbrev pub edge_of : ℕ → ℕ → ℕ → ℕ
edge_of mode old new =
    cond (eqb old new) 0 (cond (eqb mode 3) 0 (cond (eqb mode 2) 1 (cond (eqb mode 1) (1 - new) new)))

-- FBEH after the pins of P1 went from old to new: IRQ0, bit 0, by IMOD0; IRQ1, bit 2, by IMOD1
unfoldable pub external_of : List ℕ → ℕ → ℕ → ℕ
external_of l old new =
    bit_or (nibble_at l 0xFBE)
    (edge_of (nibble_at l 0xFB4 % 4) (old % 2) (new % 2) + 4 * edge_of (nibble_at l 0xFB5 % 2) (old / 2 % 2) (new / 2 % 2))

-- FBFH after the pins of P6 went from old to new: IRQK, bit 0, by a falling edge of a pin that IMODK selects
unfoldable pub key_of : List ℕ → ℕ → ℕ → ℕ
key_of l old new = bit_or (nibble_at l 0xFBF) (cond (eqb (bit_and (bit_and old (15 - new)) (nibble_at l 0xFB6 % 8)) 0) 0 1)

unfoldable pub edges_of : List ℕ → ℕ → ℕ → List ℕ
unfolding external_of key_of
edges_of l old new = set (set l (slot_of 0xFBE) (external_of l (pins_of old 1) (pins_of new 1))) (slot_of 0xFBF) (key_of l (pins_of old 6) (pins_of new 6))

-- the scalars with other pins, and the cursor moved on
abbrev pub moved_on : Cpu → ℕ → ℕ → Cpu
moved_on c pins k = with_cursor (with_pins c pins) (c.cursor + k)

-- the machine after a record of k bytes; v is the code at 0000H, whose bytes are the reset vector, and n the ROM's length
unfoldable pub record_applied : Code → ℕ → Machine → Record → ℕ → Machine
unfolding edges_of
record_applied v n m r k =
    let l = edges_of m.mem m.cpu.pins (pins_after m.cpu.pins r) in
    let c = moved_on m.cpu (pins_after m.cpu.pins r) k in
    cond r.reset (at (reset_mem l v.b0) (reset_cpu c n v.b0 v.b1)) (at l c)

-- the machine after the records that are due, at most so many as the trace has bytes left
unfoldable pub applied_from : ℕ → Code → ℕ → List ℕ → Machine → Machine
applied_from zero v n t m = m
applied_from (suc most) v n t m =
    cond (leb (due_at t m.cpu.cursor) m.cpu.clock)
    (elim (reading_of (drop m.cpu.cursor t)) [
      | Some (r, k) ↦ applied_from most v n t (record_applied v n m r k)
      | None ↦ m
    ])
    m

unfoldable pub records_of : Code → ℕ → List ℕ → Machine → Machine
unfolding applied_from
records_of v n t m = applied_from (length t - m.cpu.cursor) v n t m
