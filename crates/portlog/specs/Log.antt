-- Document 01, "One step": "For P0, P3, P4, P5, P6 in turn, where a step changed the driven value, 6 bytes go to the log: clock after the
-- step (4, low first), port, nibble."
-- Assumes nothing.
use Rattle.std.specs.Prelude.{ℕ, ◌+◌, ◌*◌, ◌%◌, ◌/◌, Bool, true, false, cond, List, [], ◌∷◌, ◌++◌, length, take, drop, eqb}
use Rattle.chip.specs.State.{slot_of}
use Rattle.effects.specs.declared.Effect.{Effect}
use Rattle.effects.specs.Effects.{writes_of}

-- the log with w written from e on: what stands before e and past w is kept
abbrev pub written : List ℕ → ℕ → List ℕ → List ℕ
written l e w = take e l ++ (w ++ drop (length w) (drop e l))

-- the record of port p and its driven value v
abbrev pub log_record : ℕ → ℕ → ℕ → List ℕ
log_record clock p v = clock % 256 ∷ clock / 256 % 256 ∷ clock / 65536 % 256 ∷ clock / 16777216 ∷ p ∷ v ∷ []

-- the record of port p, where its driven value changed: `was` and `is` are what each port drove before the step, and drives after it
unfoldable pub change_of : ℕ → (ℕ → ℕ) → (ℕ → ℕ) → ℕ → List ℕ
change_of clock was is p = cond (eqb (was p) (is p)) [] (log_record clock p (is p))

-- the records of a list of ports, in turn
unfoldable pub changes_of : ℕ → (ℕ → ℕ) → (ℕ → ℕ) → List ℕ → List ℕ
changes_of clock was is [] = []
changes_of clock was is (p ∷ ps) = change_of clock was is p ++ changes_of clock was is ps

-- what a step logs
unfoldable pub logged : ℕ → (ℕ → ℕ) → (ℕ → ℕ) → List ℕ
logged clock was is = changes_of clock was is (0 ∷ 3 ∷ 4 ∷ 5 ∷ 6 ∷ [])

-- the most bytes that a step logs: five records of six bytes
abbrev pub most_logged : ℕ
most_logged = 30

-- what the logged ports drive as one number, as the code compares it: a nibble for each port, P0's lowest
unfoldable pub drives_of : (ℕ → ℕ) → ℕ
drives_of f = f 0 + (4096 * f 3 + (65536 * f 4 + (1048576 * f 5 + 16777216 * f 6)))

-- whether a write goes to the 32 nibbles of FE0H-FFFH, where the latches and the mode flags of the ports are
abbrev pub is_port : ℕ → Bool
is_port x = eqb (x / 512) (slot_of 0xFE0 / 32)

-- whether one of a list of writes does
abbrev pub port_in : List ℕ → Bool
port_in [] = false
port_in (x ∷ xs) = cond (is_port x) true (port_in xs)

-- whether an effect has such a write; a push itself goes to RAM and the stack pointer
unfoldable pub writes_port : Effect → Bool
writes_port e = port_in (writes_of e)
