-- Document 01, "Calls": "Stepped over n, the plain machine .. makes one step after another, each from what the step before left, until n are
-- made or a stop comes; n may be more than one budget holds. A stop ends it with the state and log after the last whole step. Its log is the
-- whole buffer: the bytes before the start and past the end are kept, and the end is the start plus 6 for each record written."
-- Assumes nothing.
use Rattle.std.specs.Prelude.{ℕ, zero, suc, ◌+◌, ◌-◌, List, length}
use Rattle.chip.specs.declared.Machine.{Machine}
use Rattle.fetch.specs.declared.Origin.{Origin}
use Rattle.fetch.specs.Fetch.{code_at, size_of}
use Rattle.portlog.specs.Log.{written}
use Rattle.step.specs.Step.{Out, moved, stopped, step_of}

-- how it ends: all steps made, or a stop with its number and place
pub data Ending : Type 0 where
  done : Ending
  stop : ℕ → ℕ → Ending

abbrev pub ending_number : Ending → ℕ
ending_number done = 0
ending_number (stop k p) = k

abbrev pub ending_place : Ending → ℕ
ending_place done = 0
ending_place (stop k p) = p

pub record Run : Type 0 where
  pub state : Machine
  pub log : List ℕ
  pub end : ℕ
  pub steps : ℕ
  pub ending : Ending

-- n more steps of f after k steps are made; a step is given the room that the log has left
unfoldable pub steps_from : (Machine → ℕ → Out) → ℕ → Machine → List ℕ → ℕ → ℕ → Run
steps_from f zero m l e k = record { state = m; log = l; end = e; steps = k; ending = done }
steps_from f (suc n) m l e k =
    elim (f m (length l - e)) [
      | moved t w ↦ steps_from f n t (written l e w) (e + length w) (suc k)
      | stopped c p ↦ record { state = m; log = l; end = e; steps = k; ending = stop c p }
    ]

unfoldable pub steps_over : (Machine → ℕ → Out) → ℕ → Machine → List ℕ → ℕ → Run
steps_over f n m l e = steps_from f n m l e 0

-- the step of the machine that takes its codes from a ROM or a table, with the trace t
abbrev pub step_by : Origin → List ℕ → List ℕ → Machine → ℕ → Out
step_by origin code t m room = step_of (code_at origin code) (size_of origin (length code)) t m room
