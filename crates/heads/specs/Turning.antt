-- What the function that gives a turn answers and leaves, of all that is lent: one head's bytes are changed. A helper.
-- Assumes nothing.
use Rattle.std.specs.Prelude.{ℕ, ◌*◌, ◌+◌, ◌≤◌, ◌<◌, ◌≡◌, List, length, Ok}
use borrow.Rule.Slice.PartMut.{put_mid}
use Rattle.chip.specs.State.{rom0502}
use Rattle.image.specs.Image.{cpu_of, image_size, machine_of}
use Rattle.fetch.specs.declared.Origin.TheVariants.{Table}
use Rattle.fetch.specs.Fetch.{size_of}
use Rattle.trace.specs.Trace.{scan_of}
use Rattle.parts.specs.Parts.{together}
use Rattle.steps.specs.Steps.{Run, steps_over, step_by}
use Rattle.runs.specs.Answer.{due_after}
use Rattle.calls.specs.declared.Answer.{Answer}
use Rattle.calls.specs.declared.Pause.{Pause}
use Rattle.calls.specs.Calls.{Called, ran_in}
use Rattle.heads.specs.Heads.{state_at, trace_at, log_at, over_both}

-- head i's turn, from its bytes: w is how long its part of the log is, e where its log ends, q how many steps a turn has
module _ (i : ℕ) (table states traces lengths log : List ℕ) (w e q : ℕ) where
  abbrev pub turn_in : Called
  turn_in = ran_in Table table (state_at i states) (trace_at i lengths traces) (log_at i w log) e q

  abbrev pub steps_in : Run
  steps_in = steps_over (step_by Table table (trace_at i lengths traces)) q (machine_of (state_at i states)) (log_at i w log) e

-- what the turn needs: the head's bytes are there, and were accepted; a is its answer so far
pub record Fitting (i : ℕ) (table states traces lengths log : List ℕ) (w q : ℕ) (a : Answer) (due : ℕ) : Type 0 where
  pub tabled : rom0502 ≤ size_of Table (length table)
  pub state : image_size * i + image_size ≤ length states
  pub listed : i < length lengths
  pub together_long : together lengths ≡ length traces
  pub part : w * i + w ≤ length log
  pub start : a.log_end ≤ w
  pub stands : scan_of (trace_at i lengths traces) (cpu_of (state_at i states)).cursor ≡ Ok due
  pub steps : a.steps + (turn_in i table states traces lengths log w a.log_end q).answer.steps ≤ 4294967295

pub record TurnMade (i : ℕ) (table states traces lengths log : List ℕ) (w q : ℕ) (a : Answer) (r : Pause) (states' log' : List ℕ) : Type 0 where
  pub answer : r.answer ≡ over_both a (turn_in i table states traces lengths log w a.log_end q).answer
  pub states_after : states' ≡ put_mid (image_size * i) image_size states (turn_in i table states traces lengths log w a.log_end q).state
  pub log_after_lem : log' ≡ put_mid (w * i) w log (turn_in i table states traces lengths log w a.log_end q).log
  pub due_after_lem : due_after (trace_at i lengths traces) (steps_in i table states traces lengths log w a.log_end q) r.due
