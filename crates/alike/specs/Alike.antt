-- Document 02, No. 3, with document 01's "Calls": what a tidy trace is for. Two accepted traces that mean the same replay alike: from a state whose cursor is 0, as
-- a fresh state's is, every call answers the same, and leaves the same log and the same state but for the cursor, the number of bytes taken of its own trace.
-- Assumes nothing.
use Rattle.std.specs.Prelude.{ℕ, ◌≡◌, List, take, drop}
use Rattle.image.specs.Image.{at_cursor, at_timing, cpu_of}
use Rattle.tidy.specs.Meaning.{meaning_of, Accepted}
use Rattle.calls.specs.Calls.{Called, plain_call, table_call}
use Rattle.invariant.specs.Sound.{Bytes}
use Rattle.budgets.specs.Claim.{sum, Listed, calls_over, total}

-- two states that are the same but for the cursor, bytes 658 to 661
pub record SameState (s t : List ℕ) : Type 0 where
  pub before : take at_cursor s ≡ take at_cursor t
  pub behind : drop at_timing s ≡ drop at_timing t

-- two calls: number, steps, address and log end, the state but for the cursor, and the log
pub record SameCall (c d : Called) : Type 0 where
  pub answer : c.answer ≡ d.answer
  pub state : SameState c.state d.state
  pub log : c.log ≡ d.log

-- two lists of calls, whose budgets may be cut in other ways: what they leave, and the total of steps
pub record SameList (c d : Listed) : Type 0 where
  pub state : SameState c.state d.state
  pub log : c.log ≡ d.log
  pub end : c.end ≡ d.end
  pub steps : total c.answers ≡ total d.answers

-- what is given: a ROM and a state, and two accepted traces that mean the same
pub record Given (rom s x y : List ℕ) : Type 0 where
  pub rom_bytes : Bytes rom
  pub state_bytes : Bytes s
  pub start : (cpu_of s).cursor ≡ 0
  pub first : Accepted x
  pub second : Accepted y
  pub meaning : meaning_of x ≡ meaning_of y

-- the claim, for any log g, log start e and budget: the plain run and the table-driven run, each answer of a list of budgets, and two lists with one sum. Calls
-- that are refused are refused alike.
pub record Alike (rom s x y : List ℕ) : Type 0 where
  pub plain : (g : List ℕ) (e b : ℕ) → SameCall (plain_call rom s x g e b) (plain_call rom s y g e b)
  pub driven : (table g : List ℕ) (e b : ℕ) → SameCall (table_call rom table s x g e b) (table_call rom table s y g e b)
  pub answers : (table g : List ℕ) (e : ℕ) (bs : List ℕ) → (calls_over rom table x s g e bs).answers ≡ (calls_over rom table y s g e bs).answers
  pub lists : (table g : List ℕ) (e : ℕ) (bs cs : List ℕ) → sum bs ≡ sum cs → SameList (calls_over rom table x s g e bs) (calls_over rom table y s g e cs)
