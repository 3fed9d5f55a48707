-- Document 02, No. 6, with document 01's "Calls": the bytes from log start to log end that a call of a run wrote, or a list of calls, or a head in a call for
-- several, are a log that a count of litres takes: "whole records of nondecreasing clock with a driven port and a nibble". So of the emulator's own log 16 comes
-- from the marks alone.
-- Assumes nothing.
use Rattle.std.specs.Prelude.{ℕ, ◌-◌, ◌<◌, ◌≡◌, true, cond, List, take, drop, get_or}
use Rattle.numbers.specs.Numbers.{done, litres_refusal}
use Rattle.litres.specs.Log.{is_log}
use Rattle.litres.specs.Farms.{are_marks}
use Rattle.litres.specs.Lines.{lines_of}
use Rattle.calls.specs.Calls.{Called, plain_call, table_call}
use Rattle.invariant.specs.Sound.{Bytes}
use Rattle.budgets.specs.Claim.{Listed, calls_over}
use Rattle.heads.specs.Heads.{Lent, log_at, share}
use Rattle.heads.specs.Call.{no_answer, Dispatched, dispatch_of}

-- the bytes of a log from its start to its end
abbrev pub between : ℕ → ℕ → List ℕ → List ℕ
between start end log = take (end - start) (drop start log)

-- what a call wrote, a list of calls, and head i of a call for several, in its own part of the log. A refused call wrote nothing: its end is the start given, or for
-- several heads 0.
abbrev pub of_call : ℕ → Called → List ℕ
of_call start c = between start c.answer.log_end c.log

abbrev pub of_list : ℕ → Listed → List ℕ
of_list start c = between start c.end c.log

abbrev pub of_head : Lent → ℕ → Dispatched → List ℕ
of_head c i d = between (get_or c.starts i 0) (get_or d.answer.head i no_answer).log_end (log_at i (share c) d.log)

-- a log that is taken, and what the call answers of it: done, or 16 because of the marks
pub record Taken (log : List ℕ) : Type 0 where
  pub is_log_lem : is_log log ≡ true
  pub marks_decide : (marks : List ℕ) → (lines_of log marks).number ≡ cond (are_marks marks) done litres_refusal

-- the claim, for anything that a call is given, refused calls too: both runs, a list of budgets, and each head's own log. A later call of a list reads the state
-- that the call before it left, which asks that ROM and state are bytes.
pub record Logbook : Type 0 where
  pub plain : (rom s t g : List ℕ) (e b : ℕ) → Taken (of_call e (plain_call rom s t g e b))
  pub driven : (rom table s t g : List ℕ) (e b : ℕ) → Taken (of_call e (table_call rom table s t g e b))
  pub lists : (rom table t s g : List ℕ) (e : ℕ) (bs : List ℕ) → Bytes rom → Bytes s → Taken (of_list e (calls_over rom table t s g e bs))
  pub heads : (c : Lent) (q turns i : ℕ) → Bytes c.rom → Bytes c.states → i < c.count → Taken (of_head c i (dispatch_of c q turns))
