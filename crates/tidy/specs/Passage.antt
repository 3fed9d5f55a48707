-- How far a pass over the records has come on the way to their tidy form (document 02, No. 3): one record further, with the bytes that are added for it.
-- Assumes nothing.
use Rattle.std.specs.Prelude.{ℕ, ◌+◌, ◌*◌, ◌-◌, ◌≤◌, ◌≡◌, Bool, cond, List, [], length, drop, Option, Some, None}
use Rattle.record.specs.declared.Record.{Record}
use Rattle.record.specs.Record.{reading_of}
use Rattle.trace.specs.Trace.{longest}
use Rattle.tidy.specs.Meaning.{Event, only_waits}
use Rattle.tidy.specs.Tidy.{full_waits, own_wait, wait_bytes, event_bytes}
use Rattle.tidy.specs.declared.passage.Passage.{Passage}

-- where a pass begins
abbrev pub first_passage : Passage
first_passage = record { at = 0; passed = 0; last = 0; put = 0 }

-- a record due at a time, as an event
abbrev pub event_at : ℕ → Record → Event
event_at due r = record { due = due; ports = r.ports; pins = r.pins; reset = r.reset }

-- the bytes that a record adds: none where it only waits
abbrev pub added_by : Passage → Option (Record × ℕ) → List ℕ
added_by p (Some (r, n)) = cond (only_waits r) [] (event_bytes (p.passed + r.wait - p.last) (event_at (p.passed + r.wait) r))
added_by p None = []

-- one record further, if there is one
abbrev pub further_by : Passage → Option (Record × ℕ) → Passage
further_by p (Some (r, n)) = record {
  at = p.at + n;
  passed = p.passed + r.wait;
  last = cond (only_waits r) p.last (p.passed + r.wait);
  put = p.put + length (added_by p (Some (r, n)));
}
further_by p None = p

unfoldable pub added_of : List ℕ → Passage → List ℕ
added_of s p = added_by p (reading_of (drop p.at s))

unfoldable pub further_of : List ℕ → Passage → Passage
further_of s p = further_by p (reading_of (drop p.at s))

-- the bytes before a record's fields: the map, and the wait if there is one
abbrev pub head_size : ℕ → ℕ
head_size w = 1 + length (wait_bytes w)

-- what an event's record of n bytes with the wait w adds: the full waits of its gap, a map with the wait that is left, and its own fields
abbrev pub event_adds : Passage → ℕ → ℕ → ℕ
event_adds p n w =
    let g = p.passed + w - p.last in
    4 * full_waits g + head_size (own_wait g) + (n - head_size w)

-- past a record of n bytes with the wait w
abbrev pub past_of : Passage → ℕ → ℕ → Bool → Passage
past_of p n w event = record {
  at = p.at + n;
  passed = p.passed + w;
  last = cond event (p.passed + w) p.last;
  put = cond event (p.put + event_adds p n w) p.put;
}

-- a pass on its way through a trace that is not too long: a wait takes four bytes at least, and no event is later than the record before
pub record Underway (s : List ℕ) (p : Passage) : Type 0 where
  pub short : length s ≤ longest
  pub inside : p.at ≤ length s
  pub paced : 4 * p.passed ≤ 65535 * p.at
  pub ordered : p.last ≤ p.passed
  pub fits : p.put ≤ longest

-- the reader finds a record there
abbrev pub Readable : List ℕ → ℕ → Type 0
Readable s at = reading_of (drop at s) ≡ None → ⊥
