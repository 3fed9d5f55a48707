-- The tidy bytes that are still to come where a pass stands: those that its next record adds, then those that come after it. Assumes nothing.
use Prim.Native.Nat.{ℕ, ◌+◌, ◌-◌}
use mathlib.Core.Path.{◌≡◌, ◌∙◌, ap}
use mathlib.Core.Bool.{Bool, true, false, cond}
use mathlib.Core.List.{List, [], ◌∷◌, ◌++◌}
use lib.ListN.{length, drop}
use Rattle.std.specs.Prelude.{Some, None}
use Rattle.record.specs.Record.{reading_of}
use Rattle.record.specs.declared.Record.{Record}
use Rattle.trace.specs.Trace.{Entry}
use Rattle.trace.proofs.Entries.{entry, entries_none, remaining, remaining_found}
use Rattle.tidy.specs.Meaning.{only_waits, events_in}
use Rattle.tidy.specs.Tidy.{event_bytes, tidy_from}
use Rattle.tidy.specs.Passage.{event_at}

-- the bytes of the records left at `at`, `passed` being the due time of the record before them and `last` that of the event before them
abbrev pub to_come : List ℕ → ℕ → ℕ → ℕ → List ℕ
to_come s at passed last = tidy_from last (events_in (remaining s at passed))

module _ (s : List ℕ) (at passed last : ℕ) where
  pub none_to_come : reading_of (drop at s) ≡ None → to_come s at passed last ≡ []
  unfolding events_in tidy_from
  none_to_come e = ap (λ (es : List Entry). tidy_from last (events_in es)) (entries_none (length s - at) s at passed e)

  module _ (r : Record) (n : ℕ) (e : reading_of (drop at s) ≡ Some (r, n)) where
    found_first : to_come s at passed last ≡ tidy_from last (events_in (entry at r n passed ∷ remaining s (at + n) (passed + r.wait)))
    found_first = ap (λ (es : List Entry). tidy_from last (events_in es)) (remaining_found s at passed r n e)

    by : (b : Bool) → only_waits r ≡ b →
        tidy_from last (events_in (entry at r n passed ∷ remaining s (at + n) (passed + r.wait))) ≡
        tidy_from last (cond b (events_in (remaining s (at + n) (passed + r.wait))) (event_at (passed + r.wait) r ∷ events_in (remaining s (at + n) (passed + r.wait))))
    unfolding events_in
    by b h = ap (λ (x : Bool). tidy_from last (cond x (events_in (remaining s (at + n) (passed + r.wait))) (event_at (passed + r.wait) r ∷ events_in (remaining s (at + n) (passed + r.wait))))) h

    -- a record that only waits adds no bytes, and the gap goes on
    pub wait_to_come : only_waits r ≡ true → to_come s at passed last ≡ to_come s (at + n) (passed + r.wait) last
    wait_to_come h = found_first ∙ by true h

    -- an event ends the gap
    pub event_to_come : only_waits r ≡ false →
        to_come s at passed last ≡ event_bytes (passed + r.wait - last) (event_at (passed + r.wait) r) ++ to_come s (at + n) (passed + r.wait) (passed + r.wait)
    unfolding tidy_from
    event_to_come h = found_first ∙ by false h
