-- The tidy form is never longer than the trace (docs/DECISIONS.md, 50). The bytes that a pass has saved pay for the wait-only records of the gap that it is in: each of the
-- trace's took four bytes and has at most 65,535 of the gap. Assumes nothing.
use Prim.Native.Nat.{ℕ, suc, ◌+◌, ◌*◌, ◌-◌, ◌≤◌}
use native.Mathlib.Omega.{arith}
use native.Mathlib.Nat.{eq-zero-or-pos}
use mathlib.Core.Path.{◌≡◌, ◌∙◌, refl, ap}
use mathlib.Core.Bool.{Bool, true, false}
use mathlib.Core.List.{List}
use mathlib.Core.Logic.{⊎_elim}
use lib.ListN.{length, length-append, drop}
use Rattle.std.specs.Prelude.{None}
use Rattle.record.specs.Record.{reading_of}
use Rattle.record.proofs.Records.{Bytes}
use Rattle.trace.specs.Trace.{Entry}
use Rattle.trace.proofs.Entries.{Reads, placed, bytes_drop, everywhere, at_first}
use Rattle.tidy.specs.Meaning.{only_waits, events_in}
use Rattle.tidy.specs.Tidy.{full_waits, own_wait, wait_bytes, event_bytes, tidy_from, tidy_of}
use Rattle.tidy.specs.Passage.{event_at}
use Rattle.tidy.proofs.Encoding.{found_size, found_wait}
use Rattle.tidy.proofs.Gaps.{fields_size, no_wait_size, wait_size, record_size_lem, event_size, own_some}
use Rattle.tidy.proofs.Passing.{to_come, none_to_come, wait_to_come, event_to_come}

module _ (s : List ℕ) (y : Bytes s) where
  -- c wait-only records are paid for
  abbrev Paid : ℕ → ℕ → Type 0
  Paid at passed = (last c : ℕ) → last ≤ passed → passed - last ≤ 65535 * c → length (to_come s at passed last) ≤ 4 * c + (length s - at)

  paid_none : (at passed : ℕ) → reading_of (drop at s) ≡ None → Paid at passed
  paid_none at passed e last c o h = rw (none_to_come s at passed last e) (omega arith)

  module _ (at passed : ℕ) (q : Reads s at) where
    abbrev w : ℕ
    w = q.body.wait

    abbrev k : ℕ
    k = fields_size (event_at (passed + w) q.body)

    size : q.size ≡ 1 + length (wait_bytes w) + k
    size = found_size (drop at s) q.body q.size (passed + w) (bytes_drop s at y) q.found ∙ record_size_lem w (event_at (passed + w) q.body)

    short : w ≤ 65535
    short = found_wait (drop at s) q.body q.size (bytes_drop s at y) q.found

    module _ (more : Paid (at + q.size) (passed + w)) (last c : ℕ) (o : last ≤ passed) (h : passed - last ≤ 65535 * c) where
      inside : at + q.size ≤ length s
      inside = (placed s at q.body q.size q.found).inside

      -- a wait of its own pays for one record more
      waits : only_waits q.body ≡ true → length (to_come s at passed last) ≤ 4 * c + (length s - at)
      waits z =
          rw (wait_to_come s at passed last q.body q.size q.found z)
          (⊎_elim (λ v. omega (arith, more last c (omega arith) (omega arith)))
          (λ v. omega (arith, more last (suc c) (omega arith) (omega (arith, short)), size, wait_size w (λ u. omega arith), inside))
          (eq-zero-or-pos w))

      abbrev g : ℕ
      g = passed + w - last

      -- the records of the gap, and the wait of the event's own record
      paid : 4 * full_waits g + length (wait_bytes (own_wait g)) ≤ 4 * c + length (wait_bytes w)
      paid =
          ⊎_elim
          (λ v.
          ⊎_elim (λ u. omega (arith, no_wait_size w v, no_wait_size (own_wait g) (omega arith)))
          (λ u. omega (arith, no_wait_size w v, wait_size (own_wait g) (λ x. omega (arith, own_some g u)))) (eq-zero-or-pos g))
          (λ v. omega (arith, short, wait_size w (λ x. omega arith), wait_size (own_wait g) (λ x. omega (arith, own_some g (omega arith))))) (eq-zero-or-pos w)

      event : only_waits q.body ≡ false → length (to_come s at passed last) ≤ 4 * c + (length s - at)
      event z =
          let e = event_at (passed + w) q.body in
          rw (event_to_come s at passed last q.body q.size q.found z)
          (omega (
            arith,
            length-append (event_bytes g e) (to_come s (at + q.size) (passed + w) (passed + w)),
            event_size g e,
            paid,
            size,
            inside,
            more (passed + w) 0 (omega arith) (omega arith),
          ))

      either : (b : Bool) → only_waits q.body ≡ b → length (to_come s at passed last) ≤ 4 * c + (length s - at)
      either true z = waits z
      either false z = event z

    paid_found : Paid (at + q.size) (passed + w) → Paid at passed
    paid_found more last c o h = either more last c o h _ refl

  pub tidy_shorter : length (tidy_of s) ≤ length s
  tidy_shorter =
      let h = everywhere s Paid paid_none paid_found 0 0 0 0 (omega arith) (omega arith) in
      omega (arith, h, ap (λ (es : List Entry). length (tidy_from 0 (events_in es))) (at_first s))
