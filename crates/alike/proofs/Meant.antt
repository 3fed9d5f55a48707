-- The machine that is given a meaning in the place of a trace: the events that are due apply in turn, and the others are left. Where the records of a trace stand at
-- a cursor, they do what their events do, whatever wait-only records stand between them.
-- Assumes nothing.
use Prim.Native.Nat.{ℕ, zero, suc, ◌+◌, ◌≤◌, ◌<◌}
use native.Mathlib.Omega.{arith}
use native.Mathlib.Decide.{dec_le}
use mathlib.Core.Path.{◌≡◌, ◌∙◌, refl, sym, ap, subst, subst⁻¹}
use mathlib.Core.Bool.{Bool, true, false, cond}
use mathlib.Core.List.{List, [], ◌∷◌}
use mathlib.Core.Logic.{◌⊎◌, ⊎_elim}
use borrow.Author.Tests.{le-leb, lt-leb}
use lib.Dec.{leb}
use lib.ListN.{length}
use Rattle.std.specs.Prelude.{Option, Ok}
use Rattle.chip.specs.declared.Machine.{Machine}
use Rattle.chip.specs.State.{rom0502, rom0504}
use Rattle.fetch.specs.declared.Code.{Code}
use Rattle.record.specs.declared.Record.{Record}
use Rattle.trace.specs.Trace.{never, scan_of, due_next}
use Rattle.trace.proofs.Entries.{Reads, look, placed, entry, entries_none, remaining, remaining_found, next_found, next_none, everywhere}
use Rattle.trace.proofs.Ready.{due_reads, ready_next}
use Rattle.events.specs.Records.{record_applied, records_of}
use Rattle.arrivals.specs.Arrivals.{after_reading}
use Rattle.arrivals.proofs.Arriving.{applied_cursor, applied_clock, records_none, records_advance}
use Rattle.tidy.specs.Meaning.{Event, only_waits, event_of, events_in}
use Rattle.invariant.specs.Sound.{Sound}
use Rattle.invariant.proofs.Arrived.{record_stands}
use Rattle.alike.proofs.Unseen.{but}
use Rattle.alike.proofs.Waits.{body_of, wait_but, event_but}

-- the machine after the events that are due; v is the code at 0000H and n the ROM's length
unfoldable pub events_applied : Code → ℕ → List Event → Machine → Machine
events_applied v n [] m = m
events_applied v n (x ∷ xs) m = cond (leb x.due m.cpu.clock) (events_applied v n xs (record_applied v n m (body_of x) 0)) m

-- the events that are left
unfoldable pub events_left : ℕ → List Event → List Event
events_left clock [] = []
events_left clock (x ∷ xs) = cond (leb x.due clock) (events_left clock xs) (x ∷ xs)

-- no event is due: the first is not
abbrev Later : ℕ → List Event → Type 0
Later clock [] = Unit {0}
Later clock (x ∷ xs) = clock < x.due

applied_later : (v : Code) (n : ℕ) (xs : List Event) (m : Machine) → Later m.cpu.clock xs → events_applied v n xs m ≡ m
unfolding events_applied
applied_later v n [] m h = refl
applied_later v n (x ∷ xs) m h = rw (lt-leb x.due m.cpu.clock h)

left_later : (clock : ℕ) (xs : List Event) → Later clock xs → events_left clock xs ≡ xs
unfolding events_left
left_later clock [] h = refl
left_later clock (x ∷ xs) h = rw (lt-leb x.due clock h)

-- the first is due
applied_one : (v : Code) (n : ℕ) (x : Event) (xs : List Event) (m : Machine) → x.due ≤ m.cpu.clock →
    events_applied v n (x ∷ xs) m ≡ events_applied v n xs (record_applied v n m (body_of x) 0)
unfolding events_applied
applied_one v n x xs m h = rw (le-leb x.due m.cpu.clock h)

left_one : (clock : ℕ) (x : Event) (xs : List Event) → x.due ≤ clock → events_left clock (x ∷ xs) ≡ events_left clock xs
unfolding events_left
left_one clock x xs h = rw (le-leb x.due clock h)

-- the events of the records that are left where there is a record
events_found : (t : List ℕ) (at passed : ℕ) (q : Reads t at) →
    events_in (remaining t at passed) ≡
    (let xs = events_in (remaining t (at + q.size) (passed + q.body.wait)) in
    cond (only_waits q.body) xs (event_of (entry at q.body q.size passed) ∷ xs))
unfolding events_in
events_found t at passed q = ap events_in (remaining_found t at passed q.body q.size q.found)

-- due times do not fall: where the record that stands there is not due, no event behind it is
module _ (t : List ℕ) (clock : ℕ) (within : clock < never) where
  next_later : (at passed : ℕ) → clock < passed → clock < due_next t at passed
  next_later at passed h =
      ⊎_elim (λ (q : Reads t at). omega (arith, next_found t at passed q.body q.size q.found))
      (λ e. omega (arith, next_none t at passed e)) (look t at)

  later_by : (b : Bool) (x : Event) (xs : List Event) → clock < x.due → Later clock xs → Later clock (cond b xs (x ∷ xs))
  later_by true x xs p h = h
  later_by false x xs p h = p

  later_left : (at passed : ℕ) → clock < due_next t at passed → Later clock (events_in (remaining t at passed))
  unfolding events_in
  later_left =
      everywhere t (λ (at passed : ℕ). clock < due_next t at passed → Later clock (events_in (remaining t at passed)))
      (λ at passed e h. subst⁻¹ (λ (es : List Event). Later clock es) (ap events_in (entries_none _ t at passed e)) tt)
      (λ at passed q behind h.
      let d : clock < passed + q.body.wait = omega (arith, next_found t at passed q.body q.size q.found) in
      subst⁻¹ (Later clock) (events_found t at passed q)
      (later_by (only_waits q.body) (event_of (entry at q.body q.size passed)) _ d
      (behind (next_later (at + q.size) (passed + q.body.wait) d))))

-- the machine m stands in the trace t where the events xs are left
pub record Faces (t : List ℕ) (xs : List Event) (m : Machine) : Type 0 where
  pub passed : ℕ
  pub stands : scan_of t m.cpu.cursor ≡ Ok (due_next t m.cpu.cursor passed)
  pub left : events_in (remaining t m.cpu.cursor passed) ≡ xs

module _ (v : Code) (n : ℕ) (t : List ℕ) where
  -- r is what the records of t, whose events are xs, make of m
  pub record Came (r m : Machine) (xs : List Event) : Type 0 where
    pub machine : but r 0 ≡ events_applied v n xs (but m 0)
    pub faces : Faces t (events_left m.cpu.clock xs) r

  none_came : (m : Machine) (passed : ℕ) (xs : List Event) → scan_of t m.cpu.cursor ≡ Ok (due_next t m.cpu.cursor passed) →
      events_in (remaining t m.cpu.cursor passed) ≡ xs → Later m.cpu.clock xs → Came m m xs
  none_came m passed xs s e h =
      record {
        machine = sym (applied_later v n xs (but m 0) h);
        faces = record { passed = passed; stands = s; left = e ∙ sym (left_later m.cpu.clock xs h) };
      }

  -- one record, by whether it only waits; m' is the machine after it
  one_came : (r m m' : Machine) (b : Bool) (x : Event) (xs : List Event) → m'.cpu.clock ≡ m.cpu.clock → x.due ≤ m.cpu.clock →
      (b ≡ true → but m' 0 ≡ but m 0) → but m' 0 ≡ record_applied v n (but m 0) (body_of x) 0 → Came r m' xs → Came r m (cond b xs (x ∷ xs))
  one_came r m m' true x xs c p waits does h =
      record {
        machine = h.machine ∙ ap (events_applied v n xs) (waits refl);
        faces = subst (λ (k : ℕ). Faces t (events_left k xs) r) c h.faces;
      }
  one_came r m m' false x xs c p waits does h =
      record {
        machine = h.machine ∙ ap (events_applied v n xs) does ∙ sym (applied_one v n x xs (but m 0) p);
        faces =
            subst⁻¹ (λ (es : List Event). Faces t es r) (left_one m.cpu.clock x xs p)
            (subst (λ (k : ℕ). Faces t (events_left k xs) r) c h.faces);
      }

  module _ (rom : (n ≡ rom0502) ⊎ (n ≡ rom0504)) (byte : v.b0 < 256) where
    -- the record at the cursor is due
    due_came : (m : Machine) (passed : ℕ) → Sound n m → scan_of t m.cpu.cursor ≡ Ok (due_next t m.cpu.cursor passed) →
        due_next t m.cpu.cursor passed ≤ m.cpu.clock → (q : Reads t m.cpu.cursor) →
        ((m' : Machine) (k : ℕ) → m'.cpu.cursor ≡ m.cpu.cursor + q.size → Sound n m' → scan_of t m'.cpu.cursor ≡ Ok (due_next t m'.cpu.cursor k) →
        Came (records_of v n t m') m' (events_in (remaining t m'.cpu.cursor k))) →
        Came (records_of v n t m) m (events_in (remaining t m.cpu.cursor passed))
    due_came m passed h s y q further =
        let c = m.cpu.cursor in
        let d = due_next t c passed in
        let k = passed + q.body.wait in
        let e : d ≡ k = next_found t c passed q.body q.size q.found in
        let x = entry c q.body q.size passed in
        let m' = record_applied v n m q.body q.size in
        let moves : m'.cpu.cursor ≡ c + q.size = applied_cursor v n m q.body q.size in
        let stands : scan_of t m'.cpu.cursor ≡ Ok (due_next t m'.cpu.cursor k) =
        subst⁻¹ (λ (j : ℕ). scan_of t j ≡ Ok (due_next t j k)) moves
        (ready_next t c d s q.body q.size q.found ∙ ap (λ (i : ℕ). Ok (due_next t (c + q.size) i)) e) in
        let records : records_of v n t m' ≡ records_of v n t m =
        ap (λ (x : Option (Record × ℕ)). records_of v n t (after_reading v n m x)) (sym q.found) ∙ records_advance v n t m d s (omega (arith, h.cpu.clock)) y in
        subst⁻¹ (Came (records_of v n t m) m) (events_found t c passed q)
        (one_came (records_of v n t m) m m' (only_waits q.body) (event_of x) (events_in (remaining t (c + q.size) k))
        (applied_clock v n m q.body q.size) (omega (arith, e, y)) (λ o. wait_but v n m x h o) (event_but v n m x)
        (subst (λ (r : Machine). Came r m' (events_in (remaining t (c + q.size) k))) records
        (subst (λ (j : ℕ). Came (records_of v n t m') m' (events_in (remaining t j k))) moves
        (further m' k moves (record_stands v n t rom byte m h d s q.body q.size q.found).0 stands))))

    came_by : (m : Machine) (passed : ℕ) → Sound n m → scan_of t m.cpu.cursor ≡ Ok (due_next t m.cpu.cursor passed) →
        ((q : Reads t m.cpu.cursor) (m' : Machine) (k : ℕ) → m'.cpu.cursor ≡ m.cpu.cursor + q.size → Sound n m' →
        scan_of t m'.cpu.cursor ≡ Ok (due_next t m'.cpu.cursor k) → Came (records_of v n t m') m' (events_in (remaining t m'.cpu.cursor k))) →
        Came (records_of v n t m) m (events_in (remaining t m.cpu.cursor passed))
    came_by m passed h s further =
        let d = due_next t m.cpu.cursor passed in
        let clock : m.cpu.clock < never = omega (arith, h.cpu.clock) in
        elim (dec_le d m.cpu.clock) [
          | yes y ↦ (let q = due_reads t m.cpu.cursor d s (omega arith) in due_came m passed h s y q (further q))
          | no y ↦
              subst⁻¹ (λ (r : Machine). Came r m (events_in (remaining t m.cpu.cursor passed))) (records_none v n t m d s (omega arith))
              (none_came m passed _ s refl (later_left t m.cpu.clock clock m.cpu.cursor passed (omega arith)))
        ]

    came_in : (f : ℕ) (m : Machine) (passed : ℕ) → length t ≤ m.cpu.cursor + f → Sound n m →
        scan_of t m.cpu.cursor ≡ Ok (due_next t m.cpu.cursor passed) → Came (records_of v n t m) m (events_in (remaining t m.cpu.cursor passed))
    came_in zero m passed l h s =
        came_by m passed h s (λ q m' k e h' s'.
        let p = placed t m.cpu.cursor q.body q.size q.found in
        absurd (omega (arith, p.some, p.inside)))
    came_in (suc f) m passed l h s =
        came_by m passed h s (λ q m' k e h' s'.
        let p = placed t m.cpu.cursor q.body q.size q.found in
        came_in f m' k (omega (arith, p.some, e)) h' s')

    pub came : (m : Machine) (xs : List Event) → Sound n m → Faces t xs m → Came (records_of v n t m) m xs
    came m xs h f =
        subst (Came (records_of v n t m) m) f.left (came_in (length t) m f.passed (omega arith) h f.stands)
