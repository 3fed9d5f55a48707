-- The records that are due, one after the other: how `records_of` goes on past one record, and where it ends.
-- Assumes nothing.
use Prim.Native.Nat.{ℕ, zero, suc, ◌+◌, ◌-◌, ◌≤◌, ◌<◌}
use native.Mathlib.Omega.{arith}
use native.Mathlib.Decide.{dec_le}
use mathlib.Core.Path.{◌≡◌, refl, sym, ap, ◌∙◌}
use mathlib.Core.Bool.{Bool, true, false, cond}
use mathlib.Core.List.{List}
use borrow.Author.Tests.{le-leb, lt-leb}
use lib.ListN.{length, drop}
use Rattle.std.specs.Prelude.{Option, Some, None, Ok}
use Rattle.chip.specs.declared.Cpu.{Cpu}
use Rattle.chip.specs.declared.Machine.{Machine}
use Rattle.chip.specs.State.{at}
use Rattle.chip.specs.Reset.{reset_cpu}
use Rattle.fetch.specs.declared.Code.{Code}
use Rattle.record.specs.declared.Record.{Record}
use Rattle.record.specs.Record.{reading_of}
use Rattle.record.proofs.Records.{found_fits}
use Rattle.trace.specs.Trace.{never, due_at, scan_of, due_next}
use Rattle.trace.proofs.Entries.{Reads}
use Rattle.trace.proofs.Ready.{standing, due_reads, ready_next, ready_past}
use Rattle.events.specs.Records.{record_applied, applied_from, records_of}
use Rattle.arrivals.specs.Arrivals.{after_reading}

module _ (v : Code) (n : ℕ) where
  cursor_by : (b : Bool) (l s : List ℕ) (c : Cpu) (p : ℕ) → (cond b (at s (reset_cpu c n v.b0 p)) (at l c)).cpu.cursor ≡ c.cursor
  cursor_by true l s c p = refl
  cursor_by false l s c p = refl

  clock_by : (b : Bool) (l s : List ℕ) (c : Cpu) (p : ℕ) → (cond b (at s (reset_cpu c n v.b0 p)) (at l c)).cpu.clock ≡ c.clock
  clock_by true l s c p = refl
  clock_by false l s c p = refl

  -- a record of k bytes moves the cursor by k and leaves the clock
  pub applied_cursor : (m : Machine) (r : Record) (k : ℕ) → (record_applied v n m r k).cpu.cursor ≡ m.cpu.cursor + k
  unfolding record_applied
  applied_cursor m r k = cursor_by r.reset _ _ _ v.b1

  pub applied_clock : (m : Machine) (r : Record) (k : ℕ) → (record_applied v n m r k).cpu.clock ≡ m.cpu.clock
  unfolding record_applied
  applied_clock m r k = clock_by r.reset _ _ _ v.b1

module _ (v : Code) (n : ℕ) (t : List ℕ) where
  dated : (m : Machine) (d : ℕ) → scan_of t m.cpu.cursor ≡ Ok d → due_at t m.cpu.cursor ≡ d
  dated m d h = (standing t m.cpu.cursor d h).dated

  none_due : (f : ℕ) (m : Machine) (d : ℕ) → scan_of t m.cpu.cursor ≡ Ok d → m.cpu.clock < d → applied_from f v n t m ≡ m
  unfolding applied_from
  none_due zero m d h g = refl
  none_due (suc f) m d h g = rw (dated m d h, lt-leb d m.cpu.clock g)

  one_due : (f : ℕ) (m : Machine) (d : ℕ) (r : Record) (k : ℕ) → scan_of t m.cpu.cursor ≡ Ok d → d ≤ m.cpu.clock → reading_of (drop m.cpu.cursor t) ≡ Some (r, k) →
      applied_from (suc f) v n t m ≡ applied_from f v n t (record_applied v n m r k)
  unfolding applied_from
  one_due f m d r k h g e = rw (dated m d h, le-leb d m.cpu.clock g, e)

  -- the machine past one record stands at the next
  next_stands : (m : Machine) (d : ℕ) (r : Record) (k : ℕ) → scan_of t m.cpu.cursor ≡ Ok d → reading_of (drop m.cpu.cursor t) ≡ Some (r, k) →
      scan_of t (record_applied v n m r k).cpu.cursor ≡ Ok (due_next t (m.cpu.cursor + k) d)
  next_stands m d r k h e = ap (scan_of t) (applied_cursor v n m r k) ∙ ready_next t m.cpu.cursor d h r k e

  -- a record that is due has bytes left in the trace
  bytes_left : (m : Machine) (d : ℕ) → scan_of t m.cpu.cursor ≡ Ok d → m.cpu.clock < never → d ≤ m.cpu.clock → (w : Reads t m.cpu.cursor) → (2 ≤ w.size) × (m.cpu.cursor + w.size ≤ length t)
  bytes_left m d h c y w =
      ((found_fits (drop m.cpu.cursor t) w.body w.size w.found).some, (ready_past t m.cpu.cursor d h w.body w.size w.found).0)

  read_due : (m : Machine) (d : ℕ) → scan_of t m.cpu.cursor ≡ Ok d → m.cpu.clock < never → d ≤ m.cpu.clock → Reads t m.cpu.cursor
  read_due m d h c y = due_reads t m.cpu.cursor d h (omega arith)

  pub never_none : (m : Machine) (d : ℕ) → scan_of t m.cpu.cursor ≡ Ok d → m.cpu.clock < never → d ≤ m.cpu.clock → reading_of (drop m.cpu.cursor t) ≡ None → ⊥
  never_none m d h c y e = let w = read_due m d h c y in let q = w.found in let z : ◌≡◌ {A = ℕ} 0 1 = cc in omega arith

  pub short : (m : Machine) (d : ℕ) → scan_of t m.cpu.cursor ≡ Ok d → (r : Record) (k : ℕ) → reading_of (drop m.cpu.cursor t) ≡ Some (r, k) → m.cpu.cursor + k ≤ 65536
  short m d h r k e = let p = ready_past t m.cpu.cursor d h r k e in omega arith

  not_due : (m : Machine) (d : ℕ) → scan_of t m.cpu.cursor ≡ Ok d → m.cpu.clock < never → length t - m.cpu.cursor ≤ 0 → m.cpu.clock < d
  not_due m d h c p =
      elim (dec_le d m.cpu.clock) [
        | yes y ↦ (let b = bytes_left m d h c y (read_due m d h c y) in absurd (omega arith))
        | no y ↦ omega arith
      ]

  -- as many turns as the trace has bytes left are enough
  enough : (f g : ℕ) (m : Machine) (d : ℕ) → scan_of t m.cpu.cursor ≡ Ok d → m.cpu.clock < never → length t - m.cpu.cursor ≤ f → length t - m.cpu.cursor ≤ g →
      applied_from f v n t m ≡ applied_from g v n t m
  enough zero g m d h c p q = none_due zero m d h (not_due m d h c p) ∙ sym (none_due g m d h (not_due m d h c p))
  enough (suc f) zero m d h c p q = none_due (suc f) m d h (not_due m d h c q) ∙ sym (none_due zero m d h (not_due m d h c q))
  enough (suc f) (suc g) m d h c p q =
      elim (dec_le d m.cpu.clock) [
        | yes y ↦
            (let w = read_due m d h c y in
            let b = bytes_left m d h c y w in
            let a = applied_cursor v n m w.body w.size in
            let k = applied_clock v n m w.body w.size in
            one_due f m d w.body w.size h y w.found ∙
            enough f g (record_applied v n m w.body w.size) (due_next t (m.cpu.cursor + w.size) d) (next_stands m d w.body w.size h w.found) (omega arith) (omega arith) (omega arith) ∙
            sym (one_due g m d w.body w.size h y w.found))
        | no y ↦ (none_due (suc f) m d h (omega arith) ∙ sym (none_due (suc g) m d h (omega arith)))
      ]

  -- no record is due
  pub records_none : (m : Machine) (d : ℕ) → scan_of t m.cpu.cursor ≡ Ok d → m.cpu.clock < d → records_of v n t m ≡ m
  unfolding records_of
  records_none m d h g = none_due (length t - m.cpu.cursor) m d h g

  -- one is: the records are those after it
  records_found : (m : Machine) (d : ℕ) → scan_of t m.cpu.cursor ≡ Ok d → m.cpu.clock < never → d ≤ m.cpu.clock → (w : Reads t m.cpu.cursor) →
      records_of v n t (record_applied v n m w.body w.size) ≡ records_of v n t m
  unfolding records_of
  records_found m d h c y w =
      let b = bytes_left m d h c y w in
      let a = applied_cursor v n m w.body w.size in
      let k = applied_clock v n m w.body w.size in
      let f : suc (length t - suc m.cpu.cursor) ≡ length t - m.cpu.cursor = omega arith in
      enough (length t - (record_applied v n m w.body w.size).cpu.cursor) (length t - suc m.cpu.cursor) (record_applied v n m w.body w.size) (due_next t (m.cpu.cursor + w.size) d)
      (next_stands m d w.body w.size h w.found) (omega arith) (omega arith) (omega arith) ∙
      sym (one_due (length t - suc m.cpu.cursor) m d w.body w.size h y w.found) ∙
      ap (λ (j : ℕ). applied_from j v n t m) f

  pub records_advance : (m : Machine) (d : ℕ) → scan_of t m.cpu.cursor ≡ Ok d → m.cpu.clock < never → d ≤ m.cpu.clock →
      records_of v n t (after_reading v n m (reading_of (drop m.cpu.cursor t))) ≡ records_of v n t m
  records_advance m d h c y =
      let w = read_due m d h c y in
      ap (λ (x : Option (Record × ℕ)). records_of v n t (after_reading v n m x)) w.found ∙ records_found m d h c y w

  -- what one record leaves, l the nibbles and z the scalars
  module _ (m : Machine) (d : ℕ) (h : scan_of t m.cpu.cursor ≡ Ok d) (r : Record) (k : ℕ) (e : reading_of (drop m.cpu.cursor t) ≡ Some (r, k)) (l : List ℕ) (z : Cpu) (a : at l z ≡ record_applied v n m r k) where
    pub left_machine : at l z ≡ after_reading v n m (reading_of (drop m.cpu.cursor t))
    left_machine = a ∙ sym (ap (after_reading v n m) e)

    left_cursor : z.cursor ≡ m.cpu.cursor + k
    left_cursor = ap (λ (x : Machine). x.cpu.cursor) a ∙ applied_cursor v n m r k

    pub left_stands : (x : ℕ) → x ≡ due_next t z.cursor d → scan_of t z.cursor ≡ Ok x
    left_stands x p =
        ap (scan_of t) left_cursor ∙ ready_next t m.cpu.cursor d h r k e ∙ ap Ok (sym (p ∙ ap (λ (j : ℕ). due_next t j d) left_cursor))

    pub left_past : m.cpu.cursor < z.cursor
    left_past = let p = (found_fits (drop m.cpu.cursor t) r k e).some in let q = left_cursor in omega arith

    pub left_inside : z.cursor ≤ length t
    left_inside = let p = ready_past t m.cpu.cursor d h r k e in let q = left_cursor in omega arith
