-- Laws of the scan: what holds along it, and that it then says what the definition of the whole trace says.
-- Assumes nothing.
use Prim.Native.Nat.{ℕ, ◌+◌, ◌*◌, ◌-◌, ◌≤◌, ◌<◌}
use native.Mathlib.Omega.{arith}
use mathlib.Core.Path.{◌≡◌, ◌∙◌, refl, sym, ap}
use mathlib.Core.Bool.{Bool, true, false, cond, ◌||◌, or-false, false≢true}
use mathlib.Core.List.{List, ◌∷◌}
use mathlib.Core.Logic.{⊎_elim}
use borrow.Author.Tests.{eqb-true, le-ltb}
use lib.Dec.{eqb}
use lib.ListN.{length, drop}
use Rattle.std.specs.Prelude.{Option, Some, None, Ok, Err, is_some, unwrap_or}
use Rattle.record.specs.Record.{reading_of}
use Rattle.record.specs.declared.Record.{Record}
use Rattle.record.proofs.Booleans.{one_of, later_first}
use Rattle.record.proofs.Records.{Bytes}
use Rattle.trace.specs.Trace.{never, longest, Entry, end_from, starts_in, due_in, end_of, is_start, due_at, scan_of}
use Rattle.trace.specs.declared.Fault.TheVariants.{Astray}
use Rattle.trace.specs.Pass.{past_of, due_of, concluded_of}
use Rattle.trace.specs.declared.pass.Pass.{Pass}
use Rattle.trace.proofs.Entries.{placed, entry, entries_none, remaining, remaining_found, at_first}

-- what holds along the scan: the records passed and the records left make up the trace's
pub record Along (s : List ℕ) (cursor : ℕ) (p : Pass) : Type 0 where
  pub inside : p.at ≤ length s
  pub paced : 4 * p.passed ≤ 65535 * p.at
  pub ends : end_from p.at (remaining s p.at p.passed) ≡ end_of s
  pub starts : is_some p.met || starts_in cursor (remaining s p.at p.passed) ≡ is_start s cursor
  pub dues : unwrap_or p.met (due_in cursor (remaining s p.at p.passed)) ≡ due_at s cursor
  pub behind : is_some p.met ≡ true → cursor < p.at

pub along_first : (s : List ℕ) (cursor : ℕ) → Along s cursor (record { at = 0; passed = 0; met = None })
along_first s cursor = record {
  inside = omega arith;
  paced = omega arith;
  ends = ap (end_from 0) (at_first s);
  starts = ap (starts_in cursor) (at_first s);
  dues = ap (due_in cursor) (at_first s);
  behind = λ e. absurd (false≢true e);
}

-- the cursor's record is met once: the one met now, or the one met before
met_now : (a : Bool) (d : ℕ) (m : Option ℕ) → is_some (cond a (Some d) m) ≡ a || is_some m
met_now true d m = refl
met_now false d m = refl

once : (a : Bool) (d x : ℕ) (m : Option ℕ) → (is_some m ≡ true → a ≡ true → ⊥) → unwrap_or (cond a (Some d) m) x ≡ unwrap_or m (cond a d x)
once true d x (Some e) h = absurd (h refl refl)
once true d x None h = refl
once false d x (Some e) h = refl
once false d x None h = refl

-- a record passed keeps what holds
module _ (s : List ℕ) (cursor : ℕ) (p : Pass) (h : Bytes s) (a : Along s cursor p) (r : Record) (n : ℕ) (e : reading_of (drop p.at s) ≡ Some (r, n)) where
  apart : is_some p.met ≡ true → eqb p.at cursor ≡ true → ⊥
  apart m z = omega (arith, a.behind m, eqb-true p.at cursor z)

  ahead : remaining s p.at p.passed ≡ entry p.at r n p.passed ∷ remaining s (p.at + n) (p.passed + r.wait)
  ahead = remaining_found s p.at p.passed r n e

  pub along : Along s cursor (past_of cursor p r n)
  unfolding end_from starts_in due_in
  along =
      let l = placed s p.at r n e in
      let met = met_now (eqb p.at cursor) (p.passed + r.wait) p.met in
      record {
        inside = l.inside;
        paced = omega (arith, a.paced, l.paced h);
        ends = ap (end_from p.at) (sym ahead) ∙ a.ends;
        starts =
            ap (λ (b : Bool). b || starts_in cursor (remaining s (p.at + n) (p.passed + r.wait))) met ∙
            later_first (eqb p.at cursor) (is_some p.met) (starts_in cursor (remaining s (p.at + n) (p.passed + r.wait))) ∙
            ap (λ (es : List Entry). is_some p.met || starts_in cursor es) (sym ahead) ∙ a.starts;
        dues =
            once (eqb p.at cursor) (p.passed + r.wait) (due_in cursor (remaining s (p.at + n) (p.passed + r.wait))) p.met apart ∙
            ap (λ (es : List Entry). unwrap_or p.met (due_in cursor es)) (sym ahead) ∙ a.dues;
        behind =
            λ m. ⊎_elim (λ z. omega (arith, eqb-true p.at cursor z, l.some)) (λ z. omega (arith, a.behind z, l.some))
            (one_of (eqb p.at cursor) (is_some p.met) (sym met ∙ m));
      }

-- the due time fits a clock's width, with one wait more
pub along_fits : (s : List ℕ) (cursor : ℕ) (p : Pass) → length s ≤ longest → Along s cursor p → p.passed ≤ never
along_fits s cursor p h a = omega (arith, a.inside, a.paced)

-- what was met, or the cursor's being the end, says what the two say together
due_met : (m : Option ℕ) (ended : Bool) → due_of m ended ≡ cond (is_some m || ended) (Ok (unwrap_or m never)) (Err Astray)
due_met (Some due) ended = refl
due_met None ended = refl

-- what a scan says once no record is left to read is what the trace's definition says
pub concludes : (s : List ℕ) (cursor : ℕ) (p : Pass) → length s ≤ longest → Along s cursor p → reading_of (drop p.at s) ≡ None →
    concluded_of (length s) cursor p ≡ scan_of s cursor
unfolding concluded_of scan_of end_from starts_in due_in
concludes s cursor p h a m =
    let none = entries_none (length s - p.at) s p.at p.passed m in
    let e : p.at ≡ end_of s = ap (end_from p.at) (sym none) ∙ a.ends in
    let i : is_some p.met ≡ is_start s cursor = sym (or-false (is_some p.met)) ∙ ap (λ (es : List Entry). is_some p.met || starts_in cursor es) (sym none) ∙ a.starts in
    let d : unwrap_or p.met never ≡ due_at s cursor = ap (λ (es : List Entry). unwrap_or p.met (due_in cursor es)) (sym none) ∙ a.dues in
    rw (le-ltb longest (length s) h, due_met p.met (eqb cursor (length s)), e, i, d)
