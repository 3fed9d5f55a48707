-- What a verdict tells: where a run accepts what it is given, the ROM's length, the state, the trace and the log's start fit; the plain run
-- refuses with the numbers 1, 3, 4, 6, 7 and 8.
-- Assumes nothing.
use Prim.Native.Nat.{ℕ, ◌*◌, ◌≤◌}
use native.Mathlib.Omega.{arith}
use mathlib.Core.Path.{◌≡◌, refl}
use mathlib.Core.Bool.{Bool, true, false, cond}
use mathlib.Core.Logic.{◌⊎◌, inl, inr}
use mathlib.Core.List.{List}
use borrow.Author.Tests.{eqb-true, ltb-false}
use lib.Dec.{eqb, ltb}
use lib.ListN.{length}
use Rattle.std.specs.Prelude.{Option, Some, None, Result, Ok, Err}
use Rattle.chip.specs.State.{rom0502, rom0504}
use Rattle.chip.proofs.Laws.{either}
use Rattle.image.specs.Image.{cpu_of, fault_of, image_size}
use Rattle.table.specs.Table.{table_of, stale_of}
use Rattle.table.proofs.Laws.{fresh_table}
use Rattle.record.proofs.Booleans.{one_of}
use Rattle.trace.specs.declared.Fault.{Fault}
use Rattle.trace.specs.declared.Fault.TheVariants.{Malformed, Astray}
use Rattle.trace.specs.Trace.{scan_of, scan_number, scan_address}
use Rattle.verdicts.specs.Verdicts.{Verdict, accepted, refused_as, rom_fits, table_fits, trace_verdict, start_verdict, state_verdict, table_verdict, plain_verdict, run_verdict}

-- a ROM that fits has the length of either chip's
pub rom_size : (n : ℕ) → rom_fits n ≡ true → (n ≡ rom0502) ⊎ (n ≡ rom0504)
rom_size n h = elim (one_of (eqb n rom0502) (eqb n rom0504) h) [ inl e ↦ inl (eqb-true n rom0502 e) | inr e ↦ inr (eqb-true n rom0504 e) ]

pub rom_long : (n : ℕ) → rom_fits n ≡ true → rom0502 ≤ n
rom_long n h = elim (rom_size n h) [ inl e ↦ omega arith | inr e ↦ omega arith ]

pub rom_short : (n : ℕ) → rom_fits n ≡ true → n ≤ rom0504
rom_short n h = elim (rom_size n h) [ inl e ↦ omega arith | inr e ↦ omega arith ]

-- what a run is given, where it is accepted, for a ROM of n bytes
pub record Fit (n : ℕ) (s t g : List ℕ) (e : ℕ) : Type 0 where
  pub long : length s ≡ image_size
  pub fields : fault_of s n ≡ image_size
  pub due : ℕ
  pub stands : scan_of t (cpu_of s).cursor ≡ Ok due
  pub start : e ≤ length g

pub no_accept : (k p : ℕ) → refused_as k p ≡ accepted → ⊥
no_accept k p e = let z : ◌≡◌ {A = ℕ} 0 1 = cc in omega arith

-- a test before other tests
pub cond_accepted : (b : Bool) (v : Verdict) (k p : ℕ) → cond b v (refused_as k p) ≡ accepted → (b ≡ true) × (v ≡ accepted)
cond_accepted true v k p h = (refl, h)
cond_accepted false v k p h = absurd (no_accept k p h)

log_accepted : (g : List ℕ) (e : ℕ) (b : Bool) → ltb (length g) e ≡ b → cond b (refused_as 8 0) accepted ≡ accepted → e ≤ length g
log_accepted g e true q h = absurd (no_accept 8 0 h)
log_accepted g e false q h = ltb-false (length g) e q

trace_accepted : (x : Result ℕ Fault) (g : List ℕ) (e : ℕ) → trace_verdict x g e ≡ accepted → ((d : ℕ) × (x ≡ Ok d)) × (e ≤ length g)
unfolding trace_verdict scan_number scan_address
trace_accepted (Err (Malformed p)) g e h = absurd (no_accept 6 p h)
trace_accepted (Err Astray) g e h = absurd (no_accept 7 0 h)
trace_accepted (Ok d) g e h = ((d, refl), log_accepted g e (ltb (length g) e) refl h)

-- tests 3 and 4 before `later`; with tests 6 to 8 all fits
pub state_accepted : (n : ℕ) (s t g : List ℕ) (e : ℕ) (later : Verdict) → state_verdict n s later ≡ accepted →
    (later ≡ accepted) × (start_verdict s t g e ≡ accepted → Fit n s t g e)
unfolding state_verdict start_verdict
state_accepted n s t g e later h =
    let c = cond_accepted (eqb (length s) image_size) (cond (eqb (fault_of s n) image_size) later (refused_as 4 (fault_of s n))) 3 0 h in
    let d = cond_accepted (eqb (fault_of s n) image_size) later 4 (fault_of s n) c.1 in (
      d.1,
      λ k.
          let y = trace_accepted (scan_of t (cpu_of s).cursor) g e k in
          record {
            long = eqb-true (length s) image_size c.0;
            fields = eqb-true (fault_of s n) image_size d.0;
            due = y.0.0;
            stands = y.0.1;
            start = y.1;
          },
    )

-- the plain run
pub plain_accepted : (rom s t g : List ℕ) (e : ℕ) → plain_verdict rom s t g e ≡ accepted → (rom_fits (length rom) ≡ true) × Fit (length rom) s t g e
unfolding plain_verdict
plain_accepted rom s t g e h =
    let v = start_verdict s t g e in
    let a = cond_accepted (rom_fits (length rom)) (state_verdict (length rom) s v) 1 0 h in
    let c = state_accepted (length rom) s t g e v a.1 in
    (a.0, c.1 c.0)

-- a refusal's number passes a test
abbrev pub Numbered : (ℕ → Bool) → Verdict → Type 0
Numbered f accepted = Unit {0}
Numbered f (refused_as k p) = f k ≡ true

module _ (f : ℕ → Bool) (one : f 1 ≡ true) (three : f 3 ≡ true) (four : f 4 ≡ true) (six : f 6 ≡ true) (seven : f 7 ≡ true) (eight : f 8 ≡ true) where
  trace_number : (x : Result ℕ Fault) (g : List ℕ) (e : ℕ) → Numbered f (trace_verdict x g e)
  unfolding trace_verdict scan_number scan_address
  trace_number (Err (Malformed p)) g e = six
  trace_number (Err Astray) g e = seven
  trace_number (Ok d) g e = either (Numbered f) (ltb (length g) e) {x = refused_as 8 0} {y = accepted} eight tt

  pub plain_number : (rom s t g : List ℕ) (e : ℕ) → Numbered f (plain_verdict rom s t g e)
  unfolding plain_verdict state_verdict start_verdict
  plain_number rom s t g e =
      let n = length rom in
      let trace = trace_verdict (scan_of t (cpu_of s).cursor) g e in
      let fits = cond (eqb (fault_of s n) image_size) trace (refused_as 4 (fault_of s n)) in
      either (Numbered f) (rom_fits n) {x = cond (eqb (length s) image_size) fits (refused_as 3 0)} {y = refused_as 1 0}
      (either (Numbered f) (eqb (length s) image_size) {x = fits} {y = refused_as 3 0}
      (either (Numbered f) (eqb (fault_of s n) image_size) {x = trace} {y = refused_as 4 (fault_of s n)} (trace_number (scan_of t (cpu_of s).cursor) g e) four)
      three)
      one

-- a ROM that fits, and its own table
pub record Tabled (rom table : List ℕ) : Type 0 where
  pub rom_fits_lem : rom_fits (length rom) ≡ true
  pub table_is : table ≡ table_of rom

table_accepted : (x : Option ℕ) (v : Verdict) → table_verdict x v ≡ accepted → (x ≡ None) × (v ≡ accepted)
unfolding table_verdict
table_accepted (Some p) v h = absurd (no_accept 5 p h)
table_accepted None v h = (refl, h)

module _ (rom table s t g : List ℕ) (e : ℕ) where
  pub record Apart : Type 0 where
    pub tabled : Tabled rom table
    pub fit : Fit (length rom) s t g e

  pub taken_apart : run_verdict rom table s t g e ≡ accepted → Apart
  unfolding run_verdict
  taken_apart h =
      let n = length rom in
      let v = start_verdict s t g e in
      let later = table_verdict (stale_of rom table) v in
      let a = cond_accepted (rom_fits n) (cond (table_fits n (length table)) (state_verdict n s later) (refused_as 2 0)) 1 0 h in
      let b = cond_accepted (table_fits n (length table)) (state_verdict n s later) 2 0 a.1 in
      let c = state_accepted n s t g e later b.1 in
      let x = table_accepted (stale_of rom table) v c.0 in
      record {
        tabled = record { rom_fits_lem = a.0; table_is = fresh_table rom table (eqb-true (length table) (4 * n) b.0) x.0 };
        fit = c.1 x.1;
      }
