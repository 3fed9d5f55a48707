-- The cases of the tests: what each answer says of the verdict.
-- Assumes nothing.
use Rattle.std.proofs.Common.{◌≡◌, ◌∙◌, ℕ, Bool, true, false, cond, List, length, Some, None, Result, Ok, Err, IsErrAnd, refl, sym, ap, subst, ltb, ◌<◌, ◌≤◌, arith}
use Rattle.std.specs.Array.{IsWholeChunk}
use borrow.Author.Tests.{lt-ltb, le-ltb, eq-eqb, ne_eqb}
use Rattle.numbers.specs.Numbers.{done}
use Rattle.chip.specs.declared.Cpu.{Cpu}
use Rattle.image.specs.Image.{cpu_of, fault_of, found, image_size}
use Rattle.image.proofs.Laws.{found_at, found_none, fault_most}
use Rattle.trace.specs.declared.Fault.{Fault}
use Rattle.trace.specs.declared.Fault.TheVariants.{Malformed, Astray}
use Rattle.trace.specs.Trace.{scan_of, scan_number, scan_address}
use Rattle.verdicts.specs.declared.Refusal.{Refusal}
use Rattle.verdicts.specs.declared.Refusal.TheVariants.{Rom, Table, Image, Field, Stale, Trace, Cursor, Log}
use Rattle.verdicts.specs.Verdicts.{Verdict, accepted, refused_as, trace_verdict, start_verdict, state_verdict}
use Rattle.verdicts.specs.Judged.{number_of, address_of, refusal_of, Judged}
use Rattle.verdicts.proofs.Accepted.{no_accept, cond_accepted}

pub told : {v w : Verdict} {s t : List ℕ} {r : Result ℕ Refusal} → v ≡ w → Judged v s t r → Judged w s t r
told {s = s} {t = t} {r = r} e h = subst (λ (v : Verdict). Judged v s t r) e h

-- no refusal's number is done's
pub numbered : (e : Refusal) → number_of e ≡ done → ⊥
numbered Rom h = omega arith
numbered Table h = omega arith
numbered Image h = omega arith
numbered (Field at) h = omega arith
numbered (Stale at) h = omega arith
numbered (Trace at) h = omega arith
numbered Cursor h = omega arith
numbered Log h = omega arith

-- a refusal says nothing of a due time
pub refusal : (v : Verdict) (s t : List ℕ) (r : Result ℕ Refusal) (e : Refusal) → IsErrAnd r (λ d. d ≡ e) → refused_as (number_of e) (address_of e) ≡ v → Judged v s t r
refusal v s t (Ok due) e h q = absurd h
refusal v s t (Err d) e h q =
    record {
      verdict = ap (λ (x : Refusal). refused_as (number_of x) (address_of x)) h ∙ q;
      stands = λ due z. absurd (let n : ◌≡◌ {A = ℕ} 0 1 = cc in omega arith);
    }

-- a test that lets the later ones decide
pub passed : (b : Bool) (k p : ℕ) → ((later : Verdict) → later ≡ cond b later (refused_as k p)) → b ≡ true
passed b k p h = (cond_accepted b accepted k p (sym (h accepted))).0

-- a test that refuses, whatever the later ones say
pub blocked : (b : Bool) (k p a m : ℕ) → ((later : Verdict) → refused_as a m ≡ cond b later (refused_as k p)) → (b ≡ false) × (refused_as a m ≡ refused_as k p)
blocked true k p a m h = absurd (no_accept a m (h accepted))
blocked false k p a m h = (refl, h accepted)

-- tests 3 and 4, of the image i that a state's bytes s are
module _ (n : ℕ) (s i : List ℕ) (w : IsWholeChunk s i image_size) where
  same_fault : fault_of i n ≡ fault_of s n
  same_fault = ap (λ (x : List ℕ). fault_of x n) w.same

  pub field_says : (at : ℕ) → Some at ≡ found image_size (fault_of i n) → (later : Verdict) → refused_as 4 at ≡ state_verdict n s later
  unfolding state_verdict
  field_says at e later =
      let z = found_at image_size (fault_of i n) at e in
      ap (refused_as 4) (z.1 ∙ same_fault) ∙
      sym (rw (eq-eqb (length s) image_size w.long, ne_eqb (fault_of s n) image_size (λ u. omega (arith, z.0, same_fault ∙ u))))

  pub later_says : None ≡ found image_size (fault_of i n) → (later : Verdict) → later ≡ state_verdict n s later
  unfolding state_verdict
  later_says e later =
      let z : fault_of s n ≡ image_size = omega (arith, found_none image_size (fault_of i n) e, fault_most s n, same_fault) in
      sym (rw (eq-eqb (length s) image_size w.long, eq-eqb (fault_of s n) image_size z))

pub on_image : {s i : List ℕ} (t g : List ℕ) (e : ℕ) (r : Result ℕ Refusal) → i ≡ s → Judged (start_verdict i t g e) i t r → Judged (start_verdict s t g e) s t r
on_image t g e r h = subst (λ (x : List ℕ). Judged (start_verdict x t g e) x t r) h

-- tests 6, 7 and 8, of the scalars u of the state s
module _ (s t g : List ℕ) (e : ℕ) (u : Cpu) (k : u ≡ cpu_of s) where
  abbrev log_says : Verdict
  log_says = cond (ltb (length g) e) (refused_as 8 0) accepted

  starts_by : (x : Result ℕ Fault) → x ≡ scan_of t u.cursor → trace_verdict x g e ≡ start_verdict s t g e
  unfolding start_verdict
  starts_by x q = ap (λ (y : Result ℕ Fault). trace_verdict y g e) q ∙ ap (λ (y : Cpu). trace_verdict (scan_of t y.cursor) g e) k

  told_by : (f : Fault) → refused_as (number_of (refusal_of f)) (address_of (refusal_of f)) ≡ trace_verdict (Err f) g e
  unfolding trace_verdict scan_number scan_address
  told_by (Malformed at) = refl
  told_by Astray = refl

  pub faulted : (f : Fault) → Err f ≡ scan_of t u.cursor → refused_as (number_of (refusal_of f)) (address_of (refusal_of f)) ≡ start_verdict s t g e
  faulted f q = told_by f ∙ starts_by (Err f) q

  module _ (d : ℕ) (q : Ok d ≡ scan_of t u.cursor) where
    dated : log_says ≡ start_verdict s t g e
    unfolding trace_verdict scan_number
    dated = starts_by (Ok d) q

    pub no_log : length g < e → Judged (start_verdict s t g e) s t (Err Log)
    no_log h = refusal (start_verdict s t g e) s t (Err Log) Log refl (sym (rw (lt-ltb (length g) e h)) ∙ dated)

    pub starts : e ≤ length g → Judged (start_verdict s t g e) s t (Ok d)
    starts l =
        record {
          verdict = sym (rw (le-ltb (length g) e l)) ∙ dated;
          stands = λ due o. let z : d ≡ due = cc in ap (λ (x : Cpu). scan_of t x.cursor) (sym k) ∙ sym q ∙ ap Ok z;
        }
