-- What the steps of the plain machine write to the log, from where it ended on, is a log from the clock at which they began. Of any ROM, any trace and any machine.
-- Assumes nothing.
use Prim.Native.Nat.{ℕ, zero, suc, ◌+◌, ◌-◌, ◌≤◌}
use native.Mathlib.Omega.{arith}
use mathlib.Core.Path.{◌≡◌, ◌∙◌, refl, sym, ap, subst⁻¹}
use mathlib.Core.List.{List, [], ◌++◌, append_assoc}
use lib.ListN.{length, take, drop, length-append, take-append-drop}
use lib.Seq.{length-take-le, take-append-add, drop-append-add, take_at, drop_at}
use Rattle.litres.proofs.Laws.{LogFrom, log_none}
use Rattle.chip.specs.declared.Machine.{Machine}
use Rattle.fetch.specs.declared.Origin.TheVariants.{Rom}
use Rattle.portlog.specs.Log.{written}
use Rattle.portlog.proofs.Laws.{length_written_at}
use Rattle.portlog.proofs.Part.{written_twice}
use Rattle.step.specs.Step.{Out, moved, stopped}
use Rattle.steps.specs.Steps.{Run, steps_from, step_by}
use Rattle.steps.proofs.Steps.{steps_moved, steps_stopped}
use Rattle.roundlog.specs.Logbook.{between}
use Rattle.roundlog.proofs.Entries.{step_then}

-- w behind v, which was written from e on, is both at once
written_on : (l : List ℕ) (e : ℕ) (v w : List ℕ) → e ≤ length l → written (written l e v) (e + length v) w ≡ written l e (v ++ w)
written_on l e v w h =
    let front = take e l in
    let back = written (drop e l) 0 v in
    let long : length front ≡ e = length-take-le e l h in
    ap (λ (n : ℕ). written (front ++ back) (n + length v) w) (sym long) ∙
    (λ i. take-append-add front back (length v) i ++ (w ++ drop (length w) (drop-append-add front back (length v) i))) ∙
    append_assoc front (take (length v) back) (w ++ drop (length w) (drop (length v) back)) ∙
    ap (λ (x : List ℕ). front ++ x) (written_twice (drop e l) v w)

-- the bytes that were written
pub between_written : (l : List ℕ) (e : ℕ) (w : List ℕ) → e ≤ length l → between e (e + length w) (written l e w) ≡ w
between_written l e w h =
    let rest = drop (length w) (drop e l) in
    let long : e + length w - e ≡ length w = omega arith in
    (λ i. take (long i) (drop_at (take e l) (w ++ rest) e (length-take-le e l h) i)) ∙ take_at w rest (length w) refl

-- a run that began at clock x, and with the log l up to e, wrote these bytes
pub record Wrote (x : ℕ) (l : List ℕ) (e : ℕ) (r : Run) : Type 0 where
  pub bytes : List ℕ
  pub log : r.log ≡ written l e bytes
  pub end : r.end ≡ e + length bytes
  pub from_clock : LogFrom x bytes

wrote_none : (x : ℕ) (l : List ℕ) (e : ℕ) (r : Run) → r.log ≡ l → r.end ≡ e → Wrote x l e r
wrote_none x l e r p q = record { bytes = []; log = p ∙ sym (take-append-drop e l); end = omega arith; from_clock = log_none x }

module _ (rom t : List ℕ) where
  abbrev step : Machine → ℕ → Out
  step = step_by Rom rom t

  wrote_by : (n : ℕ) (m : Machine) (l : List ℕ) (e k : ℕ) (o : Out) → step m (length l - e) ≡ o → e ≤ length l →
      ((m : Machine) (l : List ℕ) (e k : ℕ) → e ≤ length l → Wrote m.cpu.clock l e (steps_from step n m l e k)) →
      Wrote m.cpu.clock l e (steps_from step (suc n) m l e k)
  wrote_by n m l e k (moved m' v) q h further =
      let s = step_then rom t m (length l - e) m' v q in
      let room : length v ≤ length l - e = s.0 in
      let long : length (written l e v) ≡ length l = length_written_at l e v (omega arith) in
      let r = further m' (written l e v) (e + length v) (suc k) (omega arith) in
      subst⁻¹ (Wrote m.cpu.clock l e) (steps_moved step n m m' l v e k q)
      (record {
        bytes = v ++ r.bytes;
        log = r.log ∙ written_on l e v r.bytes h;
        end = omega (arith, r.end, length-append v r.bytes);
        from_clock = s.1 r.bytes r.from_clock;
      })
  wrote_by n m l e k (stopped c p) q h further =
      subst⁻¹ (Wrote m.cpu.clock l e) (steps_stopped step n m l e k c p q) (wrote_none m.cpu.clock l e _ refl refl)

  pub wrote : (n : ℕ) (m : Machine) (l : List ℕ) (e k : ℕ) → e ≤ length l → Wrote m.cpu.clock l e (steps_from step n m l e k)
  unfolding steps_from
  wrote zero m l e k h = wrote_none m.cpu.clock l e _ refl refl
  wrote (suc n) m l e k h = wrote_by n m l e k (step m (length l - e)) refl h (λ m l e k. wrote n m l e k)
