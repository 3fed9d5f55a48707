-- What the code of the clocks answers, said of plain values.
-- Assumes nothing.
use Prim.Native.Nat.{ℕ, ◌+◌, ◌/◌, ◌≤◌, ◌<◌}
use native.Mathlib.Omega.{arith}
use mathlib.Core.Path.{◌≡◌, ◌∙◌, refl, sym, ap, ap₂, subst}
use mathlib.Core.List.{List}
use mathlib.Core.Bool.{Bool, true, false, ◌&&◌, ◌||◌}
use lib.Dec.{eqb}
use borrow.Author.Tests.{eq-eqb, ne_eqb}
use Rattle.chip.specs.declared.Cpu.{Cpu}
use Rattle.chip.specs.Modes.{running, stopped}
use Rattle.chip.specs.declared.Machine.{Machine}
use Rattle.chip.specs.Reset.{reset_mem, reset_cpu}
use Rattle.chip.specs.Scalars.{with_basic}
use Rattle.chip.specs.State.{at}
use Rattle.fetch.specs.declared.Code.{Code}
use Rattle.effects.specs.declared.Effect.{Effect}
use Rattle.timers.specs.declared.Timers.{Timers}
use Rattle.timers.specs.declared.Passed.{Passed}
use Rattle.timers.specs.declared.Passed.TheVariants.{On, Reset}
use Rattle.timers.specs.Clock.{phases, clocks_of, Ranged}
use Rattle.timers.specs.Closed.{still_of}
use Rattle.timers.specs.Clears.{cleared_of}
use Rattle.timers.specs.Registers.{timers_in, stored_in, basic_of}
use Rattle.timers.proofs.Held.{cleared_ranged}
use Rattle.timers.proofs.Laws.{InRange, clocks_ranged}
use Rattle.elapse.specs.declared.Clocked.{Clocked}
use Rattle.elapse.specs.Bounds.{last_count, ClockedAs, Stays}
use Rattle.elapse.specs.Elapsed.{strikes, stops_in, restarts, clears, timed_of, reset_to}

pub differ : false ≡ true → ⊥
differ h = let z : ◌≡◌ {A = ℕ} 0 1 = cc in omega arith

neither : (b : Bool) → false ≡ b && false
neither true = refl
neither false = refl

alone : (b : Bool) → b ≡ b && true
alone true = refl
alone false = refl

-- bit 3 of a nibble x that is under 8, and of one that isn't
pub struck_low : (b : Bool) (x : ℕ) → x < 8 → false ≡ b && eqb (x / 8) 1
struck_low b x h = neither b ∙ ap (λ (y : Bool). b && y) (sym (ne_eqb (x / 8) 1 (λ e. let z : x / 8 ≡ 1 = e in omega arith)))

pub struck_high : (a b : Bool) (x : ℕ) → 8 ≤ x → x < 16 → a ≡ b → a ≡ b && eqb (x / 8) 1
struck_high a b x h k e = e ∙ alone b ∙ ap (λ (y : Bool). b && y) (sym (eq-eqb (x / 8) 1 (omega arith)))

-- a STOP
pub stops_running : (was is : ℕ) → was ≡ running → eqb is stopped ≡ stops_in was is
stops_running was is h = ap (λ (y : Bool). y && eqb is stopped) (sym (eq-eqb was running h))

pub stops_else : (was is : ℕ) → (was ≡ running → ⊥) → false ≡ stops_in was is
stops_else was is h = ap (λ (y : Bool). y && eqb is stopped) (sym (ne_eqb was running h))

-- a clear of the watchdog's count
pub clears_stop : (a b : Bool) → a ≡ true → true ≡ a || b
clears_stop true b h = refl
clears_stop false b h = sym h ∙ absurd (let z : ◌≡◌ {A = ℕ} 0 1 = cc in omega arith)

pub clears_struck : (a b s : Bool) → a ≡ false → s ≡ b → s ≡ a || b
clears_struck true b s h e = absurd (let z : ◌≡◌ {A = ℕ} 0 1 = cc in omega arith)
clears_struck false b s h e = e

-- the timers that were read, cleared and passed: what the code has, said of the step's effect and scalars
module _ (was : ℕ) (e : Effect) (l : List ℕ) (d : Cpu) where
  pub timed_as : {restart clear : Bool} {t s : Timers} (is w : ℕ) → d.mode ≡ is → d.timing.basic ≡ w → restart ≡ strikes 0xF85 e l → clear ≡ stops_in was is || strikes 0xF9A e l →
      s ≡ timers_in l w → t ≡ cleared_of restart clear s → t ≡ timed_of was e (at l d)
  unfolding timed_of
  timed_as {restart} {clear} {t} {s} is w i j p q r h =
      h ∙ ap (λ (x : Bool). cleared_of x clear s) p ∙ ap (λ (x : Bool). cleared_of (restarts e (at l d)) x s) (q ∙ ap (λ (x : ℕ). stops_in was x || strikes 0xF9A e l) (sym i)) ∙
      ap (cleared_of (restarts e (at l d)) (clears was e (at l d))) (r ∙ ap (timers_in l) (sym j))

  -- and what they came to
  pub came_on : (n : ℕ) {t s : Timers} {p : Passed} {r : Clocked} {k : List ℕ} → t ≡ timed_of was e (at l d) → p ≡ clocks_of n t → p ≡ On s → (k ≡ stored_in l s) × (r.basic ≡ basic_of s) × (r.bitten ≡ false) →
      ClockedAs (clocks_of n (timed_of was e (at l d))) l r k
  came_on n {t} {s} {p} {r} {k} h q g w =
      subst (λ (x : Passed). ClockedAs x l r k) (sym g ∙ q ∙ ap (clocks_of n) h) (record { mem = w.0; timing = w.1; bitten = w.2 })

  pub came_reset : (n : ℕ) {t s : Timers} {p : Passed} {r : Clocked} {k : List ℕ} → t ≡ timed_of was e (at l d) → p ≡ clocks_of n t → p ≡ Reset s → (k ≡ stored_in l s) × (r.basic ≡ basic_of s) × (r.bitten ≡ true) →
      ClockedAs (clocks_of n (timed_of was e (at l d))) l r k
  came_reset n {t} {s} {p} {r} {k} h q g w =
      subst (λ (x : Passed). ClockedAs x l r k) (sym g ∙ q ∙ ap (clocks_of n) h) (record { mem = w.0; timing = w.1; bitten = w.2 })

-- ranges
pub ranged_as : {s t : Timers} (restart clear : Bool) → Ranged s → t ≡ cleared_of restart clear s → Ranged t
ranged_as {s} {t} restart clear r h = subst Ranged (sym h) (cleared_ranged restart clear s r)

pub ranged_by : (n : ℕ) {t : Timers} {p q : Passed} → Ranged t → p ≡ clocks_of n t → p ≡ q → InRange q
ranged_by n {t} {p} {q} r h g = subst InRange (sym h ∙ g) (clocks_ranged n t r)

-- the chip reset, from its parts
pub reset_as : (v : Code) (n : ℕ) (x : Cpu) (k : List ℕ) {b : Code} {k' : List ℕ} {size : ℕ} {y : Cpu} → b ≡ v → k' ≡ reset_mem k b.b0 → size ≡ n → y ≡ reset_cpu x size b.b0 b.b1 → at k' y ≡ reset_to v n (at k x)
reset_as v n x k {b} {k'} {size} {y} p q r s =
    ap₂ at q s ∙ ap (λ (z : Code). at (reset_mem k z.b0) (reset_cpu x size z.b0 z.b1)) p ∙ ap (λ (z : ℕ). at (reset_mem k v.b0) (reset_cpu x z v.b0 v.b1)) r

-- the timers' bytes
pub basic_early : {b w : ℕ} → b ≡ w → w < last_count → b < last_count
basic_early e h = omega arith

pub basic_still : (n : ℕ) (l : List ℕ) (d : Cpu) {w : ℕ} {m : Machine} → d.timing.basic ≡ w → at l (with_basic d (d.timing.basic + n)) ≡ m → at l (with_basic d (w + n)) ≡ m
basic_still n l d {w} {m} e h = ap (λ (x : ℕ). at l (with_basic d (x + n))) (sym e) ∙ h

-- the phase alone moves: where a count stands, nothing clears it
pub stays_as : (was : ℕ) (e : Effect) (l : List ℕ) (d : Cpu) (is w n : ℕ) → d.mode ≡ is → d.timing.basic ≡ w → still_of l w n ≡ true →
    (stops_in was is || strikes 0xF9A e l ≡ true → w < phases) → Stays was e (at l d) n
stays_as was e l d is w n i t s q =
    record {
      still = ap (λ (x : ℕ). still_of l x n) t ∙ s;
      counted = λ h. let z = q (ap (λ (x : ℕ). stops_in was x || strikes 0xF9A e l) (sym i) ∙ h) in omega arith;
    }

-- a test that says no
pub said_no : {r b : Bool} {A : Type 0} → r ≡ b → r ≡ false → b ≡ true → A
said_no e f t = absurd (let z : ◌≡◌ {A = Bool} false true = sym f ∙ e ∙ t in differ z)
