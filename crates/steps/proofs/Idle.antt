-- A stretch in one go is as many single steps: each of them moves the clock by one, what remains of the hold down by one, and the timers by the clocks of a
-- cycle, which bring no timer event, and nothing else.
-- Assumes nothing.
use Prim.Native.Nat.{ℕ, zero, suc, ◌+◌, ◌-◌, ◌*◌, ◌%◌, ◌/◌, ◌^◌, ◌≤◌, ◌<◌}
use native.Mathlib.Omega.{arith}
use native.Mathlib.Nat.{add-zero, add-mul, mul-zero, le_trans, pos_of_ne-zero}
use mathlib.Core.Path.{◌≡◌, ◌∙◌, refl, sym, ap, ap₂, subst}
use mathlib.Core.Bool.{Bool, true, false, cond, ◌&&◌, ◌||◌}
use mathlib.Core.List.{List, []}
use mathlib.Core.Logic.{◌⊎◌, inl, inr}
use lib.Dec.{eqb, ltb}
use lib.ListN.{length, get_or, take-append-drop}
use borrow.Author.Tests.{le-ltb, le-leb, ltb-true, ltb-false, eqb-true, eqb-false, eq-eqb, ne_eqb}
use Rattle.std.specs.Prelude.{Ok}
use Rattle.chip.specs.declared.Cpu.{Cpu}
use Rattle.chip.specs.declared.Machine.{Machine}
use Rattle.chip.specs.Modes.{stopped}
use Rattle.chip.specs.Ports.{driven_of}
use Rattle.chip.specs.Scalars.{with_clock, with_timing, with_hold}
use Rattle.chip.specs.State.{at, nibbles, nibble_at, slot_of}
use Rattle.chip.specs.Interrupts.{sources, source_at, asks_of}
use Rattle.effects.specs.Effects.{applied_to}
use Rattle.control.specs.Control.{jump}
use Rattle.pending.specs.Pending.{wakes_vectored, wakes_of}
use Rattle.portlog.specs.Log.{logged}
use Rattle.portlog.proofs.Laws.{same_logged}
use Rattle.fetch.specs.declared.Code.{Code}
use Rattle.fetch.specs.declared.Origin.{Origin}
use Rattle.fetch.specs.declared.Origin.TheVariants.{Rom, Table}
use Rattle.record.proofs.Booleans.{neither}
use Rattle.timers.specs.declared.Timers.{Timers}
use Rattle.timers.specs.Clock.{clocks_of, quiet_of, Ranged}
use Rattle.timers.specs.Clears.{cleared_of}
use Rattle.timers.specs.Closed.{total_of, quiet_state_of, overflow_at}
use Rattle.timers.specs.Rates.{table_6_1, rate_in, rate_of}
use Rattle.timers.specs.Registers.{timers_in, timers_of, with_bcnt, stored_in, basic_of, with_timers}
use Rattle.timers.proofs.Held.{timers_ranged, kept_bcnt, length_bcnt, bcnt_alone, with_driven, held_back, quiet_with}
use Rattle.timers.proofs.Quiet.{quiet_clocks, quiet_first, quiet_rest, quiet_ranged, quiet_cycles_law}
use Rattle.trace.specs.Trace.{scan_of}
use Rattle.arrivals.proofs.Arriving.{records_none}
use Rattle.outcomes.specs.declared.Outcome.{Outcome}
use Rattle.outcomes.specs.declared.Outcome.TheVariants.{Does}
use Rattle.outcomes.specs.Outcomes.{idle_cpu, idle_of, held_of}
use Rattle.rules.specs.Rules.{action_of}
use Rattle.rules.proofs.Phases.{acts_idle, acts_held}
use Rattle.elapse.specs.Elapsed.{strikes, timed_of, clocked_to, passed_by, elapsed_of}
use Rattle.step.specs.Step.{moved, last_clock, ruled_of, logged_of, settled_of, untold_of}
use Rattle.steps.specs.Steps.{Run, steps_from}
use Rattle.steps.specs.Stretch.{later_of, passed_of, calm_of, until_of, least_of, awake_of, asleep_of, idle_steps, by_origin, stretch_of}
use Rattle.steps.proofs.Steps.{steps_moved}

-- a stretch moves BCNT and the phase: no other nibble
module _ (m : Machine) (n : ℕ) where
  stretched_mem : (passed_of m n).mem ≡ with_bcnt m.mem (total_of (n * rate_of m) (timers_of m))
  unfolding passed_of quiet_state_of timers_in
  stretched_mem = bcnt_alone (at m.mem (later_of m.cpu n)) (quiet_state_of (n * rate_of m) (timers_of m)) refl refl

  stretched_nibble : (a : ℕ) → (slot_of a ≡ slot_of 0xF86 → ⊥) → (slot_of a ≡ slot_of 0xF87 → ⊥) → nibble_at (passed_of m n).mem a ≡ nibble_at m.mem a
  stretched_nibble a h g =
      ap (λ (l : List ℕ). nibble_at l a) stretched_mem ∙ kept_bcnt m.mem (total_of (n * rate_of m) (timers_of m)) (slot_of a) h g

  stretched_long : length (passed_of m n).mem ≡ length m.mem
  stretched_long = ap length stretched_mem ∙ length_bcnt m.mem (total_of (n * rate_of m) (timers_of m))

  -- the rate of the clocks
  rate_same : rate_of (passed_of m n) ≡ rate_of m
  unfolding rate_in passed_of
  rate_same = ap (λ (x : ℕ). cond (eqb m.cpu.mode stopped) 0 (get_or table_6_1 (x % 4) 64)) (stretched_nibble 0xFB3 (λ q. let z : ⊥ = omega arith in z) (λ q. let z : ⊥ = omega arith in z))

  -- what the ports drive
  driven_same : driven_of (passed_of m n) ≡ driven_of m
  unfolding passed_of
  driven_same = λ i p. with_driven (at m.mem (later_of m.cpu n)) (quiet_state_of (n * rate_of m) (timers_of m)) p i

  -- and the sources that ask
  flags_same : (a bit : ℕ) → (slot_of a ≡ slot_of 0xF86 → ⊥) → (slot_of a ≡ slot_of 0xF87 → ⊥) → eqb (nibble_at (passed_of m n).mem a / 2 ^ bit % 4) 3 ≡ eqb (nibble_at m.mem a / 2 ^ bit % 4) 3
  flags_same a bit h g = ap (λ (x : ℕ). eqb (x / 2 ^ bit % 4) 3) (stretched_nibble a h g)

  asks_b : asks_of (passed_of m n).mem 0 ≡ asks_of m.mem 0
  unfolding asks_of source_at sources
  asks_b = flags_same 0xFB8 0 (λ q. let z : ⊥ = omega arith in z) (λ q. let z : ⊥ = omega arith in z)

  asks_1 : asks_of (passed_of m n).mem 2 ≡ asks_of m.mem 2
  unfolding asks_of source_at sources
  asks_1 = flags_same 0xFBE 2 (λ q. let z : ⊥ = omega arith in z) (λ q. let z : ⊥ = omega arith in z)

  asks_s : asks_of (passed_of m n).mem 3 ≡ asks_of m.mem 3
  unfolding asks_of source_at sources
  asks_s = flags_same 0xFBD 0 (λ q. let z : ⊥ = omega arith in z) (λ q. let z : ⊥ = omega arith in z)

  asks_t : asks_of (passed_of m n).mem 4 ≡ asks_of m.mem 4
  unfolding asks_of source_at sources
  asks_t = flags_same 0xFBC 0 (λ q. let z : ⊥ = omega arith in z) (λ q. let z : ⊥ = omega arith in z)

  asks_w : asks_of (passed_of m n).mem 5 ≡ asks_of m.mem 5
  unfolding asks_of source_at sources
  asks_w = flags_same 0xFBA 0 (λ q. let z : ⊥ = omega arith in z) (λ q. let z : ⊥ = omega arith in z)

  asks_k : asks_of (passed_of m n).mem 6 ≡ asks_of m.mem 6
  unfolding asks_of source_at sources
  asks_k = flags_same 0xFBF 0 (λ q. let z : ⊥ = omega arith in z) (λ q. let z : ⊥ = omega arith in z)

  wakes_same : wakes_of (passed_of m n).mem ≡ wakes_of m.mem
  unfolding wakes_of wakes_vectored
  wakes_same = λ i. (asks_b i || (asks_1 i || (asks_s i || asks_t i))) || (asks_w i || asks_k i)

-- a stretch after a stretch is one of both
module _ (m : Machine) (j k : ℕ) (long : length m.mem ≡ nibbles) (quiet : quiet_of ((j + k) * rate_of m) (timers_of m) ≡ true) where
  both_quiet : quiet_of (j * rate_of m + k * rate_of m) (timers_of m) ≡ true
  both_quiet = ap (λ (x : ℕ). quiet_of x (timers_of m)) (sym (add-mul j k (rate_of m))) ∙ quiet

  pub first_quiet : quiet_of (j * rate_of m) (timers_of m) ≡ true
  first_quiet = quiet_first (j * rate_of m) (k * rate_of m) (timers_of m) (timers_ranged m) both_quiet

  timers_passed : timers_of (passed_of m j) ≡ quiet_state_of (j * rate_of m) (timers_of m)
  unfolding passed_of quiet_state_of
  timers_passed =
      held_back (at m.mem (later_of m.cpu j)) (quiet_state_of (j * rate_of m) (timers_of m)) long (quiet_ranged (j * rate_of m) (timers_of m) (timers_ranged m) first_quiet) refl

  pub rest_quiet : quiet_of (k * rate_of (passed_of m j)) (timers_of (passed_of m j)) ≡ true
  rest_quiet =
      ap (λ (x : ℕ). quiet_of (k * x) (timers_of (passed_of m j))) (rate_same m j) ∙ ap (quiet_of (k * rate_of m)) timers_passed ∙
      quiet_rest (j * rate_of m) (k * rate_of m) (timers_of m) (timers_ranged m) both_quiet

  -- the machine at the end's clock and with the end's hold
  abbrev later : Machine
  later = at m.mem (with_hold (with_clock m.cpu (m.cpu.clock + j + k)) (m.cpu.timing.hold - j - k))

  passed_later : passed_of (passed_of m j) k ≡ with_timers (with_timers later (quiet_state_of (j * rate_of m) (timers_of m))) (quiet_state_of (k * rate_of m) (quiet_state_of (j * rate_of m) (timers_of m)))
  unfolding passed_of
  passed_later =
      let p = with_timers later (quiet_state_of (j * rate_of m) (timers_of m)) in
      ap (λ (x : ℕ). with_timers p (quiet_state_of (k * x) (timers_of (passed_of m j)))) (rate_same m j) ∙ ap (λ (x : Timers). with_timers p (quiet_state_of (k * rate_of m) x)) timers_passed

  pub passed_sum : passed_of (passed_of m j) k ≡ passed_of m (j + k)
  unfolding passed_of
  passed_sum =
      passed_later ∙ quiet_with (j * rate_of m) (k * rate_of m) later long both_quiet ∙
      ap (λ (x : ℕ). with_timers later (quiet_state_of x (timers_of m))) (sym (add-mul j k (rate_of m))) ∙
      ap₂ (λ (x y : ℕ). with_timers (at m.mem (with_hold (with_clock m.cpu x) y)) (quiet_state_of ((j + k) * rate_of m) (timers_of m)))
      (let z : m.cpu.clock + j + k ≡ m.cpu.clock + (j + k) = omega arith in z)
      (let z : m.cpu.timing.hold - j - k ≡ m.cpu.timing.hold - (j + k) = omega arith in z)

-- no source releases: the cycle changes no scalar but the clock
same_cpu : (m : Machine) → wakes_of m.mem ≡ false → idle_cpu m ≡ m.cpu
unfolding wakes_of
same_cpu m q =
    let v = (neither (wakes_vectored m.mem) (asks_of m.mem 5 || asks_of m.mem 6) q).0 in
    rw (q, v)

-- and the hold stands at 0, so that the cycle is what one of the hold would be
unheld : (c : Cpu) → c.timing.hold ≡ 0 → c ≡ with_hold c (c.timing.hold - 1)
unheld c h = ap (with_hold c) (let z : c.timing.hold ≡ c.timing.hold - 1 = omega arith in z)

idle_as_held : (m : Machine) → m.cpu.timing.hold ≡ 0 → wakes_of m.mem ≡ false → idle_of m ≡ held_of m.cpu
unfolding idle_of held_of
idle_as_held m h q = ap (λ (d : Cpu). Does (jump m.cpu 0) d 1) (same_cpu m q ∙ unheld m.cpu h)

-- n cycles in which the CPU does nothing: in idle or stop mode with no source that releases, or held for at least so many
abbrev pub Sleeps : Machine → ℕ → Type 0
Sleeps m n =
    ((m.cpu.timing.hold ≡ 0) × ((m.cpu.mode ≡ 0 → ⊥) × (wakes_of m.mem ≡ false))) ⊎
    ((m.cpu.timing.hold ≡ 0 → ⊥) × (n ≤ m.cpu.timing.hold))

acts_asleep : (src : ℕ → Code) (m : Machine) (n j : ℕ) → Sleeps m j → action_of src n m ≡ held_of m.cpu
acts_asleep src m n j (inl (h, (i, q))) = acts_idle src m n h i ∙ idle_as_held m h q
acts_asleep src m n j (inr (h, k)) = acts_held src m n h

sleeps_on : (m : Machine) (j : ℕ) → Sleeps m (1 + (1 + j)) → Sleeps (passed_of m 1) (1 + j)
unfolding passed_of
sleeps_on m j (inl (h, (i, q))) = inl (omega arith, (i, wakes_same m 1 ∙ q))
sleeps_on m j (inr (h, k)) = inr ((λ e. let z : ⊥ = omega arith in z), omega arith)

no_write : (m : Machine) → applied_to m.mem (jump m.cpu 0) ≡ m.mem
unfolding applied_to jump
no_write m = refl

-- a mode that stays is no STOP
stays : (mode : ℕ) (b : Bool) → eqb mode 0 ≡ b → b && eqb mode 2 ≡ false
stays mode true h = ap (λ (x : ℕ). eqb x 2) (eqb-true mode 0 h)
stays mode false h = refl

-- such a cycle clears nothing, and its clocks are quiet
module _ (v : Code) (n : ℕ) (m : Machine) (quiet : quiet_of (1 * rate_of m) (timers_of m) ≡ true) where
  abbrev cycled : Machine
  cycled = at m.mem (later_of m.cpu 1)

  timed_idle : timed_of m.cpu.mode (jump m.cpu 0) cycled ≡ timers_of m
  unfolding timed_of strikes jump cleared_of
  timed_idle = rw (stays m.cpu.mode (eqb m.cpu.mode 0) refl)

  elapsed_idle : elapsed_of v n m (jump m.cpu 0) 1 cycled ≡ passed_of m 1
  unfolding elapsed_of passed_by passed_of
  elapsed_idle =
      ap (λ (t : Timers). clocked_to v n cycled (clocks_of (1 * rate_of m) t)) timed_idle ∙
      ap (clocked_to v n cycled) (quiet_clocks (1 * rate_of m) (timers_of m) (timers_ranged m) quiet)

  idle_elapsed : elapsed_of v n m (jump m.cpu 0) 1 (ruled_of m (jump m.cpu 0) (with_hold m.cpu (m.cpu.timing.hold - 1)) 1) ≡ passed_of m 1
  idle_elapsed = ap (λ (l : List ℕ). elapsed_of v n m (jump m.cpu 0) 1 (at l (later_of m.cpu 1))) (no_write m) ∙ elapsed_idle

nothing_noted : (m : Machine) (n room : ℕ) → logged_of (driven_of m) (passed_of m n) room ≡ moved (passed_of m n) []
unfolding logged_of
nothing_noted m n room =
    rw (ap (logged (passed_of m n).cpu.clock (driven_of m)) (driven_same m n) ∙ same_logged (passed_of m n).cpu.clock (driven_of m), le-ltb room 0 (let z : 0 ≤ room = omega arith in z))

cycle_settles : (v : Code) (n : ℕ) (m : Machine) (room : ℕ) → quiet_of (1 * rate_of m) (timers_of m) ≡ true → m.cpu.clock < last_clock →
    settled_of v n (driven_of m) m (held_of m.cpu) room ≡ moved (passed_of m 1) []
unfolding settled_of held_of
cycle_settles v n m room quiet h =
    let z : ltb (last_clock - m.cpu.clock) 1 ≡ false = le-ltb (last_clock - m.cpu.clock) 1 (omega arith) in
    rw (z, idle_elapsed v n m quiet) (nothing_noted m 1 room)

module _ (src : ℕ → Code) (n : ℕ) (t : List ℕ) where
  -- one cycle
  idle_step : (m : Machine) (due room j : ℕ) → Sleeps m j → scan_of t m.cpu.cursor ≡ Ok due → m.cpu.clock < due → m.cpu.clock < last_clock →
      quiet_of (1 * rate_of m) (timers_of m) ≡ true → untold_of src n t m room ≡ moved (passed_of m 1) []
  unfolding untold_of
  idle_step m due room j i s b h quiet =
      ap (λ (r : Machine). settled_of (src 0) n (driven_of m) r (action_of src n r) room) (records_none (src 0) n t m due s b) ∙
      ap (λ (x : Outcome). settled_of (src 0) n (driven_of m) m x room) (acts_asleep src m n j i) ∙ cycle_settles (src 0) n m room quiet h

  -- and k steps after it
  idle_first : (k : ℕ) (m : Machine) (due : ℕ) (l : List ℕ) (e s j : ℕ) → Sleeps m j → scan_of t m.cpu.cursor ≡ Ok due → m.cpu.clock < due → m.cpu.clock < last_clock →
      quiet_of (1 * rate_of m) (timers_of m) ≡ true → steps_from (untold_of src n t) (suc k) m l e s ≡ steps_from (untold_of src n t) k (passed_of m 1) l e (suc s)
  idle_first k m due l e s j i p b h quiet =
      steps_moved (untold_of src n t) k m (passed_of m 1) l [] e s (idle_step m due (length l - e) j i p b h quiet) ∙
      ap (λ (x : List ℕ). steps_from (untold_of src n t) k (passed_of m 1) x (e + 0) (suc s)) (take-append-drop e l) ∙
      ap (λ (x : ℕ). steps_from (untold_of src n t) k (passed_of m 1) l x (suc s)) (add-zero e)

  -- 1 + j cycles in one go, and k steps after them
  pub passing_steps : (j k : ℕ) (m : Machine) (due : ℕ) (l : List ℕ) (e s : ℕ) → Sleeps m (1 + j) → scan_of t m.cpu.cursor ≡ Ok due →
      m.cpu.clock + (1 + j) ≤ due → m.cpu.clock + (1 + j) ≤ last_clock → length m.mem ≡ nibbles → quiet_of ((1 + j) * rate_of m) (timers_of m) ≡ true →
      steps_from (untold_of src n t) (1 + j + k) m l e s ≡ steps_from (untold_of src n t) k (passed_of m (1 + j)) l e (s + (1 + j))
  unfolding passed_of
  passing_steps zero k m due l e s i p b h long quiet =
      ap (λ (c : ℕ). steps_from (untold_of src n t) c m l e s) (let z : 1 + 0 + k ≡ suc k = omega arith in z) ∙ idle_first k m due l e s 1 i p (omega arith) (omega arith) quiet ∙
      ap (steps_from (untold_of src n t) k (passed_of m 1) l e) (let z : suc s ≡ s + (1 + 0) = omega arith in z)
  passing_steps (suc j) k m due l e s i p b h long quiet =
      let sum : 1 + suc j ≡ 1 + (1 + j) = omega arith in
      let all : quiet_of ((1 + (1 + j)) * rate_of m) (timers_of m) ≡ true = ap (λ (x : ℕ). quiet_of (x * rate_of m) (timers_of m)) (sym sum) ∙ quiet in
      let rest = sleeps_on m j (subst (Sleeps m) sum i) in
      ap (λ (c : ℕ). steps_from (untold_of src n t) c m l e s) (let z : 1 + suc j + k ≡ suc (1 + j + k) = omega arith in z) ∙
      idle_first (1 + j + k) m due l e s (1 + suc j) i p (omega arith) (omega arith) (first_quiet m 1 (1 + j) long all) ∙
      passing_steps j k (passed_of m 1) due l e (suc s) rest p (omega arith) (omega arith) (stretched_long m 1 ∙ long) (rest_quiet m 1 (1 + j) long all) ∙
      ap (λ (x : Machine). steps_from (untold_of src n t) k x l e (suc s + (1 + j))) (passed_sum m 1 (1 + j) long all) ∙
      ap (λ (x : ℕ). steps_from (untold_of src n t) k (passed_of m x) l e (suc s + (1 + j))) (sym sum) ∙
      ap (steps_from (untold_of src n t) k (passed_of m (1 + suc j)) l e) (let z : suc s + (1 + j) ≡ s + (1 + suc j) = omega arith in z)

-- what a stretch of q steps, q not 0, may rest on
pub record Passing (m : Machine) (due left q : ℕ) : Type 0 where
  pub sleeps : Sleeps m q
  pub within : q ≤ left
  pub ahead : m.cpu.clock + q ≤ due
  pub in_time : m.cpu.clock + q ≤ last_clock
  pub quiet : quiet_of (q * rate_of m) (timers_of m) ≡ true

least_small : (a b : ℕ) (c : Bool) → ltb a b ≡ c → (cond c a b ≤ a) × (cond c a b ≤ b)
least_small a b true h = let z : a < b = ltb-true a b h in (omega arith, omega arith)
least_small a b false h = let z : b ≤ a = ltb-false a b h in (omega arith, omega arith)

until_small : (clock due : ℕ) (c : Bool) (q : ℕ) → ltb last_clock due ≡ c → 0 < q → q ≤ cond c (last_clock - clock) (due - clock) → (clock + q ≤ due) × (clock + q ≤ last_clock)
until_small clock due true q h p r = let z : last_clock < due = ltb-true last_clock due h in (omega arith, omega arith)
until_small clock due false q h p r = let z : due ≤ last_clock = ltb-false last_clock due h in (omega arith, omega arith)

none : {A : Type 0} (q : ℕ) → q ≡ 0 → 0 < q → A
none q e h = absurd (let z : ⊥ = omega arith in z)

-- the clocks of at most so many cycles as are calm
calm_by : (m : Machine) (q : ℕ) (c : Bool) → eqb (rate_of m) 0 ≡ c → q ≤ cond c last_clock ((overflow_at (timers_of m) - 1) / rate_of m) → quiet_of (q * rate_of m) (timers_of m) ≡ true
unfolding quiet_of
calm_by m q true h g = ap (λ (x : ℕ). quiet_of (q * x) (timers_of m)) (eqb-true (rate_of m) 0 h) ∙ ap (λ (x : ℕ). quiet_of x (timers_of m)) (mul-zero q)
calm_by m q false h g =
    let n = eqb-false (rate_of m) 0 h in
    let z : 0 < rate_of m = pos_of_ne-zero n in
    quiet_cycles_law (timers_of m) (rate_of m) (timers_ranged m) z q ∙ le-leb q ((overflow_at (timers_of m) - 1) / rate_of m) g

-- q is at most what the CPU sleeps, and at most what lies before the next event
made_by : (m : Machine) (due left q a : ℕ) → 0 < q → q ≡ least_of a (least_of (until_of m.cpu.clock due) (calm_of m)) → a ≤ left → (q ≤ a → Sleeps m q) → Passing m due left q
unfolding calm_of
made_by m due left q a h e p f =
    let u = until_of m.cpu.clock due in
    let c = calm_of m in
    let y = least_of u c in
    let g = least_small a y (ltb a y) refl in
    let k = least_small u c (ltb u c) refl in
    let asleep : q ≤ a = subst (λ (z : ℕ). z ≤ a) (sym e) g.0 in
    let under : q ≤ y = subst (λ (z : ℕ). z ≤ y) (sym e) g.1 in
    let w = until_small m.cpu.clock due (ltb last_clock due) q refl h (le_trans under k.0) in
    record {
      sleeps = f asleep;
      within = le_trans asleep p;
      ahead = w.0;
      in_time = w.1;
      quiet = calm_by m q (eqb (rate_of m) 0) refl (le_trans under k.1);
    }

passing_by : (m : Machine) (due left q : ℕ) (h i w : Bool) → eqb m.cpu.timing.hold 0 ≡ h → eqb m.cpu.mode 0 ≡ i → wakes_of m.mem ≡ w → 0 < q →
    q ≡ cond (h && i) 0 (least_of (cond h (cond w 0 left) (least_of left m.cpu.timing.hold)) (least_of (until_of m.cpu.clock due) (calm_of m))) → Passing m due left q
passing_by m due left q true true w x y z some e = none q e some
passing_by m due left q true false true x y z some e =
    made_by m due left q 0 some e (let o : 0 ≤ left = omega arith in o) (λ r. absurd (let o : ⊥ = omega arith in o))
passing_by m due left q true false false x y z some e =
    made_by m due left q left some e (let o : left ≤ left = omega arith in o) (λ r. inl (eqb-true m.cpu.timing.hold 0 x, (eqb-false m.cpu.mode 0 y, z)))
passing_by m due left q false i w x y z some e =
    let g = least_small left m.cpu.timing.hold (ltb left m.cpu.timing.hold) refl in
    made_by m due left q (least_of left m.cpu.timing.hold) some e g.0 (λ r. inr (eqb-false m.cpu.timing.hold 0 x, le_trans r g.1))

both_none : (a : Bool) → ◌≡◌ {A = ℕ} (cond a 0 0) 0
both_none true = refl
both_none false = refl

pub passing : (origin : Origin) (m : Machine) (due left q : ℕ) → q ≡ stretch_of origin m due left → 0 < q → Passing m due left q
unfolding stretch_of by_origin idle_steps asleep_of
passing Rom m due left q e h = none q (e ∙ both_none (awake_of m.cpu)) h
passing Table m due left q e h =
    passing_by m due left q (eqb m.cpu.timing.hold 0) (eqb m.cpu.mode 0) (wakes_of m.mem) refl refl refl h e

-- a run after a stretch of q steps
stretched_by : (src : ℕ → Code) (n : ℕ) (t : List ℕ) (budget steps j e due : ℕ) (m : Machine) (l : List ℕ) (p : Run) → Passing m due (budget - steps) (1 + j) → scan_of t m.cpu.cursor ≡ Ok due → length m.mem ≡ nibbles →
    steps_from (untold_of src n t) (budget - steps) m l e steps ≡ p → steps_from (untold_of src n t) (budget - (steps + (1 + j))) (passed_of m (1 + j)) l e (steps + (1 + j)) ≡ p
stretched_by src n t budget steps j e due m l p h s long so_far =
    let w = h.within in
    sym (passing_steps src n t j (budget - (steps + (1 + j))) m due l e steps h.sleeps s h.ahead h.in_time long h.quiet) ∙
    ap (λ (c : ℕ). steps_from (untold_of src n t) c m l e steps) (let z : 1 + j + (budget - (steps + (1 + j))) ≡ budget - steps = omega arith in z) ∙ so_far

pub stretched : (src : ℕ → Code) (n : ℕ) (t : List ℕ) (budget steps q e due : ℕ) (m : Machine) (l : List ℕ) (p : Run) → Passing m due (budget - steps) q → 0 < q → scan_of t m.cpu.cursor ≡ Ok due → length m.mem ≡ nibbles →
    steps_from (untold_of src n t) (budget - steps) m l e steps ≡ p → steps_from (untold_of src n t) (budget - (steps + q)) (passed_of m q) l e (steps + q) ≡ p
stretched src n t budget steps q e due m l p h some s long so_far =
    let j = q - 1 in
    let is : 1 + j ≡ q = omega arith in
    subst (λ (x : ℕ). steps_from (untold_of src n t) (budget - (steps + x)) (passed_of m x) l e (steps + x) ≡ p) is
    (stretched_by src n t budget steps j e due m l p (subst (Passing m due (budget - steps)) (sym is) h) s long so_far)

-- what the code passes, said of plain values
pub quiet_as : (a b : ℕ) (s t : Timers) → a ≡ b → s ≡ t → quiet_of b t ≡ true → quiet_of a s ≡ true
quiet_as a b s t p q h = ap (λ (x : ℕ). quiet_of x s) p ∙ ap (quiet_of b) q ∙ h

pub ranged_as : (a : ℕ) {s t : Timers} → Ranged s → quiet_of a s ≡ true → t ≡ quiet_state_of a s → Ranged t
ranged_as a {s} {t} r h e = subst Ranged (sym e) (quiet_ranged a s r h)

pub passed_as : (l : List ℕ) (c : Cpu) (n a : ℕ) (s t : Timers) {k : List ℕ} {w x : ℕ} → a ≡ n * rate_in l c.mode → s ≡ timers_in l c.timing.basic → t ≡ quiet_state_of a s → k ≡ stored_in l t → w ≡ basic_of t →
    x ≡ c.timing.hold - n → at k (with_timing (with_clock c (c.clock + n)) (record { basic = w; hold = x })) ≡ passed_of (at l c) n
unfolding passed_of
passed_as l c n a s t {k} {w} {x} p q e f g h =
    let d = with_clock c (c.clock + n) in
    let is : t ≡ quiet_state_of (n * rate_in l c.mode) (timers_in l c.timing.basic) = e ∙ ap (λ (y : ℕ). quiet_state_of y s) p ∙ ap (quiet_state_of (n * rate_in l c.mode)) q in
    ap (λ (y : List ℕ). at y (with_timing d (record { basic = w; hold = x }))) f ∙ ap₂ (λ (y z : ℕ). at (stored_in l t) (with_timing d (record { basic = y; hold = z }))) g h ∙
    ap (with_timers (at l (later_of c n))) is

-- one test for the hold and the mode
awake_by : (mode hold : ℕ) (b : Bool) → eqb hold 0 ≡ b → eqb (mode + hold) 0 ≡ b && eqb mode 0
awake_by mode hold true h = ap (λ (x : ℕ). eqb (mode + x) 0) (eqb-true hold 0 h) ∙ ap (λ (x : ℕ). eqb x 0) (add-zero mode)
awake_by mode hold false h = let some = eqb-false hold 0 h in ne_eqb (mode + hold) 0 (λ e. some (omega arith))

pub awake_as : (c : Cpu) → eqb (c.mode + c.timing.hold) 0 ≡ awake_of c
awake_as c = awake_by c.mode c.timing.hold (eqb c.timing.hold 0) refl

-- the calm cycles
pub calm_never : (m : Machine) {r : ℕ} → r ≡ rate_of m → r ≡ 0 → last_clock ≡ calm_of m
unfolding calm_of
calm_never m p h = rw (eq-eqb (rate_of m) 0 (sym p ∙ h))

pub calm_some : (m : Machine) {r : ℕ} {t : Timers} {x : ℕ} → r ≡ rate_of m → (r ≡ 0 → ⊥) → t ≡ timers_of m → x ≡ (overflow_at t - 1) / r → x ≡ calm_of m
unfolding calm_of
calm_some m {r} {t} {x} p h q e =
    e ∙ ap (λ (z : Timers). (overflow_at z - 1) / r) q ∙ ap (λ (z : ℕ). (overflow_at (timers_of m) - 1) / z) p ∙
    sym (ap (λ (b : Bool). cond b last_clock ((overflow_at (timers_of m) - 1) / rate_of m)) (ne_eqb (rate_of m) 0 (λ z. h (p ∙ z))))
