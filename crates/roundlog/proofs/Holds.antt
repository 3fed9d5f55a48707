-- Whatever a run is given, what it wrote is a log that a count of litres takes; so is what a list of calls wrote, and a head in a call for several.
-- Assumes nothing.
use Prim.Native.Nat.{ℕ, ◌-◌, ◌*◌, ◌≤◌, ◌<◌}
use native.Mathlib.Omega.{arith}
use mathlib.Core.Path.{◌≡◌, ◌∙◌, refl, ap, subst⁻¹}
use mathlib.Core.Bool.{true}
use mathlib.Core.List.{List, []}
use lib.ListN.{length, take, drop, get_or, replicate}
use Rattle.parts.specs.Parts.{most_heads}
use Rattle.litres.specs.Log.{is_log}
use Rattle.litres.proofs.Laws.{log_none, log_is, marks_decide}
use Rattle.chip.specs.declared.Machine.{Machine}
use Rattle.image.specs.Image.{machine_of, image_size}
use Rattle.fetch.specs.declared.Origin.TheVariants.{Rom, Table}
use Rattle.step.specs.Step.{Out}
use Rattle.steps.specs.Steps.{steps_over}
use Rattle.verdicts.specs.Verdicts.{Verdict, accepted, refused_as, plain_verdict, run_verdict}
use Rattle.verdicts.proofs.Accepted.{plain_accepted, taken_apart}
use Rattle.calls.specs.declared.Answer.{Answer}
use Rattle.calls.specs.Calls.{ran_to, ran_in, called_by, plain_call, table_call}
use Rattle.invariant.specs.Sound.{Bytes}
use Rattle.budgets.specs.Claim.{Listed, sum, calls_over, plain_machine}
use Rattle.budgets.proofs.Claimed.{claim}
use Rattle.budgets.proofs.Verdicts.{step_same}
use Rattle.heads.specs.Heads.{Lent, head_of, log_at, share}
use Rattle.heads.specs.Call.{call_verdict, no_answer, dispatched_by, dispatch_of}
use Rattle.heads.proofs.Begun.{bytes_drop, bytes_take}
use Rattle.heads.proofs.Testing.{all_alike}
use Rattle.lorry.specs.Lorry.{had, turns_of}
use Rattle.lorry.proofs.Holds.{holds}
use Rattle.roundlog.specs.Logbook.{between, of_call, of_list, of_head, Taken, Logbook}
use Rattle.roundlog.proofs.Runs.{wrote, between_written}

taken : (log : List ℕ) → is_log log ≡ true → Taken log
taken log h = record { is_log_lem = h; marks_decide = λ marks. marks_decide log marks h }

-- where the end isn't past the start nothing was written
nothing : (start end : ℕ) (log : List ℕ) → end ≤ start → Taken (between start end log)
nothing start end log h =
    let none : end - start ≡ 0 = omega arith in
    subst⁻¹ (λ (n : ℕ). Taken (take n (drop start log))) none (taken [] (log_is 0 [] (log_none 0)))

-- the steps of the plain machine
machine : (rom s t g : List ℕ) (e n : ℕ) → e ≤ length g → let p = plain_machine rom s t g e n in Taken (between e p.end p.log)
unfolding steps_over
machine rom s t g e n h =
    let w = wrote rom t n (machine_of s) g e 0 h in
    subst⁻¹ Taken ((λ i. between e (w.end i) (w.log i)) ∙ between_written g e w.bytes h)
    (taken w.bytes (log_is (machine_of s).cpu.clock w.bytes w.from_clock))

plain : (rom s t g : List ℕ) (e b : ℕ) → Taken (of_call e (plain_call rom s t g e b))
unfolding plain_call called_by ran_in
plain rom s t g e b = by (plain_verdict rom s t g e) refl
  where
    by : (v : Verdict) → plain_verdict rom s t g e ≡ v → Taken (of_call e (called_by v Rom rom s t g e b))
    by accepted h = machine rom s t g e b (plain_accepted rom s t g e h).1.start
    by (refused_as k p) h = nothing e e g (omega arith)

driven : (rom table s t g : List ℕ) (e b : ℕ) → Taken (of_call e (table_call rom table s t g e b))
unfolding table_call called_by ran_in
driven rom table s t g e b = by (run_verdict rom table s t g e) refl
  where
    by : (v : Verdict) → run_verdict rom table s t g e ≡ v → Taken (of_call e (called_by v Table table s t g e b))
    by accepted h =
        let a = taken_apart rom table s t g e h in
        subst⁻¹ (λ (f : Machine → ℕ → Out). Taken (of_call e (ran_to (steps_over f b (machine_of s) g e)))) (step_same rom table t a.tabled)
        (machine rom s t g e b a.fit.start)
    by (refused_as k p) h = nothing e e g (omega arith)

-- a list of calls leaves what the plain machine leaves
lists : (rom table t s g : List ℕ) (e : ℕ) (bs : List ℕ) → Bytes rom → Bytes s → Taken (of_list e (calls_over rom table t s g e bs))
lists rom table t s g e bs rom_bytes state_bytes = by (run_verdict rom table s t g e) refl
  where
    by : (v : Verdict) → run_verdict rom table s t g e ≡ v → Taken (of_list e (calls_over rom table t s g e bs))
    by accepted h =
        let a = (claim rom table t s g e bs rom_bytes state_bytes).where_accepted h in
        subst⁻¹ Taken (λ i. between e (a.end i) (a.log i)) (machine rom s t g e (sum bs) (taken_apart rom table s t g e h).fit.start)
    by (refused_as k p) h =
        subst⁻¹ (λ (c : Listed). Taken (of_list e c)) ((claim rom table t s g e bs rom_bytes state_bytes).where_refused k p h) (nothing e e g (omega arith))

-- a head is what a list of calls on its own bytes leaves
heads : (c : Lent) (q turns i : ℕ) → Bytes c.rom → Bytes c.states → i < c.count → Taken (of_head c i (dispatch_of c q turns))
unfolding dispatch_of dispatched_by head_of
heads c q turns i rom_bytes state_bytes inside = by (call_verdict c q) refl
  where
    by : (v : Verdict) → call_verdict c q ≡ v → Taken (of_head c i (dispatch_of c q turns))
    by accepted ok =
        let h = holds c q turns ok rom_bytes state_bytes in
        let left = (h.alone i inside).list in
        let end = ap (λ (r : Answer). r.log_end) (h.apart.answer i inside) ∙ left.end in
        let log = h.apart.log i inside ∙ left.log in
        let own = head_of c i in
        let own_bytes = bytes_take image_size (drop (image_size * i) c.states) (bytes_drop (image_size * i) c.states state_bytes) in
        let start = get_or c.starts i 0 in
        subst⁻¹ Taken (λ j. between start (end j) (log j))
        (lists c.rom c.table own.trace own.state own.log start (replicate (had i (turns_of c q turns).order) q) rom_bytes own_bytes)
    by (refused_as k p) h =
        let none = all_alike no_answer refl most_heads i in
        subst⁻¹ (λ (v : Verdict). Taken (of_head c i (dispatched_by v c q turns))) h
        (nothing (get_or c.starts i 0) (get_or (replicate most_heads no_answer) i no_answer).log_end (log_at i (share c) c.log)
        (let z = ap (λ (r : Answer). r.log_end) none in omega arith))

pub logbook : Logbook
logbook = record { plain = plain; driven = driven; lists = lists; heads = heads }
