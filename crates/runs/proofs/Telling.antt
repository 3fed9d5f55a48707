-- A run that is finished with 9 at every undefined code is finished as told.
-- Assumes nothing.
use Prim.Native.Nat.{ℕ}
use native.Mathlib.Omega.{arith}
use mathlib.Core.Path.{◌≡◌, refl, ap, ap₂, ◌∙◌}
use mathlib.Core.List.{List}
use Rattle.fetch.specs.declared.Code.{Code}
use Rattle.step.specs.Told.{number_at}
use Rattle.steps.specs.Steps.{Run, Ending, done, stop, ending_number, ending_place}
use Rattle.steps.specs.Untold.{told_ending, told_run}
use Rattle.runs.specs.declared.Ran.{Ran}
use Rattle.runs.specs.Answer.{ran_of, ran_told, Finished}

-- done has the number and the place 0, which stay
number_told : (src : ℕ → Code) (x : Ending) → number_at src (ending_number x) (ending_place x) ≡ ending_number (told_ending src x)
unfolding number_at
number_told src done = refl
number_told src (stop k p) = refl

place_told : (src : ℕ → Code) (x : Ending) → ending_place x ≡ ending_place (told_ending src x)
place_told src done = refl
place_told src (stop k p) = refl

done_told : (src : ℕ → Code) (x : Ending) → told_ending src x ≡ done → x ≡ done
done_told src done e = refl
done_told src (stop k p) e = absurd (let z : ◌≡◌ {A = ℕ} 0 1 = cc in omega arith)

answer_told : (src : ℕ → Code) (due : ℕ) (p : Run) → ran_told src (ran_of due p) ≡ ran_of due (told_run src p)
answer_told src due p =
    ap₂ (λ k a. record { cpu = p.state.cpu; due = due; end = p.end; steps = p.steps; number = k; address = a }) (number_told src p.ending) (place_told src p.ending)

pub finished_told : (src : ℕ → Code) {t : List ℕ} {p : Run} {r : Ran} {l g : List ℕ} → Finished t p r l g → Finished t (told_run src p) (ran_told src r) l g
finished_told src {p = p} {r = r} f =
    record {
      answer = ap (ran_told src) f.answer ∙ answer_told src r.due p;
      mem = f.mem;
      log = f.log;
      stands = λ e. f.stands (done_told src p.ending e);
    }
