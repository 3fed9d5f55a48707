-- The cases of the runs.
-- Assumes nothing.
use Prim.Native.Nat.{ℕ}
use mathlib.Core.Path.{◌≡◌, ◌∙◌, refl, ap, sym, subst}
use mathlib.Core.List.{List, ◌++◌}
use lib.ListN.{length, take, drop}
use lib.Seq.{take_at}
use Rattle.chip.specs.declared.Cpu.{Cpu}
use Rattle.chip.specs.State.{at, nibbles}
use Rattle.image.specs.Image.{cpu_of, machine_of, scalars_of}
use Rattle.fetch.specs.declared.Origin.{Origin}
use Rattle.fetch.specs.declared.Origin.TheVariants.{Rom, Table}
use Rattle.fetch.specs.Fetch.{code_at}
use Rattle.steps.specs.Steps.{Run, steps_over, step_by}
use Rattle.steps.specs.Untold.{untold_by, told_run}
use Rattle.steps.proofs.Telling.{told_steps}
use Rattle.runs.specs.declared.Ran.{Ran}
use Rattle.runs.specs.Answer.{Finished, due_after, ran_told}
use Rattle.runs.proofs.Telling.{finished_told}
use Rattle.verdicts.specs.Verdicts.{Verdict, accepted, refused_as, plain_verdict, run_verdict}
use Rattle.calls.specs.declared.Answer.{Answer}
use Rattle.calls.specs.Calls.{Called, answered, refused, ran_in, called_by, plain_call, table_call, Call}

pub told : {w w' : Called} {r : Answer} {s g : List ℕ} → w ≡ w' → Call w r s g → Call w' r s g
told {r = r} {s = s} {g = g} e h = subst (λ (w : Called). Call w r s g) e h

-- a refusal that answers a leaves state and log
pub refusal : (k p e : ℕ) (s g : List ℕ) (a : Answer) → a ≡ answered k 0 p e → Call (refused k p s g e) a s g
refusal k p e s g a h = record { answer = h; state = refl; log = refl }

-- a run on the state's nibbles, u what it answered and r what is told of that, m what it left there, and the scalars stored behind them
abbrev answer_in : Ran → Answer
answer_in r = answered r.number r.steps r.address r.end

module _ (origin : Origin) (code s t g m g' st : List ℕ) (e b : ℕ) (c : Cpu) (r : Ran) (q : c ≡ cpu_of s) (u : Ran) (h : r ≡ ran_told (code_at origin code) u)
    (f : Finished t (steps_over (untold_by origin code t) b (at (take nibbles s) c) g e) u m g') where
  abbrev steps : Run
  steps = steps_over (step_by origin code t) b (machine_of s) g e

  loaded : Finished t steps r m g'
  unfolding steps_over
  loaded =
      subst (λ (p : Run). Finished t p r m g') (sym (told_steps origin code t b (machine_of s) g e 0))
      (subst (λ (x : Ran). Finished t (told_run (code_at origin code) (steps_over (untold_by origin code t) b (machine_of s) g e)) x m g') (sym h)
      (finished_told (code_at origin code) (subst (λ (x : Cpu). Finished t (steps_over (untold_by origin code t) b (at (take nibbles s) x) g e) u m g') q f)))

  pub ran_in_lem : length m ≡ nibbles → st ≡ take nibbles (m ++ drop nibbles s) ++ scalars_of u.cpu → Call (ran_in origin code s t g e b) (answer_in r) st g'
  unfolding ran_in
  ran_in_lem n z =
      record {
        answer = ap answer_in loaded.answer;
        state =
            z ∙ ap (λ (x : Ran). take nibbles (m ++ drop nibbles s) ++ scalars_of x.cpu) (sym h) ∙
            ap (λ (x : List ℕ). x ++ scalars_of r.cpu) (take_at m (drop nibbles s) nibbles n ∙ loaded.mem) ∙
            ap (λ (x : Ran). steps.state.mem ++ scalars_of x.cpu) loaded.answer;
        log = loaded.log;
      }

  -- the due time that it goes on with
  pub ran_due : due_after t steps r.due
  ran_due = loaded.stands

-- what a verdict says of the plain run, and of the table-driven run
module _ (rom s t g : List ℕ) (e b : ℕ) where
  pub plain_refused : (k p : ℕ) → refused_as k p ≡ plain_verdict rom s t g e → refused k p s g e ≡ plain_call rom s t g e b
  unfolding plain_call called_by
  plain_refused k p h = ap (λ (v : Verdict). called_by v Rom rom s t g e b) h

  pub plain_ran : accepted ≡ plain_verdict rom s t g e → ran_in Rom rom s t g e b ≡ plain_call rom s t g e b
  unfolding plain_call called_by
  plain_ran h = ap (λ (v : Verdict). called_by v Rom rom s t g e b) h

module _ (rom table s t g : List ℕ) (e b : ℕ) where
  pub table_refused : (k p : ℕ) → refused_as k p ≡ run_verdict rom table s t g e → refused k p s g e ≡ table_call rom table s t g e b
  unfolding table_call called_by
  table_refused k p h = ap (λ (v : Verdict). called_by v Table table s t g e b) h

  pub table_ran : accepted ≡ run_verdict rom table s t g e → ran_in Table table s t g e b ≡ table_call rom table s t g e b
  unfolding table_call called_by
  table_ran h = ap (λ (v : Verdict). called_by v Table table s t g e b) h
