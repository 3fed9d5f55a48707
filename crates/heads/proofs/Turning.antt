-- The parts of what is lent, as `heads::turns::turn` lends them on, are the head's own bytes; and what the run leaves of them is put back in its place.
-- Assumes nothing.
use Prim.Native.Nat.{ℕ, ◌+◌, ◌-◌, ◌*◌, ◌≤◌}
use native.Mathlib.Omega.{arith}
use mathlib.Core.Path.{◌≡◌, ◌∙◌, ap, subst}
use mathlib.Core.List.{List}
use borrow.Rule.Slice.PartMut.{mid_of, put_mid}
use lib.ListN.{length, take, get_or}
use Rattle.std.specs.Prelude.{Ok}
use Rattle.image.specs.Image.{cpu_of, image_size, machine_of}
use Rattle.fetch.specs.declared.Origin.TheVariants.{Table}
use Rattle.trace.specs.Trace.{scan_of}
use Rattle.parts.specs.Parts.{together}
use Rattle.parts.proofs.Laws.{width_part, width_back, length_part, trace_fits}
use Rattle.steps.specs.Steps.{steps_over, step_by}
use Rattle.runs.specs.Answer.{due_after}
use Rattle.calls.specs.declared.Answer.{Answer}
use Rattle.calls.specs.declared.Pause.{Pause}
use Rattle.calls.specs.Calls.{ran_in, Call}
use Rattle.heads.specs.Heads.{state_at, trace_at, log_at, over_both}
use Rattle.heads.specs.Turning.{turn_in, steps_in, Fitting, TurnMade}

-- x is where the trace starts
pub trace_part : (i x : ℕ) (lengths traces : List ℕ) → x ≡ together (take i lengths) →
    mid_of x (x + get_or lengths i 0 - x) traces ≡ trace_at i lengths traces
trace_part i x lengths traces e = width_part x (get_or lengths i 0) traces ∙ ap (λ (k : ℕ). mid_of k (get_or lengths i 0) traces) e

module _ (i : ℕ) (table states traces lengths log : List ℕ) (w q : ℕ) (a : Answer) (due : ℕ) (f : Fitting i table states traces lengths log w q a due) where
  pub trace_within : (x : ℕ) → x ≡ together (take i lengths) → x + get_or lengths i 0 ≤ length traces
  trace_within x e = omega (arith, e, trace_fits i lengths f.listed, f.together_long)

  -- s, t and g are the head's bytes
  module _ (s t g : List ℕ) (is : s ≡ state_at i states) (it : t ≡ trace_at i lengths traces) (ig : g ≡ log_at i w log) where
    pub long : length s ≡ image_size
    long = ap length is ∙ length_part (image_size * i) image_size states f.state

    pub start : a.log_end ≤ length g
    start = let l = ap length ig ∙ length_part (w * i) w log f.part in omega (arith, f.start, l)

    pub stands : scan_of t (cpu_of s).cursor ≡ Ok due
    stands = ap (λ (x : List ℕ). scan_of x (cpu_of s).cursor) it ∙ ap (λ (x : List ℕ). scan_of (trace_at i lengths traces) (cpu_of x).cursor) is ∙ f.stands

    -- the run on them is the head's turn
    module _ (r : Pause) (st lg : List ℕ) (call : Call (ran_in Table table s t g a.log_end q) r.answer st lg) where
      same : ran_in Table table s t g a.log_end q ≡ turn_in i table states traces lengths log w a.log_end q
      same =
          ap (λ (x : List ℕ). ran_in Table table x t g a.log_end q) is ∙
          ap (λ (x : List ℕ). ran_in Table table (state_at i states) x g a.log_end q) it ∙
          ap (λ (x : List ℕ). ran_in Table table (state_at i states) (trace_at i lengths traces) x a.log_end q) ig

      turn_call : Call (turn_in i table states traces lengths log w a.log_end q) r.answer st lg
      turn_call = subst (λ x. Call x r.answer st lg) same call

      pub steps_fit : a.steps + r.answer.steps ≤ 4294967295
      steps_fit = let n = ap (λ (x : Answer). x.steps) turn_call.answer in omega (arith, n, f.steps)

      same_due : due_after t (steps_over (step_by Table table t) q (machine_of s) g a.log_end) r.due →
          due_after (trace_at i lengths traces) (steps_in i table states traces lengths log w a.log_end q) r.due
      same_due d =
          subst (λ (x : List ℕ). due_after (trace_at i lengths traces) (steps_over (step_by Table table (trace_at i lengths traces)) q (machine_of (state_at i states)) x a.log_end) r.due) ig
          (subst (λ (x : List ℕ). due_after x (steps_over (step_by Table table x) q (machine_of (state_at i states)) g a.log_end) r.due) it
          (subst (λ (x : List ℕ). due_after t (steps_over (step_by Table table t) q (machine_of x) g a.log_end) r.due) is d))

      pub made : due_after t (steps_over (step_by Table table t) q (machine_of s) g a.log_end) r.due → (x : Answer) → x ≡ over_both a r.answer →
          TurnMade i table states traces lengths log w q a (record { answer = x; due = r.due })
          (put_mid (image_size * i) (image_size * i + image_size - image_size * i) states st) (put_mid (w * i) (w * i + w - w * i) log lg)
      made d x e =
          record {
            answer = e ∙ ap (over_both a) turn_call.answer;
            states_after = width_back (image_size * i) image_size states st ∙ ap (put_mid (image_size * i) image_size states) turn_call.state;
            log_after_lem = width_back (w * i) w log lg ∙ ap (put_mid (w * i) w log) turn_call.log;
            due_after_lem = same_due d;
          }
