-- Two machines side by side, each with its own trace: the same but for the cursor, and the same events are left to them. So they are after every run, and each call
-- of a list answers the same.
-- Assumes nothing.
use Prim.Native.Nat.{ℕ, ◌≤◌}
use mathlib.Core.Path.{◌≡◌, ◌∙◌, refl, sym, ap, subst⁻¹}
use mathlib.Core.Bool.{true}
use mathlib.Core.List.{List, [], ◌∷◌}
use mathlib.Core.Logic.{◌⊎◌}
use lib.ListN.{length}
use Rattle.chip.specs.declared.Machine.{Machine}
use Rattle.chip.specs.State.{rom0502, rom0504}
use Rattle.image.specs.Image.{image_of}
use Rattle.fetch.specs.declared.Code.{Code}
use Rattle.fetch.specs.declared.Origin.TheVariants.{Rom}
use Rattle.fetch.specs.Fetch.{code_at}
use Rattle.trace.specs.Trace.{due_next}
use Rattle.steps.specs.Steps.{Run, steps_from, step_by}
use Rattle.verdicts.specs.Verdicts.{rom_fits}
use Rattle.verdicts.proofs.Accepted.{rom_size, Tabled}
use Rattle.calls.specs.declared.Answer.{Answer}
use Rattle.calls.specs.Calls.{ran_to}
use Rattle.tidy.specs.Meaning.{Event}
use Rattle.invariant.specs.Sound.{Bytes, Sound}
use Rattle.invariant.proofs.Stepping.{code_bytes}
use Rattle.budgets.specs.Claim.{Listed, calls_over}
use Rattle.budgets.proofs.Claimed.{Good, call_first}
use Rattle.alike.proofs.Unseen.{but}
use Rattle.alike.proofs.Meant.{Faces}
use Rattle.alike.proofs.Replays.{run_but, Replay, meant_from, Meant, run_meant}

-- the machine m stands in the trace t where the events xs are left, and its fields are in their ranges
pub record Stands (n : ℕ) (t : List ℕ) (xs : List Event) (m : Machine) : Type 0 where
  pub sound : Sound n m
  pub faces : Faces t xs m

-- the machines m with the trace x and d with the trace y
pub record Beside (n : ℕ) (x y : List ℕ) (m d : Machine) : Type 0 where
  pub same : but m 0 ≡ but d 0
  pub left : List Event
  pub first : Stands n x left m
  pub second : Stands n y left d

module _ (rom : List ℕ) (fits : rom_fits (length rom) ≡ true) (bytes : Bytes rom) where
  size : (length rom ≡ rom0502) ⊎ (length rom ≡ rom0504)
  size = rom_size (length rom) fits

  abbrev src : ℕ → Code
  src = code_at Rom rom

  -- a run
  module _ (x y : List ℕ) (m d : Machine) (h : Beside (length rom) x y m d) (g : List ℕ) (e b : ℕ) (l : e ≤ length g) where
    abbrev run : List ℕ → Machine → Run
    run t k = steps_from (step_by Rom rom t) b k g e 0

    abbrev replay : Machine → Replay
    replay k = meant_from src (length rom) b h.left (but k 0) g e 0

    meant : (t : List ℕ) (k : Machine) → Stands (length rom) t h.left k → Meant src (length rom) t size (code_bytes rom bytes) (run t k) (replay k)
    meant t k s = run_meant src (length rom) t size (code_bytes rom bytes) b k h.left g e 0 s.sound s.faces l

    one : replay m ≡ replay d
    one = ap (λ (k : Machine). meant_from src (length rom) b h.left k g e 0) h.same

    pub runs : run_but (run x m) ≡ run_but (run y d)
    runs = (meant x m h.first).same ∙ ap (λ (r : Replay). r.run) one ∙ sym (meant y d h.second).same

    pub beside : Beside (length rom) x y (run x m).state (run y d).state
    beside =
        let p = meant x m h.first in
        let q = meant y d h.second in
        record {
          same = ap (λ (r : Run). r.state) runs;
          left = (replay m).left;
          first = record { sound = p.sound; faces = p.faces };
          second = record { sound = q.sound; faces = subst⁻¹ (λ (r : Replay). Faces y r.left (run y d).state) one q.faces };
        }

    within : (run x m).end ≤ length (run x m).log
    within = (meant x m h.first).within

-- a list of calls
module _ (rom table : List ℕ) (tabled : Tabled rom table) (bytes : Bytes rom) where
  good : (t : List ℕ) (xs : List Event) (m : Machine) → Stands (length rom) t xs m → Good rom table t tabled bytes m
  good t xs m h = (h.sound, (due_next t m.cpu.cursor h.faces.passed, h.faces.stands))

  pub each : (bs : List ℕ) (x y : List ℕ) (m d : Machine) (g : List ℕ) (e : ℕ) → e ≤ length g → Beside (length rom) x y m d →
      (calls_over rom table x (image_of m) g e bs).answers ≡ (calls_over rom table y (image_of d) g e bs).answers
  unfolding calls_over
  each [] x y m d g e l h = refl
  each (b ∷ bs) x y m d g e l h =
      let p = steps_from (step_by Rom rom x) b m g e 0 in
      let q = steps_from (step_by Rom rom y) b d g e 0 in
      let same = runs rom tabled.rom_fits_lem bytes x y m d h g e b l in
      let rest = (calls_over rom table x (image_of p.state) p.log p.end bs).answers in
      ap (λ (c : Listed). c.answers) (call_first rom table x tabled bytes b bs m g e (good x h.left m h.first) l) ∙
      ap (λ (r : Run). (ran_to r).answer ∷ rest) same ∙
      ap (λ (rs : List Answer). (ran_to q).answer ∷ rs)
      (each bs x y p.state q.state p.log p.end (within rom tabled.rom_fits_lem bytes x y m d h g e b l) (beside rom tabled.rom_fits_lem bytes x y m d h g e b l) ∙
      ap (λ (r : Run). (calls_over rom table y (image_of q.state) r.log r.end bs).answers) same) ∙
      sym (ap (λ (c : Listed). c.answers) (call_first rom table y tabled bytes b bs d g e (good y h.left d h.second) l))
