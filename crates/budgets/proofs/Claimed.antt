-- Demand 3: the claim about a whole list of calls, proved of the call's equation.
-- Assumes nothing.
use Prim.Native.Nat.{ℕ, zero, suc, ◌+◌, ◌-◌, ◌≤◌, ◌<◌}
use native.Mathlib.Omega.{arith}
use native.Mathlib.Nat.{zero-add, add-zero}
use mathlib.Core.Path.{◌≡◌, ◌∙◌, refl, sym, ap, subst, subst⁻¹}
use mathlib.Core.List.{List, [], ◌∷◌}
use mathlib.Core.Logic.{◌⊎◌, inl, inr}
use lib.ListN.{length, replicate}
use Rattle.std.specs.Prelude.{Ok}
use Rattle.numbers.specs.Numbers.{Stop}
use Rattle.numbers.proofs.Stops.{from_nine}
use Rattle.chip.specs.declared.Machine.{Machine}
use Rattle.image.specs.Image.{machine_of, image_of}
use Rattle.fetch.specs.declared.Origin.TheVariants.{Rom, Table}
use Rattle.fetch.specs.Fetch.{code_at}
use Rattle.trace.specs.Trace.{scan_of}
use Rattle.step.specs.Step.{Out, moved, stopped}
use Rattle.steps.specs.Steps.{Run, Ending, done, stop, steps_from, steps_over, step_by, ending_number, ending_place}
use Rattle.steps.proofs.Steps.{steps_stopped}
use Rattle.invariant.specs.Sound.{Sound, Bytes}
use Rattle.invariant.proofs.Images.{read_sound, image_read, image_long, image_fits, image_back}
use Rattle.invariant.proofs.Stepping.{code_bytes, step_sound, stop_number}
use Rattle.verdicts.specs.Verdicts.{Verdict, accepted, refused_as, run_verdict}
use Rattle.calls.specs.Calls.{Called, answered, ran_to, ran_in, called_by, table_call}
use Rattle.verdicts.proofs.Accepted.{rom_size, Fit, Tabled, taken_apart}
use Rattle.budgets.specs.Claim.{sum, plain_machine, Listed, first, calls_over, total, NoneRefused, EachAgain, Agrees, Empty, Claim}
use Rattle.budgets.proofs.Kept.{kept}
use Rattle.budgets.proofs.Went.{Went, went, shift}
use Rattle.budgets.proofs.Verdicts.{accepts, step_same, not_the_table}

-- the call, by its verdict
call_is : (rom table s t g : List ℕ) (e b : ℕ) (v : Verdict) → run_verdict rom table s t g e ≡ v →
    table_call rom table s t g e b ≡ called_by v Table table s t g e b
unfolding table_call
call_is rom table s t g e b v h = ap (λ (z : Verdict). called_by z Table table s t g e b) h

-- calls that are refused change nothing
refuses : (rom table t s g : List ℕ) (e : ℕ) (bs : List ℕ) (k p : ℕ) → run_verdict rom table s t g e ≡ refused_as k p →
    calls_over rom table t s g e bs ≡ record { state = s; log = g; end = e; answers = replicate (length bs) (answered k 0 p e) }
unfolding calls_over called_by
refuses rom table t s g e [] k p h = refl
refuses rom table t s g e (b ∷ bs) k p h =
    ap (λ (w : Called). first w.answer (calls_over rom table t w.state w.log w.answer.log_end bs))
    (call_is rom table s t g e b (refused_as k p) h) ∙
    ap (first (answered k 0 p e)) (refuses rom table t s g e bs k p h)

-- an empty list
empty : (rom table t s g : List ℕ) (e : ℕ) (bs : List ℕ) → bs ≡ [] → Empty s g e (calls_over rom table t s g e bs)
unfolding calls_over total
empty rom table t s g e bs h =
    subst⁻¹ (λ (x : List ℕ). Empty s g e (calls_over rom table t s g e x)) h (record { state = refl; log = refl; end = refl; no_step = refl })

-- calls on a machine m that stands at the stop k at the place p: nothing moves, and each gives it again
record Still (k p : ℕ) (m : Machine) (g : List ℕ) (e : ℕ) (bs : List ℕ) (c : Listed) : Type 0 where
  pub one_each : length c.answers ≡ length bs
  pub unrefused : NoneRefused c.answers
  pub state : c.state ≡ image_of m
  pub log : c.log ≡ g
  pub end : c.end ≡ e
  pub no_step : total c.answers ≡ 0
  pub each : EachAgain k p e bs c.answers

-- a ROM that fits, and its table
module _ (rom table t : List ℕ) (tabled : Tabled rom table) (bytes : Bytes rom) where
  pub size : (length rom ≡ 2048) ⊎ (length rom ≡ 4096)
  size = rom_size (length rom) tabled.rom_fits_lem

  -- the plain machine's step
  abbrev pub step : Machine → ℕ → Out
  step = step_by Rom rom t

  -- every field is in its range, and the cursor stands at a record's start or the trace's end
  abbrev pub Good : Machine → Type 0
  Good m = Sound (length rom) m × ((d : ℕ) × (scan_of t m.cpu.cursor ≡ Ok d))

  -- a step keeps that
  pub keeps : (m : Machine) (room : ℕ) (m' : Machine) (w : List ℕ) → Good m → step m room ≡ moved m' w → Good m' × (length w ≤ room)
  keeps m room m' w g q =
      let h = step_sound (code_at Rom rom) (length rom) t m room m' w g.1.0 size (code_bytes rom bytes) g.0 g.1.1 q in
      ((h.0, h.2), h.1)

  pub stops : (m : Machine) (room k p : ℕ) → step m room ≡ stopped k p → Stop k
  stops m room k p q = stop_number (code_at Rom rom) (length rom) t m room k p q

  -- a call on the image of a good machine is accepted, and is a run of the plain machine
  pub fit : (m : Machine) (g : List ℕ) (e : ℕ) → Good m → e ≤ length g → Fit (length rom) (image_of m) t g e
  fit m g e h l =
      record {
        long = image_long (length rom) m h.0;
        fields = image_fits (length rom) m size h.0;
        due = h.1.0;
        stands = ap (λ (x : Machine). scan_of t x.cpu.cursor) (image_back (length rom) m size h.0) ∙ h.1.1;
        start = l;
      }

  pub call_runs : (m : Machine) (g : List ℕ) (e b : ℕ) → Good m → e ≤ length g →
      table_call rom table (image_of m) t g e b ≡ ran_to (steps_over step b m g e)
  unfolding called_by ran_in
  call_runs m g e b h l =
      call_is rom table (image_of m) t g e b accepted (accepts rom table (image_of m) t g e tabled (fit m g e h l)) ∙
      ap (λ (f : Machine → ℕ → Out). ran_to (steps_over f b (machine_of (image_of m)) g e)) (step_same rom table t tabled) ∙
      ap (λ (x : Machine). ran_to (steps_over step b x g e)) (image_back (length rom) m size h.0)

  -- a call is a run, and the calls behind it go on from what the run left
  abbrev pub onward : Run → List ℕ → Listed
  onward r bs = first (ran_to r).answer (calls_over rom table t (image_of r.state) r.log r.end bs)

  pub call_first : (b : ℕ) (bs : List ℕ) (m : Machine) (g : List ℕ) (e : ℕ) → Good m → e ≤ length g →
      calls_over rom table t (image_of m) g e (b ∷ bs) ≡ onward (steps_from step b m g e 0) bs
  unfolding calls_over steps_over
  call_first b bs m g e h l =
      ap (λ (w : Called). first w.answer (calls_over rom table t w.state w.log w.answer.log_end bs)) (call_runs m g e b h l)

  still : (bs : List ℕ) (m : Machine) (g : List ℕ) (e k p : ℕ) → Good m → e ≤ length g → step m (length g - e) ≡ stopped k p →
      Still k p m g e bs (calls_over rom table t (image_of m) g e bs)
  unfolding calls_over total steps_from
  still [] m g e k p h l q =
      record { one_each = refl; unrefused = tt; state = refl; log = refl; end = refl; no_step = refl; each = tt }
  still (zero ∷ bs) m g e k p h l q =
      let i = still bs m g e k p h l q in
      subst⁻¹ (Still k p m g e (zero ∷ bs)) (call_first zero bs m g e h l)
      (record {
        one_each = ap suc i.one_each;
        unrefused = (inl refl, i.unrefused);
        state = i.state;
        log = i.log;
        end = i.end;
        no_step = zero-add _ ∙ i.no_step;
        each = (((refl, refl), refl, refl), i.each);
      })
  still (suc b ∷ bs) m g e k p h l q =
      let i = still bs m g e k p h l q in
      let n = stops m (length g - e) k p q in
      subst⁻¹ (Still k p m g e (suc b ∷ bs)) (call_first (suc b) bs m g e h l)
      (subst⁻¹ (λ (r : Run). Still k p m g e (suc b ∷ bs) (onward r bs)) (steps_stopped step b m g e 0 k p q)
      (record {
        one_each = ap suc i.one_each;
        unrefused = (inr n, i.unrefused);
        state = i.state;
        log = i.log;
        end = i.end;
        no_step = zero-add _ ∙ i.no_step;
        each = (((refl, refl), refl, refl), i.each);
      }))

  -- the run r of the first budget was done: the machine goes on from there, and so do the calls
  went_on : (r : Run) (b : ℕ) (bs : List ℕ) (m : Machine) (g : List ℕ) (e : ℕ) → r.ending ≡ done → Went step done r b (sum bs) m g e 0 →
      Agrees (steps_from step (sum bs) r.state r.log r.end 0) bs (calls_over rom table t (image_of r.state) r.log r.end bs) →
      Agrees (steps_from step (b + sum bs) m g e 0) (b ∷ bs) (onward r bs)
  unfolding sum total
  went_on r b bs m g e z w i =
      let n : r.steps ≡ 0 + b = w.0 in
      let d : ending_number r.ending ≡ 0 = ap ending_number z in
      subst⁻¹ (λ (p : Run). Agrees p (b ∷ bs) (onward r bs))
      (w.1 ∙ ap (steps_from step (sum bs) r.state r.log r.end) (sym (add-zero r.steps)) ∙
      shift step (sum bs) r.state r.log r.end r.steps 0)
      (record {
        one_each = ap suc i.one_each;
        unrefused = (inl d, i.unrefused);
        state = i.state;
        log = i.log;
        end = i.end;
        steps = ap (λ (k : ℕ). r.steps + k) i.steps;
        all_done = (λ x. let y = i.all_done.0 x.1 in omega arith, λ x. (d, i.all_done.1 (omega arith)));
        otherwise =
            λ x. let s = i.otherwise (omega arith) in
            record {
              number = s.number;
              place = s.place;
              ending = s.ending;
              first_gives = (λ y. s.first_gives, λ no. absurd (no d));
              later_give = (λ y. s.later_give, λ no. absurd (no d));
            };
      })

  -- the run r of the first budget stopped: the machine stands there, and the calls behind it give the stop again
  stood : (r : Run) (k p b : ℕ) (bs : List ℕ) (m : Machine) (g : List ℕ) (e : ℕ) → r.ending ≡ stop k p → Stop k →
      Went step (stop k p) r b (sum bs) m g e 0 →
      Still k p r.state r.log r.end bs (calls_over rom table t (image_of r.state) r.log r.end bs) →
      Agrees (steps_from step (b + sum bs) m g e 0) (b ∷ bs) (onward r bs)
  unfolding sum total
  stood r k p b bs m g e z s w i =
      let n : r.steps < 0 + b = w.0 in
      let d : ending_number r.ending ≡ k = ap ending_number z in
      let some = from_nine k s in
      let none : total (calls_over rom table t (image_of r.state) r.log r.end bs).answers ≡ 0 = i.no_step in
      subst⁻¹ (λ (p : Run). Agrees p (b ∷ bs) (onward r bs)) w.1
      (record {
        one_each = ap suc i.one_each;
        unrefused = (inr (subst Stop (sym d) s), i.unrefused);
        state = i.state;
        log = i.log;
        end = i.end;
        steps = omega arith;
        all_done = (λ x. absurd (let y : ending_number r.ending ≡ 0 = x.0 in omega arith), λ x. absurd (omega arith));
        otherwise =
            λ x. record {
              number = k;
              place = p;
              ending = z;
              first_gives = (λ y. absurd (omega arith), λ no. (d, ap ending_place z));
              later_give = (λ y. absurd (omega arith), λ no. i.each);
            };
      })

  agrees_by : (q : Ending) (r : Run) (b : ℕ) (bs : List ℕ) (m : Machine) (g : List ℕ) (e : ℕ) → r.ending ≡ q →
      ((k p : ℕ) → r.ending ≡ stop k p → Stop k) → Good r.state → r.end ≤ length r.log → Went step q r b (sum bs) m g e 0 →
      Agrees (steps_from step (sum bs) r.state r.log r.end 0) bs (calls_over rom table t (image_of r.state) r.log r.end bs) →
      Agrees (steps_from step (b + sum bs) m g e 0) (b ∷ bs) (onward r bs)
  agrees_by done r b bs m g e z numbers good within w i = went_on r b bs m g e z w i
  agrees_by (stop k p) r b bs m g e z numbers good within w i =
      stood r k p b bs m g e z (numbers k p z) w (still bs r.state r.log r.end k p good within w.2)

  -- what the plain machine does over the sum of the budgets, the calls do
  agrees : (bs : List ℕ) (m : Machine) (g : List ℕ) (e : ℕ) → Good m → e ≤ length g →
      Agrees (steps_from step (sum bs) m g e 0) bs (calls_over rom table t (image_of m) g e bs)
  unfolding calls_over sum total steps_from
  agrees [] m g e h l =
      record {
        one_each = refl;
        unrefused = tt;
        state = refl;
        log = refl;
        end = refl;
        steps = refl;
        all_done = (λ x. refl, λ x. tt);
        otherwise = λ x. absurd (omega arith);
      }
  agrees (b ∷ bs) m g e h l =
      let r = steps_from step b m g e 0 in
      let k = kept step Good Stop keeps stops b m g e 0 h l in
      subst⁻¹ (Agrees (steps_from step (b + sum bs) m g e 0) (b ∷ bs)) (call_first b bs m g e h l)
      (agrees_by r.ending r b bs m g e refl k.stop_by k.good k.within (went step b (sum bs) m g e 0)
      (agrees bs r.state r.log r.end k.good k.within))

  -- the same from an accepted state's bytes
  agrees_from : (s g : List ℕ) (e : ℕ) (bs : List ℕ) → Bytes s → Fit (length rom) s t g e →
      Agrees (plain_machine rom s t g e (sum bs)) bs (calls_over rom table t s g e bs)
  unfolding steps_over
  agrees_from s g e bs b f =
      subst (λ (x : List ℕ). Agrees (steps_from step (sum bs) (machine_of s) g e 0) bs (calls_over rom table t x g e bs))
      (image_read s (length rom) f.long b f.fields)
      (agrees bs (machine_of s) g e (read_sound s (length rom) size f.long b f.fields, (f.due, f.stands)) f.start)

pub claim : (rom table t s g : List ℕ) (e : ℕ) (bs : List ℕ) → Bytes rom → Bytes s →
    Claim rom table t s g e bs (calls_over rom table t s g e bs)
claim rom table t s g e bs b b' =
    record {
      where_accepted = λ h. let a = taken_apart rom table s t g e h in agrees_from rom table t a.tabled b s g e bs b' a.fit;
      where_refused = refuses rom table t s g e bs;
      for_none = empty rom table t s g e bs;
      predecoded = λ old h k. not_the_table rom old table s t g e h k;
    }
