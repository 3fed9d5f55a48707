-- Two accepted traces that mean the same replay alike: `alike`, the claim of specs/Alike.antt, and that the traces are the reason of no refusal.
-- Assumes nothing.
use Prim.Native.Nat.{ℕ, zero, suc, ◌+◌}
use mathlib.Core.Path.{◌≡◌, ◌∙◌, refl, sym, ap, subst, subst⁻¹}
use mathlib.Core.Bool.{true, cond}
use mathlib.Core.List.{List, ◌++◌}
use native.Mathlib.Nat.{zero-add}
use lib.Dec.{ltb}
use lib.ListN.{length, replicate, take, drop}
use lib.Seq.{take-append-add, drop-append-add}
use Rattle.std.specs.Prelude.{Result, Ok}
use Rattle.numbers.specs.Numbers.{done, rom_refusal, table_refusal, log_refusal}
use Rattle.chip.specs.declared.Machine.{Machine}
use Rattle.chip.specs.State.{nibbles}
use Rattle.image.specs.Image.{at_cursor, at_timing, cpu_of, machine_of, image_of, scalars_of}
use Rattle.fetch.specs.declared.Origin.TheVariants.{Rom, Table}
use Rattle.table.specs.Table.{stale_of}
use Rattle.trace.specs.declared.Fault.{Fault}
use Rattle.trace.specs.Trace.{due_in, scan_of, scan_number, due_next}
use Rattle.trace.proofs.Entries.{remaining, at_first}
use Rattle.trace.proofs.Ready.{head_due, standing}
use Rattle.steps.specs.Steps.{Run, ending_number, ending_place, steps_over}
use Rattle.verdicts.specs.Verdicts.{Verdict, accepted, refused_as, rom_fits, table_fits, trace_verdict, start_verdict, state_verdict, table_verdict, plain_verdict, run_verdict}
use Rattle.verdicts.proofs.Accepted.{rom_size, Fit, plain_accepted, taken_apart}
use Rattle.calls.specs.Calls.{Called, answered, ran_to, ran_in, called_by, plain_call, table_call}
use Rattle.tidy.specs.Meaning.{Event, events_in, meaning_of, Accepted}
use Rattle.invariant.specs.Sound.{Sound}
use Rattle.invariant.proofs.Images.{read_sound, image_read}
use Rattle.budgets.specs.Claim.{sum, plain_machine, Listed, calls_over, total, Agrees, Claim}
use Rattle.budgets.proofs.Claimed.{claim}
use Rattle.budgets.proofs.Verdicts.{run_alike}
use Rattle.alike.specs.Alike.{SameState, SameCall, SameList, Given, Alike}
use Rattle.alike.proofs.Unseen.{but}
use Rattle.alike.proofs.Meant.{Faces}
use Rattle.alike.proofs.Replays.{run_but}
use Rattle.alike.proofs.Beside.{Beside, runs, beside, each}

-- the image of a machine before and behind its cursor
module _ (m : Machine) (long : length m.mem ≡ nibbles) where
  image_before : take at_cursor (image_of m) ≡ take at_cursor (image_of (but m 0))
  unfolding scalars_of
  image_before =
      let c = scalars_of m.cpu in
      let d = scalars_of (but m 0).cpu in
      subst (λ (n : ℕ). take (n + 18) (m.mem ++ c) ≡ take (n + 18) (m.mem ++ d)) long
      (take-append-add m.mem c 18 ∙ sym (take-append-add m.mem d 18))

  image_behind : drop at_timing (image_of m) ≡ drop at_timing (image_of (but m 0))
  unfolding scalars_of
  image_behind =
      let c = scalars_of m.cpu in
      let d = scalars_of (but m 0).cpu in
      subst (λ (n : ℕ). drop (n + 22) (m.mem ++ c) ≡ drop (n + 22) (m.mem ++ d)) long
      (drop-append-add m.mem c 22 ∙ sym (drop-append-add m.mem d 22))

-- two runs that are the same but for the cursor
record SameRun (n : ℕ) (p q : Run) : Type 0 where
  same : run_but p ≡ run_but q
  first : Sound n p.state
  second : Sound n q.state

module _ (n : ℕ) (p q : Run) (h : SameRun n p q) where
  same_image : SameState (image_of p.state) (image_of q.state)
  same_image =
      record {
        before =
            image_before p.state h.first.mem.long ∙ ap (λ (r : Run). take at_cursor (image_of r.state)) h.same ∙
            sym (image_before q.state h.second.mem.long);
        behind =
            image_behind p.state h.first.mem.long ∙ ap (λ (r : Run). drop at_timing (image_of r.state)) h.same ∙
            sym (image_behind q.state h.second.mem.long);
      }

  same_ran : SameCall (ran_to p) (ran_to q)
  same_ran =
      record {
        answer = ap (λ (r : Run). answered (ending_number r.ending) r.steps (ending_place r.ending) r.end) h.same;
        state = same_image;
        log = ap (λ (r : Run). r.log) h.same;
      }

-- calls that leave everything as it was
same_refused : (s : List ℕ) → SameState s s
same_refused s = record { before = refl; behind = refl }

-- a trace that is accepted is not the reason of a verdict
module _ (s : List ℕ) (start : (cpu_of s).cursor ≡ 0) (g : List ℕ) (e : ℕ) where
  trace_taken : (x : Result ℕ Fault) → scan_number x ≡ done → trace_verdict x g e ≡ cond (ltb (length g) e) (refused_as log_refusal 0) accepted
  unfolding trace_verdict
  trace_taken x h = rw h

  start_taken : (t : List ℕ) → Accepted t → start_verdict s t g e ≡ cond (ltb (length g) e) (refused_as log_refusal 0) accepted
  unfolding start_verdict
  start_taken t h = ap (λ (c : ℕ). trace_verdict (scan_of t c) g e) start ∙ trace_taken (scan_of t 0) h

  module _ (rom x y : List ℕ) (h : Accepted x) (k : Accepted y) where
    same_start : start_verdict s x g e ≡ start_verdict s y g e
    same_start = start_taken x h ∙ sym (start_taken y k)

    plain_same : plain_verdict rom s x g e ≡ plain_verdict rom s y g e
    unfolding plain_verdict
    plain_same = ap (λ (v : Verdict). cond (rom_fits (length rom)) (state_verdict (length rom) s v) (refused_as rom_refusal 0)) same_start

    run_same : (table : List ℕ) → run_verdict rom table s x g e ≡ run_verdict rom table s y g e
    unfolding run_verdict
    run_same table =
        ap (λ (v : Verdict). cond (rom_fits (length rom))
        (cond (table_fits (length rom) (length table)) (state_verdict (length rom) s (table_verdict (stale_of rom table) v)) (refused_as table_refusal 0))
        (refused_as rom_refusal 0)) same_start

-- the machine at the start of its trace
start_faces : (m : Machine) (t : List ℕ) (d : ℕ) → m.cpu.cursor ≡ 0 → scan_of t m.cpu.cursor ≡ Ok d → Faces t (meaning_of t) m
start_faces m t d z s =
    let here : scan_of t 0 ≡ Ok d = subst (λ (c : ℕ). scan_of t c ≡ Ok d) z s in
    let due : d ≡ due_next t 0 0 = sym (standing t 0 d here).dated ∙ ap (due_in 0) (sym (at_first t)) ∙ head_due t 0 0 in
    record {
      passed = 0;
      stands = subst⁻¹ (λ (c : ℕ). scan_of t c ≡ Ok (due_next t c 0)) z (here ∙ ap Ok due);
      left = ap (λ (c : ℕ). events_in (remaining t c 0)) z ∙ ap events_in (at_first t);
    }

total_none : (n k p e : ℕ) → total (replicate n (answered k 0 p e)) ≡ 0
unfolding total
total_none zero k p e = refl
total_none (suc n) k p e = zero-add _ ∙ total_none n k p e

module _ (rom s x y : List ℕ) (given : Given rom s x y) where
  -- the machine with either trace, from a state that fits
  module _ (g : List ℕ) (e b : ℕ) (fits : rom_fits (length rom) ≡ true) (f : Fit (length rom) s x g e) (k : Fit (length rom) s y g e) where
    start_sound : Sound (length rom) (machine_of s)
    start_sound = read_sound s (length rom) (rom_size (length rom) fits) f.long given.state_bytes f.fields

    start_beside : Beside (length rom) x y (machine_of s) (machine_of s)
    start_beside =
        record {
          same = refl;
          left = meaning_of x;
          first = record { sound = start_sound; faces = start_faces (machine_of s) x f.due given.start f.stands };
          second =
              record {
                sound = start_sound;
                faces =
                    subst⁻¹ (λ (xs : List Event). Faces y xs (machine_of s)) given.meaning
                    (start_faces (machine_of s) y k.due given.start k.stands);
              };
        }

    machines : SameRun (length rom) (plain_machine rom s x g e b) (plain_machine rom s y g e b)
    unfolding steps_over
    machines =
        let after = beside rom fits given.rom_bytes x y (machine_of s) (machine_of s) start_beside g e b f.start in
        record {
          same = runs rom fits given.rom_bytes x y (machine_of s) (machine_of s) start_beside g e b f.start;
          first = after.first.sound;
          second = after.second.sound;
        }

  -- the plain run, by its verdict
  called : (g : List ℕ) (e b : ℕ) (v : Verdict) → plain_verdict rom s x g e ≡ v → plain_verdict rom s y g e ≡ v →
      SameCall (called_by v Rom rom s x g e b) (called_by v Rom rom s y g e b)
  unfolding called_by ran_in
  called g e b accepted h k =
      let f = plain_accepted rom s x g e h in
      let d = plain_accepted rom s y g e k in
      same_ran (length rom) (plain_machine rom s x g e b) (plain_machine rom s y g e b) (machines g e b f.0 f.1 d.1)
  called g e b (refused_as i p) h k = record { answer = refl; state = same_refused s; log = refl }

  plain_alike : (g : List ℕ) (e b : ℕ) → SameCall (plain_call rom s x g e b) (plain_call rom s y g e b)
  unfolding plain_call
  plain_alike g e b =
      let v = plain_same s given.start g e rom x y given.first given.second in
      subst (λ (z : Verdict). SameCall (called_by (plain_verdict rom s x g e) Rom rom s x g e b) (called_by z Rom rom s y g e b)) v
      (called g e b (plain_verdict rom s x g e) refl (sym v))

  module _ (table g : List ℕ) (e : ℕ) where
    -- the table-driven run
    driven_by : (b : ℕ) (v : Verdict) → run_verdict rom table s x g e ≡ v → run_verdict rom table s y g e ≡ v →
        SameCall (table_call rom table s x g e b) (table_call rom table s y g e b)
    unfolding table_call called_by
    driven_by b accepted h k =
        let t = (taken_apart rom table s x g e h).tabled in
        subst⁻¹ (λ (c : Called). SameCall c (table_call rom table s y g e b)) (run_alike rom table s x g e b t.rom_fits_lem t.table_is)
        (subst⁻¹ (SameCall (plain_call rom s x g e b)) (run_alike rom table s y g e b t.rom_fits_lem t.table_is) (plain_alike g e b))
    driven_by b (refused_as i p) h k =
        subst⁻¹ (λ (v : Verdict). SameCall (called_by v Table table s x g e b) (table_call rom table s y g e b)) h
        (subst⁻¹ (λ (v : Verdict). SameCall (called_by (refused_as i p) Table table s x g e b) (called_by v Table table s y g e b)) k
        (record { answer = refl; state = same_refused s; log = refl }))

    -- the claim of demand 3 about the calls with either trace
    claimed : (t bs : List ℕ) → Claim rom table t s g e bs (calls_over rom table t s g e bs)
    claimed t bs = claim rom table t s g e bs given.rom_bytes given.state_bytes

    -- lists of calls with one sum of budgets
    lists_by : (bs cs : List ℕ) (v : Verdict) → sum bs ≡ sum cs → run_verdict rom table s x g e ≡ v → run_verdict rom table s y g e ≡ v →
        SameList (calls_over rom table x s g e bs) (calls_over rom table y s g e cs)
    lists_by bs cs accepted q h k =
        let a = taken_apart rom table s x g e h in
        let d = taken_apart rom table s y g e k in
        let p = (claimed x bs).where_accepted h in
        let o : Agrees (plain_machine rom s y g e (sum bs)) cs (calls_over rom table y s g e cs) =
        subst⁻¹ (λ (n : ℕ). Agrees (plain_machine rom s y g e n) cs (calls_over rom table y s g e cs)) q ((claimed y cs).where_accepted k) in
        let same = machines g e (sum bs) a.tabled.rom_fits_lem a.fit d.fit in
        record {
          state =
              subst⁻¹ (λ (z : List ℕ). SameState z (calls_over rom table y s g e cs).state) p.state
              (subst⁻¹ (SameState (image_of (plain_machine rom s x g e (sum bs)).state)) o.state
              (same_image (length rom) (plain_machine rom s x g e (sum bs)) (plain_machine rom s y g e (sum bs)) same));
          log = p.log ∙ ap (λ (r : Run). r.log) same.same ∙ sym o.log;
          end = p.end ∙ ap (λ (r : Run). r.end) same.same ∙ sym o.end;
          steps = p.steps ∙ ap (λ (r : Run). r.steps) same.same ∙ sym o.steps;
        }
    lists_by bs cs (refused_as i p) q h k =
        subst⁻¹ (λ (c : Listed). SameList c (calls_over rom table y s g e cs)) ((claimed x bs).where_refused i p h)
        (subst⁻¹ (SameList (record { state = s; log = g; end = e; answers = replicate (length bs) (answered i 0 p e) })) ((claimed y cs).where_refused i p k)
        (record { state = same_refused s; log = refl; end = refl; steps = total_none (length bs) i p e ∙ sym (total_none (length cs) i p e) }))

    -- the answers of one list of budgets
    answers_by : (bs : List ℕ) (v : Verdict) → run_verdict rom table s x g e ≡ v → run_verdict rom table s y g e ≡ v →
        (calls_over rom table x s g e bs).answers ≡ (calls_over rom table y s g e bs).answers
    answers_by bs accepted h k =
        let a = taken_apart rom table s x g e h in
        let d = taken_apart rom table s y g e k in
        subst (λ (z : List ℕ). (calls_over rom table x z g e bs).answers ≡ (calls_over rom table y z g e bs).answers)
        (image_read s (length rom) a.fit.long given.state_bytes a.fit.fields)
        (each rom table a.tabled given.rom_bytes bs x y (machine_of s) (machine_of s) g e a.fit.start
        (start_beside g e 0 a.tabled.rom_fits_lem a.fit d.fit))
    answers_by bs (refused_as i p) h k =
        ap (λ (c : Listed). c.answers) ((claimed x bs).where_refused i p h ∙ sym ((claimed y bs).where_refused i p k))

    same_verdict : run_verdict rom table s y g e ≡ run_verdict rom table s x g e
    same_verdict = sym (run_same s given.start g e rom x y given.first given.second table)

  pub alike : Alike rom s x y
  alike =
      record {
        plain = plain_alike;
        driven = λ table g e b. driven_by table g e b (run_verdict rom table s x g e) refl (same_verdict table g e);
        answers = λ table g e bs. answers_by table g e bs (run_verdict rom table s x g e) refl (same_verdict table g e);
        lists = λ table g e bs cs q. lists_by table g e bs cs (run_verdict rom table s x g e) q refl (same_verdict table g e);
      }
