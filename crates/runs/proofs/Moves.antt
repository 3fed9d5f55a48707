-- One step of a run: what it did, said of the machine that makes one step after another.
-- Assumes nothing.
use Prim.Native.Nat.{ℕ, suc, ◌+◌, ◌-◌, ◌≤◌, ◌<◌}
use native.Mathlib.Omega.{arith}
use native.Mathlib.Numerals.{add-one}
use mathlib.Core.Path.{◌≡◌, ◌∙◌, refl, sym, ap, ap₂, subst, subst⁻¹}
use mathlib.Core.Bool.{Bool, true, false, cond}
use mathlib.Core.List.{List, []}
use borrow.Rule.Slice.PartMut.{mid_of, put_mid, same_len_mid}
use borrow.Author.Tests.{leb-false}
use lib.Dec.{leb}
use lib.Seq.{get_or-set_same}
use lib.ListN.{length, get_or, set, length-set, drop, length-append, length-drop, take-append-drop}
use Rattle.std.specs.Prelude.{Ok}
use Rattle.chip.specs.declared.Cpu.{Cpu}
use Rattle.chip.specs.declared.Machine.{Machine}
use Rattle.chip.specs.State.{at, nibbles}
use Rattle.fetch.specs.declared.Code.{Code}
use Rattle.events.specs.Records.{records_of}
use Rattle.portlog.specs.Log.{written}
use Rattle.portlog.proofs.Part.{mid_rest, put_written}
use Rattle.trace.specs.Trace.{scan_of}
use Rattle.arrivals.specs.declared.Due.{Due}
use Rattle.arrivals.specs.Arrivals.{Arrived}
use Rattle.arrivals.proofs.Arriving.{records_none}
use Rattle.step.specs.declared.Stepping.{Stepping}
use Rattle.step.specs.declared.Stepping.TheVariants.{Moved, Stopped}
use Rattle.step.specs.Step.{Out, moved, stopped, stands_at, Stepped, StepMade}
use Rattle.steps.specs.Steps.{Run, done, stop, steps_from}
use Rattle.steps.proofs.Steps.{steps_moved, steps_stopped}
use Rattle.runs.specs.declared.Ran.{Ran}
use Rattle.runs.specs.Answer.{done_as, stopped_as, Finished, ran_of}

-- The machine k once the records that were due at m are applied: the due time of the record at its cursor, and whether records came. Where they
-- came, the nibbles before them are in `saved` and the scalars at place i of `undo`.
pub record Readied (src : ℕ → Code) (n : ℕ) (t : List ℕ) (m k : Machine) (due : ℕ) (kept : Bool) (saved : List ℕ) (undo : List Cpu) (i size : ℕ) : Type 0 where
  pub machine : k ≡ records_of (src 0) n t m
  pub stands : scan_of t k.cpu.cursor ≡ Ok due
  pub before : cond kept saved k.mem ≡ m.mem
  pub scalars : (z : Cpu) → cond kept (get_or undo i z) k.cpu ≡ m.cpu
  pub long : length k.mem ≡ nibbles
  pub saved_long : length saved ≡ nibbles
  pub undo_long : length undo ≡ size

module _ (src : ℕ → Code) (n : ℕ) (t : List ℕ) (l : List ℕ) (c : Cpu) (s : List ℕ) (h : List Cpu) (i size : ℕ) (h-long : length h ≡ size) (inside : i < size) {mem : List ℕ} {cpu : Cpu} {due : ℕ} {kept : Bool} {saved : List ℕ} {undo : List Cpu} where
  -- records came
  pub some_came : {mem' saved' : List ℕ} (r : Due) → Arrived (src 0) n t (at l c) r mem' saved' → length mem' ≡ nibbles → length saved' ≡ nibbles → kept ≡ true → mem ≡ mem' → saved ≡ saved' → undo ≡ set h i c → cpu ≡ r.cpu → due ≡ r.due →
      Readied src n t (at l c) (at mem cpu) due kept saved undo i size
  some_came {mem'} {saved'} r a p q came ma sa ha ca da =
      subst (λ (x : Machine). Readied src n t (at l c) x due kept saved undo i size) (sym (ap₂ at ma ca))
      (subst (λ (x : Bool). Readied src n t (at l c) (at mem' r.cpu) due x saved undo i size) (sym came)
      record {
        machine = a.machine;
        stands = a.stands ∙ ap Ok (sym da);
        before = sa ∙ a.before;
        scalars = λ z. ap (λ (x : List Cpu). get_or x i z) ha ∙ get_or-set_same h i c z (rw h-long inside);
        long = p;
        saved_long = ap length sa ∙ q;
        undo_long = ap length ha ∙ length-set h i c ∙ h-long;
      })

  -- none came
  pub none_came : (d : ℕ) → scan_of t c.cursor ≡ Ok d → length l ≡ nibbles → length s ≡ nibbles → kept ≡ leb d c.clock → kept ≡ false → mem ≡ l → saved ≡ s → undo ≡ h → cpu ≡ c → due ≡ d →
      Readied src n t (at l c) (at mem cpu) due kept saved undo i size
  none_came d stands p q test none ma sa ha ca da =
      subst (λ (x : Machine). Readied src n t (at l c) x due kept saved undo i size) (sym (ap₂ at ma ca))
      (subst (λ (x : Bool). Readied src n t (at l c) (at l c) due x saved undo i size) (sym none)
      record {
        machine = sym (records_none (src 0) n t (at l c) d stands (leb-false d c.clock (sym test ∙ none)));
        stands = stands ∙ ap Ok (sym da);
        before = refl;
        scalars = λ z. refl;
        long = p;
        saved_long = ap length sa ∙ q;
        undo_long = ap length ha ∙ h-long;
      })

-- what a stop gives back: the scalars before the records
module _ {src : ℕ → Code} {n : ℕ} {t : List ℕ} {m k : Machine} {due : ℕ} {kept : Bool} {saved : List ℕ} {undo : List Cpu} {i size : ℕ} (r : Readied src n t m k due kept saved undo i size) where
  pub given_back : kept ≡ true → (z : Cpu) → get_or undo i z ≡ m.cpu
  given_back h z = ap (λ (b : Bool). cond b (get_or undo i z) k.cpu) (sym h) ∙ r.scalars z

  pub still_there : kept ≡ false → k.cpu ≡ m.cpu
  still_there h = ap (λ (b : Bool). cond b (get_or undo i k.cpu) k.cpu) (sym h) ∙ r.scalars k.cpu

-- what a step that moved on did
record Went (t : List ℕ) (o : Out) (m' l l' : List ℕ) (c : Cpu) (d n : ℕ) : Type 0 where
  pub bytes : List ℕ
  pub is : o ≡ moved (at m' c) bytes
  pub width : length bytes ≡ n
  pub log : l' ≡ written l 0 bytes
  pub stands : scan_of t c.cursor ≡ Ok d

went_by : (t : List ℕ) (o : Out) (m m' l l' : List ℕ) (r : Stepping) (due : ℕ) (c : Cpu) (d n : ℕ) → Stepped due o m l r m' l' → stands_at t o due → r ≡ Moved c d n → Went t o m' l l' c d n
went_by t (moved s w) m m' l l' r due c d n h k e =
    let a = h.answer in
    let b : s.cpu ≡ c = cc in
    let u : due ≡ d = cc in
    let z = h.mem in
    record {
      bytes = w;
      is = ap (λ (x : Cpu). moved (at s.mem x) w) b ∙ ap (λ (x : List ℕ). moved (at x c) w) (sym z);
      width = (cc);
      log = h.log;
      stands = ap (λ (x : Cpu). scan_of t x.cursor) (sym b) ∙ k ∙ ap Ok u;
    }
went_by t (stopped k p) m m' l l' r due c d n h q e = let a = h.answer in absurd (let z : ◌≡◌ {A = ℕ} 0 1 = cc in omega arith)

stopped_of : (o : Out) (m m' l l' : List ℕ) (r : Stepping) (due c p : ℕ) → Stepped due o m l r m' l' → r ≡ Stopped c p → (o ≡ stopped c p) × (m' ≡ m) × (l' ≡ l)
stopped_of (moved s w) m m' l l' r due c p h e = let a = h.answer in absurd (let z : ◌≡◌ {A = ℕ} 0 1 = cc in omega arith)
stopped_of (stopped d q) m m' l l' r due c p h e = let a = h.answer in ((cc), h.mem, h.log)

-- bytes that were written where they keep the length fit
fits : (g w : List ℕ) → length (written g 0 w) ≡ length g → length w ≤ length g
fits g w h = let q = sym (length-append w (drop (length w) g)) ∙ h in let d = length-drop (length w) g in omega arith

-- a stop is not done
no_end : (k p : ℕ) → stop k p ≡ done → ⊥
no_end k p e = let z : ◌≡◌ {A = ℕ} 0 1 = cc in omega arith

put_same : (e : ℕ) (l : List ℕ) → e ≤ length l → put_mid e (length l - e) l (mid_of e (length l - e) l) ≡ l
put_same e l h = put_written e l [] h ∙ take-append-drop e l

module _ (f : Machine → ℕ → Out) (t : List ℕ) (budget steps e : ℕ) (mem mem' : List ℕ) (c : Cpu) (l ys : List ℕ) (r : Stepping) (p : Run) (room : e ≤ length l) (left : steps < budget)
    (did : StepMade t (f (at mem c) (length (mid_of e (length l - e) l))) mem (mid_of e (length l - e) l) r mem' ys) (same : length ys ≡ length (mid_of e (length l - e) l))
    (so_far : steps_from f (budget - steps) (at mem c) l e steps ≡ p) where
  size : length (mid_of e (length l - e) l) ≡ length l - e
  size = ap length (mid_rest e l) ∙ length-drop e l

  one_more : suc (budget - (steps + 1)) ≡ budget - steps
  one_more = omega arith

  -- what holds after a step that moved on
  pub record Went-on (z : Cpu) (d n : ℕ) : Type 0 where
    pub inside : e + n ≤ length (put_mid e (length l - e) l ys)
    pub long : length (put_mid e (length l - e) l ys) ≡ length l
    pub stands : scan_of t z.cursor ≡ Ok d
    pub so : steps_from f (budget - (steps + 1)) (at mem' z) (put_mid e (length l - e) l ys) (e + n) (steps + 1) ≡ p

  pub move_on : (z : Cpu) (d n : ℕ) → r ≡ Moved z d n → Went-on z d n
  move_on z d n q =
      let g = went_by t (f (at mem c) (length (mid_of e (length l - e) l))) mem mem' (mid_of e (length l - e) l) ys r did.due z d n did.stepped did.stands q in
      let w = g.bytes in
      let put : put_mid e (length l - e) l ys ≡ written l e w = ap (put_mid e (length l - e) l) g.log ∙ put_written e l w room in
      let kept : length (put_mid e (length l - e) l ys) ≡ length l = same_len_mid e (length l - e) l ys same in
      let small : length w ≤ length (mid_of e (length l - e) l) = fits (mid_of e (length l - e) l) w (sym (ap length g.log) ∙ same) in
      let width : length w ≡ n = g.width in
      let did' : f (at mem c) (length l - e) ≡ moved (at mem' z) w = ap (f (at mem c)) (sym size) ∙ g.is in
      record {
        inside = omega (arith, size);
        long = kept;
        stands = g.stands;
        so =
            ap (λ (k : ℕ). steps_from f (budget - (steps + 1)) (at mem' z) (put_mid e (length l - e) l ys) (e + k) (steps + 1)) (sym width) ∙
            ap (λ (x : List ℕ). steps_from f (budget - (steps + 1)) (at mem' z) x (e + length w) (steps + 1)) put ∙
            ap (λ (k : ℕ). steps_from f (budget - (steps + 1)) (at mem' z) (written l e w) (e + length w) k) (add-one steps) ∙
            sym (steps_moved f (budget - (steps + 1)) (at mem c) (at mem' z) l w e steps did') ∙
            ap (λ (k : ℕ). steps_from f k (at mem c) l e steps) one_more ∙ so_far;
      }

  -- and after one that stopped: x are the scalars before it
  pub halt : (x : Cpu) (due : ℕ) → x ≡ c → (k q : ℕ) → r ≡ Stopped k q → Finished t p (stopped_as x due e steps r) mem' (put_mid e (length l - e) l ys)
  halt x due u k q h =
      let g = stopped_of (f (at mem c) (length (mid_of e (length l - e) l))) mem mem' (mid_of e (length l - e) l) ys r did.due k q did.stepped h in
      let did' : f (at mem c) (length l - e) ≡ stopped k q = ap (f (at mem c)) (sym size) ∙ g.0 in
      let is : record { state = at mem c; log = l; end = e; steps = steps; ending = stop k q } ≡ p =
      sym (steps_stopped f (budget - (steps + 1)) (at mem c) l e steps k q did') ∙ ap (λ (n : ℕ). steps_from f n (at mem c) l e steps) one_more ∙ so_far in
      let told : stopped_as x due e steps r ≡ stopped_as c due e steps (Stopped k q) =
      ap (stopped_as x due e steps) h ∙ ap (λ (y : Cpu). stopped_as y due e steps (Stopped k q)) u in
      record {
        answer = told ∙ ap (ran_of due) is ∙ ap (λ (z : ℕ). ran_of z p) (ap (λ (z : Ran). z.due) (sym told));
        mem = g.1 ∙ ap (λ (x : Run). x.state.mem) is;
        log = ap (put_mid e (length l - e) l) g.2 ∙ put_same e l room ∙ ap (λ (x : Run). x.log) is;
        stands = λ z. absurd (no_end k q (ap (λ (x : Run). x.ending) is ∙ z));
      }

-- the equation of a run, its answer told otherwise
pub told_as : {t : List ℕ} {p : Run} {x y : Ran} {l g : List ℕ} → x ≡ y → Finished t p y l g → Finished t p x l g
told_as {t = t} {p = p} {l = l} {g = g} e f = subst⁻¹ (λ (z : Ran). Finished t p z l g) e f

pub finished : (f : Machine → ℕ → Out) (t : List ℕ) (budget steps e due : ℕ) (mem : List ℕ) (c : Cpu) (l : List ℕ) (p : Run) → budget ≤ steps → scan_of t c.cursor ≡ Ok due →
    steps_from f (budget - steps) (at mem c) l e steps ≡ p → Finished t p (done_as c due e steps) mem l
unfolding steps_from
finished f t budget steps e due mem c l p h stands so_far =
    let is : record { state = at mem c; log = l; end = e; steps = steps; ending = done } ≡ p =
    ap (λ (k : ℕ). steps_from f k (at mem c) l e steps) (let g : 0 ≡ budget - steps = omega arith in g) ∙ so_far in
    record {
      answer = ap (ran_of due) is;
      mem = ap (λ (x : Run). x.state.mem) is;
      log = ap (λ (x : Run). x.log) is;
      stands = λ z. ap (λ (x : Run). scan_of t x.state.cpu.cursor) (sym is) ∙ stands;
    }
