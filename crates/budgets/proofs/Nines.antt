-- The machine with 9 at every undefined code is the machine with 17 and 18 made 9.
-- Assumes nothing.
use Prim.Native.Nat.{ℕ, zero, suc, ◌+◌, ◌-◌, ◌≤◌}
use native.Mathlib.Omega.{arith}
use mathlib.Core.Path.{◌≡◌, refl, ap, sym, subst, ◌∙◌}
use mathlib.Core.Bool.{Bool, true, false, cond}
use mathlib.Core.List.{List}
use lib.Dec.{eqb}
use lib.ListN.{length}
use borrow.Author.Tests.{ne_eqb, eqb-true}
use Rattle.chip.specs.declared.Machine.{Machine}
use Rattle.numbers.specs.Numbers.{code_stop, register_stop, bank_stop, full_stop}
use Rattle.codes.specs.declared.Kind.{Kind}
use Rattle.codes.specs.declared.Kind.TheVariants.{Defined, Undefined, Register, Bank}
use Rattle.codes.specs.Kinds.{kind_of}
use Rattle.codes.proofs.Told.{kinds}
use Rattle.fetch.specs.declared.Code.{Code}
use Rattle.fetch.specs.declared.Origin.{Origin}
use Rattle.fetch.specs.declared.Origin.TheVariants.{Rom}
use Rattle.fetch.specs.Fetch.{code_at, size_of}
use Rattle.portlog.specs.Log.{written}
use Rattle.step.specs.Told.{stop_for, stop_at, number_at}
use Rattle.step.specs.Step.{Out, moved, stopped}
use Rattle.steps.specs.Steps.{Ending, done, stop, Run, steps_from, steps_over, step_by}
use Rattle.steps.specs.Untold.{untold_by, told_ending, told_run}
use Rattle.steps.proofs.Steps.{steps_moved, steps_stopped}
use Rattle.steps.proofs.Telling.{told_steps}
use Rattle.invariant.specs.Sound.{Bytes}
use Rattle.invariant.proofs.Stepping.{untold_number}
use Rattle.invariant.proofs.Unread.{untold_at}
use Rattle.budgets.specs.UnderNine.{nine, nine_ending, nine_run, UnderNine, OnlyUndefined}

-- without kinds a stop has one of the numbers 9 to 12, and 9 at a code without a length
abbrev Ends : (ℕ → Code) → Ending → Type 0
Ends src done = Unit {0}
Ends src (stop k p) = (code_stop ≤ k) × (k ≤ full_stop) × (k ≡ code_stop → (src p).info ≡ 0)

module _ (origin : Origin) (code t : List ℕ) where
  abbrev src : ℕ → Code
  src = code_at origin code

  abbrev f : Machine → ℕ → Out
  f = untold_by origin code t

  stop_ends : (m : Machine) (room k p : ℕ) → f m room ≡ stopped k p → Ends src (stop k p)
  stop_ends m room k p q =
      let size = size_of origin (length code) in
      let number = untold_number src size t m room k p q in
      (number.0, number.1, λ e. untold_at src size t m room p (q ∙ ap (λ (j : ℕ). stopped j p) e))

  ends_by : (n : ℕ) (m : Machine) (l : List ℕ) (e k : ℕ) (o : Out) → f m (length l - e) ≡ o →
      ((m : Machine) (l : List ℕ) (e k : ℕ) → Ends src (steps_from f n m l e k).ending) → Ends src (steps_from f (suc n) m l e k).ending
  ends_by n m l e k (moved s w) q further =
      subst (λ (r : Run). Ends src r.ending) (sym (steps_moved f n m s l w e k q)) (further s (written l e w) (e + length w) (suc k))
  ends_by n m l e k (stopped c p) q further =
      subst (λ (r : Run). Ends src r.ending) (sym (steps_stopped f n m l e k c p q)) (stop_ends m (length l - e) c p q)

  ends : (n : ℕ) (m : Machine) (l : List ℕ) (e k : ℕ) → Ends src (steps_from f n m l e k).ending
  unfolding steps_from
  ends zero m l e k = tt
  ends (suc n) m l e k = ends_by n m l e k (f m (length l - e)) refl (ends n)

-- the number of a kind is one of the three
nine_kind : (k : Kind) → nine (stop_for k) ≡ code_stop
nine_kind Defined = refl
nine_kind Undefined = refl
nine_kind Register = refl
nine_kind Bank = refl

still : (k : ℕ) → k ≤ full_stop → nine k ≡ k
still k h = rw (ne_eqb k register_stop (λ e. let z : ⊥ = omega arith in z), ne_eqb k bank_stop (λ e. let z : ⊥ = omega arith in z))

number_by : (src : ℕ → Code) (k p : ℕ) (b : Bool) → eqb k code_stop ≡ b → k ≤ full_stop → k ≡ nine (cond b (stop_at (src p)) k)
unfolding stop_at
number_by src k p true e h = eqb-true k code_stop e ∙ sym (nine_kind (kind_of (src p).b0 (src p).b1))
number_by src k p false e h = sym (still k h)

number_back : (src : ℕ → Code) (k p : ℕ) → k ≤ full_stop → k ≡ nine (number_at src k p)
unfolding number_at
number_back src k p h = number_by src k p (eqb k code_stop) refl h

ending_back : (src : ℕ → Code) (x : Ending) → Ends src x → x ≡ nine_ending (told_ending src x)
ending_back src done h = refl
ending_back src (stop k p) h = ap (λ (j : ℕ). stop j p) (number_back src k p h.1)

run_back : (src : ℕ → Code) (r : Run) → Ends src r.ending → r ≡ nine_run (told_run src r)
run_back src r h =
    ap (λ (x : Ending). record { state = r.state; log = r.log; end = r.end; steps = r.steps; ending = x }) (ending_back src r.ending h)

-- which of the three: that of the code at the stop's address, which has no length
nine_before : (src : ℕ → Code) (k p : ℕ) → k ≤ full_stop → nine (number_at src k p) ≡ code_stop → k ≡ code_stop
nine_before src k p h n = number_back src k p h ∙ n

told_nine : (src : ℕ → Code) (p : ℕ) → number_at src code_stop p ≡ stop_at (src p)
unfolding number_at
told_nine src p = refl

which : (src : ℕ → Code) (x : Ending) (k p : ℕ) → Ends src x → told_ending src x ≡ stop k p → nine k ≡ code_stop → (k ≡ stop_at (src p)) × ((src p).info ≡ 0)
which src done k p h e n = absurd (let z : ◌≡◌ {A = ℕ} 0 1 = cc in omega arith)
which src (stop j q) k p h e n =
    let number : number_at src j q ≡ k = cc in
    let place : q ≡ p = cc in
    let was = nine_before src j q h.1 (ap nine number ∙ n) in (
      sym number ∙ ap (λ (j : ℕ). number_at src j q) was ∙ told_nine src q ∙ ap (λ (a : ℕ). stop_at (src a)) place,
      subst (λ (a : ℕ). (src a).info ≡ 0) place (h.2 was),
    )

which_over : (origin : Origin) (code t : List ℕ) (n : ℕ) (m : Machine) (g : List ℕ) (e k p : ℕ) →
    (steps_over (step_by origin code t) n m g e).ending ≡ stop k p → nine k ≡ code_stop →
    (k ≡ stop_at (code_at origin code p)) × ((code_at origin code p).info ≡ 0)
unfolding steps_over
which_over origin code t n m g e k p q h =
    which (code_at origin code) (steps_from (untold_by origin code t) n m g e 0).ending k p (ends origin code t n m g e 0)
    (ap (λ (r : Run). r.ending) (sym (told_steps origin code t n m g e 0)) ∙ q) h

-- a code of a ROM of bytes that has no length is undefined
not_defined : (rom : List ℕ) (p : ℕ) → Bytes rom → (code_at Rom rom p).info ≡ 0 → kind_of (code_at Rom rom p).b0 (code_at Rom rom p).b1 ≡ Defined → ⊥
unfolding code_at
not_defined rom p bytes e d = (kinds.with_length _ _ (bytes _) (bytes _)).0 d e

pub under_nine : UnderNine
unfolding steps_over
under_nine =
    record {
      same = λ origin code t n m g e.
          run_back (code_at origin code) (steps_from (untold_by origin code t) n m g e 0) (ends origin code t n m g e 0) ∙
          ap nine_run (sym (told_steps origin code t n m g e 0));
      told = λ origin code t n m g e k p q h. (which_over origin code t n m g e k p q h).0;
    }

pub only_undefined : OnlyUndefined
only_undefined = record { undefined = λ rom t n m g e k p bytes q h. not_defined rom p bytes (which_over Rom rom t n m g e k p q h).1 }
