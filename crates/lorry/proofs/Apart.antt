-- What a call leaves where: each head's state and part of the log in their own places and as long as they were, the remainder of the log untouched. And each
-- head's steps fit 32 bits, since each takes a cycle of its clock.
-- Assumes nothing.
use Prim.Native.Nat.{ℕ, zero, suc, ◌+◌, ◌-◌, ◌*◌, ◌≤◌, ◌<◌}
use native.Mathlib.Nat.{mul-zero, mul-suc}
use native.Mathlib.Omega.{arith}
use mathlib.Core.Path.{◌≡◌, ◌∙◌, refl, sym, ap, subst⁻¹}
use mathlib.Core.Bool.{Bool, true, false, cond}
use mathlib.Core.List.{List, [], ◌++◌, append_assoc, append-nil}
use borrow.Author.Tests.{lt-ltb, ltb-true, ltb-false}
use lib.Dec.{ltb}
use lib.ListN.{length, take, drop, length-append, length-drop}
use lib.Seq.{take_at, drop_at}
use Rattle.numbers.specs.Numbers.{Stop}
use Rattle.chip.specs.declared.Machine.{Machine}
use Rattle.image.specs.Image.{machine_of, image_of, image_size}
use Rattle.fetch.specs.declared.Origin.TheVariants.{Rom}
use Rattle.parts.specs.Parts.{most_heads, part_of, joined}
use Rattle.parts.proofs.Laws.{length_part, shares_fit, share_fits}
use Rattle.portlog.specs.Log.{written}
use Rattle.portlog.proofs.Laws.{length_written_at}
use Rattle.step.specs.Step.{Out, moved, stopped}
use Rattle.steps.specs.Steps.{Run, steps_from, steps_over, step_by}
use Rattle.steps.proofs.Steps.{steps_moved, steps_stopped}
use Rattle.verdicts.specs.Verdicts.{Verdict, accepted}
use Rattle.invariant.specs.Sound.{Bytes}
use Rattle.invariant.proofs.Images.{image_long}
use Rattle.pace.proofs.Pace.{steps_take}
use Rattle.budgets.proofs.Kept.{Kept, kept}
use Rattle.budgets.proofs.Claimed.{Good, keeps, stops}
use Rattle.heads.specs.Heads.{Lent, Head, state_at, share, head_of, turned}
use Rattle.heads.specs.Call.{no_answer, call_verdict, ended, dispatched_by, dispatch_of}
use Rattle.lorry.specs.Lorry.{had, turns_of, plain_of, left_by, Apart, Fits}
use Rattle.heads.proofs.Testing.{accepted_apart}
use Rattle.heads.proofs.Round.{get_d_listed}
use Rattle.heads.proofs.Begun.{tabled_by}
use Rattle.lorry.proofs.Alone.{own_fit, own_good, alone, without}

-- equal lists one behind another, and what stands behind them
module _ (w : ℕ) (f : ℕ → List ℕ) where
  length_joined : (n : ℕ) → ((j : ℕ) → j < n → length (f j) ≡ w) → length (joined n f) ≡ w * n
  unfolding joined
  length_joined zero h = sym (mul-zero w)
  length_joined (suc n) h =
      let a = length_joined n (λ j l. h j (omega arith)) in
      let b = h n (omega arith) in
      omega (arith, length-append (joined n f) (f n), a, b, mul-suc w n)

  part_by : (n i : ℕ) (r : List ℕ) (b : Bool) → ltb i n ≡ b → i < suc n → ((j : ℕ) → j < suc n → length (f j) ≡ w) →
      (i < n → (r : List ℕ) → part_of (w * i) w (joined n f ++ r) ≡ f i) → part_of (w * i) w ((joined n f ++ f n) ++ r) ≡ f i
  part_by n i r true e l h ih = ap (part_of (w * i) w) (append_assoc (joined n f) (f n) r) ∙ ih (ltb-true i n e) (f n ++ r)
  part_by n i r false e l h ih =
      let z : n ≡ i = omega (arith, ltb-false i n e) in
      ap (part_of (w * i) w) (append_assoc (joined n f) (f n) r) ∙
      ap (take w) (drop_at (joined n f) (f n ++ r) (w * i) (length_joined n (λ j k. h j (omega arith)) ∙ ap (λ (x : ℕ). w * x) z)) ∙
      take_at (f n) r w (h n (omega arith)) ∙ ap f z

  part_joined : (n i : ℕ) (r : List ℕ) → i < n → ((j : ℕ) → j < n → length (f j) ≡ w) → part_of (w * i) w (joined n f ++ r) ≡ f i
  unfolding joined
  part_joined zero i r l h = absurd (omega arith)
  part_joined (suc n) i r l h =
      part_by n i r (ltb i n) refl l h (λ m r'. part_joined n i r' m (λ j k. h j (omega arith)))

-- a run keeps the length of the log, where every step writes within the room left
module _ (f : Machine → ℕ → Out) (Good : Machine → Type 0)
    (keeps : (m : Machine) (room : ℕ) (t : Machine) (w : List ℕ) → Good m → f m room ≡ moved t w → Good t × (length w ≤ room)) where
  long_by : (n : ℕ) (m : Machine) (l : List ℕ) (e k : ℕ) (o : Out) → f m (length l - e) ≡ o → Good m → e ≤ length l →
      ((t : Machine) (l : List ℕ) (e k : ℕ) → Good t → e ≤ length l → length (steps_from f n t l e k).log ≡ length l) →
      length (steps_from f (suc n) m l e k).log ≡ length l
  long_by n m l e k (moved t w) q g h ih =
      let a = keeps m (length l - e) t w g q in
      let small : length w ≤ length l - e = a.1 in
      let long : length (written l e w) ≡ length l = length_written_at l e w (omega arith) in
      ap (λ (r : Run). length r.log) (steps_moved f n m t l w e k q) ∙ ih t (written l e w) (e + length w) (suc k) a.0 (omega arith) ∙ long
  long_by n m l e k (stopped c p) q g h ih = ap (λ (r : Run). length r.log) (steps_stopped f n m l e k c p q)

  log_long : (n : ℕ) (m : Machine) (l : List ℕ) (e k : ℕ) → Good m → e ≤ length l → length (steps_from f n m l e k).log ≡ length l
  unfolding steps_from
  log_long zero m l e k g h = refl
  log_long (suc n) m l e k g h = long_by n m l e k (f m (length l - e)) refl g h (log_long n)

module _ (c : Lent) (q : ℕ) (ok : call_verdict c q ≡ accepted) (bytes : Bytes c.rom) (state_bytes : Bytes c.states) where
  -- the plain machine over n steps of head i
  module _ (i : ℕ) (inside : i < c.count) (n : ℕ) where
    still : Kept (step_by Rom c.rom (head_of c i).trace) (Good c.rom c.table (head_of c i).trace (tabled_by c q ok) bytes) Stop
        (keeps c.rom c.table (head_of c i).trace (tabled_by c q ok) bytes) (stops c.rom c.table (head_of c i).trace (tabled_by c q ok) bytes) (plain_of c i n)
    unfolding steps_over
    still =
        kept (step_by Rom c.rom (head_of c i).trace) (Good c.rom c.table (head_of c i).trace (tabled_by c q ok) bytes) Stop
        (keeps c.rom c.table (head_of c i).trace (tabled_by c q ok) bytes) (stops c.rom c.table (head_of c i).trace (tabled_by c q ok) bytes)
        n (machine_of (head_of c i).state) (head_of c i).log (head_of c i).answer.log_end 0 (own_good c q ok bytes state_bytes i inside)
        (own_fit c q ok bytes state_bytes i inside).start

    plain_state : length (image_of (plain_of c i n).state) ≡ image_size
    plain_state = image_long (length c.rom) (plain_of c i n).state still.good.0

    plain_log : length (plain_of c i n).log ≡ length (head_of c i).log
    unfolding steps_over
    plain_log =
        log_long (step_by Rom c.rom (head_of c i).trace) (Good c.rom c.table (head_of c i).trace (tabled_by c q ok) bytes)
        (keeps c.rom c.table (head_of c i).trace (tabled_by c q ok) bytes)
        n (machine_of (head_of c i).state) (head_of c i).log (head_of c i).answer.log_end 0 (own_good c q ok bytes state_bytes i inside)
        (own_fit c q ok bytes state_bytes i inside).start

    plain_steps : (plain_of c i n).steps ≤ 4294967295
    unfolding steps_over
    plain_steps =
        let t = steps_take c.rom (head_of c i).trace n (machine_of (head_of c i).state) (head_of c i).log (head_of c i).answer.log_end 0 in
        omega (arith, t, still.good.0.cpu.clock)

  module _ (turns : ℕ) where
    -- head i at the end is what the plain machine leaves
    is_plain : (i : ℕ) → i < c.count → (turns_of c q turns).heads i ≡ left_by (head_of c i).trace (plain_of c i (had i (turns_of c q turns).order * q))
    is_plain i m = (alone c q ok bytes state_bytes i m turns).plain

    pub fits : Fits c (turns_of c q turns)
    fits i m =
        let k = had i (turns_of c q turns).order * q in
        let e = ap (λ (h : Head). h.answer.steps) (is_plain i m) in omega (arith, e, plain_steps i m k)

    state_long : (i : ℕ) → i < c.count → length ((turns_of c q turns).heads i).state ≡ image_size
    state_long i m = ap (λ (h : Head). length h.state) (is_plain i m) ∙ plain_state i m (had i (turns_of c q turns).order * q)

    part_long : (i : ℕ) → i < c.count → length ((turns_of c q turns).heads i).log ≡ share c
    unfolding head_of
    part_long i m =
        ap (λ (h : Head). length h.log) (is_plain i m) ∙ plain_log i m (had i (turns_of c q turns).order * q) ∙
        length_part (share c * i) (share c) c.log (share_fits (length c.log) c.count i (accepted_apart c q ok).0.some m)

    pub apart : Apart c (turns_of c q turns) (dispatch_of c q turns)
    unfolding dispatch_of dispatched_by ended
    apart =
        let t = turns_of c q turns in
        let states = joined c.count (λ j. (t.heads j).state) in
        let parts = joined c.count (λ j. (t.heads j).log) in
        let rest = drop (share c * c.count) c.log in
        let a = length_joined image_size (λ j. (t.heads j).state) c.count state_long in
        let b = length_joined (share c) (λ j. (t.heads j).log) c.count part_long in
        subst⁻¹ (λ (v : Verdict). Apart c t (dispatched_by v c q turns)) ok
        (record {
          answer =
              λ i m. get_d_listed most_heads (λ j. cond (ltb j c.count) (t.heads j).answer no_answer) i (omega (arith, m, (accepted_apart c q ok).0.most)) ∙
              ap (λ (b : Bool). cond b (t.heads i).answer no_answer) (lt-ltb i c.count m);
          state = λ i m. ap (state_at i) (sym (append-nil states)) ∙ part_joined image_size (λ j. (t.heads j).state) c.count i [] m state_long;
          log = λ i m. part_joined (share c) (λ j. (t.heads j).log) c.count i rest m part_long;
          rest = drop_at parts rest (share c * c.count) b;
          states_long = a ∙ sym (accepted_apart c q ok).0.states;
          log_long = omega (arith, length-append parts rest, b, length-drop (share c * c.count) c.log, shares_fit (length c.log) c.count);
          unturned = λ i z. without (turned c.rom c.table q) i c.count turns (head_of c) z;
        })
