-- A call that is accepted begins its turns: every head stands.
-- Assumes nothing.
use Prim.Native.Nat.{ℕ, zero, suc, ◌*◌, ◌<◌}
use native.Mathlib.Omega.{arith}
use mathlib.Core.Path.{◌≡◌, ◌∙◌, refl, sym, ap, subst, subst⁻¹, fun_ext}
use mathlib.Core.Bool.{Bool, true, false, cond}
use mathlib.Core.List.{List, [], ◌∷◌}
use borrow.Author.Tests.{ltb-true, ltb-false}
use lib.Dec.{eqb, ltb}
use lib.ListN.{take, drop, get_or, get_or-eq_default}
use Rattle.image.specs.Image.{image_size}
use Rattle.verdicts.specs.Verdicts.{Verdict, accepted, refused_as}
use Rattle.verdicts.proofs.Accepted.{Tabled, taken_apart}
use Rattle.calls.specs.Calls.{answered}
use Rattle.invariant.specs.Sound.{Bytes}
use Rattle.heads.specs.declared.tests.Standing.{Standing}
use Rattle.heads.specs.Heads.{Lent, Head, Heads, state_at, trace_at, log_at, share, head_of, turned, turns_from}
use Rattle.heads.specs.declared.HeadsAnswer.{HeadsAnswer}
use Rattle.heads.specs.Call.{head_verdict, call_verdict, refusing, dispatched_by, dispatch_of, Call}
use Rattle.heads.specs.Tested.{AllBegin}
use Rattle.heads.proofs.Testing.{accepted_apart}
use Rattle.heads.proofs.Standing.{Stands, begins}
use Rattle.heads.proofs.Seeking.{seek_left}
use Rattle.heads.proofs.Round.{heads_in, at_most, left_some, Round}

-- bytes of bytes
pub bytes_drop : (a : ℕ) (s : List ℕ) → Bytes s → Bytes (drop a s)
bytes_drop zero s b = b
bytes_drop (suc a) [] b = b
bytes_drop (suc a) (x ∷ xs) b = bytes_drop a xs (λ i. b (suc i))

pub bytes_take : (w : ℕ) (s : List ℕ) → Bytes s → Bytes (take w s)
bytes_take zero s b i = omega arith
bytes_take (suc w) [] b i = b i
bytes_take (suc w) (x ∷ xs) b zero = b 0
bytes_take (suc w) (x ∷ xs) b (suc i) = bytes_take w xs (λ j. b (suc j)) i

module _ (c : Lent) (q : ℕ) (ok : call_verdict c q ≡ accepted) where
  pub tabled_by : Tabled c.rom c.table
  unfolding head_verdict
  tabled_by =
      let a = accepted_apart c q ok in
      let h = head_of c 0 in
      (taken_apart c.rom c.table h.state h.trace h.log h.answer.log_end (a.1 0 a.0.some)).tabled

  module _ (turns : ℕ) (bytes : Bytes c.rom) (state_bytes : Bytes c.states) (r : Standing) (t : AllBegin c r) where
    -- the heads read off the buffers, before any turn
    as_given : (j : ℕ) → j < c.count → heads_in c c.states c.log r.answer j ≡ head_of c j
    unfolding head_of
    as_given j m =
        let e = (t.begins j m).answer in
        λ k. record { state = state_at j c.states; trace = trace_at j c.lengths c.traces; log = log_at j (share c) c.log; answer = e k }

    stands_at : (j : ℕ) → j < c.count → Stands c.rom c.table tabled_by bytes (head_of c j) (get_or r.due j 0)
    unfolding head_verdict head_of
    stands_at j m =
        begins c.rom c.table tabled_by bytes (head_of c j) (get_or r.due j 0) (bytes_take image_size (drop (image_size * j) c.states) (bytes_drop (image_size * j) c.states state_bytes))
        ((accepted_apart c q ok).1 j m) refl (t.begins j m).due

    -- heads past the count have no start, and no answer
    all_given : heads_in c c.states c.log r.answer ≡ head_of c
    unfolding head_of
    all_given = fun_ext (λ j. by j (ltb j c.count) refl)
      where
        by : (j : ℕ) (b : Bool) → ltb j c.count ≡ b → heads_in c c.states c.log r.answer j ≡ head_of c j
        by j true e = as_given j (ltb-true j c.count e)
        by j false e =
            let beyond = ltb-false j c.count e in
            let none : get_or c.starts j 0 ≡ 0 = get_or-eq_default c.starts 0 (omega (arith, beyond, (accepted_apart c q ok).0.starts)) in
            let a = t.past j (λ m. omega (arith, beyond, m)) ∙ ap (λ (x : ℕ). answered 0 0 0 x) (sym none) in
            λ k. record { state = state_at j c.states; trace = trace_at j c.lengths c.traces; log = log_at j (share c) c.log; answer = a k }

    pub begun : Round c q turns tabled_by bytes c.states c.log r.answer r.due turns (cond (eqb turns 0) 0 c.count) 0
    begun =
        let s = (accepted_apart c q ok).0 in
        let turn_once = turned c.rom c.table q in
        record {
          some = s.some;
          most = s.most;
          lengths = s.lengths;
          traces = s.traces;
          inside = s.some;
          looked = at_most c.count turns;
          still = left_some c.count turns;
          states_long = s.states;
          log_long = refl;
          answer_long = t.answer_long;
          due_long = t.due_long;
          rest = refl;
          past = t.past;
          stands = λ j m. subst⁻¹ (λ (h : Head). Stands c.rom c.table tabled_by bytes h (get_or r.due j 0)) (as_given j m) (stands_at j m);
          so =
              seek_left turn_once c.count turns 0 (heads_in c c.states c.log r.answer) ∙
              ap (λ (x : Heads). (turns_from turn_once c.count turns 0 x).heads) all_given;
        }

-- a call that is refused
pub refused_by : (c : Lent) (q turns k p : ℕ) → refused_as k p ≡ call_verdict c q → (x : HeadsAnswer) → x ≡ refusing k p → Call (dispatch_of c q turns) x c.states c.log
unfolding dispatch_of dispatched_by
refused_by c q turns k p v x e =
    subst (λ (y : Verdict). Call (dispatched_by y c q turns) x c.states c.log) v (record { answer = e; states = refl; log = refl })

pub answers_by : (c : Lent) (q turns : ℕ) (x : HeadsAnswer) (s g : List ℕ) → call_verdict c q ≡ accepted → Call (dispatched_by accepted c q turns) x s g →
    Call (dispatch_of c q turns) x s g
unfolding dispatch_of
answers_by c q turns x s g ok h = subst⁻¹ (λ (y : Verdict). Call (dispatched_by y c q turns) x s g) ok h
