-- Each head by itself. What a call makes of a head is what so many turns make of it, whatever heads have turns between; these are the calls of a list of
-- budgets, and by the claim about such a list the head ends as the plain machine would.
-- Assumes nothing.
use Prim.Native.Nat.{ℕ, zero, suc, ◌+◌, ◌*◌, ◌≤◌, ◌<◌}
use native.Mathlib.Nat.{add-zero, zero-add, add_assoc}
use native.Mathlib.Omega.{arith}
use mathlib.Core.Path.{◌≡◌, ◌∙◌, refl, sym, ap, subst, subst⁻¹}
use mathlib.Core.Bool.{Bool, true, false, cond}
use mathlib.Core.List.{List, [], ◌∷◌}
use borrow.Author.Tests.{eq-eqb, ne_eqb, eqb-true, eqb-false}
use lib.Dec.{eqb}
use lib.ListN.{length, drop, replicate}
use Rattle.numbers.specs.Numbers.{Stop}
use Rattle.numbers.proofs.Stops.{not_done}
use Rattle.chip.specs.declared.Machine.{Machine}
use Rattle.image.specs.Image.{machine_of, image_of, image_size}
use Rattle.fetch.specs.declared.Origin.TheVariants.{Rom}
use Rattle.step.specs.Step.{Out}
use Rattle.steps.specs.Steps.{Run, Ending, done, stop, steps_from, steps_over, step_by, ending_number, ending_place}
use Rattle.calls.specs.declared.Answer.{Answer}
use Rattle.verdicts.specs.Verdicts.{accepted, run_verdict}
use Rattle.verdicts.proofs.Accepted.{Tabled, Fit, taken_apart}
use Rattle.invariant.specs.Sound.{Bytes}
use Rattle.invariant.proofs.Images.{read_sound, image_read}
use Rattle.budgets.specs.Claim.{sum, Listed, calls_over, total, Done, Gives, AllDone, FirstGives, Agrees}
use Rattle.budgets.proofs.Kept.{kept}
use Rattle.budgets.proofs.Went.{Went, went}
use Rattle.budgets.proofs.Claimed.{Good, size, keeps, stops, call_first, claim}
use Rattle.heads.specs.Heads.{Lent, Head, Heads, head_of, run_of, turned, goes, after, turn_of, Next, none, head, next_from, Turns, first, turns_from}
use Rattle.heads.specs.Call.{head_verdict, call_verdict, no_answer}
use Rattle.lorry.specs.Lorry.{had, turns_of, calls_of, last_of, plain_of, left_by, Alone}
use Rattle.lorry.proofs.Order.{found_none, found, no_turns, found_goes, turned_self, turned_other}
use Rattle.heads.proofs.Testing.{accepted_apart}
use Rattle.heads.proofs.Begun.{bytes_drop, bytes_take, tabled_by}

-- k turns f of one head, and that it hasn't stopped before any of them
unfoldable pub after_turns : (Head → Head) → ℕ → Head → Head
after_turns f zero h = h
after_turns f (suc k) h = after_turns f k (f h)

abbrev pub Going : (Head → Head) → ℕ → Head → Type 0
Going f zero h = Unit {0}
Going f (suc k) h = (goes h ≡ true) × Going f k (f h)

-- the turns t make of head i, which was h, what its own turns make of it
pub record Came (f : Head → Head) (i : ℕ) (h : Head) (t : Turns) : Type 0 where
  pub is : t.heads i ≡ after_turns f (had i t.order) h
  pub going : Going f (had i t.order) h

had_self : (i j : ℕ) (order : List ℕ) → j ≡ i → had i (j ∷ order) ≡ suc (had i order)
unfolding had
had_self i j order e = ap (λ (b : Bool). cond b (suc (had i order)) (had i order)) (eq-eqb j i e)

had_other : (i j : ℕ) (order : List ℕ) → (j ≡ i → ⊥) → had i (j ∷ order) ≡ had i order
unfolding had
had_other i j order e = ap (λ (b : Bool). cond b (suc (had i order)) (had i order)) (ne_eqb j i e)

module _ (f : Head → Head) (i : ℕ) where
  -- a turn of its own first, and one of another's
  came_self : (j : ℕ) (h : Head) (t : Turns) → goes h ≡ true → j ≡ i → Came f i (f h) t → Came f i h (first j t)
  unfolding after_turns
  came_self j h t g e r =
      let k = had_self i j t.order e in
      record { is = r.is ∙ ap (λ (x : ℕ). after_turns f x h) (sym k); going = subst⁻¹ (λ (x : ℕ). Going f x h) k (g, r.going) }

  came_other : (j : ℕ) (h : Head) (t : Turns) → (j ≡ i → ⊥) → Came f i h t → Came f i h (first j t)
  came_other j h t e r =
      let k = had_other i j t.order e in
      record { is = r.is ∙ ap (λ (x : ℕ). after_turns f x h) (sym k); going = subst⁻¹ (λ (x : ℕ). Going f x h) k r.going }

  came_not : (hs : Heads) → Came f i (hs i) (record { heads = hs; order = [] })
  unfolding after_turns had
  came_not hs = record { is = refl; going = tt }

  came_turn : (j : ℕ) (hs : Heads) (t : Turns) (b : Bool) → eqb j i ≡ b → goes (hs j) ≡ true → Came f i (turn_of f j hs i) t → Came f i (hs i) (first j t)
  came_turn j hs t true e g r =
      let z = eqb-true j i e in
      came_self j (hs i) t (ap (λ (x : ℕ). goes (hs x)) (sym z) ∙ g) z (subst (λ (h : Head). Came f i h t) (turned_self f j i hs (sym z)) r)
  came_turn j hs t false e g r =
      let z = eqb-false j i e in
      came_other j (hs i) t z (subst (λ (h : Head). Came f i h t) (turned_other f j i hs (λ y. z (sym y))) r)

  came_by : (n k p : ℕ) (hs : Heads) (x : Next) → next_from n hs p n ≡ x →
      ((p : ℕ) (hs : Heads) → Came f i (hs i) (turns_from f n k p hs)) → Came f i (hs i) (turns_from f n (suc k) p hs)
  came_by n k p hs none e ih = subst⁻¹ (Came f i (hs i)) (found_none f n (suc k) p hs e) (came_not hs)
  came_by n k p hs (head j) e ih =
      subst⁻¹ (Came f i (hs i)) (found f n k p j hs e)
      (came_turn j hs (turns_from f n k (after n j) (turn_of f j hs)) (eqb j i) refl (found_goes n hs n p j e) (ih (after n j) (turn_of f j hs)))

  pub came : (n k p : ℕ) (hs : Heads) → Came f i (hs i) (turns_from f n k p hs)
  came n zero p hs = subst⁻¹ (Came f i (hs i)) (no_turns f n p hs) (came_not hs)
  came n (suc k) p hs = came_by n k p hs (next_from n hs p n) refl (came n k)

  -- a head without a turn is as it was
  pub without : (n k : ℕ) (hs : Heads) → had i (turns_from f n k 0 hs).order ≡ 0 → (turns_from f n k 0 hs).heads i ≡ hs i
  unfolding after_turns
  without n k hs z = (came n k 0 hs).is ∙ ap (λ (x : ℕ). after_turns f x (hs i)) z

-- the last answer's number and address, where the answers before the list differ in other things
last_number : (a b : Answer) (rs : List Answer) → a.number ≡ b.number → (last_of a rs).number ≡ (last_of b rs).number
last_number a b [] e = e
last_number a b (r ∷ rs) e = refl

last_address : (a b : Answer) (rs : List Answer) → a.address ≡ b.address → (last_of a rs).address ≡ (last_of b rs).address
last_address a b [] e = e
last_address a b (r ∷ rs) e = refl

-- every answer but the last is done's
abbrev DoneButLast : List Answer → Type 0
DoneButLast [] = Unit {0}
DoneButLast (r ∷ []) = Unit {0}
DoneButLast (r ∷ s ∷ rs) = Done r × DoneButLast (s ∷ rs)

-- then the first that isn't is the last
last_gives : (a : Answer) (rs : List Answer) (k p : ℕ) → DoneButLast rs → FirstGives k p rs → Gives k p (last_of a rs)
last_gives a [] k p d g = absurd g
last_gives a (r ∷ []) k p d g = g.1 g.0
last_gives a (r ∷ s ∷ rs) k p d g = last_gives r (s ∷ rs) k p d.1 (g.0 d.0)

-- an answer that is done has no place
abbrev Placeless : List Answer → Type 0
Placeless [] = Unit {0}
Placeless (r ∷ rs) = (Done r → r.address ≡ 0) × Placeless rs

last_done : (a : Answer) (rs : List Answer) → Gives 0 0 a → AllDone rs → Placeless rs → Gives 0 0 (last_of a rs)
last_done a [] g d p = g
last_done a (r ∷ rs) g d p = last_done r rs (d.0, p.0 d.0) d.1 p.1

-- the turns of a head as calls
module _ (rom table : List ℕ) (q : ℕ) where
  abbrev list_of : Head → ℕ → Listed
  list_of h k = calls_over rom table h.trace h.state h.log h.answer.log_end (replicate k q)

  -- g is what k of them make of h
  record AsCalls (h : Head) (k : ℕ) (g : Head) : Type 0 where
    pub trace : g.trace ≡ h.trace
    pub state : g.state ≡ (list_of h k).state
    pub log : g.log ≡ (list_of h k).log
    pub end : g.answer.log_end ≡ (list_of h k).end
    pub steps : g.answer.steps ≡ h.answer.steps + total (list_of h k).answers
    pub number : g.answer.number ≡ (last_of h.answer (list_of h k).answers).number
    pub address : g.answer.address ≡ (last_of h.answer (list_of h k).answers).address

  as_calls : (k : ℕ) (h : Head) → AsCalls h k (after_turns (turned rom table q) k h)
  unfolding after_turns turned calls_over total
  as_calls zero h = record { trace = refl; state = refl; log = refl; end = refl; steps = sym (add-zero h.answer.steps); number = refl; address = refl }
  as_calls (suc k) h =
      let h' = turned rom table q h in
      let r = as_calls k h' in
      record {
        trace = r.trace;
        state = r.state;
        log = r.log;
        end = r.end;
        steps = r.steps ∙ add_assoc h.answer.steps (run_of rom table q h).answer.steps (total (list_of h' k).answers);
        number = r.number ∙ last_number h'.answer (run_of rom table q h).answer (list_of h' k).answers refl;
        address = r.address ∙ last_address h'.answer (run_of rom table q h).answer (list_of h' k).answers refl;
      }

  done_but_last : (k : ℕ) (h : Head) → Going (turned rom table q) k h → DoneButLast (list_of h k).answers
  unfolding turned calls_over
  done_but_last zero h g = tt
  done_but_last (suc zero) h g = tt
  done_but_last (suc (suc k)) h g = (eqb-true _ _ g.1.0, done_but_last (suc k) (turned rom table q h) g.1)

sum_alike : (k q : ℕ) → sum (replicate k q) ≡ k * q
unfolding sum
sum_alike zero q = omega arith
sum_alike (suc k) q = omega (arith, sum_alike k q)

-- done has no place, as a stop's number isn't done's
placed_by : (x : Ending) → ((k p : ℕ) → x ≡ stop k p → Stop k) → ending_number x ≡ 0 → ending_place x ≡ 0
placed_by done h z = refl
placed_by (stop k p) h z = absurd (not_done k (h k p refl) z)

module _ (rom table t : List ℕ) (tabled : Tabled rom table) (bytes : Bytes rom) where
  placeless : (bs : List ℕ) (m : Machine) (g : List ℕ) (e : ℕ) → Good rom table t tabled bytes m → e ≤ length g →
      Placeless (calls_over rom table t (image_of m) g e bs).answers
  unfolding calls_over
  placeless [] m g e h l = tt
  placeless (b ∷ bs) m g e h l =
      let r = steps_from (step_by Rom rom t) b m g e 0 in
      let k = kept (step_by Rom rom t) (Good rom table t tabled bytes) Stop (keeps rom table t tabled bytes) (stops rom table t tabled bytes) b m g e 0 h l in
      subst⁻¹ (λ (c : Listed). Placeless c.answers) (call_first rom table t tabled bytes b bs m g e h l)
      (placed_by r.ending k.stop_by, placeless bs r.state r.log r.end k.good k.within)

-- the last answer of calls that went on only behind done is the plain machine's ending: it made all steps, or it stopped
ends_by : (f : Machine → ℕ → Out) (x : Ending) (p : Run) (bs : List ℕ) (c : Listed) (m : Machine) (g : List ℕ) (e : ℕ) → p.ending ≡ x →
    Went f x p (sum bs) 0 m g e 0 → Agrees p bs c → DoneButLast c.answers → Placeless c.answers →
    Gives (ending_number p.ending) (ending_place p.ending) (last_of no_answer c.answers)
ends_by f done p bs c m g e z w a d y =
    let n : p.steps ≡ 0 + sum bs = w.0 in
    subst⁻¹ (λ (x : Ending). Gives (ending_number x) (ending_place x) (last_of no_answer c.answers)) z
    (last_done no_answer c.answers (refl, refl) (a.all_done.1 (omega arith)) y)
ends_by f (stop k q) p bs c m g e z w a d y =
    let n : p.steps < 0 + sum bs = w.0 in
    let s = a.otherwise (omega arith) in
    subst⁻¹ (λ (x : Ending). Gives (ending_number x) (ending_place x) (last_of no_answer c.answers)) s.ending
    (last_gives no_answer c.answers s.number s.place d s.first_gives)

-- head i of a call that is accepted
module _ (c : Lent) (q : ℕ) (ok : call_verdict c q ≡ accepted) (bytes : Bytes c.rom) (state_bytes : Bytes c.states) (i : ℕ) (inside : i < c.count) where
  own_bytes : Bytes (head_of c i).state
  unfolding head_of
  own_bytes = bytes_take image_size (drop (image_size * i) c.states) (bytes_drop (image_size * i) c.states state_bytes)

  own_accepted : run_verdict c.rom c.table (head_of c i).state (head_of c i).trace (head_of c i).log (head_of c i).answer.log_end ≡ accepted
  unfolding head_verdict
  own_accepted = (accepted_apart c q ok).1 i inside

  pub own_fit : Fit (length c.rom) (head_of c i).state (head_of c i).trace (head_of c i).log (head_of c i).answer.log_end
  own_fit = (taken_apart c.rom c.table (head_of c i).state (head_of c i).trace (head_of c i).log (head_of c i).answer.log_end own_accepted).fit

  -- its state is the image of a machine that every step keeps good
  own_image : image_of (machine_of (head_of c i).state) ≡ (head_of c i).state
  own_image = image_read (head_of c i).state (length c.rom) own_fit.long own_bytes own_fit.fields

  pub own_good : Good c.rom c.table (head_of c i).trace (tabled_by c q ok) bytes (machine_of (head_of c i).state)
  own_good = (
    read_sound (head_of c i).state (length c.rom) (size c.rom c.table (head_of c i).trace (tabled_by c q ok) bytes) own_fit.long own_bytes own_fit.fields,
    (own_fit.due, own_fit.stands),
  )

  -- k budgets of it
  module _ (k : ℕ) where
    agreed : Agrees (plain_of c i (sum (replicate k q))) (replicate k q) (calls_of c q i k)
    agreed =
        (claim c.rom c.table (head_of c i).trace (head_of c i).state (head_of c i).log (head_of c i).answer.log_end (replicate k q) bytes own_bytes
        ).where_accepted own_accepted

    no_place : Placeless (calls_of c q i k).answers
    no_place =
        let e = (head_of c i).answer.log_end in
        subst (λ (s : List ℕ). Placeless (calls_over c.rom c.table (head_of c i).trace s (head_of c i).log e (replicate k q)).answers) own_image
        (placeless c.rom c.table (head_of c i).trace (tabled_by c q ok) bytes (replicate k q) (machine_of (head_of c i).state) (head_of c i).log e own_good own_fit.start)

    ended : DoneButLast (calls_of c q i k).answers →
        let p = plain_of c i (sum (replicate k q)) in Gives (ending_number p.ending) (ending_place p.ending) (last_of no_answer (calls_of c q i k).answers)
    unfolding steps_over
    ended d =
        let step = step_by Rom c.rom (head_of c i).trace in
        let m = machine_of (head_of c i).state in
        let p = plain_of c i (sum (replicate k q)) in
        ends_by step p.ending p (replicate k q) (calls_of c q i k) m (head_of c i).log (head_of c i).answer.log_end refl
        (went step (sum (replicate k q)) 0 m (head_of c i).log (head_of c i).answer.log_end 0) agreed d no_place

    -- what its turns make of it
    made : (g : Head) → g ≡ after_turns (turned c.rom c.table q) k (head_of c i) → AsCalls c.rom c.table q (head_of c i) k g
    made g e = subst⁻¹ (AsCalls c.rom c.table q (head_of c i) k) e (as_calls c.rom c.table q k (head_of c i))

  pub alone : (turns : ℕ) → Alone c q i (turns_of c q turns)
  unfolding head_of
  alone turns =
      let t = turns_of c q turns in
      let k = had i t.order in
      let w = came (turned c.rom c.table q) i c.count turns 0 (head_of c) in
      let a = made k (t.heads i) w.is in
      let answers = (calls_of c q i k).answers in
      let g = agreed k in
      let l = ended k (done_but_last c.rom c.table q k (head_of c i) w.going) in
      let steps = a.steps ∙ zero-add (total answers) in
      let number = a.number ∙ last_number (head_of c i).answer no_answer answers refl in
      let address = a.address ∙ last_address (head_of c i).answer no_answer answers refl in
      let sn = steps ∙ g.steps in
      let nn = number ∙ l.0 in
      let an = address ∙ l.1 in
      let en = a.end ∙ g.end in
      let st = a.state ∙ g.state in
      let lg = a.log ∙ g.log in
      let whole : t.heads i ≡ left_by (head_of c i).trace (plain_of c i (sum (replicate k q))) =
      λ j. record { state = st j; trace = a.trace j; log = lg j; answer = record { number = nn j; steps = sn j; address = an j; log_end = en j } } in
      record {
        list = record { state = a.state; log = a.log; end = a.end; steps = steps; number = number; address = address };
        plain = whole ∙ ap (λ (n : ℕ). left_by (head_of c i).trace (plain_of c i n)) (sum_alike k q);
      }
