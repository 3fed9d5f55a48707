-- The turns of a call that is accepted, as `heads::dispatch` gives them: what holds before each look at a head, how a turn and a stopped head keep it, and what it
-- comes to at the end. The heads are read off the buffers, so that one equation says how far the call has come.
-- Assumes nothing.
use Prim.Native.Nat.{ℕ, zero, suc, ◌+◌, ◌-◌, ◌*◌, ◌≤◌, ◌<◌}
use native.Mathlib.Omega.{arith}
use native.Mathlib.Numerals.{add-one}
use mathlib.Core.Path.{◌≡◌, ◌∙◌, refl, sym, ap, subst⁻¹, fun_ext}
use mathlib.Core.Bool.{Bool, true, false, cond}
use mathlib.Core.List.{List, [], ◌∷◌, ◌++◌, append-nil}
use mathlib.Core.Logic.{◌⊎◌, inl, inr}
use borrow.Author.Tests.{eq-eqb, eqb-true, eqb-false, ltb-true, ltb-false}
use borrow.Rule.Slice.PartMut.{put_mid}
use lib.Dec.{eqb, ltb}
use lib.ListN.{length, length-append, length-drop, take, drop, get_or, set, length-set, get_or-append}
use lib.Seq.{get_or-set_same, get_or-set_other, get_or-append_seam, ext_get_or, length-take-le, drop-length}
use Rattle.image.specs.Image.{image_size}
use Rattle.parts.specs.Parts.{most_heads, together, joined}
use Rattle.parts.proofs.Laws.{part_back, part_beside, rest_beside, parts_joined, part_within, shares_fit, share_fits, length_part}
use Rattle.table.proofs.Laws.{length_table_of}
use Rattle.verdicts.specs.Verdicts.{accepted}
use Rattle.verdicts.proofs.Accepted.{Tabled, rom_long}
use Rattle.calls.specs.declared.Answer.{Answer}
use Rattle.calls.specs.declared.Pause.{Pause}
use Rattle.calls.specs.Calls.{Called}
use Rattle.invariant.specs.Sound.{Bytes}
use Rattle.heads.specs.Heads.{Lent, Head, Heads, state_at, trace_at, log_at, share, head_of, over_both, run_of, turned, goes, turn_of, after, turns_from}
use Rattle.heads.specs.Call.{no_answer, listed, ended, dispatched_by, Call}
use Rattle.heads.specs.Turning.{turn_in, Fitting, TurnMade}
use Rattle.heads.proofs.Standing.{Stands, turn_ran, turn_runs, fits, cursor, goes_on}
use Rattle.heads.proofs.Seeking.{seek, seek_left, seek_none, seek_past, seek_turn}

-- the heads as the buffers have them
abbrev pub heads_in : Lent → List ℕ → List ℕ → List Answer → Heads
heads_in c states log answer j =
    record { state = state_at j states; trace = trace_at j c.lengths c.traces; log = log_at j (share c) log; answer = get_or answer j no_answer }

-- a part that is put back leaves the length only where it is as long
back_long : (a w : ℕ) (s y : List ℕ) → a + w ≤ length s → length (put_mid a w s y) ≡ length s → length y ≡ w
back_long a w s y h e =
    let k = length-take-le a s (omega arith) in
    let m = length-drop w (drop a s) in
    let n = length-drop a s in
    let o = length-append y (drop w (drop a s)) in
    let p = length-append (take a s) (y ++ drop w (drop a s)) in
    omega (arith, k, m, n, o, p, e)

after_within : (n i : ℕ) → 1 ≤ n → after n i < n
after_within n i h = by (ltb (i + 1) n) refl
  where
    by : (b : Bool) → ltb (i + 1) n ≡ b → cond b (i + 1) 0 < n
    by true e = ltb-true (i + 1) n e
    by false e = omega arith

-- parts of two heads lie apart
apart : (w i j : ℕ) → (j ≡ i → ⊥) → (w * j + w ≤ w * i) ⊎ (w * i + w ≤ w * j)
apart w i j other = by (ltb j i) refl
  where
    by : (b : Bool) → ltb j i ≡ b → (w * j + w ≤ w * i) ⊎ (w * i + w ≤ w * j)
    by true e = inl (part_within w i j (ltb-true j i e))
    by false e = inr (part_within w j i (omega (arith, ltb-false j i e, other)))

-- how many of n heads are looked at behind a turn
pub at_most : (n k : ℕ) → cond (eqb k 0) 0 n ≤ n
at_most n k = by (eqb k 0)
  where
    by : (b : Bool) → cond b 0 n ≤ n
    by true = omega arith
    by false = omega arith

pub left_some : (n k : ℕ) → 0 < cond (eqb k 0) 0 n → 0 < k
left_some n zero h = absurd (omega (arith, h, ap (λ (b : Bool). cond b 0 n) (eq-eqb 0 0 refl)))
left_some n (suc k) h = omega arith

-- eight answers by their numbers
length_listed : (k : ℕ) (f : ℕ → Answer) → length (listed k f) ≡ k
unfolding listed
length_listed zero f = refl
length_listed (suc k) f = length-append (listed k f) (f k ∷ []) ∙ add-one (length (listed k f)) ∙ ap suc (length_listed k f)

get_d_listed_by : (k : ℕ) (f : ℕ → Answer) (j : ℕ) (b : Bool) → ltb j k ≡ b → j < suc k → (j < k → get_or (listed k f) j no_answer ≡ f j) →
    get_or (listed k f ++ (f k ∷ [])) j no_answer ≡ f j
get_d_listed_by k f j true e h ih =
    let m = ltb-true j k e in get_or-append (listed k f) (f k ∷ []) no_answer j (omega (arith, m, length_listed k f)) ∙ ih m
get_d_listed_by k f j false e h ih =
    let z : j ≡ k = omega (arith, ltb-false j k e) in
    ap (λ (x : ℕ). get_or (listed k f ++ (f k ∷ [])) x no_answer) (z ∙ sym (length_listed k f)) ∙ get_or-append_seam (listed k f) (f k) [] no_answer ∙ ap f (sym z)

pub get_d_listed : (k : ℕ) (f : ℕ → Answer) (j : ℕ) → j < k → get_or (listed k f) j no_answer ≡ f j
unfolding listed
get_d_listed zero f j h = absurd (omega arith)
get_d_listed (suc k) f j h = get_d_listed_by k f j (ltb j k) refl h (get_d_listed k f j)

listed_as : (answer : List Answer) (n : ℕ) → length answer ≡ most_heads → ((j : ℕ) → (j < n → ⊥) → get_or answer j no_answer ≡ no_answer) →
    answer ≡ listed most_heads (λ j. cond (ltb j n) (get_or answer j no_answer) no_answer)
listed_as answer n l past =
    ext_get_or no_answer answer (listed most_heads (λ j. cond (ltb j n) (get_or answer j no_answer) no_answer))
    (l ∙ sym (length_listed most_heads (λ j. cond (ltb j n) (get_or answer j no_answer) no_answer)))
    (λ j h. by j (ltb j n) refl ∙ sym (get_d_listed most_heads (λ j. cond (ltb j n) (get_or answer j no_answer) no_answer) j (omega (arith, h, l))))
  where
    by : (j : ℕ) (b : Bool) → ltb j n ≡ b → get_or answer j no_answer ≡ cond b (get_or answer j no_answer) no_answer
    by j true e = refl
    by j false e = past j (λ m. omega (arith, ltb-false j n e, m))

none_left : (w n : ℕ) (s : List ℕ) → length s ≡ w * n → drop (w * n) s ≡ []
none_left w n s e = ap (λ (k : ℕ). drop k s) (sym e) ∙ drop-length s

module _ (c : Lent) (q turns : ℕ) (tabled : Tabled c.rom c.table) (bytes : Bytes c.rom) where
  abbrev turn_once : Head → Head
  turn_once = turned c.rom c.table q

  abbrev all : Heads
  all = (turns_from turn_once c.count turns 0 (head_of c)).heads

  pub record Round (states log : List ℕ) (answer : List Answer) (due : List ℕ) (left look i : ℕ) : Type 0 where
    pub some : 1 ≤ c.count
    pub most : c.count ≤ most_heads
    pub lengths : length c.lengths ≡ c.count
    pub traces : together c.lengths ≡ length c.traces
    pub inside : i < c.count
    pub looked : look ≤ c.count
    pub still : 0 < look → 0 < left
    pub states_long : length states ≡ image_size * c.count
    pub log_long : length log ≡ length c.log
    pub answer_long : length answer ≡ most_heads
    pub due_long : length due ≡ most_heads
    pub rest : drop (share c * c.count) log ≡ drop (share c * c.count) c.log
    pub past : (j : ℕ) → (j < c.count → ⊥) → get_or answer j no_answer ≡ no_answer
    pub stands : (j : ℕ) → j < c.count → Stands c.rom c.table tabled bytes (heads_in c states log answer j) (get_or due j 0)
    pub so : seek turn_once c.count left look i (heads_in c states log answer) ≡ all

  module _ (states log : List ℕ) (answer : List Answer) (due : List ℕ) (left look i : ℕ) (r : Round states log answer due left look i) where
    abbrev here : Head
    here = heads_in c states log answer i

    state_fits : image_size * i + image_size ≤ length states
    state_fits = omega (arith, part_within image_size c.count i r.inside, r.states_long)

    log_fits : share c * i + share c ≤ length log
    log_fits = omega (arith, share_fits (length c.log) c.count i r.some r.inside, r.log_long)

    -- where the head hasn't stopped it may have a turn
    pub fitting : goes (heads_in c states log answer i) ≡ true →
        Fitting i c.table states c.traces c.lengths log (share c) q (get_or answer i no_answer) (get_or due i 0)
    fitting g =
        let s = r.stands i r.inside in
        let l : length c.table ≡ 4 * length c.rom = ap length tabled.table_is ∙ length_table_of c.rom in
        let ran = turn_ran c.rom c.table tabled bytes q here (get_or due i 0) s ∙ turn_runs c.rom c.table tabled bytes q here (get_or due i 0) s in
        record {
          tabled = omega (arith, l, rom_long (length c.rom) tabled.rom_fits_lem);
          state = state_fits;
          listed = omega (arith, r.lengths, r.inside);
          together_long = r.traces;
          part = log_fits;
          start = let e = length_part (share c * i) (share c) log log_fits in omega (arith, s.within, e);
          stands = cursor c.rom c.table tabled bytes q here (get_or due i 0) s g;
          steps = let n = ap (λ (w : Called). w.answer.steps) ran in omega (arith, n, fits c.rom c.table tabled bytes q here (get_or due i 0) s);
        }

    -- a head that has stopped is passed over
    pub passes : 0 < look → goes (heads_in c states log answer i) ≡ false → Round states log answer due left (look - 1) (after c.count i)
    passes h g =
        record {
          some = r.some;
          most = r.most;
          lengths = r.lengths;
          traces = r.traces;
          inside = after_within c.count i r.some;
          looked = omega (arith, r.looked);
          still = λ k. r.still h;
          states_long = r.states_long;
          log_long = r.log_long;
          answer_long = r.answer_long;
          due_long = r.due_long;
          rest = r.rest;
          past = r.past;
          stands = r.stands;
          so =
              sym (seek_past turn_once c.count left (look - 1) i (heads_in c states log answer) g) ∙
              ap (λ (k : ℕ). seek turn_once c.count left k i (heads_in c states log answer)) (let z : suc (look - 1) ≡ look = omega arith in z) ∙ r.so;
        }

    -- a turn
    module _ (h : 0 < look) (g : goes (heads_in c states log answer i) ≡ true) (p : Pause) (states' log' : List ℕ)
        (made : TurnMade i c.table states c.traces c.lengths log (share c) q (get_or answer i no_answer) p states' log')
        (same : length states' ≡ length states) (alike : length log' ≡ length log) where
      abbrev own : Called
      own = turn_in i c.table states c.traces c.lengths log (share c) (get_or answer i no_answer).log_end q

      is_run : own ≡ run_of c.rom c.table q here
      is_run = turn_ran c.rom c.table tabled bytes q here (get_or due i 0) (r.stands i r.inside)

      state_long : length own.state ≡ image_size
      state_long = back_long (image_size * i) image_size states own.state state_fits (sym (ap length made.states_after) ∙ same)

      part_long : length own.log ≡ share c
      part_long = back_long (share c * i) (share c) log own.log log_fits (sym (ap length made.log_after_lem) ∙ alike)

      in_answers : i < length answer
      in_answers = omega (arith, r.inside, r.most, r.answer_long)

      -- the head whose turn it was, and the others
      turned_here : heads_in c states' log' (set answer i p.answer) i ≡ turn_once here
      unfolding turned
      turned_here =
          let a = ap (λ (x : List ℕ). state_at i x) made.states_after ∙ part_back (image_size * i) image_size states own.state state_long state_fits ∙ ap (λ (w : Called). w.state) is_run in
          let b = ap (λ (x : List ℕ). log_at i (share c) x) made.log_after_lem ∙ part_back (share c * i) (share c) log own.log part_long log_fits ∙ ap (λ (w : Called). w.log) is_run in
          let d = get_or-set_same answer i p.answer no_answer in_answers ∙ made.answer ∙ ap (λ (w : Called). over_both (get_or answer i no_answer) w.answer) is_run in
          λ k. record { state = a k; trace = trace_at i c.lengths c.traces; log = b k; answer = d k }

      same_there : (j : ℕ) → (j ≡ i → ⊥) → heads_in c states' log' (set answer i p.answer) j ≡ heads_in c states log answer j
      same_there j other =
          let a = ap (λ (x : List ℕ). state_at j x) made.states_after ∙ part_beside (image_size * i) image_size (image_size * j) image_size states own.state state_long state_fits (apart image_size i j other) in
          let b = ap (λ (x : List ℕ). log_at j (share c) x) made.log_after_lem ∙ part_beside (share c * i) (share c) (share c * j) (share c) log own.log part_long log_fits (apart (share c) i j other) in
          let d = get_or-set_other answer i j p.answer no_answer other in
          λ k. record { state = a k; trace = trace_at j c.lengths c.traces; log = b k; answer = d k }

      after_turn : heads_in c states' log' (set answer i p.answer) ≡ turn_of turn_once i (heads_in c states log answer)
      unfolding turn_of
      after_turn = fun_ext (λ j. by j (eqb j i) refl)
        where
          by : (j : ℕ) (b : Bool) → eqb j i ≡ b →
              heads_in c states' log' (set answer i p.answer) j ≡ cond b (turn_once (heads_in c states log answer j)) (heads_in c states log answer j)
          by j true e =
              let z = eqb-true j i e in
              ap (heads_in c states' log' (set answer i p.answer)) z ∙ turned_here ∙ ap (λ (x : ℕ). turn_once (heads_in c states log answer x)) (sym z)
          by j false e = same_there j (eqb-false j i e)

      stand_on : (j : ℕ) → j < c.count →
          Stands c.rom c.table tabled bytes (heads_in c states' log' (set answer i p.answer) j) (get_or (set due i p.due) j 0)
      stand_on j m = by (eqb j i) refl
        where
          by : (b : Bool) → eqb j i ≡ b → Stands c.rom c.table tabled bytes (heads_in c states' log' (set answer i p.answer) j) (get_or (set due i p.due) j 0)
          by true e =
              let z = eqb-true j i e in
              subst⁻¹ (λ (x : ℕ). Stands c.rom c.table tabled bytes (heads_in c states' log' (set answer i p.answer) x) (get_or (set due i p.due) x 0)) z
              (subst⁻¹ (λ (x : ℕ). Stands c.rom c.table tabled bytes (heads_in c states' log' (set answer i p.answer) i) x)
              (get_or-set_same due i p.due 0 (omega (arith, r.inside, r.most, r.due_long)))
              (subst⁻¹ (λ (x : Head). Stands c.rom c.table tabled bytes x p.due) turned_here
              (goes_on c.rom c.table tabled bytes q here (get_or due i 0) (r.stands i r.inside) p.due made.due_after_lem)))
          by false e =
              let z = eqb-false j i e in
              subst⁻¹ (λ (x : Head). Stands c.rom c.table tabled bytes x (get_or (set due i p.due) j 0)) (same_there j z)
              (subst⁻¹ (λ (x : ℕ). Stands c.rom c.table tabled bytes (heads_in c states log answer j) x) (get_or-set_other due i j p.due 0 z) (r.stands j m))

      pub gives : Round states' log' (set answer i p.answer) (set due i p.due) (left - 1) (cond (eqb (left - 1) 0) 0 c.count) (after c.count i)
      gives =
          record {
            some = r.some;
            most = r.most;
            lengths = r.lengths;
            traces = r.traces;
            inside = after_within c.count i r.some;
            looked = at_most c.count (left - 1);
            still = left_some c.count (left - 1);
            states_long = same ∙ r.states_long;
            log_long = alike ∙ r.log_long;
            answer_long = length-set answer i p.answer ∙ r.answer_long;
            due_long = length-set due i p.due ∙ r.due_long;
            rest =
                ap (drop (share c * c.count)) made.log_after_lem ∙
                rest_beside (share c * i) (share c) (share c * c.count) log own.log part_long (part_within (share c) c.count i r.inside) ∙ r.rest;
            past = λ j o. get_or-set_other answer i j p.answer no_answer (λ z. o (omega (arith, z, r.inside))) ∙ r.past j o;
            stands = stand_on;
            so =
                seek_left turn_once c.count (left - 1) (after c.count i) (heads_in c states' log' (set answer i p.answer)) ∙
                ap (λ (x : Heads). (turns_from turn_once c.count (left - 1) (after c.count i) x).heads) after_turn ∙
                sym (seek_turn turn_once c.count (left - 1) (look - 1) i (heads_in c states log answer) g) ∙
                ap (λ (k : ℕ). seek turn_once c.count k (suc (look - 1)) i (heads_in c states log answer)) (let z : suc (left - 1) ≡ left = omega (arith, r.still h) in z) ∙
                ap (λ (k : ℕ). seek turn_once c.count left k i (heads_in c states log answer)) (let z : suc (look - 1) ≡ look = omega arith in z) ∙ r.so;
          }

    -- the end
    pub over : look ≡ 0 → Call (dispatched_by accepted c q turns) (record { number = 0; address = 0; turns = 0; head = answer }) states log
    unfolding dispatched_by ended
    over z =
        let hs : heads_in c states log answer ≡ all =
        sym (seek_none turn_once c.count left i (heads_in c states log answer)) ∙
        ap (λ (k : ℕ). seek turn_once c.count left k i (heads_in c states log answer)) (sym z) ∙ r.so in
        let listing = listed_as answer c.count r.answer_long r.past in
        record {
          answer = ap (λ (x : List Answer). record { number = 0; address = 0; turns = 0; head = x })
              (listing ∙ ap (λ (x : Heads). listed most_heads (λ j. cond (ltb j c.count) (x j).answer no_answer)) hs);
          states =
              sym (parts_joined image_size c.count states (omega (arith, r.states_long))) ∙
              ap (λ (x : List ℕ). joined c.count (λ j. state_at j states) ++ x) (none_left image_size c.count states r.states_long) ∙
              append-nil (joined c.count (λ j. state_at j states)) ∙
              ap (λ (x : Heads). joined c.count (λ j. (x j).state)) hs;
          log =
              sym (parts_joined (share c) c.count log (omega (arith, shares_fit (length c.log) c.count, r.log_long))) ∙
              ap (λ (x : List ℕ). joined c.count (λ j. log_at j (share c) log) ++ x) r.rest ∙
              ap (λ (x : Heads). joined c.count (λ j. (x j).log) ++ drop (share c * c.count) c.log) hs;
        }
