-- The answers of a list of calls, recorded one behind the other in a buffer of words.
-- Assumes nothing.
use Prim.Native.Nat.{ℕ, suc, ◌+◌, ◌-◌, ◌*◌, ◌≤◌, ◌<◌}
use native.Mathlib.Omega.{arith}
use native.Mathlib.Numerals.{add-one}
use mathlib.Core.Path.{◌≡◌, ◌∙◌, refl, sym, ap, subst, subst⁻¹}
use mathlib.Core.List.{List, [], ◌∷◌, ◌++◌, append-nil, append_assoc}
use borrow.Rule.Slice.PartMut.{mid_of, put_mid}
use lib.ListN.{length, get_or, drop, length-append}
use lib.Seq.{drop-cons, drop-length, drop-drop, take_at, drop_at}
use Rattle.portlog.specs.Log.{written}
use Rattle.portlog.proofs.Part.{put_back}
use Rattle.calls.specs.declared.Answer.{Answer}
use Rattle.calls.specs.Calls.{table_call, Call}
use Rattle.budgets.specs.Claim.{Listed, first, calls_over, words_of, answers_in, left_in}

-- a list of answers as words
abbrev all_words : List Answer → List ℕ
all_words [] = []
all_words (r ∷ rs) = words_of r ++ all_words rs

-- the words are read back as the answers
words_read : (rs : List Answer) (x : List ℕ) → answers_in (length rs) (all_words rs ++ x) ≡ rs
unfolding answers_in
words_read [] x = refl
words_read (r ∷ rs) x = ap (λ (z : List Answer). r ∷ z) (words_read rs x)

-- an answer for each budget
one_each : (rom table t s g : List ℕ) (e : ℕ) (bs : List ℕ) → length (calls_over rom table t s g e bs).answers ≡ length bs
unfolding calls_over
one_each rom table t s g e [] = refl
one_each rom table t s g e (b ∷ bs) =
    let w = table_call rom table s t g e b in ap suc (one_each rom table t w.state w.log w.answer.log_end bs)

-- i calls of the list d are made, their answers `made` stand at the start of the buffer a that was a₀, and c is what is left of the list
pub record Far (d c : Listed) (a₀ a : List ℕ) (i : ℕ) : Type 0 where
  pub state : c.state ≡ d.state
  pub log : c.log ≡ d.log
  pub end : c.end ≡ d.end
  pub made : List Answer
  pub count : length made ≡ i
  pub answers : made ++ c.answers ≡ d.answers
  pub words : a ≡ all_words made ++ drop (4 * i) a₀

pub begin : (d : Listed) (a : List ℕ) → Far d d a a 0
begin d a = record { state = refl; log = refl; end = refl; made = []; count = refl; answers = refl; words = refl }

-- four words an answer
length_words : (rs : List Answer) → length (all_words rs) ≡ 4 * length rs
length_words [] = refl
length_words (r ∷ rs) = let h = length_words rs in omega arith

-- one answer more
words_more : (rs : List Answer) (r : Answer) → all_words (rs ++ (r ∷ [])) ≡ all_words rs ++ words_of r
words_more [] r = refl
words_more (x ∷ rs) r = ap (λ (w : List ℕ). words_of x ++ w) (words_more rs r)

put_more : (rs : List Answer) (r : Answer) (i : ℕ) (a₀ a : List ℕ) → length rs ≡ i → a ≡ all_words rs ++ drop (4 * i) a₀ →
    written a (4 * i) (words_of r) ≡ all_words (rs ++ (r ∷ [])) ++ drop (4 * (i + 1)) a₀
put_more rs r i a₀ a n h =
    let w = words_of r in
    let b = drop (4 * i) a₀ in
    let long : length (all_words rs) ≡ 4 * i = length_words rs ∙ ap (λ (k : ℕ). 4 * k) n in
    ap (λ (x : List ℕ). written x (4 * i) w) h ∙
    ap (λ (x : List ℕ). x ++ (w ++ drop 4 (drop (4 * i) (all_words rs ++ b)))) (take_at (all_words rs) b (4 * i) long) ∙
    ap (λ (x : List ℕ). all_words rs ++ (w ++ drop 4 x)) (drop_at (all_words rs) b (4 * i) long) ∙
    ap (λ (x : List ℕ). all_words rs ++ (w ++ x)) (drop-drop 4 (4 * i) a₀) ∙
    ap (λ (k : ℕ). all_words rs ++ (w ++ drop k a₀)) (let g : 4 * i + 4 ≡ 4 * (i + 1) = omega arith in g) ∙
    sym (append_assoc (all_words rs) w (drop (4 * (i + 1)) a₀)) ∙
    ap (λ (x : List ℕ). x ++ drop (4 * (i + 1)) a₀) (sym (words_more rs r))

far_first : (d c : Listed) (r : Answer) (a₀ a : List ℕ) (i : ℕ) → Far d (first r c) a₀ a i → Far d c a₀ (written a (4 * i) (words_of r)) (i + 1)
far_first d c r a₀ a i f =
    let n : length f.made ≡ i = f.count in
    record {
      state = f.state;
      log = f.log;
      end = f.end;
      made = f.made ++ (r ∷ []);
      count = length-append f.made (r ∷ []) ∙ ap (λ (k : ℕ). k + 1) n;
      answers = append_assoc f.made (r ∷ []) c.answers ∙ f.answers;
      words = put_more f.made r i a₀ a n f.words;
    }

module _ (rom table t : List ℕ) where
  -- i + 1 calls are made, the last of them answered r and left s and g, and those from j on are left
  abbrev Next : Listed → List ℕ → List ℕ → List ℕ → ℕ → List ℕ → List ℕ → Answer → ℕ → Type 0
  Next d bs a₀ a i s g r j = Far d (calls_over rom table t s g r.log_end (drop j bs)) a₀ (written a (4 * i) (words_of r)) (i + 1)

  -- one call more, whose answer went to the part of the buffer from 4 * i on
  pub far_more : (d : Listed) (s g s' g' : List ℕ) (e i : ℕ) (bs a₀ a ys : List ℕ) (r : Answer) → i < length bs → 4 * i ≤ length a →
      Call (table_call rom table s t g e (get_or bs i 0)) r s' g' → ys ≡ written (mid_of (4 * i) (length a - 4 * i) a) 0 (words_of r) →
      Far d (calls_over rom table t s g e (drop i bs)) a₀ a i →
      Far d (calls_over rom table t s' g' r.log_end (drop (i + 1) bs)) a₀ (put_mid (4 * i) (length a - 4 * i) a ys) (i + 1)
  unfolding calls_over
  far_more d s g s' g' e i bs a₀ a ys r h room w put f =
      let c = table_call rom table s t g e (get_or bs i 0) in
      let k : Far d (calls_over rom table t s g e (get_or bs i 0 ∷ drop (suc i) bs)) a₀ a i =
      subst (λ (x : List ℕ). Far d (calls_over rom table t s g e x) a₀ a i) (drop-cons bs i 0 h) f in
      subst⁻¹ (λ (x : List ℕ). Far d (calls_over rom table t s' g' r.log_end (drop (i + 1) bs)) a₀ x (i + 1))
      (put_back (4 * i) a ys (words_of r) room put)
      (subst⁻¹ (λ (r : Answer). Next d bs a₀ a i s' g' r (i + 1)) w.answer
      (subst⁻¹ (λ (x : List ℕ). Next d bs a₀ a i x g' c.answer (i + 1)) w.state
      (subst⁻¹ (λ (x : List ℕ). Next d bs a₀ a i c.state x c.answer (i + 1)) w.log
      (subst⁻¹ (Next d bs a₀ a i c.state c.log c.answer) (add-one i)
      (far_first d (calls_over rom table t c.state c.log c.answer.log_end (drop (suc i) bs)) c.answer a₀ a i k)))))

  -- all calls are made: what is left is the list's, and the buffer behind the answers is as it was
  pub all_made : (s₀ g₀ : List ℕ) (e₀ : ℕ) (bs s g : List ℕ) (e i : ℕ) (a₀ a : List ℕ) → length bs ≤ i → i ≤ length bs →
      Far (calls_over rom table t s₀ g₀ e₀ bs) (calls_over rom table t s g e (drop i bs)) a₀ a i →
      (left_in s g e (length bs) a ≡ calls_over rom table t s₀ g₀ e₀ bs) × (drop (4 * length bs) a ≡ drop (4 * length bs) a₀)
  unfolding calls_over
  all_made s₀ g₀ e₀ bs s g e i a₀ a h h' f =
      let d = calls_over rom table t s₀ g₀ e₀ bs in
      let n : i ≡ length bs = omega arith in
      let none : drop i bs ≡ [] = ap (λ (k : ℕ). drop k bs) n ∙ drop-length bs in
      let k : Far d (calls_over rom table t s g e []) a₀ a i = subst (λ (x : List ℕ). Far d (calls_over rom table t s g e x) a₀ a i) none f in
      let all : k.made ≡ d.answers = sym (append-nil k.made) ∙ k.answers in
      let words : a ≡ all_words d.answers ++ drop (4 * length bs) a₀ =
      k.words ∙
      ap (λ (j : ℕ). all_words k.made ++ drop (4 * j) a₀) n ∙
      ap (λ (rs : List Answer). all_words rs ++ drop (4 * length bs) a₀) all in
      let count : length d.answers ≡ length bs = one_each rom table t s₀ g₀ e₀ bs in
      let read : answers_in (length bs) a ≡ d.answers =
      ap (answers_in (length bs)) words ∙
      ap (λ (j : ℕ). answers_in j (all_words d.answers ++ drop (4 * length bs) a₀)) (sym count) ∙
      words_read d.answers (drop (4 * length bs) a₀) in (
        ap (λ (x : List ℕ). left_in x g e (length bs) a) k.state ∙
            ap (λ (x : List ℕ). left_in d.state x e (length bs) a) k.log ∙
            ap (λ (x : ℕ). left_in d.state d.log x (length bs) a) k.end ∙
            ap (λ (x : List Answer). record { state = d.state; log = d.log; end = d.end; answers = x }) read,
        ap (drop (4 * length bs)) words ∙
            drop_at (all_words d.answers) (drop (4 * length bs) a₀) (4 * length bs) (length_words d.answers ∙ ap (λ (j : ℕ). 4 * j) count),
      )
