-- What the proofs of a slip's text cite: the farms' lines one after another, and a round's lines. Assumes nothing.
use Prim.Native.Nat.{ℕ, ◌+◌, ◌<◌, ◌≤◌}
use native.Mathlib.Omega.{arith}
use native.Mathlib.Numerals.{add-one}
use mathlib.Core.Path.{◌≡◌, refl, sym, ◌∙◌, ap, subst}
use mathlib.Core.List.{List, [], ◌∷◌, ◌++◌, append_assoc, append-nil}
use lib.ListN.{length, get_or, take, drop, drop_of_length-le}
use lib.Seq.{drop-cons}
use borrow.Author.Tests.{eq-eqb, ne_eqb}
use Rattle.litres.specs.declared.Lines.{Lines}
use Rattle.litres.specs.Lines.{lines_of}
use Rattle.litres.proofs.Bounds.{lines_few, done_few}
use Rattle.decimals.specs.Lines.{line_of}
use Rattle.playback.specs.declared.Ending.{Ending}
use Rattle.playback.specs.Session.{empty_log, session_of, log_of}
use Rattle.slips.specs.Fit.{Fit}
use Rattle.slips.specs.Slip.{unplaced_word, farm_lines, closing_line, slip_of, collected_of, slip_text}

-- the lines of the farms behind the first i
abbrev pub lines_at : List ℕ → List ℕ → ℕ → List ℕ
lines_at marks litres i = farm_lines (i + 1) (drop i marks) (drop i litres)

lines_more : (marks litres : List ℕ) (i : ℕ) → i < length marks → i < length litres →
    lines_at marks litres i ≡ line_of ((i + 1) ∷ (get_or marks i 0 ∷ (get_or litres i 0 ∷ []))) ++ lines_at marks litres (i + 1)
unfolding farm_lines
lines_more marks litres i h j = rw (add-one (i + 1), add-one i, drop-cons marks i 0 h, drop-cons litres i 0 j) refl

lines_end : (marks litres : List ℕ) (i : ℕ) → length marks ≤ i → lines_at marks litres i ≡ []
unfolding farm_lines
lines_end marks litres i h = rw (drop_of_length-le marks {i = i} h)

-- behind one more line, and behind the last, where t is what is written so far
pub goes_on : (marks litres t w l : List ℕ) (i : ℕ) → i < length marks → i < length litres →
    w ≡ t ++ line_of ((i + 1) ∷ (get_or marks i 0 ∷ (get_or litres i 0 ∷ []))) → t ++ lines_at marks litres i ≡ l → w ++ lines_at marks litres (i + 1) ≡ l
goes_on marks litres t w l i h j e f =
    let this = line_of ((i + 1) ∷ (get_or marks i 0 ∷ (get_or litres i 0 ∷ []))) in
    ap (λ (x : List ℕ). x ++ lines_at marks litres (i + 1)) e
    ∙ append_assoc t this (lines_at marks litres (i + 1))
    ∙ ap (λ (x : List ℕ). t ++ x) (sym (lines_more marks litres i h j))
    ∙ f

pub ends : (marks litres t l : List ℕ) (i : ℕ) → length marks ≤ i → t ++ lines_at marks litres i ≡ l → t ≡ l
ends marks litres t l i h f = sym (append-nil t) ∙ ap (λ (x : List ℕ). t ++ x) (sym (lines_end marks litres i h)) ∙ f

-- the text of lines that litres refuses
pub refused_slip : (l : Lines) (marks : List ℕ) (e : Ending) (w : List ℕ) → (l.number ≡ 0 → ⊥) → w ≡ line_of (l.number ∷ []) → w ≡ slip_of l marks e
unfolding slip_of
refused_slip l marks e w z h = rw (ne_eqb l.number 0 z) h

-- the text of others: w₁ with the first line, w₂ with the farms' too, w with all
pub whole_slip : (l : Lines) (marks : List ℕ) (e : Ending) (w₁ w₂ w : List ℕ) → l.number ≡ 0 → w₁ ≡ unplaced_word ++ line_of (l.unplaced ∷ []) →
    w₂ ≡ w₁ ++ farm_lines 1 marks l.farm → w ≡ w₂ ++ closing_line e → w ≡ slip_of l marks e
unfolding slip_of
whole_slip l marks e w₁ w₂ w z f g h = rw (eq-eqb l.number 0 z) (h ∙ rw (g, f) (simp append_assoc))

-- a round's lines l, of the bytes t of its log g up to the log's end
pub collects : (rom trace marks : List ℕ) (budget : ℕ) (e : Ending) (g t : List ℕ) (l : Lines) → e ≡ session_of rom trace budget empty_log →
    g ≡ log_of rom trace budget empty_log → t ≡ take e.answer.log_end g → l ≡ lines_of t marks → l ≡ collected_of rom trace budget marks
unfolding collected_of
collects rom trace marks budget e g t l p q r h =
    h ∙ ap (λ (x : List ℕ). lines_of x marks)
    (r ∙ ap (λ (x : Ending). take x.answer.log_end g) p ∙ ap (take (session_of rom trace budget empty_log).answer.log_end) q)

-- the text of these lines
pub put_together : (rom trace marks : List ℕ) (budget : ℕ) (e : Ending) (l : Lines) (w : List ℕ) → e ≡ session_of rom trace budget empty_log →
    l ≡ collected_of rom trace budget marks → w ≡ slip_of l marks e → w ≡ slip_text rom trace budget marks
unfolding slip_text
put_together rom trace marks budget e l w p q h =
    h ∙ ap (λ (x : Lines). slip_of x marks e) q ∙ ap (slip_of (collected_of rom trace budget marks) marks) p

-- the lines of a log that is no longer than a session's fit their text
fits_by : (log marks : List ℕ) → length log ≤ 60000 → Fit (lines_of log marks) marks
fits_by log marks h =
    let few = lines_few log marks in
    record {
      unplaced = omega arith;
      farms = λ i. omega (arith, few.farms i);
      long = few.long;
      few = done_few log marks;
    }

pub fits : (log marks : List ℕ) (l : Lines) → length log ≤ 60000 → l ≡ lines_of log marks → Fit l marks
fits log marks l h e = subst (λ (x : Lines). Fit x marks) (sym e) (fits_by log marks h)
