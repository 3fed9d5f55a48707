-- What the proofs of a session's text cite: the lines of a log one after another, and a log up to its end. Assumes nothing.
use Prim.Native.Nat.{ℕ, suc, ◌/◌, ◌<◌, ◌≤◌}
use native.Mathlib.Omega.{arith}
use mathlib.Core.Path.{◌≡◌, sym, ◌∙◌, ap}
use mathlib.Core.List.{List, [], ◌∷◌, ◌++◌, append_assoc, append-nil}
use lib.ListN.{length, take}
use lib.Seq.{take_all, take-length}
use Rattle.decimals.specs.Lines.{line_of}
use Rattle.printing.specs.Printed.{record_line, record_lines, log_lines, ending_line, session_lines}

-- the lines of a log that begins with a record, and of one that has none
pub lines_more : (front rest : List ℕ) → length front ≡ 6 → log_lines (front ++ rest) ≡ record_line front ++ log_lines rest
unfolding log_lines record_lines record_line
lines_more [] rest h = absurd (omega arith)
lines_more (a ∷ []) rest h = absurd (omega arith)
lines_more (a ∷ b ∷ []) rest h = absurd (omega arith)
lines_more (a ∷ b ∷ c ∷ []) rest h = absurd (omega arith)
lines_more (a ∷ b ∷ c ∷ d ∷ []) rest h = absurd (omega arith)
lines_more (a ∷ b ∷ c ∷ d ∷ p ∷ []) rest h = absurd (omega arith)
lines_more (a ∷ b ∷ c ∷ d ∷ p ∷ v ∷ []) rest h =
    let more : length (a ∷ b ∷ c ∷ d ∷ p ∷ v ∷ rest) / 6 ≡ suc (length rest / 6) = omega arith in
    ap (λ (n : ℕ). record_lines n (a ∷ b ∷ c ∷ d ∷ p ∷ v ∷ rest)) more
lines_more (a ∷ b ∷ c ∷ d ∷ p ∷ v ∷ x ∷ xs) rest h = absurd (omega arith)

lines_end : (log : List ℕ) → length log < 6 → log_lines log ≡ []
unfolding log_lines record_lines
lines_end log h =
    let none : length log / 6 ≡ 0 = omega arith in
    rw none

-- behind one record more, and behind the last, where t is what is written so far
pub goes_on : (t w log front rest all : List ℕ) → log ≡ front ++ rest → length front ≡ 6 → w ≡ t ++ record_line front → t ++ log_lines log ≡ all →
    w ++ log_lines rest ≡ all
goes_on t w log front rest all s h e f =
    ap (λ (x : List ℕ). x ++ log_lines rest) e
    ∙ append_assoc t (record_line front) (log_lines rest)
    ∙ ap (λ (x : List ℕ). t ++ x) (sym (ap log_lines s ∙ lines_more front rest h))
    ∙ f

pub ends : (t log all : List ℕ) → length log < 6 → t ++ log_lines log ≡ all → t ≡ all
ends t log all h f = sym (append-nil t) ∙ ap (λ (x : List ℕ). t ++ x) (sym (lines_end log h)) ∙ f

-- a log that ends past its buffer
pub whole : (end : ℕ) (log : List ℕ) → length log ≤ end → take (length log) log ≡ take end log
whole end log h = take-length log ∙ sym (take_all end log h)

-- a session's lines: its log's lines t, and w with the last line
pub put_together : (log : List ℕ) (end number steps address clock pc : ℕ) (t w : List ℕ) → t ≡ log_lines (take end log) →
    w ≡ t ++ line_of (number ∷ (steps ∷ (address ∷ (clock ∷ (pc ∷ []))))) → w ≡ session_lines log end number steps address clock pc
unfolding session_lines ending_line
put_together log end number steps address clock pc t w f g = g ∙ ap (λ (x : List ℕ). x ++ ending_line number steps address clock pc) f
