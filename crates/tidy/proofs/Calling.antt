-- The call's cases: refused with 6, refused with 13, written. Assumes nothing.
use Prim.Native.Nat.{ℕ, ◌≤◌, ◌<◌}
use mathlib.Core.Path.{◌≡◌, ◌∙◌, refl, ap}
use mathlib.Core.List.{List, ◌++◌}
use borrow.Author.Tests.{le-ltb, lt-ltb, ne_eqb}
use lib.ListN.{length, drop}
use Rattle.std.specs.Prelude.{Err, Ok}
use Rattle.numbers.specs.Numbers.{trace_refusal, short_refusal}
use Rattle.trace.specs.declared.Fault.TheVariants.{Malformed}
use Rattle.trace.specs.Trace.{longest, end_of, due_at, scan_of, scan_number, scan_address}
use Rattle.trace.specs.Cases.{too_long}
use Rattle.trace.proofs.Ready.{ready, at_start}
use Rattle.written.specs.Written.{refusal, wrote, answer_of, buffer_of}
use Rattle.written.specs.declared.Written.{Written}
use Rattle.tidy.specs.Tidy.{tidy_of, tidy_answer, tidy_buffer}

-- a trace that is read to its end: a cursor at its start is ready
pub read_whole : (s : List ℕ) → length s ≤ longest → end_of s ≡ length s → scan_of s 0 ≡ Ok (due_at s 0)
read_whole s h e = ready s 0 (due_at s 0) (record { short = h; whole = e; start = at_start s e; dated = refl })

cut_off : (s : List ℕ) → length s ≤ longest → (end_of s ≡ length s → ⊥) → scan_of s 0 ≡ Err (Malformed (end_of s))
unfolding scan_of
cut_off s h e = rw (le-ltb longest (length s) h, ne_eqb (end_of s) (length s) e)

module _ (s out : List ℕ) where
  -- an answer and a buffer that are the call's
  abbrev Answers : Written → List ℕ → Type 0
  Answers r o = (r ≡ tidy_answer s out) × (o ≡ tidy_buffer s out)

  refused_at : (at : ℕ) → scan_of s 0 ≡ Err (Malformed at) → Answers (refusal trace_refusal at) out
  unfolding answer_of buffer_of scan_number scan_address
  refused_at at e = rw e (refl, refl)

  pub refused_long : (r : Written) → r ≡ refusal trace_refusal longest → longest < length s → Answers r out
  refused_long r e h = let a = refused_at longest (too_long s 0 h) in (e ∙ a.0, a.1)

  pub refused_malformed : (r : Written) (at : ℕ) → r ≡ refusal trace_refusal at → at ≡ end_of s → length s ≤ longest → (at ≡ length s → ⊥) → Answers r out
  refused_malformed r at e f h g =
      let a = refused_at (end_of s) (cut_off s h (λ z. g (f ∙ z))) in (e ∙ ap (refusal trace_refusal) f ∙ a.0, a.1)

  module _ (h : length s ≤ longest) (e : end_of s ≡ length s) (n : ℕ) (f : n ≡ length (tidy_of s)) where
    short_by : length out < length (tidy_of s) → Answers (refusal short_refusal 0) out
    unfolding answer_of buffer_of scan_number scan_address
    short_by g = rw (read_whole s h e, lt-ltb (length out) (length (tidy_of s)) g) (refl, refl)

    pub refused_short : (r : Written) → r ≡ refusal short_refusal 0 → length out < n → Answers r out
    refused_short r q g = let a = short_by (subst_lt g) in (q ∙ a.0, a.1)
      where
        subst_lt : length out < n → length out < length (tidy_of s)
        subst_lt g = rw (← f) g

    wrote_by : length (tidy_of s) ≤ length out → Answers (wrote (length (tidy_of s))) (tidy_of s ++ drop (length (tidy_of s)) out)
    unfolding answer_of buffer_of scan_number scan_address
    wrote_by g = rw (read_whole s h e, le-ltb (length out) (length (tidy_of s)) g) (refl, refl)

    pub whole_written : (r : Written) (o : List ℕ) → r ≡ wrote n → o ≡ tidy_of s ++ drop (length (tidy_of s)) out → length (tidy_of s) ≤ length out → Answers r o
    whole_written r o p q g = let a = wrote_by g in (p ∙ ap wrote f ∙ a.0, q ∙ a.1)
