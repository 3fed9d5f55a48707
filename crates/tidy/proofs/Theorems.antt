-- The laws of the tidy form, by document 02, No. 3: it means what the trace means, an accepted trace's is accepted, two traces have the same one exactly when
-- they mean the same, doing it twice changes nothing, and a buffer as long as the trace is never too short. Assumes nothing.
use Prim.Native.Nat.{ℕ, ◌≤◌}
use native.Mathlib.Omega.{arith}
use mathlib.Core.Path.{◌≡◌, ◌∙◌, refl, sym, ap}
use mathlib.Core.Bool.{Bool, cond}
use mathlib.Core.List.{List}
use mathlib.Core.Logic.{◌↔◌}
use borrow.Author.Tests.{le-ltb}
use lib.ListN.{length}
use Rattle.std.specs.Prelude.{Result, Err, Ok}
use Rattle.numbers.specs.Numbers.{done, short_refusal}
use Rattle.record.proofs.Records.{Bytes}
use Rattle.trace.specs.declared.Fault.{Fault}
use Rattle.trace.specs.declared.Fault.TheVariants.{Malformed, Astray}
use Rattle.trace.specs.Trace.{longest, end_from, end_of, scan_of, scan_number, scan_address}
use Rattle.trace.proofs.Entries.{at_first}
use Rattle.trace.proofs.Ready.{standing}
use Rattle.written.specs.Written.{refusal, wrote, answer_of}
use Rattle.tidy.specs.Meaning.{events_in, meaning_of, Accepted}
use Rattle.tidy.specs.Tidy.{tidy_bytes, tidy_of, tidy_answer}
use Rattle.tidy.proofs.Calling.{read_whole}
use Rattle.tidy.proofs.Shorter.{tidy_shorter}
use Rattle.tidy.proofs.ReadBack.{meaning_rises}
use Rattle.tidy.proofs.Walk.{walked_tidy}

pub tidy_means : (s : List ℕ) → meaning_of (tidy_of s) ≡ meaning_of s
tidy_means s = ap events_in (sym (at_first (tidy_of s))) ∙ (walked_tidy (meaning_of s) (meaning_rises s)).events

-- it is read to its end
pub tidy_whole : (s : List ℕ) → end_of (tidy_of s) ≡ length (tidy_of s)
tidy_whole s = ap (end_from 0) (sym (at_first (tidy_of s))) ∙ (walked_tidy (meaning_of s) (meaning_rises s)).ends

pub same_exactly : (s t : List ℕ) → (meaning_of s ≡ meaning_of t) ↔ (tidy_of s ≡ tidy_of t)
same_exactly s t = (λ e. ap tidy_bytes e, λ e. sym (tidy_means s) ∙ ap meaning_of e ∙ tidy_means t)

pub tidy_twice : (s : List ℕ) → tidy_of (tidy_of s) ≡ tidy_of s
tidy_twice s = ap tidy_bytes (tidy_means s)

-- an accepted trace is no longer than 65,536 bytes, and what is read to its end within that is accepted
accepted_by : (s : List ℕ) (x : Result ℕ Fault) → scan_of s 0 ≡ x → scan_number x ≡ done → length s ≤ longest
unfolding scan_number
accepted_by s (Err (Malformed at)) e h = absurd (omega arith)
accepted_by s (Err Astray) e h = absurd (omega arith)
accepted_by s (Ok due) e h = (standing s 0 due e).short

accepts : (t : List ℕ) → length t ≤ longest → end_of t ≡ length t → Accepted t
unfolding scan_number
accepts t h e = ap scan_number (read_whole t h e)

never_13 : (x : Result ℕ Fault) (out form : List ℕ) → length form ≤ length out → (answer_of (scan_number x) (scan_address x) form out).number ≡ short_refusal → ⊥
unfolding answer_of scan_number scan_address
never_13 (Err (Malformed at)) out form h e = omega arith
never_13 (Err Astray) out form h e = omega arith
never_13 (Ok due) out form h e =
    let z : done ≡ short_refusal = ap (λ (b : Bool). (cond b (refusal short_refusal 0) (wrote (length form))).number) (sym (le-ltb (length out) (length form) h)) ∙ e in omega arith

pub tidy_accepted : (s : List ℕ) → Bytes s → Accepted s → Accepted (tidy_of s)
tidy_accepted s b h =
    let l = accepted_by s (scan_of s 0) refl h in
    accepts (tidy_of s) (omega (arith, tidy_shorter s b)) (tidy_whole s)

pub never_short : (s out : List ℕ) → Bytes s → length s ≤ length out → (tidy_answer s out).number ≡ short_refusal → ⊥
never_short s out b h = never_13 (scan_of s 0) out (tidy_of s) (omega (arith, tidy_shorter s b))
