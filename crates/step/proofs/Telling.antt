-- A step and what is told of it: a stop stays a stop at its address, and all else stays.
-- Assumes nothing.
use Prim.Native.Nat.{ℕ}
use Rattle.fetch.specs.declared.Code.{Code}
use Rattle.step.specs.Step.{Out, moved, stopped, told_of}

-- what a step has whatever the number of its stop, it has as told
pub told_has : (src : ℕ → Code) (P : Out → Type 0) → ((k j p : ℕ) → P (stopped k p) → P (stopped j p)) → (o : Out) → P o → P (told_of src o)
told_has src P f (moved m w) h = h
told_has src P f (stopped k p) h = f k _ p h
