-- Antt computes what the rows say at the second bytes of each arm.
-- Assumes nothing.
use Prim.Native.Nat.{ℕ, ◌%◌, ◌/◌, ◌<◌}
use native.Mathlib.Omega.{arith}
use mathlib.Core.Bool.{Bool, true}
use mathlib.Core.Path.{◌≡◌, refl, ◌∙◌}
use lib.Dec.{eqb, ltb}
use borrow.Author.Tests.{eq-eqb, lt-ltb}
use Rattle.codes.specs.Decode.{decode}
use Rattle.codes.specs.declared.Instr.{Instr}
use Rattle.codes.specs.declared.Instr.TheVariants.{CpseRIm, LdRaIm, Undefined}
use Rattle.codes.proofs.Candidates.{decode_among, decode_among_lem}
use Rattle.codes.proofs.Ranges.{picked, values}
use Rattle.decoder.proofs.second.after_d9.Goals as goal

arm : (p : ℕ → Bool) (f : ℕ → Instr) → ((z : ℕ) → values p f 0 256 ≡ values p (decode_among z 0xD9) 0 256) → (y : ℕ) → p y ≡ true → y < 256 → (z : ℕ) → f y ≡ decode 0xD9 y z
arm p f e y h l z = picked p f (decode_among z 0xD9) 0 256 (e z) y h (omega arith) (omega arith) ∙ decode_among_lem z 0xD9 y

pub returns-in-8 : goal.returns-in-8
unfolding decode_among
returns-in-8 c = arm (λ y. eqb (y % 16) 8) (λ y. Undefined) (λ z. refl) c.args.b1 (eq-eqb _ 8 c.in-8.is) (omega arith)

pub returns-in-0-to-7 : goal.returns-in-0-to-7
unfolding decode_among
returns-in-0-to-7 c = arm (λ y. ltb (y % 16) 8) (λ y. CpseRIm (y % 16) (y / 16)) (λ z. refl) c.args.b1 (lt-ltb (c.args.b1 % 16) 8 (omega arith)) (omega arith)

pub returns-in_default : goal.returns-in_default
unfolding decode_among
returns-in_default c = arm (λ y. ltb 8 (y % 16)) (λ y. LdRaIm (y % 16 % 8) (y / 16)) (λ z. refl) c.args.b1 (lt-ltb 8 (c.args.b1 % 16) (omega arith)) (omega arith)
