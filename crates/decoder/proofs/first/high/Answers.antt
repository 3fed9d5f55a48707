-- At the bytes of each arm antt computes what the rows say.
-- Assumes nothing.
use Prim.Native.Nat.{ℕ, ◌%◌, ◌/◌, ◌*◌}
use native.Mathlib.Omega.{arith}
use mathlib.Core.Path.{◌≡◌, ap, refl, ◌∙◌}
use mathlib.Core.List.{List, [], ◌∷◌}
use lib.Dec.{leb}
use borrow.Author.Rules.{rules}
use borrow.Author.Tests.{leb-true}
use Rattle.codes.specs.Cells.{I, O, byte, a8, a9, a10}
use mathlib.Core.Bool.{true}
use Rattle.codes.specs.Decode.{decode}
use Rattle.codes.specs.declared.Instr.{Instr}
use Rattle.codes.specs.declared.Instr.TheVariants.{Undefined, Scf, Rcf, Ccf, Calls, Ret, Iret, Sret, XchEaDa, LdEaDa, LdHlA, LdDaEa, LdcWx, LdcEa, AdsEaImm, IncsDa, BtstC, Btst, Btsf, Bits, Bitr}
use Rattle.codes.specs.declared.Place.TheVariants.{Da}
use Rattle.codes.proofs.Ranges.{listed, past}
use Rattle.decoder.proofs.Operands.{alone, behind, joined, joined_is, of_byte}
use Rattle.decoder.proofs.first.high.Goals as goal

-- the single numbers of the match, arm by arm, the last first
keys : List (List ℕ)
keys = (0xFF ∷ []) ∷ (0xFE ∷ []) ∷ (0xE7 ∷ []) ∷ (0xE6 ∷ []) ∷ (0xE5 ∷ []) ∷ (0xDD ∷ []) ∷ (0xDC ∷ []) ∷ (0xDB ∷ []) ∷ (0xD9 ∷ []) ∷ (0xD7 ∷ []) ∷ (0xD6 ∷ []) ∷ (0xD5 ∷ []) ∷ (0xCF ∷ []) ∷ (0xCE ∷ []) ∷ (0xCD ∷ []) ∷ (0xCC ∷ []) ∷ (0xCA ∷ []) ∷ (0xC9 ∷ []) ∷ (0xC8 ∷ []) ∷ (0xC5 ∷ []) ∷ (0xC4 ∷ []) ∷ (0xC3 ∷ 0xD3 ∷ 0xE3 ∷ 0xF3 ∷ []) ∷ (0xC2 ∷ 0xD2 ∷ 0xE2 ∷ 0xF2 ∷ []) ∷ (0xC1 ∷ 0xD1 ∷ 0xE1 ∷ 0xF1 ∷ []) ∷ (0xC0 ∷ 0xD0 ∷ 0xE0 ∷ 0xF0 ∷ []) ∷ []

at_key : (x k y z : ℕ) (r : Instr) → r ≡ decode k y z → x ≡ k → r ≡ decode x y z
at_key x k y z r e h = rw h e

pub returns-in-192 : goal.returns-in-192
unfolding decode keys
returns-in-192 c = of_byte (λ v. Bitr (Da v (c.args.b0 / 16 % 4))) c.args.b1 (omega arith) (listed (λ x. Bitr (Da (behind (alone c.args.b1)) (x / 16 % 4))) (λ x. decode x c.args.b1 c.args.b2) (0xC0 ∷ 0xD0 ∷ 0xE0 ∷ 0xF0 ∷ []) refl c.args.b0 c.in-192.is)

pub returns-in-193 : goal.returns-in-193
unfolding decode keys
returns-in-193 c = of_byte (λ v. Bits (Da v (c.args.b0 / 16 % 4))) c.args.b1 (omega arith) (listed (λ x. Bits (Da (behind (alone c.args.b1)) (x / 16 % 4))) (λ x. decode x c.args.b1 c.args.b2) (0xC1 ∷ 0xD1 ∷ 0xE1 ∷ 0xF1 ∷ []) refl c.args.b0 c.in-193.is)

pub returns-in-194 : goal.returns-in-194
unfolding decode keys
returns-in-194 c = of_byte (λ v. Btsf (Da v (c.args.b0 / 16 % 4))) c.args.b1 (omega arith) (listed (λ x. Btsf (Da (behind (alone c.args.b1)) (x / 16 % 4))) (λ x. decode x c.args.b1 c.args.b2) (0xC2 ∷ 0xD2 ∷ 0xE2 ∷ 0xF2 ∷ []) refl c.args.b0 c.in-194.is)

pub returns-in-195 : goal.returns-in-195
unfolding decode keys
returns-in-195 c = of_byte (λ v. Btst (Da v (c.args.b0 / 16 % 4))) c.args.b1 (omega arith) (listed (λ x. Btst (Da (behind (alone c.args.b1)) (x / 16 % 4))) (λ x. decode x c.args.b1 c.args.b2) (0xC3 ∷ 0xD3 ∷ 0xE3 ∷ 0xF3 ∷ []) refl c.args.b0 c.in-195.is)

pub returns-in-196 : goal.returns-in-196
unfolding decode keys
returns-in-196 c = listed (λ x. LdHlA) (λ x. decode x c.args.b1 c.args.b2) (0xC4 ∷ []) refl c.args.b0 c.in-196.is

pub returns-in-197 : goal.returns-in-197
unfolding decode keys
returns-in-197 c = listed (λ x. Ret) (λ x. decode x c.args.b1 c.args.b2) (0xC5 ∷ []) refl c.args.b0 c.in-197.is

pub returns-in-200 : goal.returns-in-200
unfolding decode keys
returns-in-200 c = listed (λ x. LdcEa) (λ x. decode x c.args.b1 c.args.b2) (0xC8 ∷ []) refl c.args.b0 c.in-200.is

pub returns-in-201 : goal.returns-in-201
unfolding decode keys
returns-in-201 c = of_byte (λ v. AdsEaImm v) c.args.b1 (omega arith) (listed (λ x. AdsEaImm (behind (alone c.args.b1))) (λ x. decode x c.args.b1 c.args.b2) (0xC9 ∷ []) refl c.args.b0 c.in-201.is)

pub returns-in-202 : goal.returns-in-202
unfolding decode keys
returns-in-202 c = of_byte (λ v. IncsDa v) c.args.b1 (omega arith) (listed (λ x. IncsDa (behind (alone c.args.b1))) (λ x. decode x c.args.b1 c.args.b2) (0xCA ∷ []) refl c.args.b0 c.in-202.is)

pub returns-in-204 : goal.returns-in-204
unfolding decode keys
returns-in-204 c = listed (λ x. LdcWx) (λ x. decode x c.args.b1 c.args.b2) (0xCC ∷ []) refl c.args.b0 c.in-204.is

pub returns-in-205 : goal.returns-in-205
unfolding decode keys
returns-in-205 c = of_byte (λ v. LdDaEa v) c.args.b1 (omega arith) (listed (λ x. LdDaEa (behind (alone c.args.b1))) (λ x. decode x c.args.b1 c.args.b2) (0xCD ∷ []) refl c.args.b0 c.in-205.is)

pub returns-in-206 : goal.returns-in-206
unfolding decode keys
returns-in-206 c = of_byte (λ v. LdEaDa v) c.args.b1 (omega arith) (listed (λ x. LdEaDa (behind (alone c.args.b1))) (λ x. decode x c.args.b1 c.args.b2) (0xCE ∷ []) refl c.args.b0 c.in-206.is)

pub returns-in-207 : goal.returns-in-207
unfolding decode keys
returns-in-207 c = of_byte (λ v. XchEaDa v) c.args.b1 (omega arith) (listed (λ x. XchEaDa (behind (alone c.args.b1))) (λ x. decode x c.args.b1 c.args.b2) (0xCF ∷ []) refl c.args.b0 c.in-207.is)

pub returns-in-213 : goal.returns-in-213
unfolding decode keys
returns-in-213 c = listed (λ x. Iret) (λ x. decode x c.args.b1 c.args.b2) (0xD5 ∷ []) refl c.args.b0 c.in-213.is

pub returns-in-214 : goal.returns-in-214
unfolding decode keys
returns-in-214 c = listed (λ x. Ccf) (λ x. decode x c.args.b1 c.args.b2) (0xD6 ∷ []) refl c.args.b0 c.in-214.is

pub returns-in-215 : goal.returns-in-215
unfolding decode keys
returns-in-215 c = listed (λ x. BtstC) (λ x. decode x c.args.b1 c.args.b2) (0xD7 ∷ []) refl c.args.b0 c.in-215.is

pub returns-in-229 : goal.returns-in-229
unfolding decode keys
returns-in-229 c = listed (λ x. Sret) (λ x. decode x c.args.b1 c.args.b2) (0xE5 ∷ []) refl c.args.b0 c.in-229.is

pub returns-in-230 : goal.returns-in-230
unfolding decode keys
returns-in-230 c = listed (λ x. Rcf) (λ x. decode x c.args.b1 c.args.b2) (0xE6 ∷ []) refl c.args.b0 c.in-230.is

pub returns-in-231 : goal.returns-in-231
unfolding decode keys
returns-in-231 c = listed (λ x. Scf) (λ x. decode x c.args.b1 c.args.b2) (0xE7 ∷ []) refl c.args.b0 c.in-231.is

pub returns-in-232-to-239 : goal.returns-in-232-to-239
unfolding decode keys
returns-in-232-to-239 c = ap Calls (joined_is (byte I I I O I a10 a9 a8) (λ x. x % 8 * 256) 0xE8 0x08 refl refl c.args.b0 c.args.b1 (leb-true 0xE8 c.args.b0 (past keys (leb 0xE8) (λ x. true) 0xE5 0x0B refl c.args.b0 (search rules) (omega arith) (omega arith))) (omega arith) (omega arith)) ∙ past keys (λ x. Calls (joined (byte I I I O I a10 a9 a8) x c.args.b1)) (λ x. decode x c.args.b1 c.args.b2) 0xE5 0x0B refl c.args.b0 (search rules) (omega arith) (omega arith)

pub returns-in_default : goal.returns-in_default
unfolding decode keys
returns-in_default c = past keys (λ x. Undefined) (λ x. decode x c.args.b1 c.args.b2) 0xC0 0x25 refl c.args.b0 (search rules) (omega arith) (omega arith)

pub returns-in_default-2 : goal.returns-in_default-2
unfolding decode keys
returns-in_default-2 c = past keys (λ x. Undefined) (λ x. decode x c.args.b1 c.args.b2) 0xFA 0x02 refl c.args.b0 (search rules) (omega arith) (omega arith)
