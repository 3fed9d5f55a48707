-- The table's entry where it has no mark, and the second byte's answer where it has.
-- Assumes nothing.
use Rattle.std.proofs.Common.{arith, refl, sym, ◌∙◌, ◌≡◌, ℕ, ◌<◌, ◌≤◌, Bool, true, false, cond}
use borrow.Author.Tests.{ne_eqb}
use Rattle.codes.specs.Decode.{info_of, member}
use Rattle.codes.specs.Entry.{bit_codes, entry_at, mark, marked}
use Rattle.codes.proofs.BitInfo.{bit_info}
use Rattle.codes.proofs.FirstByte.{marking}
use Rattle.codes.proofs.info.Goals as goal

of-bits : (x : ℕ) → (x ≡ 0xD9 → ⊥) → (x ≡ 0xDB → ⊥) → (x ≡ 0xDC → ⊥) → (x ≡ 0xDD → ⊥) → member x marked ≡ true → member x bit_codes ≡ true
of-bits x p q r s h = simp (ne_eqb x 0xD9 p, ne_eqb x 0xDB q, ne_eqb x 0xDC r, ne_eqb x 0xDD s) at h

-- an entry below the mark is the code's, and any other one marks its first byte
below : (x y e : ℕ) → x < 256 → e ≡ entry_at x → e < mark → e ≡ info_of x y
unfolding entry_at
below x y e h q l = by_mark (member x marked) refl q
  where
    by_mark : (m : Bool) → member x marked ≡ m → e ≡ cond m mark (info_of x 0) → e ≡ info_of x y
    by_mark true p i = absurd (omega arith)
    by_mark false p i = i ∙ sym (marking.plain x y h p)

beyond : (x e : ℕ) → x < 256 → e ≡ entry_at x → mark ≤ e → member x marked ≡ true
unfolding entry_at
beyond x e h q l = by_mark (member x marked) refl q
  where
    by_mark : (m : Bool) → member x marked ≡ m → e ≡ cond m mark (info_of x 0) → m ≡ true
    by_mark true p i = refl
    by_mark false p i = absurd (omega (arith, marking.apart x h p))

pub returns-then-e-lt-MARK : goal.returns-then-e-lt-MARK
returns-then-e-lt-MARK c = below c.args.b0 c.args.b1 _ (omega arith) c.entry-e.ensures c.if-e-lt-MARK.true

pub returns-in_default : goal.returns-in_default
returns-in_default c =
    c.info_bit.ensures ∙
    bit_info c.args.b0 c.args.b1 (omega arith) (omega arith)
    (of-bits c.args.b0 (omega arith) (omega arith) (omega arith) (omega arith) (beyond _ _ (omega arith) c.entry-e.ensures c.if-e-lt-MARK.false))
