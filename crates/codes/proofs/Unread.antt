-- A code is read as no instruction exactly where it has no length: no row lacks one of the two alone.
-- Assumes nothing.
use Prim.Native.Nat.{ℕ}
use mathlib.Core.Path.{◌≡◌, refl, ap, sym, ◌∙◌}
use mathlib.Core.Bool.{Bool, true, false, cond, not, ◌&&◌, false≢true}
use mathlib.Core.List.{List, [], ◌∷◌, ◌++◌}
use mathlib.Core.Logic.{◌⊎◌, ◌↔◌, inl, inr}
use lib.Dec.{eqb, ltb}
use denote.Enum.Declared.{Choice}
use borrow.Author.Tests.{eq-eqb, eqb-true}
use Rattle.codes.specs.Cells.{Letter, bits_of, fixed, operand}
use Rattle.codes.specs.Row.{Row, undefined, len}
use Rattle.codes.specs.Rows.{rows}
use Rattle.codes.specs.Decode.{fits, best, row_of, info_for, info_of, decode}
use Rattle.codes.specs.Kinds.{some}
use Rattle.codes.specs.declared.Instr.{Instr}
use Rattle.codes.specs.declared.Instr.TheVariants.{Undefined}
use Rattle.codes.specs.contracts.Instr.{the_parts as parts, as_values, the_make as make, the_eta as eta}

-- Undefined is the first of the variants
abbrev first : {A B : Type 0} → A ⊎ B → Bool
first (inl a) = true
first (inr b) = false

abbrev none : Instr → Bool
none i = first (as_values i)

made : (c : Choice parts) → first c ≡ true → make c ≡ Undefined
made (inl v) h = refl
made (inr c) h = absurd (false≢true h)

-- two tests come out unlike
abbrev unlike : Bool → Bool → Bool
unlike a b = cond a (not b) b

like : (a b : Bool) → unlike a b ≡ false → a ≡ b
like true true h = refl
like true false h = absurd (false≢true (sym h))
like false b h = sym h

-- a row lacks an instruction or a length, and has the other; o gives the operand of each letter
abbrev odd : (Letter → ℕ) → Row → Bool
odd o w = unlike (none (w.instr o)) (eqb (info_for (len w) w.cycles) 0)

no_row_odd : (o : Letter → ℕ) → some (odd o) rows ≡ false
unfolding rows
no_row_odd o = refl

-- a test that fails for every row fails for the one that is read
both_fail : (a b : Bool) → cond a true b ≡ false → (a ≡ false) × (b ≡ false)
both_fail true b h = absurd (false≢true (sym h))
both_fail false b h = (refl, h)

module _ (f g : Row → Bool) where
  chosen : (w v : Row) (b : Bool) → g w ≡ false → g v ≡ false → g (cond b v w) ≡ false
  chosen w v true h k = k
  chosen w v false h k = h

  best_fails : (ws : List Row) (w : Row) → g w ≡ false → some g ws ≡ false → g (best f w ws) ≡ false
  best_fails [] w h k = h
  best_fails (v ∷ vs) w h k =
      let s = both_fail (g v) (some g vs) k in
      let b = f v && ltb (fixed w.cells) (fixed v.cells) in
      best_fails vs (cond b v w) (chosen w v b h s.0) s.1

row_like : (x y : ℕ) (o : Letter → ℕ) → none ((row_of x y).instr o) ≡ eqb (info_of x y) 0
unfolding row_of info_of
row_like x y o = like _ _ (best_fails (fits (bits_of x ++ bits_of y)) (odd o) rows undefined refl (no_row_odd o))

none_like : (x y z : ℕ) → none (decode x y z) ≡ eqb (info_of x y) 0
unfolding decode
none_like x y z = row_like x y (λ l. operand l (row_of x y).cells (bits_of x ++ (bits_of y ++ bits_of z)))

pub no_length : (x y z : ℕ) → (decode x y z ≡ Undefined) ↔ (info_of x y ≡ 0)
no_length x y z = (
  λ e. eqb-true (info_of x y) 0 (sym (none_like x y z) ∙ ap none e),
  λ e. sym (eta (decode x y z)) ∙ made (as_values (decode x y z)) (none_like x y z ∙ eq-eqb (info_of x y) 0 e),
)
