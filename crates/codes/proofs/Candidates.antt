-- The rows that a first byte fits, found once for many second bytes: a code is read by the same row among them as among all.
-- Assumes nothing.
use Prim.Native.Nat.{ℕ}
use mathlib.Core.Path.{◌≡◌, refl, ap, sym, ◌∙◌}
use mathlib.Core.Bool.{Bool, true, false, cond, ◌&&◌, false≢true}
use mathlib.Core.List.{List, [], ◌∷◌, ◌++◌}
use lib.Dec.{ltb}
use Rattle.codes.specs.Cells.{Cell, admits, agree, bits_of, fixed}
use Rattle.codes.specs.Row.{Row, undefined, len}
use Rattle.codes.specs.Rows.{rows}
use Rattle.codes.specs.Decode.{fits, best, row_of, info_for, info_of, instr_by, decode}
use Rattle.codes.specs.declared.Instr.{Instr}

-- those of the rows that pass the test g
abbrev pub keep : (Row → Bool) → List Row → List Row
keep g [] = []
keep g (w ∷ ws) = elim (g w) [ true ↦ w ∷ keep g ws | false ↦ keep g ws ]

-- the bits of a first byte fit the row's first byte
abbrev pub opens : ℕ → Row → Bool
opens x w = agree w.cells (bits_of x)

unfoldable pub candidates : ℕ → List Row
unfolding rows
candidates x = keep (opens x) rows

unfoldable pub info_among : ℕ → ℕ → ℕ
unfolding candidates
info_among x = let c = candidates x in λ y. (let w = best (fits (bits_of x ++ bits_of y)) undefined c in info_for (len w) w.cycles)

unfoldable pub decode_among : ℕ → ℕ → ℕ → Instr
unfolding candidates
decode_among z x = let c = candidates x in λ y. (let w = best (fits (bits_of x ++ bits_of y)) undefined c in instr_by w x y z)

front_by : (p r s : Bool) → (r ≡ true → s ≡ true) → p && r ≡ true → p && s ≡ true
front_by true r s k h = k h
front_by false r s k h = h

front : (cs : List Cell) (bs es : List ℕ) → agree cs (bs ++ es) ≡ true → agree cs bs ≡ true
front [] bs es h = refl
front (c ∷ cs) [] es h = refl
front (c ∷ cs) (v ∷ bs) es h = front_by (admits c v) (agree cs (bs ++ es)) (agree cs bs) (front cs bs es) h

pub left_of : (p q : Bool) → p && q ≡ true → p ≡ true
left_of true q h = refl
left_of false q h = h

pub opened : (x y : ℕ) (w : Row) → fits (bits_of x ++ bits_of y) w ≡ true → opens x w ≡ true
opened x y w h = front w.cells (bits_of x) (bits_of y) (left_of (agree w.cells (bits_of x ++ bits_of y)) _ h)

pub neither : (p q : Bool) → (q ≡ true → p ≡ true) → p ≡ false → q ≡ false
neither p true k e = absurd (false≢true (sym e ∙ k refl))
neither p false k e = refl

module _ (f g : Row → Bool) where
  pass : (w v : Row) (ks vs : List Row) (p : Bool) → (p ≡ false → f v ≡ false) → ((u : Row) → best f u ks ≡ best f u vs) → best f w (elim p [ true ↦ v ∷ ks | false ↦ ks ]) ≡ best f w (v ∷ vs)
  pass w v ks vs true k rec = rec (cond (f v && ltb (fixed w.cells) (fixed v.cells)) v w)
  pass w v ks vs false k rec = rw (k refl) (rec w)

  best_keep : ((v : Row) → f v ≡ true → g v ≡ true) → (ws : List Row) (w : Row) → best f w (keep g ws) ≡ best f w ws
  best_keep h [] w = refl
  best_keep h (v ∷ vs) w = pass w v (keep g vs) vs (g v) (neither (g v) (f v) (h v)) (best_keep h vs)

same_row : (x y : ℕ) → best (fits (bits_of x ++ bits_of y)) undefined (candidates x) ≡ row_of x y
unfolding candidates row_of
same_row x y = best_keep (fits (bits_of x ++ bits_of y)) (opens x) (opened x y) rows undefined

pub info_among_lem : (x y : ℕ) → info_among x y ≡ info_of x y
unfolding info_among info_of
info_among_lem x y = ap (λ (w : Row). info_for (len w) w.cycles) (same_row x y)

pub decode_among_lem : (z x y : ℕ) → decode_among z x y ≡ decode x y z
unfolding decode_among decode
decode_among_lem z x y = ap (λ (w : Row). instr_by w x y z) (same_row x y)
