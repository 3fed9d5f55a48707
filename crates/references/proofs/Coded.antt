-- The codes of REF and of ADS A,#im are known by their first byte, whatever the second and the third: no other row has these instructions, and antt computes
-- which first bytes fit the two rows, and how those are read.
-- Assumes nothing.
use Prim.Native.Nat.{ℕ, ◌%◌, ◌<◌}
use native.Mathlib.Omega.{arith}
use mathlib.Core.Path.{◌≡◌, refl, ap, sym, ◌∙◌}
use mathlib.Core.Bool.{Bool, true, false, cond, not, ◌&&◌, false≢true}
use mathlib.Core.List.{List, [], ◌∷◌, ◌++◌}
use lib.Dec.{eqb, ltb}
use denote.Enum.Declared.{tag_of}
use Rattle.codes.specs.Cells.{O, I, bits_of, byte, d, d0, d1, d2, d3, fixed, t, t1, t2, t3, t4, t5, t6, t7}
use Rattle.codes.specs.Decode.{best, decode, fits, instr_by}
use Rattle.codes.specs.Row.{Row, any, memc, one, only, undefined}
use Rattle.codes.specs.Rows.{rows}
use Rattle.codes.specs.declared.Instr.{Instr}
use Rattle.codes.specs.declared.Instr.TheVariants.{AdsAIm, Ref}
use Rattle.codes.proofs.Candidates.{left_of}
use Rattle.codes.specs.contracts.Instr.{the_type}
use Rattle.codes.proofs.Ranges.{picked, values}
use Rattle.references.specs.Coding.{CodedBy, area_of, is_ads, is_ref}

-- each of the rows that f lets through passes the test g, and so does the one that is read
abbrev all : (g f : Row → Bool) → List Row → Bool
all g f [] = true
all g f (w ∷ ws) = cond (g w) true (not (f w)) && all g f ws

right_of : (p q : Bool) → p && q ≡ true → q ≡ true
right_of true q h = h
right_of false q h = absurd (false≢true h)

kept : (p : Bool) → cond p true false ≡ true → p ≡ true
kept true h = refl
kept false h = h

better_of : (g : Row → Bool) (f l : Bool) (v w : Row) → cond (g v) true (not f) ≡ true → g w ≡ true → g (cond (f && l) v w) ≡ true
better_of g true true v w h k = kept (g v) h
better_of g true false v w h k = k
better_of g false l v w h k = k

best_passes : (g f : Row → Bool) (w : Row) (ws : List Row) → g w ≡ true → all g f ws ≡ true → g (best f w ws) ≡ true
best_passes g f w [] h k = h
best_passes g f w (v ∷ vs) h k =
    best_passes g f (cond (f v && ltb (fixed w.cells) (fixed v.cells)) v w) vs
    (better_of g (f v) (ltb (fixed w.cells) (fixed v.cells)) v w (left_of (cond (g v) true (not (f v))) (all g f vs) k) h)
    (right_of (cond (g v) true (not (f v))) (all g f vs) k)

-- the number of an instruction's variant, and that it is not k
abbrev variant : Instr → ℕ
variant i = tag_of the_type i

abbrev other : ℕ → Instr → Bool
other k i = not (eqb (variant i) k)

-- k is the variant that the row w alone has: a code that does not fit w is read as another, and so is one that fits w and whose first byte p leaves out
module _ (k : ℕ) (w : Row) (p : ℕ → Bool)
    (sole : (f : Row → Bool) (x y z : ℕ) → all (λ v. other k (instr_by v x y z)) f rows ≡ not (f w) && true)
    (none : (x y z : ℕ) → other k (instr_by undefined x y z) ≡ true)
    (covered : (y z : ℕ) → values (λ x. not (p x) && fits (bits_of x ++ bits_of y) w) (λ x. other k (decode x y z)) 0 256 ≡ values (λ x. not (p x) && fits (bits_of x ++ bits_of y) w) (λ x. true) 0 256)
    (b y z : ℕ) (h : b < 256) (q : p b ≡ false) where
  not_fits : fits (bits_of b ++ bits_of y) w ≡ false → other k (decode b y z) ≡ true
  unfolding decode
  not_fits e =
      best_passes (λ v. other k (instr_by v b y z)) (fits (bits_of b ++ bits_of y)) undefined rows (none b y z)
      (sole (fits (bits_of b ++ bits_of y)) b y z ∙ ap (λ (c : Bool). not c && true) e)

  though_fits : fits (bits_of b ++ bits_of y) w ≡ true → other k (decode b y z) ≡ true
  though_fits e =
      picked (λ x. not (p x) && fits (bits_of x ++ bits_of y) w) (λ x. other k (decode x y z)) (λ x. true) 0 256 (covered y z) b (ap (λ (c : Bool). not c && fits (bits_of b ++ bits_of y) w) q ∙ e)
      (omega arith) (omega arith)

  by_fit : (c : Bool) → fits (bits_of b ++ bits_of y) w ≡ c → other k (decode b y z) ≡ true
  by_fit true e = though_fits e
  by_fit false e = not_fits e

  apart : (i : Instr) → other k i ≡ false → decode b y z ≡ i → ⊥
  apart i o e = false≢true (sym o ∙ ap (other k) (sym e) ∙ by_fit (fits (bits_of b ++ bits_of y) w) refl)

-- the printed rows of the two
ref : Row
ref = one (λ o. Ref (o t)) 3 (byte t7 t6 t5 t4 O t3 t2 t1) (only t memc)

ads : Row
ads = one (λ o. AdsAIm (o d)) 1 (byte I O I O d3 d2 d1 d0) any

pub ref_coded : (b y z : ℕ) → b < 256 → CodedBy is_ref Ref area_of b y z
unfolding decode ref rows
ref_coded b y z h =
    record {
      reads = λ q. sym (picked is_ref (λ x. Ref (area_of x)) (λ x. decode x y z) 0 256 refl b q (omega arith) (omega arith));
      alone = λ q n e. apart (variant (Ref 0)) ref is_ref (λ f x y z. refl) (λ x y z. refl) (λ y z. refl) b y z h q (Ref n) refl e;
    }

pub ads_coded : (b y z : ℕ) → b < 256 → CodedBy is_ads AdsAIm (λ b. b % 16) b y z
unfolding decode ads rows
ads_coded b y z h =
    record {
      reads = λ q. sym (picked is_ads (λ x. AdsAIm (x % 16)) (λ x. decode x y z) 0 256 refl b q (omega arith) (omega arith));
      alone = λ q n e. apart (variant (AdsAIm 0)) ads is_ads (λ f x y z. refl) (λ x y z. refl) (λ y z. refl) b y z h q (AdsAIm n) refl e;
    }
