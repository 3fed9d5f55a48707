-- Laws of the image's definitions.
-- Assumes nothing.
use Prim.Native.Nat.{ℕ, zero, suc, ◌+◌, ◌-◌, ◌%◌, ◌≤◌, ◌<◌}
use native.Mathlib.Omega.{arith}
use native.Mathlib.Numerals.{add-one}
use mathlib.Core.Path.{◌≡◌, ◌∙◌, refl, ap, subst}
use mathlib.Core.Bool.{Bool, true, false, cond, ◌&&◌}
use mathlib.Core.List.{List, [], ◌∷◌, ◌++◌, append-nil}
use mathlib.Core.Logic.{◌⊎◌, inl, inr}
use lib.ListN.{length, get_or, take, drop_of_length-le}
use lib.Seq.{sets, sets-eq}
use lib.Dec.{ltb, eqb, leb}
use borrow.Author.Tests.{lt-ltb, le-ltb, ltb-true, ltb-false, eqb-true, leb-true}
use Rattle.std.specs.Prelude.{Option, Some, None}
use Rattle.std.proofs.lemmas.List.{length-take-le, get_or-take}
use Rattle.pins.specs.Pins.{nibble}
use Rattle.pins.proofs.Laws.{shifted}
use Rattle.chip.specs.State.{nibbles, slot_of}
use Rattle.chip.specs.Ports.{pins_of}
use Rattle.chip.proofs.Laws.{either}
use Rattle.image.specs.Image.{image_size, Field, value_in, nibble_fits, nibble_fault, pin_fields, timing_fields, fields, first_over, fault_of, found}

-- the chip's nibble of the pins is the one that the image and the trace go by
pub pins_of_lem : (pins p : ℕ) → pins_of pins p ≡ nibble pins p
pins_of_lem pins p = shifted pins p

-- what a search found
pub found_here : (end x : ℕ) → x < end → Some x ≡ found end x
found_here end x h = rw (lt-ltb x end h)

pub found_past : (end x : ℕ) → end ≤ x → None ≡ found end x
found_past end x h = rw (le-ltb x end h)

found_by : (b : Bool) (x i : ℕ) → Some i ≡ cond b (Some x) None → (b ≡ true) × (i ≡ x)
found_by true x i h = (refl, let z : i ≡ x = cc in z)
found_by false x i h = absurd (let z : ◌≡◌ {A = ℕ} 0 1 = cc in omega arith)

missed_by : (b : Bool) (x : ℕ) → None ≡ cond b (Some x) None → b ≡ false
missed_by true x h = absurd (let z : ◌≡◌ {A = ℕ} 0 1 = cc in omega arith)
missed_by false x h = refl

pub found_at : (end x i : ℕ) → Some i ≡ found end x → (x < end) × (i ≡ x)
found_at end x i h = let z = found_by (ltb x end) x i h in (ltb-true x end z.0, z.1)

pub found_none : (end x : ℕ) → None ≡ found end x → end ≤ x
found_none end x h = ltb-false x end (missed_by (ltb x end) x h)

-- the search for a byte that is no nibble goes over the nibbles alone: past one, at a byte that is none, at the end
pub nibbles_long : (s : List ℕ) → length s ≡ image_size → length (take nibbles s) ≡ nibbles
nibbles_long s h = length-take-le nibbles s (omega arith)

module _ (i : ℕ) (s : List ℕ) where
  pub fault_on : i < nibbles → nibble_fits i (get_or (take nibbles s) i 0) ≡ true → nibble_fault (nibbles - (i + 1)) (i + 1) s ≡ nibble_fault (nibbles - i) i s
  unfolding nibble_fault
  fault_on h e =
      let b : nibble_fits i (get_or s i 0) ≡ true = rw (get_or-take nibbles s i 0 h) at e in
      rw (add-one i) (subst (λ (k : ℕ). nibble_fault (nibbles - suc i) (suc i) s ≡ nibble_fault k i s) (let q : suc (nibbles - suc i) ≡ nibbles - i = omega arith in q) (rw b))

  pub fault_at : i < nibbles → nibble_fits i (get_or (take nibbles s) i 0) ≡ false → nibble_fault (nibbles - i) i s ≡ nibble_fault nibbles 0 s →
      Some i ≡ found nibbles (nibble_fault nibbles 0 s)
  unfolding nibble_fault
  fault_at h e f =
      let b : nibble_fits i (get_or s i 0) ≡ false = rw (get_or-take nibbles s i 0 h) at e in
      let at : i ≡ nibble_fault (nibbles - i) i s = subst (λ (k : ℕ). i ≡ nibble_fault k i s) (let q : suc (nibbles - suc i) ≡ nibbles - i = omega arith in q) (rw b) in
      subst (λ (k : ℕ). Some i ≡ found nibbles k) (at ∙ f) (found_here nibbles i h)

  pub fault_end : nibbles ≤ i → nibble_fault (nibbles - i) i s ≡ nibble_fault nibbles 0 s → None ≡ found nibbles (nibble_fault nibbles 0 s)
  unfolding nibble_fault
  fault_end h f =
      let end : i ≡ nibble_fault (nibbles - i) i s = rw (let q : nibbles - i ≡ 0 = omega arith in q) in
      subst (λ (k : ℕ). None ≡ found nibbles k) (end ∙ f) (found_past nibbles i h)

-- F80H is even, and the bytes before i are nibbles, so that the search may begin at i
pub record FitTo (i : ℕ) (s : List ℕ) : Type 0 where
  pub even : eqb (get_or s (slot_of 0xF80) 0 % 2) 0 ≡ true
  pub so_far : nibble_fault (nibbles - i) i s ≡ nibble_fault nibbles 0 s

even_by : (i : ℕ) (s : List ℕ) (b : Bool) → eqb i (slot_of 0xF80) ≡ b → eqb (get_or s (slot_of 0xF80) 0 % 2) 0 ≡ true → cond b (eqb (get_or s i 0 % 2) 0) true ≡ true
even_by i s true e h = rw (eqb-true i (slot_of 0xF80) e) h
even_by i s false e h = refl

module _ (i : ℕ) (s : List ℕ) where
  -- a nibble more
  fit_more : i < nibbles → get_or (take nibbles s) i 0 ≤ 15 → FitTo i s → FitTo (i + 1) s
  fit_more h l f =
      let b : get_or (take nibbles s) i 0 ≡ get_or s i 0 = get_or-take nibbles s i 0 h in
      let fits : nibble_fits i (get_or (take nibbles s) i 0) ≡ true =
      rw (le-ltb 15 (get_or (take nibbles s) i 0) l) (rw b (even_by i s (eqb i (slot_of 0xF80)) refl f.even))
      in record { even = f.even; so_far = fault_on i s h fits ∙ f.so_far }

  -- all are nibbles
  pub fit_end : nibbles ≤ i → FitTo i s → None ≡ found nibbles (nibble_fault nibbles 0 s)
  fit_end h f = fault_end i s h f.so_far

-- a byte more, where `fit` says that the bytes before it fit
pub fit_on : (fit : Bool) (i : ℕ) (s : List ℕ) → i < nibbles → (fit ≡ true → FitTo i s) → (fit && leb (get_or (take nibbles s) i 0) 15) ≡ true → FitTo (i + 1) s
fit_on true i s h f e = fit_more i s h (leb-true (get_or (take nibbles s) i 0) 15 e) (f refl)
fit_on false i s h f e = absurd (let z : ◌≡◌ {A = ℕ} 0 1 = ap (λ (b : Bool). cond b 1 0) e in omega arith)

-- the search for a field that holds too much: at one that does, and past one that does not
module _ (f : Field) (fs : List Field) (s : List ℕ) where
  pub over_here : ltb f.offset image_size ≡ true → f.most < value_in s f → Some f.offset ≡ found image_size (first_over (f ∷ fs) s)
  unfolding first_over
  over_here k h = rw (lt-ltb f.most (value_in s f) h, k)

  pub over_past : value_in s f ≤ f.most → (r : Option ℕ) → r ≡ found image_size (first_over fs s) → r ≡ found image_size (first_over (f ∷ fs) s)
  unfolding first_over
  over_past h r e = e ∙ rw (le-ltb f.most (value_in s f) h)

pub over_none : (s : List ℕ) → None ≡ found image_size (first_over [] s)
unfolding first_over
over_none s = refl

-- with nibbles alone, the field test answers for the fields
pub fault_field : (s : List ℕ) (n : ℕ) → nibbles ≤ nibble_fault nibbles 0 s → fault_of s n ≡ first_over (fields n) s
unfolding fault_of
fault_field s n h = rw (le-ltb (nibble_fault nibbles 0 s) nibbles h)

-- what is stored up to the end stands behind what is kept
pub all_stored : (s vs : List ℕ) (n : ℕ) → n + length vs ≡ length s → sets s n vs ≡ take n s ++ vs
all_stored s vs n e = sets-eq vs s n (omega arith) ∙ rw (drop_of_length-le s {i = n + length vs} (omega arith), append-nil)

-- the first byte of each field of a list lies between the nibbles and the image's end
abbrev pub Inside : List Field → Type 0
Inside [] = Unit {0}
Inside (f ∷ fs) = ((nibbles ≤ f.offset) × (f.offset < image_size)) × Inside fs

pub fields_inside : (n : ℕ) → Inside (fields n)
unfolding fields pin_fields timing_fields
fields_inside n = omega arith

over_most : (fs : List Field) (s : List ℕ) → Inside fs → first_over fs s ≤ image_size
unfolding first_over
over_most [] s h = omega arith
over_most (f ∷ fs) s h = either (λ (x : ℕ). x ≤ image_size) (ltb f.most (value_in s f)) (omega arith) (over_most fs s h.1)

nibble_most : (k i : ℕ) (s : List ℕ) → nibble_fault k i s ≤ i + k
unfolding nibble_fault
nibble_most zero i s = omega arith
nibble_most (suc k) i s = either (λ (x : ℕ). x ≤ i + suc k) (nibble_fits i (get_or s i 0)) (omega (arith, nibble_most k (suc i) s)) (omega arith)

-- a fault is at most the image's size
pub fault_most : (s : List ℕ) (n : ℕ) → fault_of s n ≤ image_size
unfolding fault_of
fault_most s n =
    either (λ (x : ℕ). x ≤ image_size) (ltb (nibble_fault nibbles 0 s) nibbles) (omega (arith, nibble_most nibbles 0 s)) (over_most (fields n) s (fields_inside n))

-- i is the first byte of a field of the list that holds too much
abbrev pub Over : List Field → List ℕ → ℕ → Type 0
Over [] s i = ⊥
Over (f ∷ fs) s i = ((i ≡ f.offset) × (f.most < value_in s f)) ⊎ Over fs s i

over_by : (f : Field) (fs : List Field) (s : List ℕ) (b : Bool) → ltb f.most (value_in s f) ≡ b → (first_over fs s < image_size → Over fs s (first_over fs s)) →
    cond b f.offset (first_over fs s) < image_size → Over (f ∷ fs) s (cond b f.offset (first_over fs s))
over_by f fs s true e rest h = inl (refl, ltb-true f.most (value_in s f) e)
over_by f fs s false e rest h = inr (rest h)

over_names : (fs : List Field) (s : List ℕ) → first_over fs s < image_size → Over fs s (first_over fs s)
unfolding first_over
over_names [] s h = absurd (omega arith)
over_names (f ∷ fs) s h = over_by f fs s (ltb f.most (value_in s f)) refl (over_names fs s) h

nibble_by : (k i : ℕ) (s : List ℕ) (b : Bool) → nibble_fits i (get_or s i 0) ≡ b →
    (nibble_fault k (suc i) s < suc i + k → nibble_fits (nibble_fault k (suc i) s) (get_or s (nibble_fault k (suc i) s) 0) ≡ false) →
    cond b (nibble_fault k (suc i) s) i < i + suc k →
    nibble_fits (cond b (nibble_fault k (suc i) s) i) (get_or s (cond b (nibble_fault k (suc i) s) i) 0) ≡ false
nibble_by k i s true e rest h = rest (omega arith)
nibble_by k i s false e rest h = e

nibble_names : (k i : ℕ) (s : List ℕ) → nibble_fault k i s < i + k → nibble_fits (nibble_fault k i s) (get_or s (nibble_fault k i s) 0) ≡ false
unfolding nibble_fault
nibble_names zero i s h = absurd (omega arith)
nibble_names (suc k) i s h = nibble_by k i s (nibble_fits i (get_or s i 0)) refl (nibble_names k (suc i) s) h

-- a fault below the image's size is a byte that is no nibble, or the first byte of a field that holds too much
abbrev pub Named : List ℕ → ℕ → ℕ → Type 0
Named s n i = ((i < nibbles) × (nibble_fits i (get_or s i 0) ≡ false)) ⊎ Over (fields n) s i

named_by : (s : List ℕ) (n : ℕ) (b : Bool) → ltb (nibble_fault nibbles 0 s) nibbles ≡ b →
    cond b (nibble_fault nibbles 0 s) (first_over (fields n) s) < image_size → Named s n (cond b (nibble_fault nibbles 0 s) (first_over (fields n) s))
named_by s n true e h =
    let z = ltb-true (nibble_fault nibbles 0 s) nibbles e in
    inl (z, nibble_names nibbles 0 s (omega arith))
named_by s n false e h = inr (over_names (fields n) s h)

pub fault_names : (s : List ℕ) (n : ℕ) → fault_of s n < image_size → Named s n (fault_of s n)
unfolding fault_of
fault_names s n h = named_by s n (ltb (nibble_fault nibbles 0 s) nibbles) refl h
