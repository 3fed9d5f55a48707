-- Packing loses nothing: an effect made of a list of at most four writes, a push's of at most two, has just these writes.
-- Assumes nothing.
use Prim.Native.Nat.{ℕ, zero, suc, ◌≤◌, ◌<◌}
use native.Mathlib.Omega.{arith}
use mathlib.Core.Path.{◌≡◌, ◌∙◌, refl, ap}
use mathlib.Core.Bool.{Bool, true, false, cond}
use mathlib.Core.List.{List, [], ◌∷◌}
use borrow.Author.Tests.{ne_eqb}
use lib.ListN.{get_or, length}
use Rattle.chip.specs.declared.Cpu.{Cpu}
use Rattle.effects.specs.Effects.{none, four_of, part_of, packed, doing, selecting, pushing, up_to_end, puts_of, pushed_of, applied_to}

-- numbers of 16 bits that are writes, and not the end mark
abbrev pub AllWrites : List ℕ → Type 0
AllWrites [] = Unit {0}
AllWrites (w ∷ ws) = (w < none) × AllWrites ws

-- the parts of four numbers of 16 bits
module _ (w0 w1 w2 w3 : ℕ) (h0 : w0 < 65536) (h1 : w1 < 65536) (h2 : w2 < 65536) (h3 : w3 < 65536) where
  part_zero : part_of (four_of w0 w1 w2 w3) 0 ≡ w0
  part_zero = omega arith

  part_one : part_of (four_of w0 w1 w2 w3) 1 ≡ w1
  part_one = omega arith

  part_two : part_of (four_of w0 w1 w2 w3) 2 ≡ w2
  part_two = omega arith

  part_three : part_of (four_of w0 w1 w2 w3) 3 ≡ w3
  part_three = omega arith

-- a write is 16 bits, and so is what stands past a list of writes
small : (ws : List ℕ) (k : ℕ) → AllWrites ws → get_or ws k none < 65536
small [] k h = omega arith
small (w ∷ ws) zero h = let z = h.0 in omega arith
small (w ∷ ws) (suc k) h = small ws k h.1

-- a write does not end the list
one_more : (w : ℕ) (ws vs : List ℕ) → w < none → up_to_end ws ≡ vs → up_to_end (w ∷ ws) ≡ w ∷ vs
one_more w ws vs h e = rw (ne_eqb w none (λ q. let z : ⊥ = omega arith in z)) (ap (λ (x : List ℕ). w ∷ x) e)

-- the parts as a list: four of them, and the last two
parts : (w0 w1 w2 w3 : ℕ) → w0 < 65536 → w1 < 65536 → w2 < 65536 → w3 < 65536 →
    up_to_end (part_of (four_of w0 w1 w2 w3) 0 ∷ part_of (four_of w0 w1 w2 w3) 1 ∷ part_of (four_of w0 w1 w2 w3) 2 ∷ part_of (four_of w0 w1 w2 w3) 3 ∷ []) ≡
    up_to_end (w0 ∷ w1 ∷ w2 ∷ w3 ∷ [])
parts w0 w1 w2 w3 h0 h1 h2 h3 =
    rw (part_zero w0 w1 w2 w3 h0 h1 h2 h3, part_one w0 w1 w2 w3 h0 h1 h2 h3, part_two w0 w1 w2 w3 h0 h1 h2 h3, part_three w0 w1 w2 w3 h0 h1 h2 h3)

later : (w0 w1 w2 w3 : ℕ) → w0 < 65536 → w1 < 65536 → w2 < 65536 → w3 < 65536 →
    up_to_end (part_of (four_of w0 w1 w2 w3) 2 ∷ part_of (four_of w0 w1 w2 w3) 3 ∷ []) ≡ up_to_end (w2 ∷ w3 ∷ [])
later w0 w1 w2 w3 h0 h1 h2 h3 = rw (part_two w0 w1 w2 w3 h0 h1 h2 h3, part_three w0 w1 w2 w3 h0 h1 h2 h3)

-- up to the end mark stand the list's writes
two_kept : (ws : List ℕ) → length ws ≤ 2 → AllWrites ws → up_to_end (get_or ws 0 none ∷ get_or ws 1 none ∷ []) ≡ ws
two_kept [] n h = refl
two_kept (a ∷ []) n h = one_more a (none ∷ []) [] h.0 refl
two_kept (a ∷ b ∷ []) n h = one_more a (b ∷ []) (b ∷ []) h.0 (one_more b [] [] h.1.0 refl)
two_kept (a ∷ b ∷ c ∷ ws) n h = absurd (let z : ⊥ = omega arith in z)

four_kept : (ws : List ℕ) → length ws ≤ 4 → AllWrites ws → up_to_end (get_or ws 0 none ∷ get_or ws 1 none ∷ get_or ws 2 none ∷ get_or ws 3 none ∷ []) ≡ ws
four_kept [] n h = refl
four_kept (a ∷ []) n h = one_more a (none ∷ none ∷ none ∷ []) [] h.0 refl
four_kept (a ∷ b ∷ ws) n h =
    let two = two_kept ws (omega arith) h.1.1 in
    one_more a (b ∷ get_or ws 0 none ∷ get_or ws 1 none ∷ []) (b ∷ ws) h.0 (one_more b (get_or ws 0 none ∷ get_or ws 1 none ∷ []) ws h.1.0 two)

module _ (ws : List ℕ) (h : AllWrites ws) where
  all_kept : length ws ≤ 4 → up_to_end (part_of (packed ws) 0 ∷ part_of (packed ws) 1 ∷ part_of (packed ws) 2 ∷ part_of (packed ws) 3 ∷ []) ≡ ws
  all_kept n =
      parts (get_or ws 0 none) (get_or ws 1 none) (get_or ws 2 none) (get_or ws 3 none) (small ws 0 h) (small ws 1 h) (small ws 2 h) (small ws 3 h) ∙
      four_kept ws n h

  pub packed_applied : (l : List ℕ) (c : Cpu) (next skip carried : ℕ) → length ws ≤ 4 → applied_to l (doing c next skip carried ws) ≡ puts_of l ws
  unfolding applied_to
  packed_applied l c next skip carried n = ap (puts_of l) (all_kept n)

  pub selected_applied : (l : List ℕ) (next smb srb mode : ℕ) → length ws ≤ 4 → applied_to l (selecting next smb srb mode ws) ≡ puts_of l ws
  unfolding applied_to
  selected_applied l next smb srb mode n = ap (puts_of l) (all_kept n)

  -- of a push, the address and the status too
  pub pushed_applied : (l : List ℕ) (c : Cpu) (next back psw : ℕ) → back < 65536 → psw < 65536 → length ws ≤ 2 →
      applied_to l (pushing c next back psw ws) ≡ puts_of (pushed_of l back psw) ws
  unfolding applied_to
  pushed_applied l c next back psw p q n =
      let a = get_or ws 0 none in
      let b = get_or ws 1 none in
      rw (part_zero back psw a b p q (small ws 0 h) (small ws 1 h), part_one back psw a b p q (small ws 0 h) (small ws 1 h))
      (ap (puts_of (pushed_of l back psw)) (later back psw a b p q (small ws 0 h) (small ws 1 h) ∙ two_kept ws n h))

-- writes that are made or not: as the code packs them, and as a list
module _ (c : Cpu) (next skip carried : ℕ) where
  pub one_or_none : (b : Bool) (x : ℕ) →
      doing c next skip carried (cond b x none ∷ none ∷ none ∷ none ∷ []) ≡ doing c next skip carried (cond b (x ∷ []) [])
  one_or_none true x = refl
  one_or_none false x = refl

  pub none_or_one : (b : Bool) (x : ℕ) →
      doing c next skip carried (cond b none x ∷ none ∷ none ∷ none ∷ []) ≡ doing c next skip carried (cond b [] (x ∷ []))
  none_or_one true x = refl
  none_or_one false x = refl

  pub none_or_two : (b : Bool) (x y : ℕ) →
      doing c next skip carried (cond b none x ∷ cond b none y ∷ none ∷ none ∷ []) ≡ doing c next skip carried (cond b [] (x ∷ y ∷ []))
  none_or_two true x y = refl
  none_or_two false x y = refl
