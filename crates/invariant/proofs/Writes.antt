-- A write that keeps the nibbles sound, and that every write which the chip's definitions make is one: F80H, the low half of the stack
-- pointer, is given even values alone. Table 4-1 lists F80H without its bit 0 and for 8-bit access, and nothing else at its index.
-- Assumes nothing.
use Prim.Native.Nat.{ℕ, ◌+◌, ◌*◌, ◌%◌, ◌/◌, ◌<◌, ◌≤◌}
use native.Mathlib.Omega.{arith}
use mathlib.Core.Path.{◌≡◌, ◌∙◌, refl, sym, subst}
use mathlib.Core.Bool.{Bool, true, false, cond, ◌&&◌, ◌||◌, not}
use mathlib.Core.List.{List, [], ◌∷◌}
use mathlib.Core.Logic.{◌⊎◌, inl, inr}
use borrow.Author.Tests.{ltb-true, ltb-false, le-ltb, eq-eqb, eqb-true, eqb-false, not-true}
use lib.Bits.{bit_and, and_mod, and_zero_r}
use lib.Dec.{eqb, ltb}
use lib.ListN.{set, drop}
use Rattle.record.proofs.Booleans.{both, one_of}
use Rattle.rights.specs.declared.Width.{Width}
use Rattle.rights.specs.declared.Width.TheVariants.{One, Four, Eight}
use Rattle.chip.specs.State.{nib_at, slot_of}
use Rattle.rights.specs.Access.{Location, loc, RW, No, Yes, table_4_1, unlisted, among, location_at, reach_of, writable_of}
use Rattle.chip.proofs.Laws.{either}
use Rattle.image.specs.Image.{nibble_fits}
use Rattle.chip.specs.Memory.{write_to, dropped, put_of, write_of, bit_at, with_bit, write_bit_of}
use Rattle.registers.specs.Registers.{sp_of, bank_of, register_at, register_write, stack_at, sp_low, sp_high}
use Rattle.effects.specs.Effects.{none, puts_of, three_of, pushed_at, pushed_of}
use Rattle.effects.proofs.Packing.{AllWrites}
use Rattle.invariant.specs.Sound.{SoundMem}
use Rattle.invariant.proofs.Arrived.{fits_nibble, set_sound}

-- a write, no end mark, that leaves F80H, nibble 512, even
pub record Harmless (x : ℕ) : Type 0 where
  pub small : x < none
  pub even : x / 16 ≡ 512 → x % 2 ≡ 0

-- a nibble that may stand at an index
fits_by : (i v : ℕ) (b : Bool) → eqb i 512 ≡ b → (i ≡ 512 → v % 2 ≡ 0) → cond b (eqb (v % 2) 0) true ≡ true
fits_by i v true e g = eq-eqb (v % 2) 0 (g (eqb-true i 512 e))
fits_by i v false e g = refl

fits : (i v : ℕ) → v < 16 → (i ≡ 512 → v % 2 ≡ 0) → nibble_fits i v ≡ true
fits i v h g = rw (le-ltb 15 v (omega arith)) (fits_by i v (eqb i 512) refl g)

-- harmless writes keep the nibbles sound
pub put_sound : (l : List ℕ) (x : ℕ) → SoundMem l → Harmless x → SoundMem (put_of l x)
put_sound l x s h = set_sound l (x / 16) (x % 16) s (fits (x / 16) (x % 16) (omega arith) (λ q. let e = h.even q in omega arith))

infixr 5 ◌&◌
pub data AllHarmless : List ℕ → Type 0 where
  ended : AllHarmless []
  ◌&◌ : {x : ℕ} {xs : List ℕ} → Harmless x → AllHarmless xs → AllHarmless (x ∷ xs)

pub puts_sound : (l : List ℕ) {xs : List ℕ} → SoundMem l → AllHarmless xs → SoundMem (puts_of l xs)
puts_sound l s ended = s
puts_sound l s (◌&◌ {x = x} h hs) = puts_sound (put_of l x) (put_sound l x s h) hs

pub all_writes : {xs : List ℕ} → AllHarmless xs → AllWrites xs
all_writes ended = tt
all_writes (h & hs) = (h.small, all_writes hs)

-- a write to another nibble than F80H, a write of an even value, and a write that is dropped
pub elsewhere : (i v : ℕ) → i < 640 → (i ≡ 512 → ⊥) → Harmless (write_to i v)
elsewhere i v n h = record { small = omega arith; even = λ q. absurd (h (omega arith)) }

pub even_write : (i v : ℕ) → v % 2 ≡ 0 → Harmless (write_to i v)
even_write i v h = record { small = omega arith; even = λ q. omega arith }

pub lost : Harmless dropped
lost = record { small = omega arith; even = λ q. omega arith }

-- registers, the stack, and the stack pointer
pub register_write_lem : (l : List ℕ) (srb r v : ℕ) → Harmless (register_write l srb r v)
unfolding register_at
register_write_lem l srb r v =
    let b : bank_of l srb < 4 = either (λ (x : ℕ). x < 4) (eqb (nib_at l 560 % 2) 1) {x = srb % 4} {y = 0} (omega arith) (omega arith) in
    elsewhere (register_at l srb r) v (omega arith) (omega arith)

pub stack_write : (s k v : ℕ) → Harmless (write_to (stack_at s k) v)
stack_write s k v = elsewhere (stack_at s k) v (omega arith) (omega arith)

pub low_write : (s : ℕ) → Harmless (sp_low s)
low_write s = even_write 512 (s / 2 % 8 * 2) (omega arith)

pub high_write : (s : ℕ) → Harmless (sp_high s)
high_write s = elsewhere 513 (s / 16 % 16) (omega arith) (omega arith)

-- the push of a call or an interrupt
stacked : (l : List ℕ) (s k v : ℕ) → SoundMem l → SoundMem (set l (stack_at s k) (v % 16))
stacked l s k v h = set_sound l (stack_at s k) (v % 16) h (fits_nibble (stack_at s k) (v % 16) (omega arith) (omega arith))

three_sound : (l : List ℕ) (s x y z : ℕ) → SoundMem l → SoundMem (three_of l s x y z)
three_sound l s x y z h =
    let a = set l (stack_at s 0) (x % 16) in
    stacked (set a (stack_at s 1) (y % 16)) s 2 z (stacked a s 1 y (stacked l s 0 x h))

pushed_at_lem : (l : List ℕ) (s back psw : ℕ) → SoundMem l → SoundMem (pushed_at l s back psw)
pushed_at_lem l s back psw h =
    let a = three_of l s (back / 256) (back / 4096 % 4) back in
    let b = three_of a (s + 3) (back / 16) psw (psw / 16) in
    put_sound (put_of b (sp_low s)) (sp_high s)
    (put_sound b (sp_low s) (three_sound a (s + 3) (back / 16) psw (psw / 16) (three_sound l s (back / 256) (back / 4096 % 4) back h)) (low_write s))
    (high_write s)

pub pushed_sound : (l : List ℕ) (back psw : ℕ) → SoundMem l → SoundMem (pushed_of l back psw)
unfolding pushed_of
pushed_sound l back psw h = pushed_at_lem l ((sp_of l + 250) % 256) back psw h

-- the line of F80H, and of a location that is not listed
abbrev sp_line : Location
sp_line = loc 0xF80 1 1 1 0 RW No No Yes

abbrev SpLine : Location → Type 0
SpLine v = (v ≡ sp_line) ⊎ (v ≡ unlisted)

-- of the listed locations only F80H, the first, stands at its index
abbrev apart : Location → Bool
apart v = not (eqb (v.address % 128) 0)

abbrev all_apart : List Location → Bool
all_apart [] = true
all_apart (v ∷ vs) = apart v && all_apart vs

none_by : (v : Location) (vs : List Location) (a : ℕ) (b : Bool) → eqb a v.address ≡ b → a % 128 ≡ 0 → apart v ≡ true → among vs a ≡ unlisted → cond b v (among vs a) ≡ unlisted
none_by v vs a true e z h r =
    let q : a ≡ v.address = eqb-true a v.address e in
    absurd (eqb-false (v.address % 128) 0 (not-true (eqb (v.address % 128) 0) h) (omega arith))
none_by v vs a false e z h r = r

none_at : (vs : List Location) (a : ℕ) → a % 128 ≡ 0 → all_apart vs ≡ true → among vs a ≡ unlisted
unfolding among
none_at [] a z h = refl
none_at (v ∷ vs) a z h =
    let p = both (apart v) (all_apart vs) h in
    none_by v vs a (eqb a v.address) refl z p.0 (none_at vs a z p.1)

first_line : (v : Location) (b : Bool) → v ≡ unlisted → SpLine (cond b sp_line v)
first_line v true r = inl refl
first_line v false r = inr r

rest_apart : all_apart (drop 1 table_4_1) ≡ true
unfolding table_4_1
rest_apart = refl

sp_line_lem : (a : ℕ) → a % 128 ≡ 0 → SpLine (location_at a)
unfolding location_at among table_4_1
sp_line_lem a z = first_line (among (drop 1 table_4_1) a) (eqb a 0xF80) (none_at (drop 1 table_4_1) a z rest_apart)

-- a write in bank 15 that a test t of the location's line drops, with a value f of it: harmless if it is at F80H
module _ (a : ℕ) (t : Location → Bool) (f : Location → ℕ)
    (listed : (i : ℕ) → Harmless (cond (t sp_line) dropped (write_to i (f sp_line)))) (drops : t unlisted ≡ true) where
  sp_write : (i : ℕ) (v : Location) → SpLine v → Harmless (cond (t v) dropped (write_to i (f v)))
  sp_write i v (inl e) = subst (λ (x : Location). Harmless (cond (t x) dropped (write_to i (f x)))) (sym e) (listed i)
  sp_write i v (inr e) = subst (λ (x : Location). Harmless (cond (t x) dropped (write_to i (f x)))) (sym e) (rw drops lost)

  guarded_by : (i : ℕ) (b : Bool) → eqb (a % 128) 0 ≡ b → i ≡ a % 128 + 512 → Harmless (cond (t (location_at a)) dropped (write_to i (f (location_at a))))
  guarded_by i true e q = sp_write i (location_at a) (sp_line_lem a (eqb-true (a % 128) 0 e))
  guarded_by i false e q =
      either Harmless (t (location_at a)) lost (elsewhere i (f (location_at a)) (omega arith) (λ z. eqb-false (a % 128) 0 e (omega arith)))

  guarded : 512 ≤ a → Harmless (cond (t (location_at a)) dropped (write_to (slot_of a) (f (location_at a))))
  guarded h = guarded_by (slot_of a) (eqb (a % 128) 0) refl (rw (le-ltb a 512 h))

-- a write of 4 bits, of one half of 8 bits, and of one bit, at any address
sp_half : (w : Width) (v i : ℕ) → Harmless (cond (eqb (writable_of w sp_line) 0) dropped (write_to i (bit_and v (reach_of w sp_line))))
sp_half One v i = lost
sp_half Four v i = lost
sp_half Eight v i = even_write i (bit_and v 14) (and_mod v 14 1 ∙ and_zero_r (v % 2))

no_line : (w : Width) → eqb (writable_of w unlisted) 0 ≡ true
no_line w = refl

write_by : (w : Width) (a v : ℕ) (b : Bool) → ltb a 512 ≡ b →
    Harmless (cond b (write_to a v) (cond (eqb (writable_of w (location_at a)) 0) dropped (write_to (slot_of a) (bit_and v (reach_of w (location_at a))))))
write_by w a v true e = let h = ltb-true a 512 e in elsewhere a v (omega arith) (omega arith)
write_by w a v false e = guarded a (λ x. eqb (writable_of w x) 0) (λ x. bit_and v (reach_of w x)) (sp_half w v) (no_line w) (ltb-false a 512 e)

pub memory_write : (w : Width) (a v : ℕ) → Harmless (write_of w a v)
unfolding write_of
memory_write w a v = write_by w a v (ltb a 512) refl

bit_by : (l : List ℕ) (a k v : ℕ) (b : Bool) → ltb a 512 ≡ b →
    Harmless
    (cond b (write_to a (with_bit (nib_at l a) k v))
    (cond (eqb (bit_and (bit_and (writable_of One (location_at a)) (location_at a).bits) (bit_at k)) 0) dropped
    (write_to (slot_of a) (with_bit (nib_at l (slot_of a)) k v))))
bit_by l a k v true e = let h = ltb-true a 512 e in elsewhere a (with_bit (nib_at l a) k v) (omega arith) (omega arith)
bit_by l a k v false e =
    guarded a (λ x. eqb (bit_and (bit_and (writable_of One x) x.bits) (bit_at k)) 0) (λ x. with_bit (nib_at l (slot_of a)) k v) (λ i. lost) refl
    (ltb-false a 512 e)

pub bit_write : (l : List ℕ) (a k v : ℕ) → Harmless (write_bit_of l a k v)
unfolding write_bit_of
bit_write l a k v = bit_by l a k v (ltb a 512) refl
