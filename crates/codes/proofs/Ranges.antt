-- Two functions are equal at a number of a range, or of a list, where antt computes that the lists of their values are the same.
-- Assumes nothing.
use Prim.Native.Nat.{ℕ, zero, suc, ◌+◌, ◌≤◌, ◌<◌}
use mathlib.Core.Path.{◌≡◌, refl, ap, sym, subst, ◌∙◌}
use mathlib.Core.Bool.{Bool, true, false, false≢true}
use mathlib.Core.List.{List, [], ◌∷◌}
use mathlib.Core.Logic.{◌⊎◌, inl, inr}
use native.Mathlib.Omega.{arith}
use lib.Dec.{T}
use mir.Val.{has_key}
use types.Run.{OneOf, hit}

-- a value in front of a list, or not
abbrev pub keep_if : {A : Type 0} → Bool → A → List A → List A
keep_if true v vs = v ∷ vs
keep_if false v vs = vs

-- the values of f at those of the n numbers from lo on that p picks
abbrev pub values : {A : Type 0} → (ℕ → Bool) → (ℕ → A) → ℕ → ℕ → List A
values p f lo zero = []
values p f lo (suc n) = keep_if (p lo) (f lo) (values p f (suc lo) n)

abbrev pub each : ℕ → Bool
each x = true

head_of : {A : Type 0} (b : Bool) (u v : A) (us vs : List A) → keep_if b u us ≡ keep_if b v vs → b ≡ true → u ≡ v
head_of true u v us vs e h = cc
head_of false u v us vs e h = absurd (false≢true h)

tail_of : {A : Type 0} (b : Bool) (u v : A) (us vs : List A) → keep_if b u us ≡ keep_if b v vs → us ≡ vs
tail_of true u v us vs e = cc
tail_of false u v us vs e = e

here_or_later : (lo k : ℕ) → lo ≤ k → (k ≡ lo) ⊎ (suc lo ≤ k)
here_or_later zero zero h = inl refl
here_or_later zero (suc k) h = inr (omega arith)
here_or_later (suc lo) zero h = absurd (let z : suc lo ≤ zero = h in omega arith)
here_or_later (suc lo) (suc k) h = elim (here_or_later lo k (omega arith)) [ inl e ↦ inl (omega arith) | inr l ↦ inr (omega arith) ]

-- at a number of the range that p picks
pub picked : {A : Type 0} (p : ℕ → Bool) (f g : ℕ → A) (lo n : ℕ) → values p f lo n ≡ values p g lo n → (x : ℕ) → p x ≡ true → lo ≤ x → x < lo + n → f x ≡ g x
picked p f g lo zero e x q h l = absurd (omega arith)
picked p f g lo (suc n) e x q h l =
    elim (here_or_later lo x h) [ inl i ↦ rw i (head_of (p lo) (f lo) (g lo) _ _ e (ap p (sym i) ∙ q)) | inr j ↦ picked p f g (suc lo) n (tail_of (p lo) (f lo) (g lo) _ _ e) x q j (omega arith) ]

-- at any number of the range
pub within : {A : Type 0} (f g : ℕ → A) (lo n : ℕ) → values each f lo n ≡ values each g lo n → (x : ℕ) → lo ≤ x → x < lo + n → f x ≡ g x
within f g lo n e x h l = picked each f g lo n e x refl h l

-- in an arm of a match that lists single numbers: x is one of them
abbrev pub values_at : {A : Type 0} → (ℕ → A) → List ℕ → List A
values_at f [] = []
values_at f (k ∷ ks) = f k ∷ values_at f ks

pub listed : {A : Type 0} (f g : ℕ → A) (ks : List ℕ) → values_at f ks ≡ values_at g ks → (x : ℕ) → OneOf ks x → f x ≡ g x
listed f g [] e x h = absurd h
listed f g (k ∷ []) e x h = rw h (let q : f k ≡ g k = cc in q)
listed f g (k ∷ j ∷ ks) e x (inl h) = rw h (let q : f k ≡ g k = cc in q)
listed f g (k ∷ j ∷ ks) e x (inr h) = listed f g (j ∷ ks) (let q : values_at f (j ∷ ks) ≡ values_at g (j ∷ ks) = cc in q) x h

-- past the arms of single numbers: x is none of those of any arm, the last arm first
abbrev pub Past : List (List ℕ) → ℕ → Type 0
Past [] x = Unit {0}
Past (ks ∷ kss) x = Past kss x × (OneOf ks x → ⊥)

abbrev pub free : List (List ℕ) → ℕ → Bool
free [] x = true
free (ks ∷ kss) x = elim (has_key ks x) [ true ↦ false | false ↦ free kss x ]

no_key : (ks : List ℕ) (x : ℕ) (b : Bool) → has_key ks x ≡ b → (OneOf ks x → ⊥) → b ≡ false
no_key ks x true e h = absurd (h (hit ks x (subst T (sym e) tt)))
no_key ks x false e h = refl

pub past_free : (kss : List (List ℕ)) (x : ℕ) → Past kss x → free kss x ≡ true
past_free [] x r = refl
past_free (ks ∷ kss) x r =
    ap (λ (b : Bool). elim b as (λ z. Bool) [ true ↦ false | false ↦ free kss x ]) (no_key ks x (has_key ks x) refl r.1) ∙ past_free kss x r.0

pub past : {A : Type 0} (kss : List (List ℕ)) (f g : ℕ → A) (lo n : ℕ) → values (free kss) f lo n ≡ values (free kss) g lo n → (x : ℕ) → Past kss x → lo ≤ x → x < lo + n → f x ≡ g x
past kss f g lo n e x r h l = picked (free kss) f g lo n e x (past_free kss x r) h l
