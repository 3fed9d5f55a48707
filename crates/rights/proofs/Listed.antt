-- An address that is none of Table 4-1's has no rights, where a test that it meets says which of the rows it is held against.
-- Assumes nothing.
use Prim.Native.Nat.{ℕ}
use mathlib.Core.Path.{◌≡◌, refl, sym, ap, ◌∙◌}
use mathlib.Core.Bool.{Bool, true, false, cond, false≢true}
use mathlib.Core.List.{List, [], ◌∷◌}
use borrow.Author.Tests.{ne_eqb}
use Rattle.rights.specs.Access.{Location, table_4_1, unlisted, among, location_at}
use Rattle.rights.specs.Digits.{digits_of, rights_at}

-- a fact more, where a test is met
abbrev pub Also : Bool → Type 0 → Type 0 → Type 0
Also true N F = N × F
Also false N F = N

-- past a match's arms for the rows whose address meets p: a is none of these addresses, the last row's outermost
abbrev pub Past : (ℕ → Bool) → Type 0 → List Location → ℕ → Type 0
Past p N [] a = N
Past p N (v ∷ vs) a = Past p (Also (p v.address) N (a ≡ v.address → ⊥)) vs a

module _ (p : ℕ → Bool) (a : ℕ) (h : p a ≡ true) where
  apart : (k : ℕ) (b : Bool) → p k ≡ b → (N : Type 0) → Also b N (a ≡ k → ⊥) → N × (a ≡ k → ⊥)
  apart k true e N r = r
  apart k false e N r = (r, λ q. absurd (false≢true (sym e ∙ ap p (sym q) ∙ h)))

  none : (vs : List Location) (N : Type 0) → Past p N vs a → N × (among vs a ≡ unlisted)
  unfolding among
  none [] N r = (r, refl)
  none (v ∷ vs) N r =
      let k = v.address in
      let q = none vs (Also (p k) N (a ≡ k → ⊥)) r in
      let d = apart k (p k) refl N q.0 in
      (d.0, ap (λ (b : Bool). cond b v (among vs a)) (ne_eqb a k d.1) ∙ q.1)

  pub no_rights : Past p (Unit {0}) table_4_1 a → 0 ≡ rights_at a
  unfolding rights_at location_at
  no_rights r = sym (ap digits_of (none table_4_1 (Unit {0}) r).1)

-- at one of its addresses, where antt computes what the table says there
pub listed_rights : (k v a : ℕ) → v ≡ rights_at k → a ≡ k → v ≡ rights_at a
listed_rights k v a e q = e ∙ ap rights_at (sym q)
