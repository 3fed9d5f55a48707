-- At the bytes of each arm antt computes the definition.
-- Assumes nothing.
use Prim.Native.Nat.{ℕ, ◌+◌, ◌≤◌, ◌<◌}
use mathlib.Core.Bool.{Bool, true, false}
use native.Mathlib.Omega.{arith}
use mathlib.Core.Path.{◌≡◌, refl, ap, sym, ◌∙◌}
use lib.Dec.{eqb}
use lib.ListN.{get_or}
use mathlib.Core.List.{List, [], ◌∷◌}
use borrow.Author.Rules.{rules}
use Rattle.codes.specs.Decode.{info_for, info_of, member}
use Rattle.codes.specs.Entry.{bit_codes, marked}
use Rattle.codes.proofs.Candidates.{info_among, info_among_lem}
use Rattle.codes.proofs.FirstByte.{firsts, plain}
use Rattle.codes.proofs.Ranges.{Past, free, listed, past, values, within}
use Rattle.codes.proofs.BitInfo.{bit_info}
use Rattle.references.specs.Reference.{single}
use Rattle.references.proofs.area.is_single.Goals as goal

-- the single numbers of the match, arm by arm, the last first
keys : List (List ℕ)
keys = (0xDD ∷ []) ∷ (0xDC ∷ []) ∷ (0xDB ∷ []) ∷ (0xD9 ∷ []) ∷ (0x79 ∷ 0x81 ∷ 0x83 ∷ 0x85 ∷ 0x87 ∷ 0x89 ∷ 0x8C ∷ []) ∷ []

abbrev two-two : ℕ
two-two = info_for 2 2

at_key : (x k y r : ℕ) → r ≡ info_of k y → x ≡ k → eqb r two-two ≡ single x y
at_key x k y r e h = rw h (ap (λ (n : ℕ). eqb n two-two) e)

long : (y : ℕ) → y < 256 → false ≡ single 0xDB y
unfolding info_among
long y h =
    within (λ y. false) (let f = info_among 0xDB in λ y. eqb (f y) two-two) 0 256 refl y (omega arith) (omega arith) ∙ ap (λ (n : ℕ). eqb n two-two) (info_among_lem 0xDB y)

long-db : (x y : ℕ) → y < 256 → x ≡ 0xDB → false ≡ single x y
long-db x y h e = rw e (long y h)

-- at a first byte whose second does not matter: antt computes the answer by the table of first bytes
at_first : (f : ℕ → Bool) (lo n : ℕ) → values (free keys) f lo n ≡ values (free keys) (λ x. eqb (get_or firsts x 0) two-two) lo n → values (free keys) (λ x. member x marked) lo n ≡ values (free keys) (λ x. false) lo n
    → (x y : ℕ) → Past keys x → x < 256 → lo ≤ x → x < lo + n → f x ≡ single x y
at_first f lo n e m x y r u h l =
    past keys f (λ x. eqb (get_or firsts x 0) two-two) lo n e x r h l ∙
    ap (λ (n : ℕ). eqb n two-two) (sym (plain x u y (past keys (λ x. member x marked) (λ x. false) lo n m x r h l)))

pub returns-in-121 : goal.returns-in-121
unfolding info_of firsts keys
returns-in-121 c = listed (λ x. true) (λ x. single x c.args.b1) (0x79 ∷ 0x81 ∷ 0x83 ∷ 0x85 ∷ 0x87 ∷ 0x89 ∷ 0x8C ∷ []) refl c.args.b0 c.in-121.is

pub returns-in-219 : goal.returns-in-219
unfolding info_of firsts keys
returns-in-219 c = long-db c.args.b0 c.args.b1 (omega arith) c.in-219.is

pub returns-in-144-to-159 : goal.returns-in-144-to-159
unfolding info_of firsts keys
returns-in-144-to-159 c = at_first (λ x. true) 0x90 0x10 refl refl c.args.b0 c.args.b1 (search rules) (omega arith) (omega arith) (omega arith)

pub returns-in-192-to-195 : goal.returns-in-192-to-195
unfolding info_of firsts keys
returns-in-192-to-195 c = at_first (λ x. true) 0xC0 0x04 refl refl c.args.b0 c.args.b1 (search rules) (omega arith) (omega arith) (omega arith)

pub returns-in-201-to-202 : goal.returns-in-201-to-202
unfolding info_of firsts keys
returns-in-201-to-202 c = at_first (λ x. true) 0xC9 0x02 refl refl c.args.b0 c.args.b1 (search rules) (omega arith) (omega arith) (omega arith)

pub returns-in-205-to-211 : goal.returns-in-205-to-211
unfolding info_of firsts keys
returns-in-205-to-211 c = at_first (λ x. true) 0xCD 0x07 refl refl c.args.b0 c.args.b1 (search rules) (omega arith) (omega arith) (omega arith)

pub returns-in-224-to-227 : goal.returns-in-224-to-227
unfolding info_of firsts keys
returns-in-224-to-227 c = at_first (λ x. true) 0xE0 0x04 refl refl c.args.b0 c.args.b1 (search rules) (omega arith) (omega arith) (omega arith)

pub returns-in-240-to-243 : goal.returns-in-240-to-243
unfolding info_of firsts keys
returns-in-240-to-243 c = at_first (λ x. true) 0xF0 0x04 refl refl c.args.b0 c.args.b1 (search rules) (omega arith) (omega arith) (omega arith)

pub returns-in_default : goal.returns-in_default
unfolding info_of firsts keys
returns-in_default c = at_first (λ x. false) 0x00 0x90 refl refl c.args.b0 c.args.b1 (search rules) (omega arith) (omega arith) (omega arith)

pub returns-in_default-2 : goal.returns-in_default-2
unfolding info_of firsts keys
returns-in_default-2 c = at_first (λ x. false) 0xA0 0x20 refl refl c.args.b0 c.args.b1 (search rules) (omega arith) (omega arith) (omega arith)

pub returns-in_default-3 : goal.returns-in_default-3
unfolding info_of firsts keys
returns-in_default-3 c = at_first (λ x. false) 0xC4 0x05 refl refl c.args.b0 c.args.b1 (search rules) (omega arith) (omega arith) (omega arith)

pub returns-in_default-4 : goal.returns-in_default-4
unfolding info_of firsts keys
returns-in_default-4 c = at_first (λ x. false) 0xCB 0x02 refl refl c.args.b0 c.args.b1 (search rules) (omega arith) (omega arith) (omega arith)

pub returns-in_default-5 : goal.returns-in_default-5
unfolding info_of firsts keys
returns-in_default-5 c = at_first (λ x. false) 0xD4 0x0C refl refl c.args.b0 c.args.b1 (search rules) (omega arith) (omega arith) (omega arith)

pub returns-in_default-6 : goal.returns-in_default-6
unfolding info_of firsts keys
returns-in_default-6 c = at_first (λ x. false) 0xE4 0x0C refl refl c.args.b0 c.args.b1 (search rules) (omega arith) (omega arith) (omega arith)

pub returns-in_default-7 : goal.returns-in_default-7
unfolding info_of firsts keys
returns-in_default-7 c = at_first (λ x. false) 0xFA 0x02 refl refl c.args.b0 c.args.b1 (search rules) (omega arith) (omega arith) (omega arith)

pub returns-in-244-to-249 : goal.returns-in-244-to-249
unfolding keys
returns-in-244-to-249 c =
    ap (λ (n : ℕ). eqb n two-two)
    (c.info_bit.ensures ∙ bit_info c.args.b0 c.args.b1 (omega arith) (omega arith) (past keys (λ x. member x bit_codes) (λ x. true) 0xF4 0x06 refl c.args.b0 (search rules) (omega arith) (omega arith)))

pub returns-in-252-to-255 : goal.returns-in-252-to-255
unfolding keys
returns-in-252-to-255 c =
    ap (λ (n : ℕ). eqb n two-two)
    (c.info_bit-in-252-to-255.ensures ∙ bit_info c.args.b0 c.args.b1 (omega arith) (omega arith) (past keys (λ x. member x bit_codes) (λ x. true) 0xFC 0x04 refl c.args.b0 (search rules) (omega arith) (omega arith)))
