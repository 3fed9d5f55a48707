-- Laws of the table's definitions.
-- Assumes nothing.
use Prim.Native.Nat.{ℕ, zero, suc, ◌+◌, ◌-◌, ◌*◌, ◌/◌, ◌%◌, ◌≤◌, ◌<◌}
use native.Mathlib.Omega.{arith}
use mathlib.Core.Logic.{⊎_elim}
use native.Mathlib.Nat.{eq-or-lt_of_le, add-zero, add-suc, suc-add, zero-add, le_of_suc-le-suc, not-suc-le-zero}
use native.Mathlib.Numerals.{add-one}
use mathlib.Core.Path.{◌≡◌, ◌∙◌, refl, sym, ap, ap₂, subst}
use mathlib.Core.Bool.{Bool, true, false, cond}
use mathlib.Core.List.{List}
use borrow.Author.Tests.{lt-ltb, le-ltb, eq-eqb, ne_eqb, eqb-true}
use lib.Dec.{eqb}
use lib.ListN.{length, get_or}
use lib.Seq.{ext_get_or}
use Rattle.std.specs.Prelude.{Option, Some, None}
use Rattle.chip.specs.State.{wrap_of}
use Rattle.codes.specs.Decode.{info_of}
use Rattle.fetch.specs.declared.Origin.TheVariants.{Rom, Table}
use Rattle.fetch.specs.Fetch.{rom_byte, entry_byte, code_at}
use Rattle.fetch.proofs.Laws.{wrap_lt}
use Rattle.table.specs.Table.{byte_of, tabulate, table_of, differs, stale_of}

-- two places that are the same modulo 4,096 are the same modulo N
wrap_same : (n x y : ℕ) → x % 4096 ≡ y % 4096 → wrap_of n x ≡ wrap_of n y
wrap_same n x y h = ap₂ (cond (eqb n 4096)) h (let g : x % 2048 ≡ y % 2048 = omega arith in g)

pub low : (rom : List ℕ) (j : ℕ) → j < 16384 → j % 4 < 3 → (code_at Rom rom (j / 4 + j % 4)).b0 ≡ byte_of rom j
unfolding byte_of code_at
low rom j l h =
    ap (λ (i : ℕ). get_or rom i 0) (wrap_same (length rom) ((j / 4 + j % 4) % 4096 + 0) (j / 4 % 4096 + j % 4) (omega arith)) ∙
    ap (λ (b : Bool). cond b (rom_byte rom (j / 4) (j % 4)) (info_of (rom_byte rom (j / 4) 0) (rom_byte rom (j / 4) 1))) (sym (lt-ltb (j % 4) 3 h))

pub high : (rom : List ℕ) (j : ℕ) → 3 ≤ j % 4 → (code_at Rom rom (j / 4)).info ≡ byte_of rom j
unfolding byte_of code_at
high rom j h = ap (λ (b : Bool). cond b (rom_byte rom (j / 4) (j % 4)) (info_of (rom_byte rom (j / 4) 0) (rom_byte rom (j / 4) 1))) (sym (le-ltb (j % 4) 3 h))

pub length_tabulate : (n k : ℕ) (f : ℕ → ℕ) → length (tabulate n k f) ≡ n
unfolding tabulate
length_tabulate zero k f = refl
length_tabulate (suc n) k f = ap suc (length_tabulate n (suc k) f)

pub get_d_tabulate : (n k : ℕ) (f : ℕ → ℕ) (j : ℕ) → j < n → get_or (tabulate n k f) j 0 ≡ f (k + j)
unfolding tabulate
get_d_tabulate zero k f j h = absurd (not-suc-le-zero h)
get_d_tabulate (suc n) k f zero h = ap f (sym (add-zero k))
get_d_tabulate (suc n) k f (suc j) h = get_d_tabulate n (suc k) f j (le_of_suc-le-suc h) ∙ ap f (suc-add k j ∙ sym (add-suc k j))

pub get_d_table_of : (rom : List ℕ) (j : ℕ) → j < 4 * length rom → get_or (table_of rom) j 0 ≡ byte_of rom j
unfolding table_of
get_d_table_of rom j h = get_d_tabulate (4 * length rom) 0 (byte_of rom) j h ∙ ap (byte_of rom) (zero-add j)

pub length_table_of : (rom : List ℕ) → length (table_of rom) ≡ 4 * length rom
unfolding table_of
length_table_of rom = length_tabulate (4 * length rom) 0 (byte_of rom)

pub filled : (rom t : List ℕ) → length t ≡ 4 * length rom → ((j : ℕ) → j < length t → get_or t j 0 ≡ byte_of rom j) → t ≡ table_of rom
filled rom t e h =
    ext_get_or 0 t (table_of rom) (e ∙ sym (length_table_of rom)) (λ j l. h j l ∙ sym (get_d_table_of rom j (subst (λ (n : ℕ). j < n) e l)))

abbrev choose : Bool → Option ℕ → Option ℕ → Option ℕ
choose b x y = elim b [ true ↦ x | false ↦ y ]

pub differs_on : (rom t : List ℕ) (j n : ℕ) → j < n → get_or t j 0 ≡ byte_of rom j → differs rom t (j + 1) (n - (j + 1)) ≡ differs rom t j (n - j)
unfolding differs
differs_on rom t j n h e =
    ap (λ (k : ℕ). differs rom t k (n - (j + 1))) (add-one j) ∙
    ap (λ (b : Bool). choose b (differs rom t (suc j) (n - (j + 1))) (Some j)) (sym (eq-eqb (get_or t j 0) (byte_of rom j) e)) ∙
    ap (differs rom t j) (let g : suc (n - (j + 1)) ≡ n - j = omega arith in g)

pub differs_at : (rom t : List ℕ) (j n : ℕ) → j < n → (get_or t j 0 ≡ byte_of rom j → ⊥) → Some j ≡ differs rom t j (n - j)
unfolding differs
differs_at rom t j n h e =
    ap (λ (b : Bool). choose b (differs rom t (suc j) (n - (j + 1))) (Some j)) (sym (ne_eqb (get_or t j 0) (byte_of rom j) e)) ∙
    ap (differs rom t j) (let g : suc (n - (j + 1)) ≡ n - j = omega arith in g)

pub differs_end : (rom t : List ℕ) (j n : ℕ) → n ≤ j → None ≡ differs rom t j (n - j)
unfolding differs
differs_end rom t j n h = ap (differs rom t j) (let g : 0 ≡ n - j = omega arith in g)

pub differs_start : (rom t : List ℕ) → length t ≡ 4 * length rom → differs rom t 0 (length t - 0) ≡ stale_of rom t
unfolding stale_of
differs_start rom t e = ap (differs rom t 0) (let g : length t - 0 ≡ 4 * length rom = omega arith in g)

-- a table in which no byte differs is the ROM's table
chosen : (b : Bool) (x : Option ℕ) (k : ℕ) → choose b x (Some k) ≡ None → (b ≡ true) × (x ≡ None)
chosen true x k h = (refl, h)
chosen false x k h = absurd (let z : ◌≡◌ {A = ℕ} 0 1 = cc in omega arith)

same_below : (rom t : List ℕ) (k n : ℕ) → differs rom t k n ≡ None → (j : ℕ) → k ≤ j → j < k + n → get_or t j 0 ≡ byte_of rom j
unfolding differs
same_below rom t k zero h j p q = absurd (omega arith)
same_below rom t k (suc n) h j p q =
    let g = chosen (eqb (get_or t k 0) (byte_of rom k)) (differs rom t (suc k) n) k h in
    ⊎_elim (λ e. subst (λ (i : ℕ). get_or t i 0 ≡ byte_of rom i) e (eqb-true (get_or t k 0) (byte_of rom k) g.0))
    (λ l. same_below rom t (suc k) n g.1 j l (omega arith)) (eq-or-lt_of_le p)

pub fresh_table : (rom t : List ℕ) → length t ≡ 4 * length rom → stale_of rom t ≡ None → t ≡ table_of rom
unfolding stale_of
fresh_table rom t e h = filled rom t e (λ j l. same_below rom t 0 (4 * length rom) h j (omega arith) (omega arith))

-- The table is as good as the ROM: the code that it gives at an address is the ROM's.
module _ (rom : List ℕ) (p : ℕ) (h : 2048 ≤ length rom) where
  entry_at : (k : ℕ) → k < 4 → entry_byte (table_of rom) p k ≡ byte_of rom (4 * wrap_of (length rom) p + k)
  entry_at k l =
      let e = length_table_of rom in
      let g : length (table_of rom) / 4 ≡ length rom = omega arith in
      ap (λ (n : ℕ). get_or (table_of rom) (4 * wrap_of n p + k) 0) g ∙
      get_d_table_of rom (4 * wrap_of (length rom) p + k) (let z = wrap_lt (length rom) p h in omega arith)

  -- the address w of the entry is p modulo N, and what follows it is what follows p
  step_by : (b : Bool) (k : ℕ) → cond b ((cond b (p % 4096) (p % 2048) % 4096 + k) % 4096) ((cond b (p % 4096) (p % 2048) % 4096 + k) % 2048) ≡ cond b ((p % 4096 + k) % 4096) ((p % 4096 + k) % 2048)
  step_by true k = omega arith
  step_by false k = omega arith

  same_byte : (k : ℕ) → rom_byte rom (wrap_of (length rom) p) k ≡ rom_byte rom p k
  same_byte k = ap (λ (i : ℕ). get_or rom i 0) (step_by (eqb (length rom) 4096) k)

  byte_entry : (w k : ℕ) → k < 3 → byte_of rom (4 * w + k) ≡ rom_byte rom w k
  unfolding byte_of
  byte_entry w k l =
      let d : (4 * w + k) / 4 ≡ w = omega arith in
      let m : (4 * w + k) % 4 ≡ k = omega arith in
      rw (d, m, lt-ltb k 3 l)

  info_entry : (w : ℕ) → byte_of rom (4 * w + 3) ≡ info_of (rom_byte rom w 0) (rom_byte rom w 1)
  unfolding byte_of
  info_entry w =
      let d : (4 * w + 3) / 4 ≡ w = omega arith in
      let m : (4 * w + 3) % 4 ≡ 3 = omega arith in
      rw (d, m)

  low_byte : (k : ℕ) → k < 3 → entry_byte (table_of rom) p k ≡ rom_byte rom p k
  low_byte k l = entry_at k (omega arith) ∙ byte_entry (wrap_of (length rom) p) k l ∙ same_byte k

  info_byte : entry_byte (table_of rom) p 3 ≡ info_of (rom_byte rom p 0) (rom_byte rom p 1)
  info_byte = entry_at 3 (omega arith) ∙ info_entry (wrap_of (length rom) p) ∙ ap₂ info_of (same_byte 0) (same_byte 1)

  pub table_code : code_at Table (table_of rom) p ≡ code_at Rom rom p
  unfolding code_at
  table_code =
      rw (low_byte 0 (omega arith), low_byte 1 (omega arith), low_byte 2 (omega arith), info_byte)

-- the first byte that differs is one of the table's
below_by : (c : Bool) (k n p : ℕ) (x : Option ℕ) → (Some p ≡ x → p < suc k + n) → Some p ≡ elim c [ true ↦ x | false ↦ Some k ] → p < k + suc n
below_by true k n p x ih h = let q = ih h in omega arith
below_by false k n p x ih h = let q : p ≡ k = cc in omega arith

differs_below : (rom t : List ℕ) (k n p : ℕ) → Some p ≡ differs rom t k n → p < k + n
unfolding differs
differs_below rom t k zero p h = absurd (let z : ◌≡◌ {A = ℕ} 0 1 = cc in omega arith)
differs_below rom t k (suc n) p h =
    below_by (eqb (get_or t k 0) (byte_of rom k)) k n p (differs rom t (suc k) n) (λ q. differs_below rom t (suc k) n p q) h

pub stale_below : (rom t : List ℕ) (p : ℕ) → Some p ≡ stale_of rom t → p < 4 * length rom
unfolding stale_of
stale_below rom t p h = let q = differs_below rom t 0 (4 * length rom) p h in omega arith
