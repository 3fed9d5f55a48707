-- The cases of predecode and fresh.
-- Assumes nothing.
use Prim.Native.Nat.{ℕ, ◌*◌}
use mathlib.Core.Path.{◌≡◌, ◌∙◌, refl, sym, ap}
use mathlib.Core.Bool.{true, false}
use mathlib.Core.List.{List, ◌++◌}
use lib.ListN.{length, take, drop, get_or}
use lib.Seq.{take-length}
use borrow.Author.Tests.{eq-eqb, ne_eqb}
use Rattle.chip.specs.declared.Machine.{Machine}
use Rattle.chip.specs.State.{nibbles}
use Rattle.chip.specs.Reset.{fresh_of}
use Rattle.image.specs.Image.{scalars_of, image_of, image_size}
use Rattle.image.proofs.Made.{image_made}
use Rattle.table.specs.Table.{table_of}
use Rattle.std.specs.Prelude.{Result, Ok, Err, IsErrAnd, ⊤}
use Rattle.verdicts.specs.declared.Refusal.{Refusal}
use Rattle.verdicts.specs.Verdicts.{refused_as, rom_fits}
use Rattle.verdicts.specs.Judged.{number_of, address_of, number_in}
use Rattle.startup.specs.Startup.{predecode_number, predecode_table, fresh_number, fresh_state}

-- the number of a refusal passed on
pub told_by : (r : Result ⊤ Refusal) (e : Refusal) (k p : ℕ) → IsErrAnd r (λ x. x ≡ e) → refused_as (number_of e) (address_of e) ≡ refused_as k p → number_in r ≡ k
told_by (Ok x) e k p h q = absurd h
told_by (Err x) e k p h q = ap number_of h ∙ (let z : number_of e ≡ k = cc in z)

-- predecode's answer and the table that it leaves
abbrev Predecoded : List ℕ → List ℕ → ℕ → List ℕ → Type 0
Predecoded rom table r table' = (r ≡ predecode_number rom table) × (table' ≡ predecode_table rom table)

module _ (rom table : List ℕ) where
  pub pre_no_rom : rom_fits (length rom) ≡ false → Predecoded rom table 1 table
  unfolding predecode_number predecode_table
  pre_no_rom h = (sym (rw h), sym (rw h))

  pub pre_no_table : rom_fits (length rom) ≡ true → (length table ≡ 4 * length rom → ⊥) → Predecoded rom table 2 table
  unfolding predecode_number predecode_table
  pre_no_table h l = (sym (rw (h, ne_eqb (length table) (4 * length rom) l)), sym (rw (h, ne_eqb (length table) (4 * length rom) l)))

  pub pre_made : rom_fits (length rom) ≡ true → length table ≡ 4 * length rom → (x : List ℕ) → x ≡ table_of rom → Predecoded rom table 0 x
  unfolding predecode_number predecode_table
  pre_made h l x q =
      (sym (rw (h, eq-eqb (length table) (4 * length rom) l)), q ∙ sym (rw (h, eq-eqb (length table) (4 * length rom) l)))

-- fresh's answer and the state that it leaves
abbrev Fresh : List ℕ → List ℕ → ℕ → List ℕ → Type 0
Fresh rom s r s' = (r ≡ fresh_number rom s) × (s' ≡ fresh_state rom s)

module _ (rom s : List ℕ) where
  pub fresh_no_rom : rom_fits (length rom) ≡ false → Fresh rom s 1 s
  unfolding fresh_number fresh_state
  fresh_no_rom h = (sym (rw h), sym (rw h))

  pub fresh_no_image : rom_fits (length rom) ≡ true → (length s ≡ image_size → ⊥) → Fresh rom s 3 s
  unfolding fresh_number fresh_state
  fresh_no_image h k = (sym (rw (h, ne_eqb (length s) image_size k)), sym (rw (h, ne_eqb (length s) image_size k)))

  -- x the fresh machine, l the state with its nibbles copied over the first bytes
  pub fresh_made : rom_fits (length rom) ≡ true → length s ≡ image_size → (x : Machine) (l st : List ℕ) → x ≡ fresh_of (length rom) (get_or rom 0 0) (get_or rom 1 0) → length x.mem ≡ nibbles →
      l ≡ take (length x.mem) x.mem ++ drop (length x.mem) s → st ≡ take nibbles l ++ scalars_of x.cpu → Fresh rom s 0 st
  unfolding fresh_number fresh_state
  fresh_made h k x l st q n z w =
      let d = drop (length x.mem) s in
      let copied : l ≡ x.mem ++ d = z ∙ ap (λ (m : List ℕ). m ++ d) (take-length x.mem) in
      let whole = image_made x x.mem d st n refl (w ∙ ap (λ (m : List ℕ). take nibbles m ++ scalars_of x.cpu) copied) in
      (sym (rw (h, eq-eqb (length s) image_size k)), whole ∙ ap image_of q ∙ sym (rw (h, eq-eqb (length s) image_size k)))
