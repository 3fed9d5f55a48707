-- Document 01, "Calls": predecode (ROM, table), which tests 1 and 2, and fresh (ROM, state), which tests 1 and 3. They answer the number only; a refusal
-- leaves table and state as they are.
-- Assumes nothing.
use Rattle.std.specs.Prelude.{ℕ, cond, List, length, get_or, eqb}
use Rattle.numbers.specs.Numbers.{done, rom_refusal, table_refusal, image_refusal}
use Rattle.chip.specs.Reset.{fresh_of}
use Rattle.image.specs.Image.{image_of, image_size}
use Rattle.table.specs.Table.{table_of}
use Rattle.verdicts.specs.Verdicts.{rom_fits, table_fits}

-- predecode: 1, then 2, else 0 with the ROM's table
unfoldable pub predecode_number : List ℕ → List ℕ → ℕ
predecode_number rom table = cond (rom_fits (length rom)) (cond (table_fits (length rom) (length table)) done table_refusal) rom_refusal

unfoldable pub predecode_table : List ℕ → List ℕ → List ℕ
predecode_table rom table = cond (rom_fits (length rom)) (cond (table_fits (length rom) (length table)) (table_of rom) table) table

-- fresh: 1, then 3, else 0 with the fresh state
unfoldable pub fresh_number : List ℕ → List ℕ → ℕ
fresh_number rom s = cond (rom_fits (length rom)) (cond (eqb (length s) image_size) done image_refusal) rom_refusal

unfoldable pub fresh_state : List ℕ → List ℕ → List ℕ
fresh_state rom s =
    cond (rom_fits (length rom)) (cond (eqb (length s) image_size) (image_of (fresh_of (length rom) (get_or rom 0 0) (get_or rom 1 0))) s) s
