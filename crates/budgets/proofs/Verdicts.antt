-- When the table-driven run accepts what it is given, taken apart; and that the ROM's own table is never the reason of a refusal.
-- Assumes nothing.
use Prim.Native.Nat.{ℕ, zero, suc, ◌+◌, ◌-◌, ◌*◌, ◌/◌}
use native.Mathlib.Omega.{arith}
use mathlib.Core.Path.{◌≡◌, ◌∙◌, refl, sym, ap, ap₂, subst, fun_ext}
use mathlib.Core.Bool.{Bool, true, false, cond, not, ◌||◌, false≢true}
use mathlib.Core.List.{List}
use borrow.Author.Tests.{eq-eqb, le-ltb}
use lib.Dec.{eqb}
use lib.ListN.{length}
use Rattle.chip.specs.declared.Machine.{Machine}
use Rattle.image.specs.Image.{fault_of, image_size, machine_of}
use Rattle.fetch.specs.declared.Code.{Code}
use Rattle.fetch.specs.declared.Origin.TheVariants.{Rom, Table}
use Rattle.std.specs.Prelude.{None}
use Rattle.table.specs.Table.{table_of, differs, stale_of}
use Rattle.table.proofs.Laws.{get_d_table_of, length_table_of, differs_on, differs_end, differs_start, table_code}
use Rattle.trace.specs.Trace.{scan_number}
use Rattle.step.specs.Step.{Out, step_of}
use Rattle.steps.specs.Steps.{step_by, steps_over}
use Rattle.verdicts.specs.Verdicts.{Verdict, accepted, refused_as, rom_fits, table_fits, trace_verdict, start_verdict, state_verdict, table_verdict, plain_verdict, run_verdict}
use Rattle.calls.specs.Calls.{ran_to, ran_in, called_by, plain_call, table_call}
use Rattle.startup.specs.Startup.{predecode_number, predecode_table}
use Rattle.verdicts.proofs.Accepted.{Fit, Tabled, rom_long, Numbered, plain_number}
use Rattle.budgets.specs.Claim.{NotTheTable}

-- no byte of the ROM's table differs from the ROM's
same_from : (rom : List ℕ) (k j : ℕ) → j + k ≡ 4 * length rom → differs rom (table_of rom) j (4 * length rom - j) ≡ None
same_from rom zero j h = sym (differs_end rom (table_of rom) j (4 * length rom) (omega arith))
same_from rom (suc k) j h =
    sym (differs_on rom (table_of rom) j (4 * length rom) (omega arith) (get_d_table_of rom j (omega arith))) ∙
    same_from rom k (j + 1) (omega arith)

own_table : (rom : List ℕ) → stale_of rom (table_of rom) ≡ None
own_table rom =
    sym (differs_start rom (table_of rom) (length_table_of rom)) ∙
    ap (λ (n : ℕ). differs rom (table_of rom) 0 (n - 0)) (length_table_of rom) ∙
    same_from rom (4 * length rom) 0 (omega arith)

-- the steps by the ROM's table are the steps by the ROM
pub step_same : (rom table t : List ℕ) → Tabled rom table → step_by Table table t ≡ step_by Rom rom t
step_same rom table t h =
    let l = rom_long (length rom) h.rom_fits_lem in
    let n : length (table_of rom) / 4 ≡ length rom = let z = length_table_of rom in omega arith in
    ap (λ (x : List ℕ). step_by Table x t) h.table_is ∙
    ap₂ (λ (src : ℕ → Code) (n : ℕ). λ m room. step_of src n t m room) (fun_ext (λ p. table_code rom p l)) n

-- with the ROM's table, the table-driven run says what the plain run says
pub like_plain : (rom s t g : List ℕ) (e : ℕ) → run_verdict rom (table_of rom) s t g e ≡ plain_verdict rom s t g e
unfolding run_verdict plain_verdict table_verdict
like_plain rom s t g e = rw (eq-eqb (length (table_of rom)) (4 * length rom) (length_table_of rom), own_table rom)

-- what fits is accepted
pub accepts : (rom table s t g : List ℕ) (e : ℕ) → Tabled rom table → Fit (length rom) s t g e → run_verdict rom table s t g e ≡ accepted
unfolding plain_verdict state_verdict start_verdict trace_verdict scan_number
accepts rom table s t g e h f =
    ap (λ (x : List ℕ). run_verdict rom x s t g e) h.table_is ∙
    like_plain rom s t g e ∙
    rw (
      h.rom_fits_lem,
      eq-eqb (length s) image_size f.long,
      eq-eqb (fault_of s (length rom)) image_size f.fields,
      f.stands,
      le-ltb (length g) e f.start,
    )

-- the table is not the reason of a number
abbrev not_table : ℕ → Bool
not_table k = not (eqb k 2 || eqb k 5)

-- the table that predecode made
made_by : (rom old : List ℕ) (a b : Bool) → ◌≡◌ {A = ℕ} (cond a (cond b 0 2) 1) 0 → cond a (cond b (table_of rom) old) old ≡ table_of rom
made_by rom old true true h = refl
made_by rom old true false h = absurd (omega arith)
made_by rom old false b h = absurd (omega arith)

made : (rom old : List ℕ) → predecode_number rom old ≡ 0 → predecode_table rom old ≡ table_of rom
unfolding predecode_number predecode_table
made rom old h = made_by rom old (rom_fits (length rom)) (table_fits (length rom) (length old)) h

pub not_the_table : (rom old table s t g : List ℕ) (e : ℕ) → predecode_number rom old ≡ 0 → table ≡ predecode_table rom old →
    NotTheTable (run_verdict rom table s t g e) (plain_verdict rom s t g e)
not_the_table rom old table s t g e h k =
    let alike : run_verdict rom table s t g e ≡ plain_verdict rom s t g e =
    ap (λ (x : List ℕ). run_verdict rom x s t g e) (k ∙ made rom old h) ∙ like_plain rom s t g e in
    let plain = plain_number not_table refl refl refl refl refl refl rom s t g e in
    record {
      not_its_length = λ p q. false≢true (subst (Numbered not_table) (sym alike ∙ q) plain);
      not_stale = λ p q. false≢true (subst (Numbered not_table) (sym alike ∙ q) plain);
      alike = alike;
    }

-- the table-driven run over the ROM's table is the plain run
alike_by : (v : Verdict) (rom table s t g : List ℕ) (e b : ℕ) → Tabled rom table → called_by v Table table s t g e b ≡ called_by v Rom rom s t g e b
unfolding called_by ran_in
alike_by accepted rom table s t g e b h =
    ap (λ (f : Machine → ℕ → Out). ran_to (steps_over f b (machine_of s) g e)) (step_same rom table t h)
alike_by (refused_as k p) rom table s t g e b h = refl

pub run_alike : (rom table s t g : List ℕ) (e b : ℕ) → rom_fits (length rom) ≡ true → table ≡ table_of rom → table_call rom table s t g e b ≡ plain_call rom s t g e b
unfolding table_call plain_call
run_alike rom table s t g e b h k =
    ap (λ (x : List ℕ). called_by (run_verdict rom x s t g e) Table table s t g e b) k ∙
    ap (λ (v : Verdict). called_by v Table table s t g e b) (like_plain rom s t g e) ∙
    alike_by (plain_verdict rom s t g e) rom table s t g e b (record { rom_fits_lem = h; table_is = k })
