use Rattle.std.proofs.Common.{ℕ, ◌≡◌, ◌∙◌, sym, ap, List, ◌++◌, length, take, drop, rules}
use lib.Seq.{take-length}
use Rattle.verdicts.proofs.Judging.{passed, blocked}
use Rattle.startup.proofs.Starting.{told_by, fresh_no_rom, fresh_no_image, fresh_made}
use Rattle.startup.proofs.fresh_state.Goals as goal

-- the image i, of the bytes s, once the nibbles are in
filled : (m ys i s : List ℕ) → length m ≡ 640 → ys ≡ m → i ≡ s → ys ++ drop 640 i ≡ take (length m) m ++ drop (length m) s
filled m ys i s k e q =
    ap (λ (x : List ℕ). ys ++ drop 640 x) q ∙ ap (λ (x : List ℕ). x ++ drop 640 s) (e ∙ sym (take-length m)) ∙
    ap (λ (n : ℕ). take (length m) m ++ drop n s) (sym k)

pub returns-in_err-judge_rom : goal.returns-in_err-judge_rom
returns-in_err-judge_rom c =
    let b = blocked _ 1 0 _ _ c.in_err-judge_rom.ensures in
    let p = fresh_no_rom c.args.rom.now c.args.state.now b.0 in
    (told_by _ _ _ _ c.from_residual.ensures.1 b.1 ∙ p.0, p.1)

pub returns-in_default : goal.returns-in_default
returns-in_default c =
    let a = c.args in
    fresh_no_image a.rom.now a.state.now (passed _ _ _ c.in_ok-judge_rom.ensures) c.in_default.ensures.cases

pub returns : goal.returns
returns c =
    let a = c.args in
    let whole = c.in-Some.ensures.cases in
    fresh_made a.rom.now a.state.now (passed _ _ _ c.in_ok-judge_rom.ensures) whole.long _ _ _ c.fresh-m.ensures (search rules)
    (filled _ _ _ a.state.now (search rules) c.copy_from_slice.ensures.after whole.same) c.store.ensures
