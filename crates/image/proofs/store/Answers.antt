-- `image::store` meets its contract: the stores one behind the other are those of all the scalars' bytes. Assumes nothing.
use Prim.Native.Nat.{ℕ}
use native.Mathlib.Omega.{arith}
use mathlib.Core.Path.{◌∙◌, ap}
use mathlib.Core.List.{List, [], ◌∷◌, ◌++◌}
use lib.Seq.{sets}
use Rattle.chip.specs.declared.Cpu.{Cpu}
use Rattle.words.specs.Words.{bytes_of}
use Rattle.image.specs.Image.{at_pc, at_smb, at_pins, at_clock, at_cursor, at_timing, at_hold, pin_bytes, scalars_of}
use Rattle.image.proofs.Laws.{all_stored}
use Rattle.image.proofs.store.Goals as goal

-- the bytes between the PC and the pins, those up to the clock, those up to the cursor, and those up to the basic timer's
abbrev bankBytes : Cpu → List ℕ
bankBytes v = v.smb ∷ v.srb ∷ v.mode ∷ v.effect ∷ v.release ∷ []

abbrev upToClock : Cpu → List ℕ
upToClock v = bytes_of 2 v.pc ++ bankBytes v ++ pin_bytes v.pins ++ bytes_of 4 v.clock

abbrev upToCursor : Cpu → List ℕ
upToCursor v = bytes_of 2 v.pc ++ bankBytes v ++ pin_bytes v.pins ++ bytes_of 4 v.clock ++ bytes_of 4 v.cursor

abbrev upToTiming : Cpu → List ℕ
upToTiming v = bytes_of 2 v.pc ++ bankBytes v ++ pin_bytes v.pins ++ bytes_of 4 v.clock ++ bytes_of 4 v.cursor ++ bytes_of 2 v.timing.basic

pub returns : goal.returns
unfolding scalars_of
returns c =
    let s = c.args.s.now in
    let v = c.args.c in
    c.put_word-3.ensures ∙
    ap (λ (l : List ℕ). sets l at_hold (bytes_of 2 v.timing.hold))
    (c.put_word-2.ensures ∙
    ap (λ (l : List ℕ). sets l at_timing (bytes_of 2 v.timing.basic))
    (c.put_long-2.ensures ∙
    ap (λ (l : List ℕ). sets l at_cursor (bytes_of 4 v.cursor))
    (c.put_long.ensures ∙
    ap (λ (l : List ℕ). sets l at_clock (bytes_of 4 v.clock))
    (c.store_pins.ensures ∙
    ap (λ (l : List ℕ). sets (sets l at_smb (bankBytes v)) at_pins (pin_bytes v.pins)) c.put_word.ensures)))) ∙
    all_stored s (scalars_of v) at_pc (omega arith)
