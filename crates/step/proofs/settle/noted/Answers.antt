-- `step::settle::noted` meets its contract: the same driven values, no room for the records, or the records written.
-- Assumes nothing.
use native.Mathlib.Omega.{arith}
use Prim.Native.Nat.{ℕ, ◌<◌, ◌≤◌}
use mathlib.Core.Path.{◌≡◌, ◌∙◌, refl, sym, ap}
use lib.ListN.{length}
use Rattle.chip.specs.Ports.{latched_of, pins_of}
use Rattle.chip.specs.State.{at}
use Rattle.portlog.specs.Log.{logged, written}
use Rattle.portlog.proofs.Driving.{log_told, none_told}
use Rattle.portlog.proofs.Laws.{length_logged}
use Rattle.step.specs.declared.Stepping.TheVariants.{Moved}
use Rattle.step.proofs.Settling.{told, silent, no_room, with_room}
use Rattle.step.proofs.settle.noted.Goals as goal

pub returns-then-was-is : goal.returns-then-was-is
returns-then-was-is c l was kept =
    let a = c.args in
    told (silent (latched_of l) (at a.mem.now a.d) (length a.log.now)
    (none_told a.d.clock l a.mem.now a.was c.drives-is.result was c.drives-is.ensures c.if-was-is.true))
    (record { answer = refl; mem = refl; log = refl })

pub returns-then-log-n : goal.returns-then-log-n
returns-then-log-n c l was kept =
    let a = c.args in
    let is = c.drives-is in
    let n : c.size-n.result ≡ length (logged a.d.clock (latched_of l) (latched_of a.mem.now)) =
    c.size-n.ensures a.d.clock ∙ ap length (log_told a.d.clock l a.mem.now a.was is.result was is.ensures) in
    let short : length a.log.now < c.size-n.result = c.if-log-n.true in
    let most = length_logged a.d.clock (latched_of l) (latched_of a.mem.now) in
    told (no_room (latched_of l) (at a.mem.now a.d) (length a.log.now) (omega arith))
    (record { answer = refl; mem = c.copy.ensures ∙ kept (omega arith); log = refl })

pub returns : goal.returns
returns c l was kept =
    let a = c.args in
    let is = c.drives-is in
    let k = c.notes-k in
    let w = ap (λ (x : ℕ). logged x (pins_of a.was) (pins_of is.result)) (sym c.requires) ∙ log_told a.d.clock l a.mem.now a.was is.result was is.ensures in
    let n : c.size-n.result ≡ length (logged a.d.clock (latched_of l) (latched_of a.mem.now)) =
    c.size-n.ensures a.clock ∙ ap length w in
    let fits : c.size-n.result ≤ length a.log.now = c.if-log-n.false in
    told (with_room (latched_of l) (at a.mem.now a.d) (length a.log.now) (omega arith))
    (record {
      answer = ap (Moved a.d a.due) (k.ensures.1 ∙ ap length w);
      mem = refl;
      log = k.ensures.0 ∙ ap (written a.log.now 0) w;
    })
