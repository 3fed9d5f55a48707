use mathlib.Core.Path.{◌∙◌, refl}
use lib.ListN.{length}
use Rattle.chip.specs.Scalars.{with_clock, with_basic}
use Rattle.chip.specs.State.{at}
use Rattle.fetch.specs.Fetch.{code_at, size_of}
use Rattle.elapse.proofs.Elapsing.{passed_on, passed_reset}
use Rattle.elapse.proofs.Made.{reset_as}
use Rattle.elapse.proofs.elapsed.Goals as goal

pub returns-then-k : goal.returns-then-k
returns-then-k c =
    let a = c.args in
    let d = with_clock a.d a.clock in
    let v = code_at a.origin a.code.now 0 in
    let n = size_of a.origin (length a.code.now) in
    let k = c.clocks_on-k in
    reset_as v n (with_basic d k.result.basic) k.new.mem c.code_at-v.ensures c.reset_mem.ensures c.size.ensures c.reset_cpu.ensures ∙
    passed_reset v n (at a.mem.now d) a.was a.e a.n k.result _ (k.ensures a.e d refl refl c.requires.mode_value refl) c.if-k.true

pub returns : goal.returns
returns c =
    let a = c.args in
    let d = with_clock a.d a.clock in
    let k = c.clocks_on-k in
    passed_on (code_at a.origin a.code.now 0) (size_of a.origin (length a.code.now)) (at a.mem.now d) a.was a.e a.n k.result _
    (k.ensures a.e d refl refl c.requires.mode_value refl) c.if-k.false
