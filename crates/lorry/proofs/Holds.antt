-- What document 02 says of a call for several heads holds of every call that is accepted.
-- Assumes nothing.
use Prim.Native.Nat.{ℕ}
use mathlib.Core.Path.{◌≡◌}
use Rattle.verdicts.specs.Verdicts.{accepted}
use Rattle.invariant.specs.Sound.{Bytes}
use Rattle.heads.specs.Heads.{Lent, head_of, turned}
use Rattle.heads.specs.Call.{call_verdict}
use Rattle.lorry.specs.Lorry.{Holds}
use Rattle.heads.proofs.Testing.{accepted_apart}
use Rattle.lorry.proofs.Order.{given, waits, waits_eight}
use Rattle.lorry.proofs.Alone.{alone}
use Rattle.lorry.proofs.Apart.{apart, fits}

pub holds : (c : Lent) (q turns : ℕ) → call_verdict c q ≡ accepted → Bytes c.rom → Bytes c.states → Holds c q turns
holds c q turns ok rom states =
    let s = (accepted_apart c q ok).0 in
    let turn = turned c.rom c.table q in
    record {
      given = given turn c.count turns (head_of c) s.some;
      rounds = waits turn c.count turns (head_of c) s.some;
      waits = waits_eight turn c.count turns (head_of c) s.some s.most;
      alone = λ i m. alone c q ok rom states i m turns;
      apart = apart c q ok rom states turns;
      fits = fits c q ok rom states turns;
    }
