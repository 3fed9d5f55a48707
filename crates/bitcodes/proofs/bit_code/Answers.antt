-- By the law of the bit codes.
-- Assumes nothing.
use Rattle.std.proofs.Common.{◌≡◌, ℕ, ◌<◌, true, false, Option, ap, ◌∙◌}
use Rattle.codes.specs.Decode.{decode, member}
use Rattle.codes.specs.Entry.{bit_codes}
use Rattle.bitcodes.specs.BitCodes.{named_by, bit_instr, special}
use Rattle.codes.specs.declared.Place.{Place}
use Rattle.bitcodes.proofs.BitLaws.{bit_law}
use Rattle.bitcodes.proofs.bit_code.Goals as goal

-- the second byte names m
named : (x y : ℕ) (m : Option Place) (z : ℕ) → m ≡ named_by y → x < 256 → y < 256 → (member x bit_codes ≡ true) × (special x y ≡ false) → bit_instr x m ≡ decode x y z
named x y m z f h l p = ap (bit_instr x) f ∙ bit_law x y z h l p.0 p.1

pub returns-in-Some : goal.returns-in-Some
returns-in-Some c z = c.under.ensures ∙ named _ _ _ z c.in-Some.ensures c.ranges.b0.fits c.ranges.b1.fits c.requires

pub returns-in-None : goal.returns-in-None
returns-in-None c z = named _ _ _ z c.in-None.ensures c.ranges.b0.fits c.ranges.b1.fits c.requires
