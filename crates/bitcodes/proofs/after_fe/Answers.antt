-- DI has a row of its own, and every other second byte is that of a bit code.
-- Assumes nothing.
use Rattle.std.proofs.Common.{refl, [], ◌∷◌}
use Rattle.codes.specs.declared.Instr.TheVariants.{Di}
use Rattle.codes.proofs.Candidates.{decode_among}
use Rattle.bitcodes.proofs.SecondByte.{at_keys}
use Rattle.bitcodes.proofs.after_fe.Goals as goal

pub returns-in-178 : goal.returns-in-178
unfolding decode_among
returns-in-178 c = at_keys 0xFE (λ y. Di) (0xB2 ∷ []) (λ z. refl) c.args.b1 c.in-178.is
