-- IDLE, EI and STOP have rows of their own, and every other second byte is that of a bit code.
-- Assumes nothing.
use Rattle.std.proofs.Common.{refl, [], ◌∷◌}
use Rattle.codes.specs.declared.Instr.TheVariants.{Ei, Idle, Stop}
use Rattle.codes.proofs.Candidates.{decode_among}
use Rattle.bitcodes.proofs.SecondByte.{at_keys}
use Rattle.bitcodes.proofs.after_ff.Goals as goal

pub returns-in-163 : goal.returns-in-163
unfolding decode_among
returns-in-163 c = at_keys 0xFF (λ y. Idle) (0xA3 ∷ []) (λ z. refl) c.args.b1 c.in-163.is

pub returns-in-178 : goal.returns-in-178
unfolding decode_among
returns-in-178 c = at_keys 0xFF (λ y. Ei) (0xB2 ∷ []) (λ z. refl) c.args.b1 c.in-178.is

pub returns-in-179 : goal.returns-in-179
unfolding decode_among
returns-in-179 c = at_keys 0xFF (λ y. Stop) (0xB3 ∷ []) (λ z. refl) c.args.b1 c.in-179.is
