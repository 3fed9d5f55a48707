use Rattle.std.proofs.Common.{[], ◌∷◌, arith}
use Rattle.chip.specs.Ports.{pins_of}
use Rattle.portlog.proofs.Part.{count, rest_fits, joined}
use Rattle.portlog.proofs.note3.Goals as goal

pub note-k-requires-clause-p_in_bounds : goal.note-k-requires-clause-p_in_bounds
note-k-requires-clause-p_in_bounds c = omega (arith, count c.args.clock (pins_of c.args.was) (pins_of c.args.is) 3 (4 ∷ 5 ∷ 6 ∷ []))

pub note4-n-requires : goal.note4-n-requires
note4-n-requires c = rest_fits c.args.clock (pins_of c.args.was) (pins_of c.args.is) 3 (4 ∷ 5 ∷ 6 ∷ []) c.args.log.now c.note-k.new.log c.note-k.result c.requires c.note-k.ensures.0 c.note-k.ensures.1

pub returns : goal.returns
returns c = (joined c.args.clock (pins_of c.args.was) (pins_of c.args.is) 3 (4 ∷ 5 ∷ 6 ∷ []) c.args.log.now c.note-k.new.log c.note-k.result c.requires c.note-k.ensures.0 c.note-k.ensures.1 c.note4-n.new.log c.note4-n.ensures.0, omega (arith, count c.args.clock (pins_of c.args.was) (pins_of c.args.is) 3 (4 ∷ 5 ∷ 6 ∷ [])))
