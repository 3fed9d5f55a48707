use Rattle.std.proofs.Common.{[], ◌∷◌, arith, ap, length}
use Rattle.chip.specs.Ports.{pins_of}
use Rattle.portlog.proofs.Part.{alone, count, rest_fits, joined}
use Rattle.portlog.proofs.note5.Goals as goal

pub note-k-requires-clause-p_in_bounds : goal.note-k-requires-clause-p_in_bounds
note-k-requires-clause-p_in_bounds c = omega (arith, count c.args.clock (pins_of c.args.was) (pins_of c.args.is) 5 (6 ∷ []))

pub note-n-requires-clause-p_in_bounds : goal.note-n-requires-clause-p_in_bounds
note-n-requires-clause-p_in_bounds c = omega (arith, rest_fits c.args.clock (pins_of c.args.was) (pins_of c.args.is) 5 (6 ∷ []) c.args.log.now c.note-k.new.log c.note-k.result c.requires c.note-k.ensures.0 c.note-k.ensures.1, ap length (alone c.args.clock (pins_of c.args.was) (pins_of c.args.is) 6))

pub returns : goal.returns
returns c = (joined c.args.clock (pins_of c.args.was) (pins_of c.args.is) 5 (6 ∷ []) c.args.log.now c.note-k.new.log c.note-k.result c.requires c.note-k.ensures.0 c.note-k.ensures.1 c.note-n.new.log (rw (← alone c.args.clock (pins_of c.args.was) (pins_of c.args.is) 6) c.note-n.ensures.0), omega (arith, count c.args.clock (pins_of c.args.was) (pins_of c.args.is) 5 (6 ∷ []), ap length (alone c.args.clock (pins_of c.args.was) (pins_of c.args.is) 6)))
