-- A record that is cut off, a sound one, and one with a field that is not sound. Assumes nothing.
use Rattle.std.proofs.Common.{ℕ, ◌<◌, ◌∙◌, sym, subst, length}
use Rattle.record.specs.Fields.{port_of}
use Rattle.record.proofs.Records.{sound_nibbles, cut_off, read_sound, read_unsound}
use Rattle.record.proofs.fields.read_as.Goals as goal

pub returns-then-s-n : goal.returns-then-s-n
returns-then-s-n c =
    cut_off c.args.s.now c.args.lo c.args.hi (subst (λ (k : ℕ). length c.args.s.now < k) c.width_of-n.ensures.0 c.if-s-n.true)

pub record_of-requires : goal.record_of-requires
record_of-requires c = sound_nibbles (port_of c.fields_at-f.result) _ _ (sym c.is_sound.ensures ∙ c.if-is_sound.true)

pub returns-then-is_sound : goal.returns-then-is_sound
returns-then-is_sound c =
    read_sound c.args.s.now c.args.lo c.args.hi _ _ _ c.width_of-n.ensures.0 c.wait_of-w.ensures c.fields_at-f.ensures c.if-s-n.false _
    (sym c.is_sound.ensures ∙ c.if-is_sound.true) c.record_of.ensures

pub returns-else-is_sound : goal.returns-else-is_sound
returns-else-is_sound c =
    read_unsound c.args.s.now c.args.lo c.args.hi _ _ _ c.width_of-n.ensures.0 c.wait_of-w.ensures c.fields_at-f.ensures c.if-s-n.false
    (sym c.is_sound.ensures ∙ c.if-is_sound.false)
