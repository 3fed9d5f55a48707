-- What the window finds. A refused call and a stop answer so, and leave the record and the log as they were. A step that is made leaves, and
-- answers, what the plain machine does in one step: from a record whose fields are in their ranges, from that record itself. In each case the
-- record's image is the state that the plain run leaves.
-- Assumes nothing.
use Prim.Native.Nat.{ℕ, ◌-◌}
use mathlib.Core.Path.{◌≡◌, ◌∙◌, refl, sym, ap, subst, subst⁻¹}
use mathlib.Core.List.{List}
use mathlib.Core.Bool.{true, cond}
use mathlib.Core.Logic.{◌⊎◌}
use lib.Dec.{eqb}
use lib.ListN.{length}
use Rattle.chip.specs.declared.Machine.{Machine}
use Rattle.image.specs.Image.{machine_of, image_of}
use Rattle.fetch.specs.declared.Origin.TheVariants.{Rom}
use Rattle.fetch.specs.Fetch.{code_at}
use Rattle.step.specs.Step.{Out, moved, stopped}
use Rattle.steps.specs.Steps.{Run, steps_from, steps_over, step_by}
use Rattle.steps.proofs.Steps.{steps_moved, steps_stopped}
use Rattle.invariant.specs.Sound.{Sound, Bytes}
use Rattle.invariant.proofs.Images.{read_sound, image_back, image_read}
use Rattle.invariant.proofs.Stepping.{code_bytes, step_sound}
use Rattle.verdicts.specs.Verdicts.{Verdict, accepted, refused_as, rom_fits, plain_verdict}
use Rattle.calls.specs.Calls.{Called, answered, ran_to, ran_in, called_by, plain_call}
use Rattle.verdicts.proofs.Accepted.{rom_size, Fit, plain_accepted}
use Rattle.trainer.specs.Trainer.{trained_of, record_after, Trains, Held}
use Rattle.trainer.proofs.Held.{image_bytes}

module _ (rom : List ℕ) (m : Machine) (t g : List ℕ) (e : ℕ) where
  abbrev s : List ℕ
  s = image_of m

  -- the step's equation, by the verdict
  abbrev left : Called → Machine
  left w = cond (eqb w.answer.steps 0) m (machine_of w.state)

  judged : (v : Verdict) → plain_verdict rom s t g e ≡ v → let w = called_by v Rom rom s t g e 1 in Trains rom m t g e w.answer (left w) w.log
  unfolding record_after trained_of plain_call
  judged v h =
      subst (λ (x : Verdict). let w = called_by x Rom rom s t g e 1 in Trains rom m t g e w.answer (left w) w.log) h
      (record { answer = refl; machine = refl; log = refl })

  pub refused_step : (k p : ℕ) → plain_verdict rom s t g e ≡ refused_as k p → Trains rom m t g e (answered k 0 p e) m g
  unfolding called_by
  refused_step k p h = judged (refused_as k p) h

  -- the plain machine's one step, and the record after it: as it was where the machine stopped
  abbrev pub stepped : Machine → Run
  stepped x = steps_over (step_by Rom rom t) 1 x g e

  abbrev pub record_by : Run → Machine
  record_by p = cond (eqb p.steps 0) m p.state

  module _ (bytes : Bytes rom) (h : plain_verdict rom s t g e ≡ accepted) where
    fits : rom_fits (length rom) ≡ true
    fits = (plain_accepted rom s t g e h).0

    size : (length rom ≡ 2048) ⊎ (length rom ≡ 4096)
    size = rom_size (length rom) fits

    taken : Fit (length rom) s t g e
    taken = (plain_accepted rom s t g e h).1

    -- the machine after it is in its ranges again
    sound_by : (o : Out) → step_by Rom rom t (machine_of s) (length g - e) ≡ o → Sound (length rom) (machine_of s) →
        Sound (length rom) (stepped (machine_of s)).state
    unfolding steps_over steps_from
    sound_by (moved x w) q z =
        subst⁻¹ (λ (r : Run). Sound (length rom) r.state) (steps_moved (step_by Rom rom t) 0 (machine_of s) x g w e 0 q)
        (step_sound (code_at Rom rom) (length rom) t (machine_of s) (length g - e) x w taken.due size (code_bytes rom bytes) z
        taken.stands q).0
    sound_by (stopped k p) q z =
        subst⁻¹ (λ (r : Run). Sound (length rom) r.state) (steps_stopped (step_by Rom rom t) 0 (machine_of s) g e 0 k p q) z

    steps_by : Sound (length rom) (machine_of s) → let p = stepped (machine_of s) in Trains rom m t g e (ran_to p).answer (record_by p) p.log
    unfolding called_by ran_in
    steps_by z =
        let p = stepped (machine_of s) in
        subst (λ (x : Machine). Trains rom m t g e (ran_to p).answer (cond (eqb p.steps 0) m x) p.log)
        (image_back (length rom) p.state size (sound_by (step_by Rom rom t (machine_of s) (length g - e)) refl z))
        (judged accepted h)

    -- from any record: the step is that of the machine that its image holds
    pub image_step : Held m → let p = stepped (machine_of s) in Trains rom m t g e (ran_to p).answer (record_by p) p.log
    image_step z = steps_by (read_sound s (length rom) size taken.long (image_bytes m z) taken.fields)

    -- a stop leaves any record as it was
    pub stopped_step : Held m → (k p : ℕ) → step_by Rom rom t (machine_of s) (length g - e) ≡ stopped k p → Trains rom m t g e (answered k 0 p e) m g
    unfolding steps_over
    stopped_step z k p q =
        subst (λ (r : Run). Trains rom m t g e (ran_to r).answer (record_by r) r.log)
        (steps_stopped (step_by Rom rom t) 0 (machine_of s) g e 0 k p q) (image_step z)

    -- from a record whose fields are in their ranges
    own_state : (o : Out) → step_by Rom rom t m (length g - e) ≡ o → record_by (stepped m) ≡ (stepped m).state
    unfolding steps_over steps_from
    own_state (moved x w) q =
        subst⁻¹ (λ (r : Run). record_by r ≡ r.state) (steps_moved (step_by Rom rom t) 0 m x g w e 0 q) refl
    own_state (stopped k p) q =
        subst⁻¹ (λ (r : Run). record_by r ≡ r.state) (steps_stopped (step_by Rom rom t) 0 m g e 0 k p q) refl

    pub record_step : Sound (length rom) m → let p = stepped m in Trains rom m t g e (ran_to p).answer p.state p.log
    record_step z =
        let q : machine_of s ≡ m = image_back (length rom) m size z in
        subst (λ (x : Machine). Trains rom m t g e (ran_to (stepped m)).answer x (stepped m).log) (own_state (step_by Rom rom t m (length g - e)) refl)
        (subst (λ (x : Machine). let p = stepped x in Trains rom m t g e (ran_to p).answer (record_by p) p.log) q
        (steps_by (subst⁻¹ (Sound (length rom)) q z)))

    -- the record's image is that of the machine after the step
    image_after : Held m → (o : Out) → step_by Rom rom t (machine_of s) (length g - e) ≡ o →
        image_of (record_by (stepped (machine_of s))) ≡ image_of (stepped (machine_of s)).state
    unfolding steps_over steps_from
    image_after z (moved x w) q =
        subst⁻¹ (λ (r : Run). image_of (record_by r) ≡ image_of r.state) (steps_moved (step_by Rom rom t) 0 (machine_of s) x g w e 0 q) refl
    image_after z (stopped k p) q =
        subst⁻¹ (λ (r : Run). image_of (record_by r) ≡ image_of r.state) (steps_stopped (step_by Rom rom t) 0 (machine_of s) g e 0 k p q)
        (sym (image_read s (length rom) taken.long (image_bytes m z) taken.fields))

  -- the record's image is the state that the plain run leaves
  image_by : Bytes rom → Held m → (v : Verdict) → plain_verdict rom s t g e ≡ v →
      image_of (left (called_by v Rom rom s t g e 1)) ≡ (called_by v Rom rom s t g e 1).state
  unfolding called_by ran_in
  image_by b z accepted h =
      ap image_of ((judged accepted h).machine ∙ sym (image_step b h z).machine) ∙
      image_after b h z (step_by Rom rom t (machine_of s) (length g - e)) refl
  image_by b z (refused_as k p) h = refl

  pub same_image : Bytes rom → Held m → image_of (record_after rom m t g e) ≡ (plain_call rom s t g e 1).state
  unfolding record_after trained_of plain_call
  same_image b z = image_by b z (plain_verdict rom s t g e) refl
