-- Document 01, "Calls": "for the trainer's window, a single step on a machine record that the window lends and finds changed, answering as the
-- plain run does for budget 1". The record stands for its image of 666 bytes. A call that makes no step, refused or stopped, leaves the record
-- as it is, bits that no image keeps included.
-- Assumes nothing.
use Rattle.std.specs.Prelude.{ℕ, ◌<◌, ◌≡◌, cond, List, eqb, length}
use Rattle.chip.specs.declared.Machine.{Machine}
use Rattle.chip.specs.State.{nibbles}
use Rattle.image.specs.Image.{image_of, machine_of}
use Rattle.invariant.specs.Sound.{Bytes}
use Rattle.calls.specs.declared.Answer.{Answer}
use Rattle.calls.specs.Calls.{Called, plain_call}

-- the call: the plain run for budget 1 on the record's image
unfoldable pub trained_of : List ℕ → Machine → List ℕ → List ℕ → ℕ → Called
trained_of rom m t g e = plain_call rom (image_of m) t g e 1

-- the record after a call: as it was where no step was made, else the machine of the state that the call left
unfoldable pub record_after : List ℕ → Machine → List ℕ → List ℕ → ℕ → Machine
unfolding trained_of
record_after rom m t g e = let w = trained_of rom m t g e in cond (eqb w.answer.steps 0) m (machine_of w.state)

-- the equation of the step: its answer, and the record and the log that it leaves
pub record Trains (rom : List ℕ) (m : Machine) (t g : List ℕ) (e : ℕ) (r : Answer) (m' : Machine) (g' : List ℕ) : Type 0 where
  pub answer : r ≡ (trained_of rom m t g e).answer
  pub machine : m' ≡ record_after rom m t g e
  pub log : g' ≡ (trained_of rom m t g e).log

-- what any record that a window can lend has: each field fits its type, in its range or not
pub record Held (m : Machine) : Type 0 where
  pub long : length m.mem ≡ nibbles
  pub mem : Bytes m.mem
  pub pc : m.cpu.pc < 65536
  pub smb : m.cpu.smb < 256
  pub srb : m.cpu.srb < 256
  pub mode : m.cpu.mode < 256
  pub effect : m.cpu.effect < 256
  pub release : m.cpu.release < 256
  pub pins : m.cpu.pins < 4294967296
  pub clock : m.cpu.clock < 4294967296
  pub cursor : m.cpu.cursor < 4294967296
  pub timing : m.cpu.timing.basic < 65536
  pub hold : m.cpu.timing.hold < 65536
