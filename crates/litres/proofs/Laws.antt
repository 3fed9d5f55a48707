-- Laws of a log by its records: one more record in front, and an earlier clock before them; and what the call answers of a log that it takes.
-- Assumes nothing.
use Prim.Native.Nat.{ℕ, ◌%◌, ◌≤◌}
use native.Mathlib.Omega.{arith}
use mathlib.Core.Path.{◌≡◌, refl, ap}
use mathlib.Core.Bool.{Bool, true, false, cond, ◌&&◌}
use mathlib.Core.List.{List, [], ◌∷◌}
use borrow.Author.Tests.{eq-eqb, le-leb}
use lib.Dec.{leb}
use lib.ListN.{length}
use Rattle.numbers.specs.Numbers.{done, litres_refusal}
use Rattle.litres.specs.declared.log.Change.{Change}
use Rattle.litres.specs.Log.{record_size, first_of, changes_in, changes_of, is_sound, sound_from, is_log}
use Rattle.litres.specs.declared.Lines.{Lines}
use Rattle.litres.specs.Farms.{are_marks}
use Rattle.litres.specs.Lines.{counted_of, lines_of}
use Rattle.litres.proofs.Records.{both, changes_first, not_fallen}
use Rattle.litres.proofs.Answer.{by_marks, accepted}

-- whole records, sound ones, none before the clock `last`
abbrev pub LogFrom : ℕ → List ℕ → Type 0
LogFrom last log = (length log % record_size ≡ 0) × (sound_from last (changes_of log) ≡ true)

pub log_none : (last : ℕ) → LogFrom last []
unfolding changes_of changes_in sound_from
log_none last = (refl, refl)

-- the six bytes of a record in front of others
module _ (a b c d p v : ℕ) (log : List ℕ) where
  abbrev with_record : List ℕ
  with_record = a ∷ b ∷ c ∷ d ∷ p ∷ v ∷ log

  abbrev the_record : Change
  the_record = first_of (a ∷ b ∷ c ∷ d ∷ p ∷ v ∷ [])

  pub log_more : (last : ℕ) → last ≤ the_record.clock → is_sound the_record ≡ true → LogFrom the_record.clock log → LogFrom last with_record
  unfolding sound_from
  log_more last l s h =
      (omega (arith, h.0), rw (changes_first a b c d p v log) (simp (le-leb last the_record.clock l, s, h.1)))

-- an earlier clock
sound_earlier : (a b : ℕ) (cs : List Change) → a ≤ b → sound_from b cs ≡ true → sound_from a cs ≡ true
unfolding sound_from
sound_earlier a b [] l h = refl
sound_earlier a b (c ∷ cs) l h =
    let first = le-leb a c.clock (omega (arith, not_fallen b c cs h)) in
    simp (first, (both (leb b c.clock) (is_sound c && sound_from c.clock cs) h).1)

pub log_earlier : (a b : ℕ) (log : List ℕ) → a ≤ b → LogFrom b log → LogFrom a log
log_earlier a b log l h = (h.0, sound_earlier a b (changes_of log) l h.1)

pub log_is : (last : ℕ) (log : List ℕ) → LogFrom last log → is_log log ≡ true
unfolding is_log
log_is last log h =
    simp (eq-eqb (length log % record_size) 0 h.0, sound_earlier 0 last (changes_of log) (omega arith) h.1)

-- of a log that is taken, the marks alone decide between done and 16
pub marks_decide : (log marks : List ℕ) → is_log log ≡ true → (lines_of log marks).number ≡ cond (are_marks marks) done litres_refusal
unfolding counted_of
marks_decide log marks h = by (are_marks marks) refl
  where
    by : (b : Bool) → are_marks marks ≡ b → (lines_of log marks).number ≡ cond b done litres_refusal
    by true e = ap (λ (r : Lines). r.number) (accepted log marks e h)
    by false e = ap (λ (r : Lines). r.number) (by_marks log marks e)
