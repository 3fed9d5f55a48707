-- Laws of a log's records: the first of a log, the log behind it, and where a test fails. Assumes nothing.
use Prim.Native.Nat.{ℕ, suc, ◌/◌, ◌%◌, ◌≤◌, ◌<◌}
use native.Mathlib.Omega.{arith}
use mathlib.Core.Path.{◌≡◌, refl, sym, ◌∙◌, ap}
use mathlib.Core.Bool.{Bool, true, false, false≢true, ◌&&◌, and-false}
use mathlib.Core.List.{List, [], ◌∷◌, ◌++◌}
use borrow.Author.Tests.{lt-leb, le-leb, leb-true, eqb-true}
use lib.Dec.{eqb, leb}
use lib.ListN.{length}
use Rattle.litres.specs.declared.log.Change.{Change}
use Rattle.litres.specs.Log.{record_size, first_of, changes_in, changes_of, is_sound, sound_from, is_log}

-- the six bytes of a record in front of others
pub changes_first : (a b c d p v : ℕ) (rest : List ℕ) →
    changes_of (a ∷ b ∷ c ∷ d ∷ p ∷ v ∷ rest) ≡ first_of (a ∷ b ∷ c ∷ d ∷ p ∷ v ∷ []) ∷ changes_of rest
unfolding changes_of changes_in
changes_first a b c d p v rest =
    let more : length (a ∷ b ∷ c ∷ d ∷ p ∷ v ∷ rest) / record_size ≡ suc (length rest / record_size) = omega arith in
    ap (λ (n : ℕ). changes_in n (a ∷ b ∷ c ∷ d ∷ p ∷ v ∷ rest)) more

changes_next : (front rest : List ℕ) → length front ≡ record_size → changes_of (front ++ rest) ≡ first_of front ∷ changes_of rest
changes_next [] rest h = absurd (omega arith)
changes_next (a ∷ []) rest h = absurd (omega arith)
changes_next (a ∷ b ∷ []) rest h = absurd (omega arith)
changes_next (a ∷ b ∷ c ∷ []) rest h = absurd (omega arith)
changes_next (a ∷ b ∷ c ∷ d ∷ []) rest h = absurd (omega arith)
changes_next (a ∷ b ∷ c ∷ d ∷ p ∷ []) rest h = absurd (omega arith)
changes_next (a ∷ b ∷ c ∷ d ∷ p ∷ v ∷ []) rest h = changes_first a b c d p v rest
changes_next (a ∷ b ∷ c ∷ d ∷ p ∷ v ∷ x ∷ xs) rest h = absurd (omega arith)

-- a log whose first record is c
pub changes_met : (log front rest : List ℕ) (c : Change) → log ≡ front ++ rest → length front ≡ record_size → c ≡ first_of front →
    changes_of log ≡ c ∷ changes_of rest
changes_met log front rest c e l f = ap changes_of e ∙ changes_next front rest l ∙ ap (λ (x : Change). x ∷ changes_of rest) (sym f)

pub changes_end : (log : List ℕ) → length log < record_size → changes_of log ≡ []
unfolding changes_of changes_in
changes_end log h =
    let none : length log / record_size ≡ 0 = omega arith in
    rw none

-- the whole is a log where its records are sound, and they are whole
pub log_by : (log : List ℕ) → length log % record_size ≡ 0 → is_log log ≡ sound_from 0 (changes_of log)
unfolding is_log
log_by log h = rw h

-- one record further; a clock that falls; a record that isn't sound; the end
sound_by : (last : ℕ) (c : Change) (cs : List Change) → last ≤ c.clock → is_sound c ≡ true → sound_from last (c ∷ cs) ≡ sound_from c.clock cs
unfolding sound_from
sound_by last c cs l s = simp (le-leb _ _ l, s)

falls_by : (last : ℕ) (c : Change) (cs : List Change) → c.clock < last → sound_from last (c ∷ cs) ≡ false
unfolding sound_from
falls_by last c cs l = simp (lt-leb _ _ l)

fails_by : (last : ℕ) (c : Change) (cs : List Change) → is_sound c ≡ false → sound_from last (c ∷ cs) ≡ false
unfolding sound_from
fails_by last c cs s = simp (s, and-false)

pub sound_more : (last : ℕ) (log rest : List ℕ) (c : Change) → changes_of log ≡ c ∷ changes_of rest → last ≤ c.clock → is_sound c ≡ true →
    sound_from last (changes_of log) ≡ sound_from c.clock (changes_of rest)
sound_more last log rest c e l s = ap (sound_from last) e ∙ sound_by last c (changes_of rest) l s

pub sound_falls : (last : ℕ) (log rest : List ℕ) (c : Change) → changes_of log ≡ c ∷ changes_of rest → c.clock < last → sound_from last (changes_of log) ≡ false
sound_falls last log rest c e l = ap (sound_from last) e ∙ falls_by last c (changes_of rest) l

pub sound_fails : (last : ℕ) (log rest : List ℕ) (c : Change) → changes_of log ≡ c ∷ changes_of rest → is_sound c ≡ false →
    sound_from last (changes_of log) ≡ false
sound_fails last log rest c e s = ap (sound_from last) e ∙ fails_by last c (changes_of rest) s

pub sound_end : (last : ℕ) (log : List ℕ) → length log < record_size → sound_from last (changes_of log) ≡ true
unfolding sound_from
sound_end last log h = rw (changes_end log h)

-- sound records: the first is not before, and the rest are sound behind it
pub both : (a b : Bool) → a && b ≡ true → (a ≡ true) × (b ≡ true)
both true true h = (refl, refl)
both true false h = absurd (false≢true h)
both false b h = absurd (false≢true h)

pub not_fallen : (last : ℕ) (c : Change) (cs : List Change) → sound_from last (c ∷ cs) ≡ true → last ≤ c.clock
unfolding sound_from
not_fallen last c cs h = leb-true _ _ (both _ _ h).0

pub sound_rest : (last : ℕ) (c : Change) (cs : List Change) → sound_from last (c ∷ cs) ≡ true → sound_from c.clock cs ≡ true
unfolding sound_from
sound_rest last c cs h = (both (is_sound c) (sound_from c.clock cs) (both (leb last c.clock) (is_sound c && sound_from c.clock cs) h).1).1

-- a log's records are sound and whole
pub log_sound : (log : List ℕ) → is_log log ≡ true → sound_from 0 (changes_of log) ≡ true
unfolding is_log
log_sound log h = (both (eqb (length log % record_size) 0) (sound_from 0 (changes_of log)) h).1

pub log_whole : (log : List ℕ) → is_log log ≡ true → length log % record_size ≡ 0
unfolding is_log
log_whole log h = eqb-true _ _ (both (eqb (length log % record_size) 0) (sound_from 0 (changes_of log)) h).0
