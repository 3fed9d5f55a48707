-- Worked cases of document 02, No. 6 over document 01's log: what two steps log in turn is taken, and a litre in it counted; in the wrong order, or cut, it isn't.
-- Assumes nothing.
use Rattle.std.specs.Prelude.{ℕ, ◌≡◌, refl, true, false, cond, List, [], ◌∷◌, ◌++◌, eqb, take}
use Rattle.litres.specs.Log.{changes_in, changes_of, is_sound, sound_from, is_log}
use Rattle.litres.specs.Farms.{litres_from, litres_in}
use Rattle.portlog.specs.Log as portlog
use Rattle.portlog.specs.Log.{logged}

-- P0 drives 1 and P4 drives 5 from clock 70,000 on, and nothing from the last clock on
abbrev driven : ℕ → ℕ
driven p = cond (eqb p 0) 1 (cond (eqb p 4) 5 0)

abbrev early : List ℕ
early = logged 70000 (λ p. 0) driven

abbrev late : List ℕ
late = logged 4294967295 driven (λ p. 0)

early_bytes : early ≡ 112 ∷ 17 ∷ 1 ∷ 0 ∷ 0 ∷ 1 ∷ 112 ∷ 17 ∷ 1 ∷ 0 ∷ 4 ∷ 5 ∷ []
unfolding logged portlog.changes_of portlog.change_of
early_bytes = refl

in_turn : is_log (early ++ late) ≡ true
unfolding logged portlog.changes_of portlog.change_of is_log sound_from is_sound changes_of changes_in
in_turn = refl

counted : litres_in (early ++ late) ≡ 70000 ∷ []
unfolding logged portlog.changes_of portlog.change_of changes_of changes_in litres_from litres_in
counted = refl

clock_falls : is_log (late ++ early) ≡ false
unfolding logged portlog.changes_of portlog.change_of is_log sound_from is_sound changes_of changes_in
clock_falls = refl

record_cut : is_log (take 11 early) ≡ false
unfolding logged portlog.changes_of portlog.change_of is_log sound_from is_sound changes_of changes_in
record_cut = refl
