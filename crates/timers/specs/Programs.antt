-- Chapter 11, "Watchdog Timer": a program has to clear the watchdog's count in time. What a program is to the timers: turns, each of which clears the
-- count or doesn't (WDTCF), and then takes some oscillator clocks. BMOD stays.
-- Assumes nothing.
use Rattle.std.specs.Prelude.{ℕ, ◌+◌, Bool, true, false, cond, not, ◌&&◌, List, [], ◌∷◌, leb}
use Rattle.timers.specs.declared.Timers.{Timers}
use Rattle.timers.specs.declared.Passed.{Passed}
use Rattle.timers.specs.declared.Passed.TheVariants.{On}
use Rattle.timers.specs.Clock.{and_then, clocks_of}
use Rattle.timers.specs.Clears.{cleared_of}

pub record Turn : Type 0 where
  pub clears : Bool
  pub clocks : ℕ

-- what a program's turns come to: its clears, clocks after clears, up to a reset
unfoldable pub played_of : List Turn → Timers → Passed
played_of [] t = On t
played_of (x ∷ xs) t = and_then (clocks_of x.clocks (cleared_of false x.clears t)) (played_of xs)

-- the clocks of all turns, and whether none of them clears
unfoldable pub clocks_in : List Turn → ℕ
clocks_in [] = 0
clocks_in (x ∷ xs) = x.clocks + clocks_in xs

unfoldable pub unattended : List Turn → Bool
unattended [] = true
unattended (x ∷ xs) = not x.clears && unattended xs

-- whether from each clear to the next, and after the last, at most b clocks pass; r have passed since the last clear
unfoldable pub attended : ℕ → ℕ → List Turn → Bool
attended b r [] = true
attended b r (x ∷ xs) = let s = cond x.clears 0 r + x.clocks in leb s b && attended b s xs
