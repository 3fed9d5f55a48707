-- Worked cases of Clock.antt, by computing it clock by clock.
-- Assumes nothing.
use Rattle.std.specs.Prelude.{ℕ, ◌≡◌, refl, true, false}
use Rattle.timers.specs.declared.Timers.{Timers}
use Rattle.timers.specs.declared.Passed.TheVariants.{On, Reset}
use Rattle.timers.specs.Taps.{table_11_2, tap_of}
use Rattle.timers.specs.Clock.{clocked, clock_of, clocks_of, quiet_of}
use Rattle.timers.specs.Clears.{cleared_of}

-- BMOD, BCNT, IRQB, the phase and the watchdog's count, with the watchdog on
abbrev case : ℕ → ℕ → ℕ → ℕ → ℕ → Timers
case bmod bcnt irqb phase count = record { bmod = bmod; bcnt = bcnt; watched = true; irqb = irqb; phase = phase; count = count }

-- fx/2^5 counts with the 32nd clock after a reset, and no sooner
not_yet : clocks_of 31 (case 7 0 0 0 0) ≡ On (case 7 0 0 31 0)
unfolding clocks_of clock_of clocked tap_of table_11_2
not_yet = refl

first_count : clocks_of 32 (case 7 0 0 0 0) ≡ On (case 7 1 0 32 0)
unfolding clocks_of clock_of clocked tap_of table_11_2
first_count = refl

-- fx/2^12: the divider's own wrap
longest : clocks_of 1 (case 0 9 0 4095 0) ≡ On (case 0 10 0 0 0)
unfolding clocks_of clock_of clocked tap_of table_11_2
longest = refl

-- an overflow: IRQB, and the watchdog's count
interval : clocks_of 2 (case 7 255 0 30 6) ≡ On (case 7 0 1 32 7)
unfolding clocks_of clock_of clocked tap_of table_11_2
interval = refl

-- the eighth: a reset, and the 62 clocks still to pass are dropped
watchdog : clocks_of 64 (case 7 255 0 30 7) ≡ Reset (case 7 0 1 32 0)
unfolding clocks_of clock_of clocked tap_of table_11_2
watchdog = refl

-- WDMOD 5AH: an overflow counts nothing, and so there is no eighth
unwatched : clocks_of 2 (record { bmod = 7; bcnt = 255; watched = false; irqb = 0; phase = 30; count = 7 }) ≡ On (record { bmod = 7; bcnt = 0; watched = false; irqb = 1; phase = 32; count = 7 })
unfolding clocks_of clock_of clocked tap_of table_11_2
unwatched = refl

-- an overflow is no quiet clock
quiet_one : quiet_of 1 (case 7 255 0 30 0) ≡ true
unfolding quiet_of clocked tap_of table_11_2
quiet_one = refl

not_two : quiet_of 2 (case 7 255 0 30 0) ≡ false
unfolding quiet_of clocked tap_of table_11_2
not_two = refl

-- BMOD 0FH: BCNT, IRQB and BMOD.3 are cleared, the phase and the watchdog's count stay; WDTCF clears the count
restart : cleared_of true false (case 15 200 1 30 6) ≡ case 7 0 0 30 6
unfolding cleared_of
restart = refl

clear : cleared_of false true (case 15 200 1 30 6) ≡ case 15 200 1 30 0
unfolding cleared_of
clear = refl
