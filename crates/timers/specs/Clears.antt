-- Document 02, No. 1, and chapter 11: what a step does to the basic timer and its watchdog before its oscillator clocks pass. Table 11-2: "Start basic timer; clear IRQB,
-- BCNT, and BMOD.3 to 0", where a 1 is written to BMOD.3; "WDTCF(F9AH.3) setting clear the WDT's counter to zero"; "Reset, stop, and wait signal clear the
-- WDCNT": STOP does, when it runs. When a step does so, `timed_of` says (elapse, Elapsed.antt).
-- Assumes nothing.
use Rattle.std.specs.Prelude.{◌%◌, Bool, cond}
use Rattle.timers.specs.declared.Timers.{Timers}

-- BMOD.3: the phase and the watchdog's count stay
abbrev pub restarted : Timers → Timers
restarted t = record { bmod = t.bmod % 8; bcnt = 0; watched = t.watched; irqb = 0; phase = t.phase; count = t.count }

-- WDTCF, STOP
abbrev pub uncounted : Timers → Timers
uncounted t = record { bmod = t.bmod; bcnt = t.bcnt; watched = t.watched; irqb = t.irqb; phase = t.phase; count = 0 }

unfoldable pub cleared_of : Bool → Bool → Timers → Timers
cleared_of restart clear t = let s = cond restart (restarted t) t in cond clear (uncounted s) s
