-- Document 01, "The state", byte 644: the mode.
-- Assumes nothing.
use Rattle.std.specs.Prelude.{ℕ}

abbrev pub running : ℕ
running = 0

-- after IDLE and after STOP
abbrev pub idle : ℕ
idle = 1

abbrev pub stopped : ℕ
stopped = 2
