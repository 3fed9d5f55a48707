-- What a record's map says of it ("The trace" of document 01), for a record that the reader found: its low byte, the wait, the record's length.
-- Assumes nothing.
use Rattle.std.specs.Prelude.{ℕ, List, get_or}
use Rattle.record.specs.Record.{width, wait}
use Rattle.record.specs.declared.Shape.{Shape}

abbrev pub shape_of : List ℕ → Shape
shape_of s = record { low = get_or s 0 0; wait = wait s (get_or s 1 0); size = width (get_or s 0 0) (get_or s 1 0) }
