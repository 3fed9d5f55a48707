-- Document 01, "Calls": the numbers that a call answers: 0 done, 1 to 8 the refusals, in the order in which they are tested, and 9 to 12 the
-- stops. Document 02 goes on: 13 (No. 3), a refusal of the calls that write a form to an output buffer; 14 and 15 (No. 5), refusals of the call for
-- several heads, tested before 1; 16 (No. 6), a refusal of the call that counts litres; 17 and 18 (No. 7), stops "in 9's place".
-- Assumes nothing.
use Rattle.std.specs.Prelude.{ℕ, ◌≤◌, ◌⊎◌}

abbrev pub done : ℕ
done = 0

-- the ROM's length; the table's; the state's; a field of the state; a table that is not the ROM's; the trace; the cursor; the log's start
abbrev pub rom_refusal : ℕ
rom_refusal = 1

abbrev pub table_refusal : ℕ
table_refusal = 2

abbrev pub image_refusal : ℕ
image_refusal = 3

abbrev pub field_refusal : ℕ
field_refusal = 4

abbrev pub stale_refusal : ℕ
stale_refusal = 5

abbrev pub trace_refusal : ℕ
trace_refusal = 6

abbrev pub cursor_refusal : ℕ
cursor_refusal = 7

abbrev pub log_refusal : ℕ
log_refusal = 8

-- an undefined code, run or skipped, that is of no kind of its own; a REF that names what it may not; the clock would pass its last value; the step's log bytes do not fit
abbrev pub code_stop : ℕ
code_stop = 9

abbrev pub reference_stop : ℕ
reference_stop = 10

abbrev pub clock_stop : ℕ
clock_stop = 11

abbrev pub full_stop : ℕ
full_stop = 12

-- an output buffer that is shorter than the form to be written
abbrev pub short_refusal : ℕ
short_refusal = 13

-- a count of heads, a list or the sum of the traces' lengths that does not fit; a turn of no steps
abbrev pub heads_refusal : ℕ
heads_refusal = 14

abbrev pub turn_refusal : ℕ
turn_refusal = 15

-- marks or a log that a count of litres does not take
abbrev pub litres_refusal : ℕ
litres_refusal = 16

-- an undefined code, run or skipped, where only a register of Table 5-7 is outside its letter; where only an SMB or SRB number is outside its set
abbrev pub register_stop : ℕ
register_stop = 17

abbrev pub bank_stop : ℕ
bank_stop = 18

-- the stops: 9 to 12, 17 and 18
abbrev pub Stop : ℕ → Type 0
Stop k = ((code_stop ≤ k) × (k ≤ full_stop)) ⊎ ((register_stop ≤ k) × (k ≤ bank_stop))
