-- How far a scan of the trace has come: past one record more, and what the scan says when it has come as far as it can ("The trace" and "Calls", numbers 6 and 7,
-- of document 01). Assumes nothing.
use Rattle.std.specs.Prelude.{ℕ, ◌+◌, Bool, cond, eqb, Option, Some, None, Result, Err, Ok}
use Rattle.record.specs.declared.Record.{Record}
use Rattle.trace.specs.declared.Fault.{Fault}
use Rattle.trace.specs.declared.Fault.TheVariants.{Malformed, Astray}
use Rattle.trace.specs.declared.pass.Pass.{Pass}
use Rattle.trace.specs.Trace.{never}

-- past the record r of n bytes, the next one
abbrev pub past_of : ℕ → Pass → Record → ℕ → Pass
past_of cursor p r n = record {
  at = p.at + n;
  passed = p.passed + r.wait;
  met = cond (eqb p.at cursor) (Some (p.passed + r.wait)) p.met;
}

-- the due time at the cursor, by the record passed that starts there, if one does, and by whether the cursor is the trace's end
abbrev pub due_of : Option ℕ → Bool → Result ℕ Fault
due_of (Some due) ended = Ok due
due_of None ended = cond ended (Ok never) (Err Astray)

-- what a scan says of a trace of `end` bytes, once no record is left to read
unfoldable pub concluded_of : ℕ → ℕ → Pass → Result ℕ Fault
concluded_of end cursor p = cond (eqb p.at end) (due_of p.met (eqb cursor end)) (Err (Malformed p.at))
