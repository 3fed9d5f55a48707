-- A form written to an output buffer, by document 02, No. 3 (No. 12 and No. 14 say it of theirs): it is written "from the output buffer's start, the rest of it
-- kept", and its length is answered; 13 is refused, after what the call refuses before it, "when the output buffer is shorter"; "a refusal writes nothing and
-- gives length 0". `number` and `address` are those of a refusal that comes before 13, 0 where there is none. Assumes nothing.
use Rattle.std.specs.Prelude.{ℕ, cond, List, ◌++◌, eqb, ltb, length, drop}
use Rattle.numbers.specs.Numbers.{done, short_refusal}
use Rattle.written.specs.declared.Written.{Written}

abbrev pub refusal : ℕ → ℕ → Written
refusal number address = record { number = number; address = address; length = 0 }

abbrev pub wrote : ℕ → Written
wrote n = record { number = done; address = 0; length = n }

-- the answer, and the output buffer after the call
unfoldable pub answer_of : ℕ → ℕ → List ℕ → List ℕ → Written
answer_of number address form out =
    cond (eqb number done) (cond (ltb (length out) (length form)) (refusal short_refusal 0) (wrote (length form))) (refusal number address)

unfoldable pub buffer_of : ℕ → List ℕ → List ℕ → List ℕ
buffer_of number form out = cond (eqb number done) (cond (ltb (length out) (length form)) out (form ++ drop (length form) out)) out
