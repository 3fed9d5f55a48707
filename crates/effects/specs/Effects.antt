-- What an instruction does, as an effect: the next address, up to four writes computed from the state before it, whether it skips, and the
-- effect that it carries on (document 01, "Carried effect"). A call's or an interrupt's push (document 01, "A push for a call or an
-- interrupt lowers SP by 6") is an effect of its own kind, with up to two writes after it. The writes stand in one number, which loses none of
-- them (`packed_applied`, proofs/Packing.antt). `applied_to` is the memory after an effect.
-- Assumes nothing.
use Rattle.std.specs.Prelude.{ℕ, ◌+◌, ◌*◌, ◌%◌, ◌/◌, ◌^◌, Bool, true, false, cond, List, [], ◌∷◌, get_or, set, eqb}
use Rattle.chip.specs.declared.Cpu.{Cpu}
use Rattle.chip.specs.declared.Machine.{Machine}
use Rattle.chip.specs.Memory.{put_of}
use Rattle.registers.specs.Registers.{sp_of, stack_at, sp_low, sp_high}
use Rattle.effects.specs.declared.Effect.{Effect}

-- no write: the list of writes ends here
abbrev pub none : ℕ
none = 0xFFFF

-- four numbers of 16 bits as one, and part k of it
abbrev pub four_of : ℕ → ℕ → ℕ → ℕ → ℕ
four_of w0 w1 w2 w3 = w0 + 65536 * w1 + 4294967296 * w2 + 281474976710656 * w3

abbrev pub part_of : ℕ → ℕ → ℕ
part_of x k = x / 2 ^ (16 * k) % 65536

-- a list of up to four writes as one number
abbrev pub packed : List ℕ → ℕ
packed ws = four_of (get_or ws 0 none) (get_or ws 1 none) (get_or ws 2 none) (get_or ws 3 none)

-- the kinds of an effect
abbrev pub writes_kind : ℕ
writes_kind = 0

abbrev pub push_kind : ℕ
push_kind = 1

-- what is skipped: nothing, the next code, the next code if it is ADS A,#im
abbrev pub no_skip : ℕ
no_skip = 0

abbrev pub skip_next : ℕ
skip_next = 1

abbrev pub skip_ads : ℕ
skip_ads = 2

-- the writes ws
abbrev pub doing : Cpu → ℕ → ℕ → ℕ → List ℕ → Effect
doing c next skip carried ws =
    record {
      writes = packed ws;
      next = next;
      skip = skip;
      carried = carried;
      kind = writes_kind;
      smb = c.smb;
      srb = c.srb;
      mode = c.mode;
    }

-- and nothing else
abbrev pub writes : Machine → ℕ → List ℕ → Effect
writes m next ws = doing m.cpu next no_skip 0 ws

-- new bank selections and mode
abbrev pub selecting : ℕ → ℕ → ℕ → ℕ → List ℕ → Effect
selecting next smb srb mode ws =
    record {
      writes = packed ws;
      next = next;
      skip = no_skip;
      carried = 0;
      kind = writes_kind;
      smb = smb;
      srb = srb;
      mode = mode;
    }

-- the push of a return address and of FB0H and FB1H, the low and the high nibble of psw, and the writes ws after it
abbrev pub pushing : Cpu → ℕ → ℕ → ℕ → List ℕ → Effect
pushing c next back psw ws =
    record {
      writes = packed (back ∷ psw ∷ ws);
      next = next;
      skip = no_skip;
      carried = 0;
      kind = push_kind;
      smb = c.smb;
      srb = c.srb;
      mode = c.mode;
    }

-- what stands before the end mark
abbrev pub up_to_end : List ℕ → List ℕ
up_to_end [] = []
up_to_end (x ∷ xs) = cond (eqb x none) [] (x ∷ up_to_end xs)

-- an effect's writes, of a push those after it
abbrev pub writes_of : Effect → List ℕ
writes_of e =
    let later = part_of e.writes 2 ∷ part_of e.writes 3 ∷ [] in
    cond (eqb e.kind push_kind) (up_to_end later) (up_to_end (part_of e.writes 0 ∷ part_of e.writes 1 ∷ later))

-- whether one of a list of writes goes to the nibble i
abbrev pub writes_in : ℕ → List ℕ → Bool
writes_in i [] = false
writes_in i (x ∷ xs) = cond (eqb (x / 16) i) true (writes_in i xs)

-- the nibbles after a list of writes, in turn
abbrev pub puts_of : List ℕ → List ℕ → List ℕ
puts_of l [] = l
puts_of l (x ∷ xs) = puts_of (put_of l x) xs

abbrev pub three_of : List ℕ → ℕ → ℕ → ℕ → ℕ → List ℕ
three_of l s x y z = set (set (set l (stack_at s 0) (x % 16)) (stack_at s 1) (y % 16)) (stack_at s 2) (z % 16)

-- from the new stack pointer s on: PC11-8, PC13-12, PC3-0, PC7-4, FB0H, FB1H
abbrev pub pushed_at : List ℕ → ℕ → ℕ → ℕ → List ℕ
pushed_at l s back psw =
    put_of (put_of (three_of (three_of l s (back / 256) (back / 4096 % 4) back) (s + 3) (back / 16) psw (psw / 16)) (sp_low s)) (sp_high s)

-- SP falls by 6 modulo 256
unfoldable pub pushed_of : List ℕ → ℕ → ℕ → List ℕ
pushed_of l back psw = pushed_at l ((sp_of l + 250) % 256) back psw

-- the push, if the effect is one, and then the writes
unfoldable pub applied_to : List ℕ → Effect → List ℕ
unfolding pushed_of
applied_to l e = puts_of (cond (eqb e.kind push_kind) (pushed_of l (part_of e.writes 0) (part_of e.writes 1)) l) (writes_of e)
