-- Document 002, chapter 5, the pages of CALL, CALLS, RET, SRET, PUSH and POP: their examples as whole steps, with the manual's numbers. PUSH SB and
-- POP SB have no printed example, and go by their operation notation.
-- Assumes nothing.
use Rattle.std.specs.Prelude.{ℕ, ◌≡◌, refl, List, [], ◌∷◌}
use Rattle.chip.specs.declared.Cpu.{Cpu}
use Rattle.chip.specs.State.{at}
use Rattle.chip.specs.Scalars.{with_smb, with_srb}
use Rattle.chip.specs.Ports.{latched_of}
use Rattle.timers.specs.Rates.{rate_in}
use Rattle.timers.specs.Taps.{tap_of}
use Rattle.timers.specs.Clock.{clocked, clock_of, clocks_of}
use Rattle.timers.specs.Clears.{cleared_of}
use Rattle.timers.specs.Registers.{stored_in, timers_in}
use Rattle.codes.specs.Decode.{decode, info_of}
use Rattle.fetch.specs.Fetch.{code_at}
use Rattle.pending.specs.Pending.{served_of}
use Rattle.events.specs.Records.{records_of}
use Rattle.control.specs.Control.{call_to, return_of, return_from}
use Rattle.effects.specs.Effects.{applied_to}
use Rattle.stack.specs.Stack.{push_pair, push_sb, pop_pair, pop_sb}
use Rattle.portlog.specs.Log.{change_of, changes_of, logged}
use Rattle.registers.specs.Registers.{register_at}
use Rattle.rules.specs.Rules.{action_of, enters_now, rules_of}
use Rattle.step.specs.Step.{step_of}
use Rattle.steps.specs.Steps.{Run, steps_from, steps_over}
use Rattle.cases.specs.Runs.{ran, ran_on, zeros}
use Rattle.cases.specs.Setting.{burnt, cpu, hl_is, laid, psw, rom_of, run, sp}

-- before a call: SP 00H, and IS0, EMB and C set
abbrev calling : List ℕ
calling = psw 0b0110 0b1000 zeros

-- after it: the return address 012xH, and EMB and ERB, from 0FAH on
abbrev called : ℕ → List ℕ
called x = sp 0xFA (laid calling 0xFA (1 ∷ 0 ∷ x ∷ 2 ∷ 0b0010 ∷ 0 ∷ []))

-- before a return: SP 0FAH, 1H, 0H, 5H and 2H from there on and EMB and ERB above them; IS0 and C set
abbrev returning : List ℕ
returning = sp 0xFA (psw 0b0100 0b1000 (laid zeros 0xFA (1 ∷ 0 ∷ 5 ∷ 2 ∷ 0b0011 ∷ 0 ∷ [])))

-- after it: SP 00H, EMB and ERB taken, IS0 and C kept
abbrev returned : List ℕ
returned = sp 0x00 (psw 0b0111 0b1000 returning)

-- CALL PLAY
abbrev call_play : List ℕ
call_play = 0xDB ∷ 0x4E ∷ 0x3F ∷ []

-- SRET to 0125H, where a code stands
abbrev sret : List ℕ → Run
sret code = run (burnt (rom_of 0x0345 (0xE5 ∷ [])) 0x0125 code) 1 returning (cpu 0x0345 0)

-- two nibbles on top of the stack, and the scalars with SMB and SRB
abbrev banks : ℕ → ℕ → List ℕ
banks low high = laid zeros 0xFE (low ∷ high ∷ [])

abbrev banked : ℕ → ℕ → Cpu → Cpu
banked smb srb c = with_srb (with_smb c smb) srb

pub record StackExamples : Type 0 where
  -- CALL PLAY at 0123H, PLAY at 0E3FH: 0FAH to 0FFH, SP 0FAH, PC 0E3FH, 4 cycles
  pub call : run (rom_of 0x0123 call_play) 1 calling (cpu 0x0123 0) ≡ ran_on 1 (at (called 6) (cpu 0x0E3F 4))
  -- CALLS PLAY at 0123H, PLAY at 0345H: 5H in 0FCH, PC 0345H, 3 cycles; at 0923H the same, as PC11 is not kept
  pub calls : run (rom_of 0x0123 (0xEB ∷ 0x45 ∷ [])) 1 calling (cpu 0x0123 0) ≡ ran_on 1 (at (called 5) (cpu 0x0345 3))
  pub calls_pc11 : run (rom_of 0x0923 (0xEB ∷ 0x45 ∷ [])) 1 calling (cpu 0x0923 0) ≡ ran_on 1 (at (called 5) (cpu 0x0345 3))
  -- RET: SP 00H, PC 0125H, 3 cycles
  pub ret : run (rom_of 0x0345 (0xC5 ∷ [])) 1 returning (cpu 0x0345 0) ≡ ran_on 1 (at returned (cpu 0x0125 3))
  -- SRET: the same, and the code at 0125H is skipped, as its description says: NOP, REF and CALLS with 1 cycle, CALL with 2
  pub sret_nop : sret (0xA0 ∷ []) ≡ ran_on 1 (at returned (cpu 0x0126 4))
  pub sret_ref : sret (0x20 ∷ []) ≡ ran_on 1 (at returned (cpu 0x0126 4))
  pub sret_calls : sret (0xEB ∷ 0x45 ∷ []) ≡ ran_on 1 (at returned (cpu 0x0127 4))
  pub sret_call : sret call_play ≡ ran_on 1 (at returned (cpu 0x0128 5))
  -- CALL PLAY and RET there: back behind the CALL, with SP and the status word as they were
  pub call_ret : run (burnt (rom_of 0x0123 call_play) 0x0E3F (0xC5 ∷ [])) 2 calling (cpu 0x0123 0) ≡ ran_on 2 (at (sp 0x00 (called 6)) (cpu 0x0126 7))
  -- PUSH HL, SP 0FAH and HL 20H: SP 0F8H, 2H in 0F9H and 0H in 0F8H
  pub push_hl : ran 1 (0x2B ∷ []) (sp 0xFA (hl_is 0 2)) ≡ ran_on 1 (at (sp 0xF8 (laid (hl_is 0 2) 0xF8 (0 ∷ 2 ∷ []))) (cpu 0x0101 1))
  -- POP HL with 4H and 3H on the stack: HL 34H, SP up by 2. The manual's SP, 0EDH, is odd, which no SP is: it is 0EEH here.
  pub pop_hl : ran 1 (0x2A ∷ []) (sp 0xEE (laid zeros 0xEE (4 ∷ 3 ∷ []))) ≡ ran_on 1 (at (sp 0xF0 (laid (hl_is 4 3) 0xEE (4 ∷ 3 ∷ []))) (cpu 0x0101 1))
  -- PUSH SB: SMB in SP-1, SRB in SP-2, 2 cycles; POP SB takes them from there, SRB modulo 4
  pub push_sb_lem : run (rom_of 0x0100 (0xDD ∷ 0x67 ∷ [])) 1 zeros (banked 15 2 (cpu 0x0100 0)) ≡ ran_on 1 (at (sp 0xFE (banks 2 15)) (banked 15 2 (cpu 0x0102 2)))
  pub pop_sb_lem : ran 1 (0xDD ∷ 0x66 ∷ []) (sp 0xFE (banks 6 15)) ≡ ran_on 1 (at (sp 0x00 (banks 6 15)) (banked 15 2 (cpu 0x0102 2)))

pub stack_examples : StackExamples
unfolding action_of applied_to call_to change_of changes_of cleared_of clocked clock_of clocks_of code_at decode enters_now info_of latched_of logged pop_pair pop_sb push_pair push_sb rate_in records_of register_at return_from return_of rules_of served_of step_of steps_from steps_over stored_in tap_of timers_in
stack_examples =
    record {
      call = refl;
      calls = refl;
      calls_pc11 = refl;
      ret = refl;
      sret_nop = refl;
      sret_ref = refl;
      sret_calls = refl;
      sret_call = refl;
      call_ret = refl;
      push_hl = refl;
      pop_hl = refl;
      push_sb_lem = refl;
      pop_sb_lem = refl;
    }
