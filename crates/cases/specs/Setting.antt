-- What the manual's examples start from: a ROM with codes at addresses, data memory with values at addresses, and steps from there.
-- Assumes nothing.
use Rattle.std.specs.Prelude.{ℕ, suc, ◌%◌, ◌/◌, List, [], ◌∷◌, set, replicate}
use Rattle.chip.specs.declared.Cpu.{Cpu}
use Rattle.chip.specs.State.{at, rom0504}
use Rattle.fetch.specs.declared.Origin.TheVariants.{Rom}
use Rattle.steps.specs.Steps.{Run, step_by, steps_over}
use Rattle.cases.specs.Runs.{holding, standing, zeros}

-- a ROM with bytes from a code address on, and a ROM of the KS57C0504 that is 0 elsewhere
abbrev pub burnt : List ℕ → ℕ → List ℕ → List ℕ
burnt rom p [] = rom
burnt rom p (b ∷ bs) = burnt (set rom p b) (suc p) bs

abbrev pub rom_of : ℕ → List ℕ → List ℕ
rom_of p code = burnt (replicate rom0504 0) p code

-- the nibbles with values from a data address on
abbrev pub laid : List ℕ → ℕ → List ℕ → List ℕ
laid l a [] = l
laid l a (v ∷ vs) = laid (holding l a v) (suc a) vs

-- the nibbles with a stack pointer, and with FB0H (IS1 IS0 EMB ERB) and FB1H (C SC2 SC1 SC0)
abbrev pub sp : ℕ → List ℕ → List ℕ
sp s l = laid l 0xF80 (s % 16 ∷ s / 16 ∷ [])

abbrev pub psw : ℕ → ℕ → List ℕ → List ℕ
psw low high l = laid l 0xFB0 (low ∷ high ∷ [])

-- HL, L first, with the other nibbles 0
abbrev pub hl_is : ℕ → ℕ → List ℕ
hl_is l h = laid zeros 2 (l ∷ h ∷ [])

-- the nibbles after a push of the return address 010xH from SP 00H, with EMB and ERB 0
abbrev pub return_to : ℕ → List ℕ → List ℕ
return_to x l = sp 0xFA (laid l 0xFA (1 ∷ 0 ∷ x ∷ 0 ∷ 0 ∷ 0 ∷ []))

-- n steps of the machine with nibbles l and scalars c, with a trace, and with none; a log of no bytes
abbrev pub traced : List ℕ → List ℕ → ℕ → List ℕ → Cpu → Run
traced t rom n l c = steps_over (step_by Rom rom t) n (at l c) [] 0

abbrev pub run : List ℕ → ℕ → List ℕ → Cpu → Run
run rom n l c = traced [] rom n l c

-- the scalars at an address and a clock, the others 0
abbrev pub cpu : ℕ → ℕ → Cpu
cpu pc clock = standing pc 0 0 clock
