-- Table 5-16, program control instructions, binary code summary: the printed rows in the printed order, with the cycles of Table 5-10 without S.
-- JR #im is printed in the footnote, a line for each direction; a is 1 to 15.
-- Assumes nothing.
use Rattle.std.specs.Prelude.{List, [], ◌∷◌}
use Rattle.codes.specs.Cells.{O, I, byte, a, d, r, a0, a1, a2, a3, a4, a5, a6, a7, a8, a9, a10, a11, a12, a13, d0, d1, d2, d3, r0, r1, r2}
use Rattle.codes.specs.Registers.{R, RR}
use Rattle.codes.specs.Row.{Row, any, only, one, two, three, far}
use Rattle.codes.specs.declared.Instr.TheVariants.{CpseRIm, CpseHlIm, CpseAR, CpseAHl, CpseEaHl, CpseEaRr, Jp, Jps, JrForward, JrBack, JrWx, JrEa, Call, Calls, Ret, Iret, Sret}

unfoldable pub program_control : List Row
program_control =
    two (λ o. CpseRIm (o r) (o d)) 2 (byte I I O I I O O I) (byte d3 d2 d1 d0 O r2 r1 r0) (only r R) ∷  -- CPSE R,#im
    two (λ o. CpseHlIm (o d)) 2 (byte I I O I I I O I) (byte O I I I d3 d2 d1 d0) any ∷  -- CPSE @HL,#im
    two (λ o. CpseAR (o r)) 2 (byte I I O I I I O I) (byte O I I O I r2 r1 r0) (only r R) ∷  -- CPSE A,R
    one (λ o. CpseAHl) 1 (byte O O I I I O O O) any ∷  -- CPSE A,@HL
    two (λ o. CpseEaHl) 2 (byte I I O I I I O O) (byte O O O O I O O I) any ∷  -- CPSE EA,@HL
    two (λ o. CpseEaRr (o r)) 2 (byte I I O I I I O O) (byte I I I O I r2 r1 O) (only r RR) ∷  -- CPSE EA,RR
    three (λ o. Jp (o a)) 3 (byte I I O I I O I I) (byte O O a13 a12 a11 a10 a9 a8) (byte a7 a6 a5 a4 a3 a2 a1 a0) any ∷  -- JP ADR14
    two (λ o. Jps (o a)) 2 (byte I O O I a11 a10 a9 a8) (byte a7 a6 a5 a4 a3 a2 a1 a0) any ∷  -- JPS ADR12
    one (λ o. JrForward (o a)) 2 (byte O O O I a3 a2 a1 a0) (only a far) ∷  -- JR #im, PC+2 to PC+16
    one (λ o. JrBack (o a)) 2 (byte O O O O a3 a2 a1 a0) (only a far) ∷  -- JR #im, PC-1 to PC-15
    two (λ o. JrWx) 3 (byte I I O I I I O I) (byte O I I O O I O O) any ∷  -- JR @WX
    two (λ o. JrEa) 3 (byte I I O I I I O I) (byte O I I O O O O O) any ∷  -- JR @EA
    three (λ o. Call (o a)) 4 (byte I I O I I O I I) (byte O I a13 a12 a11 a10 a9 a8) (byte a7 a6 a5 a4 a3 a2 a1 a0) any ∷  -- CALL ADR14
    two (λ o. Calls (o a)) 3 (byte I I I O I a10 a9 a8) (byte a7 a6 a5 a4 a3 a2 a1 a0) any ∷  -- CALLS ADR11
    one (λ o. Ret) 3 (byte I I O O O I O I) any ∷  -- RET
    one (λ o. Iret) 3 (byte I I O I O I O I) any ∷  -- IRET
    one (λ o. Sret) 3 (byte I I I O O I O I) any ∷  -- SRET
    []
