-- Table 5-17, data transfer instructions, binary code summary: the printed rows in the printed order, with the cycles of Table 5-11 without S.
-- Assumes nothing.
use Rattle.std.specs.Prelude.{List, [], ◌∷◌}
use Rattle.codes.specs.Cells.{O, I, byte, a, d, i, r, a0, a1, a2, a3, a4, a5, a6, a7, d0, d1, d2, d3, d4, d5, d6, d7, i0, i1, i2, r0, r1, r2}
use Rattle.codes.specs.Registers.{Ra, RR, RRa, RRb}
use Rattle.codes.specs.Row.{Row, any, only, one, two}
use Rattle.codes.specs.declared.Instr.TheVariants.{XchADa, XchARa, XchARra, XchEaDa, XchEaRrb, XchEaHl, Xchi, Xchd, LdAIm, LdARra, LdADa, LdARa, LdRaIm, LdRrImm, LdDaA, LdRaA, LdEaHl, LdEaDa, LdEaRrb, LdHlA, LdDaEa, LdRrbEa, LdHlEa, Ldi, Ldd, LdcWx, LdcEa, Rrc, PushRr, PushSb, PopRr, PopSb}

unfoldable pub transfer : List Row
transfer =
    two (λ o. XchADa (o a)) 2 (byte O I I I I O O I) (byte a7 a6 a5 a4 a3 a2 a1 a0) any ∷  -- XCH A,DA
    one (λ o. XchARa (o r)) 1 (byte O I I O I r2 r1 r0) (only r Ra) ∷  -- XCH A,Ra
    one (λ o. XchARra (o i)) 1 (byte O I I I I i2 i1 i0) (only i RRa) ∷  -- XCH A,@RRa
    two (λ o. XchEaDa (o a)) 2 (byte I I O O I I I I) (byte a7 a6 a5 a4 a3 a2 a1 a0) any ∷  -- XCH EA,DA
    two (λ o. XchEaRrb (o r)) 2 (byte I I O I I I O O) (byte I I I O O r2 r1 O) (only r RRb) ∷  -- XCH EA,RRb
    two (λ o. XchEaHl) 2 (byte I I O I I I O O) (byte O O O O O O O I) any ∷  -- XCH EA,@HL
    one (λ o. Xchi) 2 (byte O I I I I O I O) any ∷  -- XCHI A,@HL
    one (λ o. Xchd) 2 (byte O I I I I O I I) any ∷  -- XCHD A,@HL
    one (λ o. LdAIm (o d)) 1 (byte I O I I d3 d2 d1 d0) any ∷  -- LD A,#im
    one (λ o. LdARra (o i)) 1 (byte I O O O I i2 i1 i0) (only i RRa) ∷  -- LD A,@RRa
    two (λ o. LdADa (o a)) 2 (byte I O O O I I O O) (byte a7 a6 a5 a4 a3 a2 a1 a0) any ∷  -- LD A,DA
    two (λ o. LdARa (o r)) 2 (byte I I O I I I O I) (byte O O O O I r2 r1 r0) (only r Ra) ∷  -- LD A,Ra
    two (λ o. LdRaIm (o r) (o d)) 2 (byte I I O I I O O I) (byte d3 d2 d1 d0 I r2 r1 r0) (only r Ra) ∷  -- LD Ra,#im
    two (λ o. LdRrImm (o r) (o d)) 2 (byte I O O O O r2 r1 I) (byte d7 d6 d5 d4 d3 d2 d1 d0) (only r RR) ∷  -- LD RR,#imm
    two (λ o. LdDaA (o a)) 2 (byte I O O O I O O I) (byte a7 a6 a5 a4 a3 a2 a1 a0) any ∷  -- LD DA,A
    two (λ o. LdRaA (o r)) 2 (byte I I O I I I O I) (byte O O O O O r2 r1 r0) (only r Ra) ∷  -- LD Ra,A
    two (λ o. LdEaHl) 2 (byte I I O I I I O O) (byte O O O O I O O O) any ∷  -- LD EA,@HL
    two (λ o. LdEaDa (o a)) 2 (byte I I O O I I I O) (byte a7 a6 a5 a4 a3 a2 a1 a0) any ∷  -- LD EA,DA
    two (λ o. LdEaRrb (o r)) 2 (byte I I O I I I O O) (byte I I I I I r2 r1 O) (only r RRb) ∷  -- LD EA,RRb
    one (λ o. LdHlA) 1 (byte I I O O O I O O) any ∷  -- LD @HL,A
    two (λ o. LdDaEa (o a)) 2 (byte I I O O I I O I) (byte a7 a6 a5 a4 a3 a2 a1 a0) any ∷  -- LD DA,EA
    two (λ o. LdRrbEa (o r)) 2 (byte I I O I I I O O) (byte I I I I O r2 r1 O) (only r RRb) ∷  -- LD RRb,EA
    two (λ o. LdHlEa) 2 (byte I I O I I I O O) (byte O O O O O O O O) any ∷  -- LD @HL,EA
    one (λ o. Ldi) 2 (byte I O O O I O I O) any ∷  -- LDI A,@HL
    one (λ o. Ldd) 2 (byte I O O O I O I I) any ∷  -- LDD A,@HL
    one (λ o. LdcWx) 3 (byte I I O O I I O O) any ∷  -- LDC EA,@WX
    one (λ o. LdcEa) 3 (byte I I O O I O O O) any ∷  -- LDC EA,@EA
    one (λ o. Rrc) 1 (byte I O O O I O O O) any ∷  -- RRC A
    one (λ o. PushRr (o r)) 1 (byte O O I O I r2 r1 I) (only r RR) ∷  -- PUSH RR
    two (λ o. PushSb) 2 (byte I I O I I I O I) (byte O I I O O I I I) any ∷  -- PUSH SB
    one (λ o. PopRr (o r)) 1 (byte O O I O I r2 r1 O) (only r RR) ∷  -- POP RR
    two (λ o. PopSb) 2 (byte I I O I I I O I) (byte O I I O O I I O) any ∷  -- POP SB
    []
