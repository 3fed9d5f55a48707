-- Table 5-19, arithmetic instructions, binary code summary: the printed rows in the printed order, with the cycles of Table 5-13 without S.
-- Assumes nothing.
use Rattle.std.specs.Prelude.{List, [], ◌∷◌}
use Rattle.codes.specs.Cells.{O, I, byte, a, d, r, a0, a1, a2, a3, a4, a5, a6, a7, d0, d1, d2, d3, d4, d5, d6, d7, r0, r1, r2}
use Rattle.codes.specs.Registers.{R, RR, RRb}
use Rattle.codes.specs.Row.{Row, any, only, one, two}
use Rattle.codes.specs.declared.Instr.TheVariants.{AdcAHl, AdcEaRr, AdcRrbEa, AdsAIm, AdsEaImm, AdsAHl, AdsEaRr, AdsRrbEa, SbcAHl, SbcEaRr, SbcRrbEa, SbsAHl, SbsEaRr, SbsRrbEa, DecsR, DecsRr, IncsR, IncsDa, IncsHl, IncsRrb}

unfoldable pub arithmetic : List Row
arithmetic =
    one (λ o. AdcAHl) 1 (byte O O I I I I I O) any ∷  -- ADC A,@HL
    two (λ o. AdcEaRr (o r)) 2 (byte I I O I I I O O) (byte I O I O I r2 r1 O) (only r RR) ∷  -- ADC EA,RR
    two (λ o. AdcRrbEa (o r)) 2 (byte I I O I I I O O) (byte I O I O O r2 r1 O) (only r RRb) ∷  -- ADC RRb,EA
    one (λ o. AdsAIm (o d)) 1 (byte I O I O d3 d2 d1 d0) any ∷  -- ADS A,#im
    two (λ o. AdsEaImm (o d)) 2 (byte I I O O I O O I) (byte d7 d6 d5 d4 d3 d2 d1 d0) any ∷  -- ADS EA,#imm
    one (λ o. AdsAHl) 1 (byte O O I I I I I I) any ∷  -- ADS A,@HL
    two (λ o. AdsEaRr (o r)) 2 (byte I I O I I I O O) (byte I O O I I r2 r1 O) (only r RR) ∷  -- ADS EA,RR
    two (λ o. AdsRrbEa (o r)) 2 (byte I I O I I I O O) (byte I O O I O r2 r1 O) (only r RRb) ∷  -- ADS RRb,EA
    one (λ o. SbcAHl) 1 (byte O O I I I I O O) any ∷  -- SBC A,@HL
    two (λ o. SbcEaRr (o r)) 2 (byte I I O I I I O O) (byte I I O O I r2 r1 O) (only r RR) ∷  -- SBC EA,RR
    two (λ o. SbcRrbEa (o r)) 2 (byte I I O I I I O O) (byte I I O O O r2 r1 O) (only r RRb) ∷  -- SBC RRb,EA
    one (λ o. SbsAHl) 1 (byte O O I I I I O I) any ∷  -- SBS A,@HL
    two (λ o. SbsEaRr (o r)) 2 (byte I I O I I I O O) (byte I O I I I r2 r1 O) (only r RR) ∷  -- SBS EA,RR
    two (λ o. SbsRrbEa (o r)) 2 (byte I I O I I I O O) (byte I O I I O r2 r1 O) (only r RRb) ∷  -- SBS RRb,EA
    one (λ o. DecsR (o r)) 1 (byte O I O O I r2 r1 r0) (only r R) ∷  -- DECS R
    two (λ o. DecsRr (o r)) 2 (byte I I O I I I O O) (byte I I O I I r2 r1 O) (only r RR) ∷  -- DECS RR
    one (λ o. IncsR (o r)) 1 (byte O I O I I r2 r1 r0) (only r R) ∷  -- INCS R
    two (λ o. IncsDa (o a)) 2 (byte I I O O I O I O) (byte a7 a6 a5 a4 a3 a2 a1 a0) any ∷  -- INCS DA
    two (λ o. IncsHl) 2 (byte I I O I I I O I) (byte O I I O O O I O) any ∷  -- INCS @HL
    one (λ o. IncsRrb (o r)) 1 (byte I O O O O r2 r1 O) (only r RRb) ∷  -- INCS RRb
    []
