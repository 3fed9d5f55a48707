-- Table 5-18, logic instructions, binary code summary: the printed rows in the printed order, with the cycles of Table 5-12 without S.
-- Assumes nothing.
use Rattle.std.specs.Prelude.{List, [], ◌∷◌}
use Rattle.codes.specs.Cells.{O, I, byte, d, r, d0, d1, d2, d3, r1, r2}
use Rattle.codes.specs.Registers.{RR, RRb}
use Rattle.codes.specs.Row.{Row, any, only, one, two}
use Rattle.codes.specs.declared.Instr.TheVariants.{AndAIm, AndAHl, AndEaRr, AndRrbEa, OrAIm, OrAHl, OrEaRr, OrRrbEa, XorAIm, XorAHl, XorEaRr, XorRrbEa, Com}

unfoldable pub logic : List Row
logic =
    two (λ o. AndAIm (o d)) 2 (byte I I O I I I O I) (byte O O O I d3 d2 d1 d0) any ∷  -- AND A,#im
    one (λ o. AndAHl) 1 (byte O O I I I O O I) any ∷  -- AND A,@HL
    two (λ o. AndEaRr (o r)) 2 (byte I I O I I I O O) (byte O O O I I r2 r1 O) (only r RR) ∷  -- AND EA,RR
    two (λ o. AndRrbEa (o r)) 2 (byte I I O I I I O O) (byte O O O I O r2 r1 O) (only r RRb) ∷  -- AND RRb,EA
    two (λ o. OrAIm (o d)) 2 (byte I I O I I I O I) (byte O O I O d3 d2 d1 d0) any ∷  -- OR A,#im
    one (λ o. OrAHl) 1 (byte O O I I I O I O) any ∷  -- OR A,@HL
    two (λ o. OrEaRr (o r)) 2 (byte I I O I I I O O) (byte O O I O I r2 r1 O) (only r RR) ∷  -- OR EA,RR
    two (λ o. OrRrbEa (o r)) 2 (byte I I O I I I O O) (byte O O I O O r2 r1 O) (only r RRb) ∷  -- OR RRb,EA
    two (λ o. XorAIm (o d)) 2 (byte I I O I I I O I) (byte O O I I d3 d2 d1 d0) any ∷  -- XOR A,#im
    one (λ o. XorAHl) 1 (byte O O I I I O I I) any ∷  -- XOR A,@HL
    two (λ o. XorEaRr (o r)) 2 (byte I I O I I I O O) (byte O O I I I r2 r1 O) (only r RR) ∷  -- XOR EA,RR
    two (λ o. XorRrbEa (o r)) 2 (byte I I O I I I O O) (byte O O I I O r2 r1 O) (only r RRb) ∷  -- XOR RRb,EA
    two (λ o. Com) 2 (byte I I O I I I O I) (byte O O I I I I I I) any ∷  -- COM A
    []
