-- Table 5-15, CPU control instructions, binary code summary: the printed rows in the printed order, with the cycles of Table 5-9 without S.
-- REF is printed t7 to t0; paper 01 reads its byte as bits 7 to 4 of the even address, a 0, and its bits 3 to 1. VENTn is left out: it is no code of a running
-- program. SMB takes 0, 1 or 15. Table 5-9 misprints its bytes and cycles; its own page has 2 and 2.
-- Assumes nothing.
use Rattle.std.specs.Prelude.{List, [], ◌∷◌}
use Rattle.codes.specs.Cells.{O, I, byte, d, t, d0, d1, d2, d3, t1, t2, t3, t4, t5, t6, t7}
use Rattle.codes.specs.Row.{Row, any, only, one, two, banks, memc}
use Rattle.codes.specs.declared.Instr.TheVariants.{Scf, Rcf, Ccf, Ei, Di, Idle, Stop, Nop, Smb, Srb, Ref}

unfoldable pub cpu_control : List Row
cpu_control =
    one (λ o. Scf) 1 (byte I I I O O I I I) any ∷  -- SCF
    one (λ o. Rcf) 1 (byte I I I O O I I O) any ∷  -- RCF
    one (λ o. Ccf) 1 (byte I I O I O I I O) any ∷  -- CCF
    two (λ o. Ei) 2 (byte I I I I I I I I) (byte I O I I O O I O) any ∷  -- EI
    two (λ o. Di) 2 (byte I I I I I I I O) (byte I O I I O O I O) any ∷  -- DI
    two (λ o. Idle) 2 (byte I I I I I I I I) (byte I O I O O O I I) any ∷  -- IDLE
    two (λ o. Stop) 2 (byte I I I I I I I I) (byte I O I I O O I I) any ∷  -- STOP
    one (λ o. Nop) 1 (byte I O I O O O O O) any ∷  -- NOP
    two (λ o. Smb (o d)) 2 (byte I I O I I I O I) (byte O I O O d3 d2 d1 d0) (only d banks) ∷  -- SMB n
    two (λ o. Srb (o d)) 2 (byte I I O I I I O I) (byte O I O I O O d1 d0) any ∷  -- SRB n
    one (λ o. Ref (o t)) 3 (byte t7 t6 t5 t4 O t3 t2 t1) (only t memc) ∷  -- REF memc
    []
