-- Table 5-20, bit manipulation instructions, binary code summary: the printed rows in the printed order, with the cycles of Table 5-14 without S.
-- mema.b has a row for each line of the footnote: FB0H to FBFH, FF0H to FFFH. The b2 of the LDB rows is read as 0.
-- Assumes nothing.
use Rattle.std.specs.Prelude.{◌+◌, List, [], ◌∷◌}
use Rattle.codes.specs.Cells.{O, I, byte, a, b, a0, a1, a2, a3, a4, a5, a6, a7, b0, b1}
use Rattle.codes.specs.Row.{Row, any, one, two}
use Rattle.codes.specs.declared.Instr.TheVariants.{BtstC, Btst, Btsf, Btstz, Bits, Bitr, Band, Bor, Bxor, LdbFromC, LdbToC}
use Rattle.codes.specs.declared.Place.TheVariants.{Da, Mema, Memb, Hda}

unfoldable pub bit_manipulation : List Row
bit_manipulation =
    one (λ o. BtstC) 1 (byte I I O I O I I I) any ∷  -- BTST C
    two (λ o. Btst (Da (o a) (o b))) 2 (byte I I b1 b0 O O I I) (byte a7 a6 a5 a4 a3 a2 a1 a0) any ∷  -- BTST DA.b
    two (λ o. Btst (Mema (0xB0 + o a) (o b))) 2 (byte I I I I I O O I) (byte I O b1 b0 a3 a2 a1 a0) any ∷  -- BTST mema.b, FB0H-FBFH
    two (λ o. Btst (Mema (0xF0 + o a) (o b))) 2 (byte I I I I I O O I) (byte I I b1 b0 a3 a2 a1 a0) any ∷  -- BTST mema.b, FF0H-FFFH
    two (λ o. Btst (Memb (o a))) 2 (byte I I I I I O O I) (byte O I O O a5 a4 a3 a2) any ∷  -- BTST memb.@L
    two (λ o. Btst (Hda (o a) (o b))) 2 (byte I I I I I O O I) (byte O O b1 b0 a3 a2 a1 a0) any ∷  -- BTST @H+DA.b
    two (λ o. Btsf (Da (o a) (o b))) 2 (byte I I b1 b0 O O I O) (byte a7 a6 a5 a4 a3 a2 a1 a0) any ∷  -- BTSF DA.b
    two (λ o. Btsf (Mema (0xB0 + o a) (o b))) 2 (byte I I I I I O O O) (byte I O b1 b0 a3 a2 a1 a0) any ∷  -- BTSF mema.b, FB0H-FBFH
    two (λ o. Btsf (Mema (0xF0 + o a) (o b))) 2 (byte I I I I I O O O) (byte I I b1 b0 a3 a2 a1 a0) any ∷  -- BTSF mema.b, FF0H-FFFH
    two (λ o. Btsf (Memb (o a))) 2 (byte I I I I I O O O) (byte O I O O a5 a4 a3 a2) any ∷  -- BTSF memb.@L
    two (λ o. Btsf (Hda (o a) (o b))) 2 (byte I I I I I O O O) (byte O O b1 b0 a3 a2 a1 a0) any ∷  -- BTSF @H+DA.b
    two (λ o. Btstz (Mema (0xB0 + o a) (o b))) 2 (byte I I I I I I O I) (byte I O b1 b0 a3 a2 a1 a0) any ∷  -- BTSTZ mema.b, FB0H-FBFH
    two (λ o. Btstz (Mema (0xF0 + o a) (o b))) 2 (byte I I I I I I O I) (byte I I b1 b0 a3 a2 a1 a0) any ∷  -- BTSTZ mema.b, FF0H-FFFH
    two (λ o. Btstz (Memb (o a))) 2 (byte I I I I I I O I) (byte O I O O a5 a4 a3 a2) any ∷  -- BTSTZ memb.@L
    two (λ o. Btstz (Hda (o a) (o b))) 2 (byte I I I I I I O I) (byte O O b1 b0 a3 a2 a1 a0) any ∷  -- BTSTZ @H+DA.b
    two (λ o. Bits (Da (o a) (o b))) 2 (byte I I b1 b0 O O O I) (byte a7 a6 a5 a4 a3 a2 a1 a0) any ∷  -- BITS DA.b
    two (λ o. Bits (Mema (0xB0 + o a) (o b))) 2 (byte I I I I I I I I) (byte I O b1 b0 a3 a2 a1 a0) any ∷  -- BITS mema.b, FB0H-FBFH
    two (λ o. Bits (Mema (0xF0 + o a) (o b))) 2 (byte I I I I I I I I) (byte I I b1 b0 a3 a2 a1 a0) any ∷  -- BITS mema.b, FF0H-FFFH
    two (λ o. Bits (Memb (o a))) 2 (byte I I I I I I I I) (byte O I O O a5 a4 a3 a2) any ∷  -- BITS memb.@L
    two (λ o. Bits (Hda (o a) (o b))) 2 (byte I I I I I I I I) (byte O O b1 b0 a3 a2 a1 a0) any ∷  -- BITS @H+DA.b
    two (λ o. Bitr (Da (o a) (o b))) 2 (byte I I b1 b0 O O O O) (byte a7 a6 a5 a4 a3 a2 a1 a0) any ∷  -- BITR DA.b
    two (λ o. Bitr (Mema (0xB0 + o a) (o b))) 2 (byte I I I I I I I O) (byte I O b1 b0 a3 a2 a1 a0) any ∷  -- BITR mema.b, FB0H-FBFH
    two (λ o. Bitr (Mema (0xF0 + o a) (o b))) 2 (byte I I I I I I I O) (byte I I b1 b0 a3 a2 a1 a0) any ∷  -- BITR mema.b, FF0H-FFFH
    two (λ o. Bitr (Memb (o a))) 2 (byte I I I I I I I O) (byte O I O O a5 a4 a3 a2) any ∷  -- BITR memb.@L
    two (λ o. Bitr (Hda (o a) (o b))) 2 (byte I I I I I I I O) (byte O O b1 b0 a3 a2 a1 a0) any ∷  -- BITR @H+DA.b
    two (λ o. Band (Mema (0xB0 + o a) (o b))) 2 (byte I I I I O I O I) (byte I O b1 b0 a3 a2 a1 a0) any ∷  -- BAND C,mema.b, FB0H-FBFH
    two (λ o. Band (Mema (0xF0 + o a) (o b))) 2 (byte I I I I O I O I) (byte I I b1 b0 a3 a2 a1 a0) any ∷  -- BAND C,mema.b, FF0H-FFFH
    two (λ o. Band (Memb (o a))) 2 (byte I I I I O I O I) (byte O I O O a5 a4 a3 a2) any ∷  -- BAND C,memb.@L
    two (λ o. Band (Hda (o a) (o b))) 2 (byte I I I I O I O I) (byte O O b1 b0 a3 a2 a1 a0) any ∷  -- BAND C,@H+DA.b
    two (λ o. Bor (Mema (0xB0 + o a) (o b))) 2 (byte I I I I O I I O) (byte I O b1 b0 a3 a2 a1 a0) any ∷  -- BOR C,mema.b, FB0H-FBFH
    two (λ o. Bor (Mema (0xF0 + o a) (o b))) 2 (byte I I I I O I I O) (byte I I b1 b0 a3 a2 a1 a0) any ∷  -- BOR C,mema.b, FF0H-FFFH
    two (λ o. Bor (Memb (o a))) 2 (byte I I I I O I I O) (byte O I O O a5 a4 a3 a2) any ∷  -- BOR C,memb.@L
    two (λ o. Bor (Hda (o a) (o b))) 2 (byte I I I I O I I O) (byte O O b1 b0 a3 a2 a1 a0) any ∷  -- BOR C,@H+DA.b
    two (λ o. Bxor (Mema (0xB0 + o a) (o b))) 2 (byte I I I I O I I I) (byte I O b1 b0 a3 a2 a1 a0) any ∷  -- BXOR C,mema.b, FB0H-FBFH
    two (λ o. Bxor (Mema (0xF0 + o a) (o b))) 2 (byte I I I I O I I I) (byte I I b1 b0 a3 a2 a1 a0) any ∷  -- BXOR C,mema.b, FF0H-FFFH
    two (λ o. Bxor (Memb (o a))) 2 (byte I I I I O I I I) (byte O I O O a5 a4 a3 a2) any ∷  -- BXOR C,memb.@L
    two (λ o. Bxor (Hda (o a) (o b))) 2 (byte I I I I O I I I) (byte O O b1 b0 a3 a2 a1 a0) any ∷  -- BXOR C,@H+DA.b
    two (λ o. LdbFromC (Mema (0xB0 + o a) (o b))) 2 (byte I I I I I I O O) (byte I O b1 b0 a3 a2 a1 a0) any ∷  -- LDB mema.b,C, FB0H-FBFH
    two (λ o. LdbFromC (Mema (0xF0 + o a) (o b))) 2 (byte I I I I I I O O) (byte I I b1 b0 a3 a2 a1 a0) any ∷  -- LDB mema.b,C, FF0H-FFFH
    two (λ o. LdbFromC (Memb (o a))) 2 (byte I I I I I I O O) (byte O I O O a5 a4 a3 a2) any ∷  -- LDB memb.@L,C
    two (λ o. LdbFromC (Hda (o a) (o b))) 2 (byte I I I I I I O O) (byte O O b1 b0 a3 a2 a1 a0) any ∷  -- LDB @H+DA.b,C
    two (λ o. LdbToC (Mema (0xB0 + o a) (o b))) 2 (byte I I I I O I O O) (byte I O b1 b0 a3 a2 a1 a0) any ∷  -- LDB C,mema.b, FB0H-FBFH
    two (λ o. LdbToC (Mema (0xF0 + o a) (o b))) 2 (byte I I I I O I O O) (byte I I b1 b0 a3 a2 a1 a0) any ∷  -- LDB C,mema.b, FF0H-FFFH
    two (λ o. LdbToC (Memb (o a))) 2 (byte I I I I O I O O) (byte O I O O a5 a4 a3 a2) any ∷  -- LDB C,memb.@L
    two (λ o. LdbToC (Hda (o a) (o b))) 2 (byte I I I I O I O O) (byte O O b1 b0 a3 a2 a1 a0) any ∷  -- LDB C,@H+DA.b
    []
