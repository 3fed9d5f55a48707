-- The seven fields of a record ("The trace" of document 01) as a struct, and as a function of the port's number.
-- Assumes nothing.
use Rattle.std.specs.Prelude.{ℕ, ◌<◌, [], ◌∷◌, get_or}
use Rattle.record.specs.declared.fields.Fields.{Fields}

abbrev pub fields_of : (ℕ → ℕ) → Fields
fields_of f = record { p0 = f 0; p1 = f 1; p2 = f 2; p3 = f 3; p4 = f 4; p5 = f 5; p6 = f 6 }

abbrev pub port_of : Fields → ℕ → ℕ
port_of f k = get_or (f.p0 ∷ f.p1 ∷ f.p2 ∷ f.p3 ∷ f.p4 ∷ f.p5 ∷ f.p6 ∷ []) k 0

-- each field is a nibble
pub record Nibbles (f : ℕ → ℕ) : Type 0 where
  pub n0 : f 0 < 16
  pub n1 : f 1 < 16
  pub n2 : f 2 < 16
  pub n3 : f 3 < 16
  pub n4 : f 4 < 16
  pub n5 : f 5 < 16
  pub n6 : f 6 < 16
