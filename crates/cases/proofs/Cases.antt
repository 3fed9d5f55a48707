-- The cases hold, each by computing.
-- Assumes nothing.
use Rattle.std.specs.Prelude.{refl}
use Rattle.rights.specs.Access.{location_at}
use Rattle.registers.specs.Addresses.{direct_of, hda_of, hl_of, indirect_of, memb_of}
use Rattle.chip.specs.Memory.{raw_of, read_bit_of, read_of, write_bit_of, write_of}
use Rattle.chip.specs.Ports.{latched_of, outputs_of, port_at, port_of}
use Rattle.registers.specs.Registers.{pair_of, register_at}
use Rattle.codes.specs.Decode.{decode}
use Rattle.cases.specs.Runs.{run_cases}
use Rattle.cases.specs.Cases.{Cases}

pub cases : Cases
unfolding decode direct_of latched_of hda_of hl_of indirect_of memb_of outputs_of pair_of port_at port_of raw_of read_bit_of read_of register_at location_at write_bit_of write_of
cases =
    record {
      vector_4096 = refl;
      vector_2048 = refl;
      vector_flags_lem = refl;
      memb_code = λ z. refl;
      memb_address = refl;
      memb_bit_lem = refl;
      memb_read = refl;
      hda_code = λ z. refl;
      hda_address = refl;
      hda_read = refl;
      hl_code = λ z. refl;
      hl_address = refl;
      hl_low = refl;
      hl_high = refl;
      direct_low = refl;
      direct_high = refl;
      direct_bank = refl;
      bank_erb = refl;
      bank_no_erb = refl;
      psw_low = refl;
      psw_high = refl;
      psw_read = refl;
      psw_read_four = refl;
      drop_nothing = refl;
      imod0_write = refl;
      imod0_read = refl;
      sp_even = refl;
      sp_write = refl;
      bit_absent = refl;
      bit_not_named = refl;
      bit_named = refl;
      p1_read = refl;
      p2_read = refl;
      p4_read = refl;
      p4_driven = refl;
      p1_write = refl;
      bank_2_read = refl;
      bank_2_write = refl;
      below_f80 = refl;
      not_listed = refl;
      runs = run_cases;
    }
