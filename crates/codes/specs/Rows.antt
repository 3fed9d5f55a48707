-- Chapter 5, "Binary Code Summary": the rows of Tables 5-15 to 5-20, as printed one after the other.
-- Assumes nothing.
use Rattle.std.specs.Prelude.{List, ◌++◌}
use Rattle.codes.specs.Row.{Row}
use Rattle.codes.specs.CpuControl.{cpu_control}
use Rattle.codes.specs.ProgramControl.{program_control}
use Rattle.codes.specs.Transfer.{transfer}
use Rattle.codes.specs.Logic.{logic}
use Rattle.codes.specs.Arithmetic.{arithmetic}
use Rattle.codes.specs.Bits.{bit_manipulation}

unfoldable pub rows : List Row
unfolding cpu_control program_control transfer logic arithmetic bit_manipulation
rows = cpu_control ++ (program_control ++ (transfer ++ (logic ++ (arithmetic ++ bit_manipulation))))
