use lib.Dec.{ltb}
use borrow.Author.Tests.{lt-ltb}
use Rattle.rights.specs.Access.{table_4_1}
use Rattle.rights.proofs.Listed.{no_rights}
use Rattle.rights.proofs.timers_and_interrupts.Goals as goal

-- an address that the match does not name, below FC0H, is in none of the table's rows
pub returns-in_default : goal.returns-in_default
unfolding table_4_1
returns-in_default c = no_rights (λ k. ltb k 0xFC0) c.args.a (lt-ltb _ _ c.requires) c.in_default.in_default-own.rest
