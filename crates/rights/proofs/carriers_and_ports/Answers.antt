use lib.Dec.{leb}
use borrow.Author.Tests.{le-leb}
use Rattle.rights.specs.Access.{table_4_1}
use Rattle.rights.proofs.Listed.{no_rights}
use Rattle.rights.proofs.carriers_and_ports.Goals as goal

-- an address that the match does not name, from FC0H up, is in none of the table's rows
pub returns-in_default : goal.returns-in_default
unfolding table_4_1
returns-in_default c = no_rights (λ k. leb 0xFC0 k) c.args.a (le-leb _ _ c.requires) c.in_default.in_default-own.rest
