use Rattle.std.proofs.Common.{arith}
use Rattle.arguments.proofs.ArgumentLaws.{of_byte, nothing, no_reader_lem}
use Rattle.arguments.proofs.read_argument.Goals as goal

pub returns-in-0 : goal.returns-in-0
returns-in-0 c = of_byte c.in-0.is nothing

pub returns-in_default : goal.returns-in_default
returns-in_default c = no_reader_lem (omega arith) c.stop.ensures
