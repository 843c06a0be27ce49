-- `per::room::holds` meets its contract: the octets that `end` bits take are counted by a quotient.
use Rattle.std.proofs.Common.{◌*◌, length, arith, leb-false, leb-true}
use Rattle.per.proofs.Laws.{leb_tells}
use Rattle.per.proofs.room.holds.Goals as goal

pub returns : goal.returns
returns c = leb_tells _ c.args.end (length c.args.s.now * 8) (λ t. omega (arith, leb-true)) (λ t. omega (arith, leb-false))
