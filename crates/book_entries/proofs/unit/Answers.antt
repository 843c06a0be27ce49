-- One power for each size.
use mathlib.Core.Path.{◌≡◌}
use native.Mathlib.Omega.{arith}
use Rattle.book_entries.proofs.unit.Goals as goal

pub returns-in_default : goal.returns-in_default
returns-in_default c = let e : c.args.size ≡ 8 = omega arith in rw e
