-- The measure is the number of bits left.
use Rattle.std.proofs.Common.{◌-◌}
use Rattle.length_determinants.proofs.+count.Given as goal

abbrev pub decreases-count : goal.decreases-count
decreases-count l = l.c.end - l.c.at
