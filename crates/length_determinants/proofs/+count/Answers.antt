-- The last length ends the sum; a fragment's is followed by the sum of the rest.
use Rattle.std.proofs.Common.{refl}
use Rattle.length_determinants.proofs.LengthLaws.{told_last, told_part, sums_last, sums_part}
use Rattle.length_determinants.proofs.+count.Goals as goal

pub returns-in-Last : goal.returns-in-Last
returns-in-Last t c = let p = c.requires in sums_last p.1 p.0 p.2 (told_last refl c.in-Last.ensures)

pub returns-in-Part : goal.returns-in-Part
returns-in-Part t c = sums_part c.requires.1 (told_part refl c.in-Part.ensures) c.count.ensures
