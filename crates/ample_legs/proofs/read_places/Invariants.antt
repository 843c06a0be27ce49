-- `read_places` meets its contract: what is left of the places makes all of them.
use lib.ListN.{length}
use Rattle.ample_bits.specs.Ahead.{Ahead}
use Rattle.ample_legs.proofs.PlacesLaws.{Rest, Stands}
use Rattle.ample_legs.proofs.read_places.Given as goal

abbrev pub invariant-loop-x : goal.invariant-loop-x
invariant-loop-x l = Stands l.at l.n l.bearings l.m l.p l.left (length l.words) (length l.initial.words) × Rest l.s l.at l.n l.initial.words l.published l.bearings l.words l.m l.p l.marks l.left × Ahead l.s l.p 47 l.bits

abbrev pub decreases-loop-x : goal.decreases-loop-x
decreases-loop-x l = l.left
