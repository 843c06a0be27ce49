use native.Mathlib.Omega.{arith}
use Rattle.records.proofs.Telling.{told-then, told-length}
use Rattle.legs.specs.Legs.{bearing_recs}
use Rattle.tell_legs.proofs.tell_bearing.Goals as goal

pub tell_quantity-requires : goal.tell_quantity-requires
tell_quantity-requires c = omega (arith, c.requires.0, c.tell_published-m.ensures.few)

pub shape_of-words : goal.shape_of-words
shape_of-words c = told-length (told-then c.tell_published-m.ensures c.tell_quantity.ensures)

pub returns : goal.returns
unfolding bearing_recs
returns c = told-then c.tell_published-m.ensures c.tell_quantity.ensures
