use native.Mathlib.Omega.{arith}
use Rattle.records.proofs.Telling.{told_none, told-then, told-within, told-length}
use Rattle.named_places.specs.Names.{Held}
use Rattle.legs.specs.Legs.{HeldLeg, leg_recs}
use Rattle.tell_legs.proofs.tell_leg.Goals as goal

pub shape_of-words-in-Place : goal.shape_of-words-in-Place
shape_of-words-in-Place c = told-length (told-then c.emit-m.ensures c.tell_published.ensures)

pub shape_of-words-in-Coordinates : goal.shape_of-words-in-Coordinates
shape_of-words-in-Coordinates c = told-length (told-then c.emit-m-in-Coordinates.ensures c.tell_pair.ensures)

pub shape_of-words-in-Between : goal.shape_of-words-in-Between
shape_of-words-in-Between c = told-length (told-then c.emit-m-in-Between.ensures (told-then c.tell_bearing-k.ensures c.tell_bearing.ensures))

pub shape_of-words-in-Designator : goal.shape_of-words-in-Designator
shape_of-words-in-Designator c = told-length (told-then c.emit-m-in-Designator.ensures c.tell_text.ensures)

pub tell_published-requires : goal.tell_published-requires
unfolding HeldLeg
tell_published-requires c = (omega (arith, c.requires.0, c.emit-m.ensures.few), rw c.in-Place.is at c.requires.1)

pub tell_bearing-k-requires : goal.tell_bearing-k-requires
unfolding HeldLeg
tell_bearing-k-requires c = (omega (arith, c.requires.0, c.emit-m-in-Between.ensures.few), (rw c.in-Between.is at c.requires.1).0)

pub tell_bearing-requires : goal.tell_bearing-requires
unfolding HeldLeg
tell_bearing-requires c = (omega (arith, c.requires.0, c.emit-m-in-Between.ensures.few, c.tell_bearing-k.ensures.few), (rw c.in-Between.is at c.requires.1).1)

pub tell_text-requires : goal.tell_text-requires
unfolding HeldLeg
tell_text-requires c = let h : Held _ _ = rw c.in-Designator.is at c.requires.1 in (omega (arith, c.requires.0, c.emit-m-in-Designator.ensures.few), h.few, h.there)

pub returns-in-Place : goal.returns-in-Place
unfolding leg_recs
returns-in-Place c = rw c.in-Place.is (told-within 157 (omega arith) (told-then c.emit-m.ensures c.tell_published.ensures))

pub returns-in-Coordinates : goal.returns-in-Coordinates
unfolding leg_recs
returns-in-Coordinates c = rw c.in-Coordinates.is (told-within 157 (omega arith) (told-then c.emit-m-in-Coordinates.ensures c.tell_pair.ensures))

pub returns-in-Between : goal.returns-in-Between
unfolding leg_recs
returns-in-Between c = rw c.in-Between.is (told-then c.emit-m-in-Between.ensures (told-then c.tell_bearing-k.ensures c.tell_bearing.ensures))

pub returns-in-Designator : goal.returns-in-Designator
unfolding leg_recs
returns-in-Designator c = rw c.in-Designator.is (told-within 157 (omega arith) (told-then c.emit-m-in-Designator.ensures c.tell_text.ensures))

pub returns-in-Unread : goal.returns-in-Unread
unfolding leg_recs
returns-in-Unread c = rw c.in-Unread.is (told-within 157 (omega arith) told_none)
