use native.Mathlib.Omega.{arith}
use Rattle.records.proofs.Telling.{told_none, told-then, told-within, told-length}
use Rattle.named_places.specs.Names.{Held}
use Rattle.tell_positions.proofs.tell_position.Goals as goal

pub shape_of-words-in-Fix : goal.shape_of-words-in-Fix
shape_of-words-in-Fix c = told-length (told-then c.emit-m.ensures c.tell_named.ensures)

pub shape_of-words-in-Navaid : goal.shape_of-words-in-Navaid
shape_of-words-in-Navaid c = told-length (told-then c.emit-m-in-Navaid.ensures c.tell_named-in-Navaid.ensures)

pub shape_of-words-in-Airport : goal.shape_of-words-in-Airport
shape_of-words-in-Airport c = told-length (told-then c.emit-m-in-Airport.ensures c.tell_text.ensures)

pub shape_of-words-in-Coordinates : goal.shape_of-words-in-Coordinates
shape_of-words-in-Coordinates c = told-length (told-then c.emit-m-in-Coordinates.ensures c.tell_pair.ensures)

pub tell_named-requires : goal.tell_named-requires
tell_named-requires c = (omega (arith, c.emit-m.ensures.few), rw c.in-Fix.is at c.requires.1)

pub tell_named-requires-in-Navaid : goal.tell_named-requires-in-Navaid
tell_named-requires-in-Navaid c = (omega (arith, c.emit-m-in-Navaid.ensures.few), rw c.in-Navaid.is at c.requires.1)

pub tell_text-requires : goal.tell_text-requires
tell_text-requires c = let h : Held _ _ = rw c.in-Airport.is at c.requires.1 in (omega (arith, c.emit-m-in-Airport.ensures.few), h.few, h.there)

pub returns-in-Fix : goal.returns-in-Fix
returns-in-Fix c = rw c.in-Fix.is (told-then c.emit-m.ensures c.tell_named.ensures)

pub returns-in-Navaid : goal.returns-in-Navaid
returns-in-Navaid c = rw c.in-Navaid.is (told-then c.emit-m-in-Navaid.ensures c.tell_named-in-Navaid.ensures)

pub returns-in-Airport : goal.returns-in-Airport
returns-in-Airport c = rw c.in-Airport.is (told-within 76 (omega arith) (told-then c.emit-m-in-Airport.ensures c.tell_text.ensures))

pub returns-in-Coordinates : goal.returns-in-Coordinates
returns-in-Coordinates c = rw c.in-Coordinates.is (told-within 76 (omega arith) (told-then c.emit-m-in-Coordinates.ensures c.tell_pair.ensures))

pub returns-in-Unread : goal.returns-in-Unread
returns-in-Unread c = rw c.in-Unread.is (told-within 76 (omega arith) told_none)
