-- `tell_entry` meets its contract. Where the words have no room for all three records, none is written.
use native.Mathlib.Omega.{arith}
use mathlib.Core.List.{[], ◌∷◌}
use Rattle.atn.specs.Reading.{rec}
use Rattle.atn.specs.Tags.{ae_qualifier, ap_version}
use Rattle.records.proofs.Telling.{told-length, told-then, told_unwritten, Room, room_next, room-behind}
use Rattle.cm_applications.proofs.tell_entry.Goals as goal
use Rattle.cm_applications.proofs.tell_entry.Goals.{Else-words-words_for}

pub returns-then-words-words_for : goal.returns-then-words-words_for
returns-then-words-words_for c =
    let a = c.args in
    told_unwritten (rec a.tag 0 a.place 0 a.at ∷ rec ae_qualifier 0 a.qualifier 0 a.at ∷ rec ap_version 0 a.version 0 a.next ∷ []) (omega (arith, c.if-words-words_for.true, c.words_for.ensures))

-- room for all three, and behind each for the others
all : (c : Else-words-words_for) → Room 3 c.args.n c.args.words.now
all c = record { few = omega (arith, c.requires); enough = omega (arith, c.words_for.ensures, c.if-words-words_for.false) }

pub returns : goal.returns
returns c = told-then c.store-a.ensures (told-then c.store-b.ensures c.store.ensures)

pub shape_of-words : goal.shape_of-words
shape_of-words c = told-length (returns c)

pub store-a-requires : goal.store-a-requires
store-a-requires c = room_next _ (all (goal.at.store-a-requires c).Else-words-words_for)

pub store-b-requires : goal.store-b-requires
store-b-requires c = room_next _ (room-behind (all (goal.at.store-b-requires c).Else-words-words_for) c.store-a.ensures)

pub store-requires : goal.store-requires
store-requires c = room_next _ (room-behind (room-behind (all (goal.at.store-requires c).Else-words-words_for) c.store-a.ensures) c.store-b.ensures)
