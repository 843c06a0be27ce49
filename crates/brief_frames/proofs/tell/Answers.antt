use native.Mathlib.Omega.{arith}
use Rattle.records.proofs.Telling.{Room, room_next, room-behind, told-then}
use Rattle.brief_frames.proofs.tell.Goals.{Start}
use Rattle.brief_frames.proofs.tell.Goals as goal

room : (c : Start) → Room 3 0 c.args.words.now
room c = record { few = omega arith; enough = c.requires }

pub store-m-requires : goal.store-m-requires
store-m-requires c = room_next 0 (room (goal.at.store-m-requires c).Start)

pub store-n-requires : goal.store-n-requires
store-n-requires c = room_next _ (room-behind (room (goal.at.store-n-requires c).Start) c.store-m.ensures)

pub store-requires : goal.store-requires
store-requires c = room_next _ (room-behind (room-behind (room (goal.at.store-requires c).Start) c.store-m.ensures) c.store-n.ensures)

pub returns : goal.returns
returns c = told-then c.store-m.ensures (told-then c.store-n.ensures c.store.ensures)
