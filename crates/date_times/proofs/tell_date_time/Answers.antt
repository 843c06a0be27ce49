-- `tell_date_time` meets its contract. Where the words have no room for all six numbers, none is written.
use Rattle.std.proofs.Common.{arith}
use Rattle.records.proofs.Telling.{told-length, told_unwritten, Room, room_next, room-behind}
use Rattle.date_times.specs.Times.{date_time_recs}
use Rattle.date_times.proofs.TimeLaws.{told_time}
use Rattle.date_times.proofs.tell_date_time.Goals as goal
use Rattle.date_times.proofs.tell_date_time.Goals.{Else-words-words_for}

pub returns-then-words-words_for : goal.returns-then-words-words_for
returns-then-words-words_for c = let a = c.args in told_unwritten (date_time_recs a.x 0) (omega (arith, c.if-words-words_for.true, c.words_for.ensures))

-- room for all six, and behind each for the others
all : (c : Else-words-words_for) → Room 6 c.args.n c.args.words.now
all c = record { few = omega (arith, c.requires); enough = omega (arith, c.words_for.ensures, c.if-words-words_for.false) }

pub returns : goal.returns
returns c =
    told_time c.store-a.ensures c.store-b.ensures c.store-d.ensures c.store-e.ensures c.store-f.ensures c.store.ensures
    (rw c.width.ensures.0 at c.wrapping_add_usize-month_at.ensures.value) (rw c.width-2.ensures.0 at c.wrapping_add_usize-day_at.ensures.value) (rw c.width-3.ensures.0 at c.wrapping_add_usize-hours_at.ensures.value) (rw c.width-4.ensures.0 at c.wrapping_add_usize-minutes_at.ensures.value) (rw c.width-5.ensures.0 at c.wrapping_add_usize-seconds_at.ensures.value)

pub shape_of-words : goal.shape_of-words
shape_of-words c = told-length (returns c)

pub store-a-requires : goal.store-a-requires
store-a-requires c = room_next _ (all (goal.at.store-a-requires c).Else-words-words_for)

pub store-b-requires : goal.store-b-requires
store-b-requires c = room_next _ (room-behind (all (goal.at.store-b-requires c).Else-words-words_for) c.store-a.ensures)

pub store-d-requires : goal.store-d-requires
store-d-requires c = room_next _ (room-behind (room-behind (all (goal.at.store-d-requires c).Else-words-words_for) c.store-a.ensures) c.store-b.ensures)

pub store-e-requires : goal.store-e-requires
store-e-requires c = room_next _ (room-behind (room-behind (room-behind (all (goal.at.store-e-requires c).Else-words-words_for) c.store-a.ensures) c.store-b.ensures) c.store-d.ensures)

pub store-f-requires : goal.store-f-requires
store-f-requires c = room_next _ (room-behind (room-behind (room-behind (room-behind (all (goal.at.store-f-requires c).Else-words-words_for) c.store-a.ensures) c.store-b.ensures) c.store-d.ensures) c.store-e.ensures)

pub store-requires : goal.store-requires
store-requires c = room_next _ (room-behind (room-behind (room-behind (room-behind (room-behind (all (goal.at.store-requires c).Else-words-words_for) c.store-a.ensures) c.store-b.ensures) c.store-d.ensures) c.store-e.ensures) c.store-f.ensures)
