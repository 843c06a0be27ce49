-- `read_timed` meets its contract, with and without an acknowledgment.
use native.Mathlib.Omega.{arith}
use Rattle.x691.specs.Types.{extent}
use Rattle.x691.specs.Encoding.{width, width_in}
use Rattle.atn.specs.Reading.{or}
use Rattle.records.proofs.Telling.{room_next}
use Rattle.ample_readings.proofs.AmpleLaws.{room_of, room_fewer, number-room, fixed_room}
use Rattle.ample_headers.proofs.HeaderLaws.{timed_bare, timed-told, timed-set}
use Rattle.ample_headers.proofs.read_timed.Goals as goal

pub read_three-x-requires : goal.read_three-x-requires
unfolding extent width width_in
read_three-x-requires c =
    let room = room_of 7 c.args.n c.args.words.now (omega (arith, c.requires.0)) (omega arith) c.requires.1 in
    (omega (arith, c.requires.0), room_fewer 3 room (omega arith), omega (arith, c.requires.2), omega arith, omega arith, omega arith, omega arith, omega arith)

pub overflow_sub-x : goal.overflow_sub-x
unfolding extent width width_in
overflow_sub-x c = omega (arith, c.read_three-x.ensures.to)

pub behind-a-requires : goal.behind-a-requires
unfolding extent width width_in
behind-a-requires c = omega (arith, c.read_three-x.ensures.to)

pub returns-then-has-eq0 : goal.returns-then-has-eq0
unfolding extent width width_in or
returns-then-has-eq0 c = λ s h.
    rw c.if-has-eq0.true (timed_bare c.read_three-x.ensures c.read_three-y.ensures (omega arith) h (omega (arith, c.read_three-x.ensures.to)) c.behind-a.ensures c.store-m.ensures)

pub overflow_sub-y : goal.overflow_sub-y
unfolding extent width width_in
overflow_sub-y c = omega (arith, c.read_three-y.ensures.to)

pub behind-b-requires : goal.behind-b-requires
unfolding extent width width_in
behind-b-requires c = omega (arith, c.read_three-y.ensures.to)

pub returns : goal.returns
unfolding extent width width_in or
returns c = λ s h.
    rw (timed-set c.args.has c.if-has-eq0.false)
    (timed-told c.read_three-x.ensures c.read_three-y.ensures (omega arith) h (omega (arith, c.read_three-x.ensures.to)) c.behind-a.ensures (omega (arith, c.read_three-y.ensures.to)) c.behind-b.ensures c.read_ranged-z.ensures)

pub read_three-y-requires : goal.read_three-y-requires
unfolding extent width width_in
read_three-y-requires c =
    let room = fixed_room c.read_three-x.ensures 4 c.read_three-x.auto.words (room_of 7 c.args.n c.args.words.now (omega (arith, c.requires.0)) (omega arith) c.requires.1) (omega arith) in
    (omega (arith, c.requires.0, c.read_three-x.ensures.count), room_fewer 3 room (omega arith), omega (arith, c.requires.2, c.read_three-x.ensures.to), omega arith, omega arith, omega arith, omega arith, omega arith)

pub store-m-requires : goal.store-m-requires
store-m-requires c =
    let room = fixed_room c.read_three-x.ensures 4 c.read_three-x.auto.words (room_of 7 c.args.n c.args.words.now (omega (arith, c.requires.0)) (omega arith) c.requires.1) (omega arith) in
    room_next _ (fixed_room c.read_three-y.ensures 1 c.read_three-y.auto.words room (omega arith))

pub read_ranged-z-requires : goal.read_ranged-z-requires
unfolding extent width width_in
read_ranged-z-requires c =
    let room = fixed_room c.read_three-x.ensures 4 c.read_three-x.auto.words (room_of 7 c.args.n c.args.words.now (omega (arith, c.requires.0)) (omega arith) c.requires.1) (omega arith) in
    number-room _ _ (fixed_room c.read_three-y.ensures 1 c.read_three-y.auto.words room (omega arith)) (omega (arith, c.requires.2, c.read_three-x.ensures.to, c.read_three-y.ensures.to)) (omega arith)
