use mathlib.Core.Path.{◌≡◌}
use Prim.Native.Nat.{◌+◌}
use native.Mathlib.Omega.{arith}
use Rattle.atn.specs.Reading.{or}
use Rattle.records.proofs.Telling.{Room, told-then, told-length, room_next, room-behind}
use Rattle.ample_readings.proofs.AmpleLaws.{ample_untold, room_of, room_fewer}
use Rattle.leg_lists.proofs.AmpleLegs.{space_both, part_untold_behind, part_ample}
use Rattle.leg_lists.proofs.ListLaws.{legs-none, legs-more}
use Rattle.leg_lists.proofs.begin_legs.Goals.{Else-last_word-words_for}
use Rattle.leg_lists.proofs.begin_legs.Goals as goal

pub returns-then-not-is_ample : goal.returns-then-not-is_ample
returns-then-not-is_ample c = (omega arith, legs-none)

pub overflow_sub-last_bit : goal.overflow_sub-last_bit
overflow_sub-last_bit c = let h = c.is_ample.ensures c.if-not-is_ample.false in omega (arith, h.1)

pub overflow_mul-last_bit : goal.overflow_mul-last_bit
overflow_mul-last_bit c = let h = c.is_ample.ensures c.if-not-is_ample.false in omega (arith, h.2)

pub overflow_sub-last_word : goal.overflow_sub-last_word
overflow_sub-last_word c = let h = c.is_ample.ensures c.if-not-is_ample.false in omega (arith, h.4, c.words_for.ensures)

pub loop-i-init : goal.loop-i-init
loop-i-init c = (omega arith, legs-none)

pub words_for-requires-else-last_bit-p : goal.words_for-requires-else-last_bit-p
words_for-requires-else-last_bit-p c =
    let l = c.loop-i in
    let h = c.is_ample.ensures c.if-not-is_ample.false in
    omega (arith, l.invariant.0, l.invariant.1.told.few, h.3, c.requires)

pub shape_of-words-then-last_bit-p : goal.shape_of-words-then-last_bit-p
shape_of-words-then-last_bit-p c = told-length c.loop-i.invariant.1.told

pub returns-then-last_bit-p : goal.returns-then-last_bit-p
returns-then-last_bit-p c = c.loop-i.invariant

-- the words have room for all records of the next leg
room_of_next : (c : Else-last_word-words_for) → Room 32 c.loop-i.m c.loop-i.words
room_of_next c =
    let l = c.loop-i in
    let h = c.is_ample.ensures c.if-not-is_ample.false in
    room_of 32 l.m l.words (omega (arith, l.invariant.0, l.invariant.1.told.few, h.3, c.requires)) (omega arith)
    (omega (arith, space_both l.m 32, c.words_for.ensures, c.words_for-else-last_bit-p.ensures, c.if-last_word-words_for.false, l.invariant.1.told.room))

pub store-k-requires : goal.store-k-requires
store-k-requires c = room_next _ (room_of_next (goal.at.store-k-requires c).Else-last_word-words_for)

pub read_route_information-r-requires : goal.read_route_information-r-requires
read_route_information-r-requires c =
    let l = c.loop-i in
    let h = c.is_ample.ensures c.if-not-is_ample.false in
    let t = c.store-k.ensures in
    let e = c.if-last_bit-p.false in
    (omega (arith, t.few, l.invariant.0, l.invariant.1.told.few, h.3, c.requires), room_fewer 31 (room-behind (room_of_next (goal.at.read_route_information-r-requires c).Else-last_word-words_for) t) (omega arith), omega (arith, e, h.1, h.2), omega (arith, e, h.1))

pub shape_of-words-then-q-eq0 : goal.shape_of-words-then-q-eq0
shape_of-words-then-q-eq0 c = told-length (told-then c.loop-i.invariant.1.told (told-then c.store-k.ensures (ample_untold c.read_route_information-r.ensures)))

pub returns-then-q-eq0 : goal.returns-then-q-eq0
returns-then-q-eq0 c = (c.loop-i.invariant.0, part_untold_behind c.loop-i.invariant.1 (told-then c.store-k.ensures (ample_untold c.read_route_information-r.ensures)))

pub loop-i-preserved : goal.loop-i-preserved
unfolding or
loop-i-preserved c =
    let l = c.loop-i in
    let h = c.is_ample.ensures c.if-not-is_ample.false in
    (omega (arith, c.loop-i-test.true), legs-more l.i l.invariant.1 (part_ample (l.i + 1) h.0 c.if-end-q.false c.store-k.ensures (c.read_route_information-r.ensures.done c.if-q-eq0.false)))

pub shape_of-words : goal.shape_of-words
shape_of-words c = told-length c.loop-i.invariant.1.told

pub returns : goal.returns
returns c = let e : c.loop-i.i ≡ c.args.legs = omega arith in (omega arith, rw e at c.loop-i.invariant.1)

pub overflow_add-i : goal.overflow_add-i
overflow_add-i c = omega arith
