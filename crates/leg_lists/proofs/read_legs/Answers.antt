use native.Mathlib.Omega.{arith}
use Rattle.records.proofs.Telling.{told-length}
use Rattle.leg_lists.proofs.ListLaws.{legs-more, legs-all}
use Rattle.leg_lists.proofs.read_legs.Goals as goal

pub begin_legs-b-requires : goal.begin_legs-b-requires
begin_legs-b-requires c = omega (arith, c.size-count.ensures.few)

pub loop-i-init : goal.loop-i-init
loop-i-init c = (c.begin_legs-b.ensures.0, λ f k w x. x)

pub put_value-t-requires : goal.put_value-t-requires
put_value-t-requires c =
    let x = c.loop-i.invariant.1 _ _ _ c.begin_legs-b.ensures.1 in
    omega (arith, c.requires, c.loop-i.invariant.0, x.told.few, c.size-count.ensures.few)

pub loop-i-preserved : goal.loop-i-preserved
loop-i-preserved c =
    let l = c.loop-i in
    (omega (arith, c.loop-i-test.true), λ f k w x. legs-more l.i (l.invariant.1 f k w x) c.put_value-t.ensures)

pub shape_of-words : goal.shape_of-words
shape_of-words c = told-length (c.loop-i.invariant.1 _ _ _ c.begin_legs-b.ensures.1).told

pub returns : goal.returns
returns c = legs-all c.size-count.ensures (omega (arith, c.loop-i.invariant.0, c.loop-i-test.false)) (c.loop-i.invariant.1 _ _ _ c.begin_legs-b.ensures.1)

pub overflow_add-i : goal.overflow_add-i
overflow_add-i c = omega arith
