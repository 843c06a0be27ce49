use Prim.Native.Nat.{◌-◌}
use native.Mathlib.Omega.{arith}
use Rattle.tell.proofs.CharacterLaws.{upto_none, upto_more, upto_all, upto_length}
use Rattle.tell.proofs.characters.tell_run.Goals as goal

pub loop-i-init : goal.loop-i-init
loop-i-init c = (omega arith, upto_none)

pub told-v-requires : goal.told-v-requires
told-v-requires c = (c.loop-i-test.true, c.requires.2)

pub emit-m-requires : goal.emit-m-requires
emit-m-requires c = omega (arith, c.loop-i.invariant.1.count, c.requires)

pub overflow_step-i : goal.overflow_step-i
overflow_step-i c = omega (arith, c.requires.1)

pub loop-i-preserved : goal.loop-i-preserved
loop-i-preserved c =
    let l = c.loop-i in
    (omega (arith, l.invariant.0), upto_more c.loop-i-test.true l.invariant.1 c.told-v.ensures c.emit-m.ensures)

pub shape_of-words : goal.shape_of-words
shape_of-words c = upto_length c.loop-i.invariant.1

pub returns : goal.returns
returns c = upto_all c.loop-i-test.false c.loop-i.invariant.1

pub loop-i-smaller : goal.loop-i-smaller
loop-i-smaller c = omega arith

pub returns-2 : goal.returns-2
returns-2 c =
    upto_all (omega arith) (upto_more c.loop-i-test.true c.loop-i.invariant.1 c.told-v.ensures c.emit-m.ensures)
