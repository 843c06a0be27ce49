use Prim.Native.Nat.{◌-◌}
use native.Mathlib.Omega.{arith}
use Rattle.elements.proofs.ElementLaws.{walking_begun, walking_on, walking_done}
use Rattle.elements.proofs.read_elements.Goals as goal

pub loop-k-init : goal.loop-k-init
loop-k-init c = walking_begun _ _ _

pub overflow_add-i : goal.overflow_add-i
overflow_add-i c = omega (arith, c.requires.1, c.loop-k-test.true)

pub read_element-y-requires : goal.read_element-y-requires
read_element-y-requires c =
    let p = c.requires in
    (omega (arith, p.0, c.loop-k-test.true, c.loop-k.invariant.few), p.2, p.3)

pub loop-k-preserved : goal.loop-k-preserved
loop-k-preserved c =
    walking_on _ _ _ c.loop-k.invariant c.loop-k-test.true c.read_element-y.ensures

pub shape_of-words : goal.shape_of-words
shape_of-words c = c.loop-k.invariant.room

pub returns : goal.returns
returns c = walking_done _ _ _ c.loop-k.invariant c.loop-k-test.false
